use Rattle.heyvl_acts.specs.PlainActs.{procedure_of}
use Rattle.heyvl_acts.specs.Rules.{Each, IsCounted, MeetsAllRules}
use Rattle.heyvl_acts.specs.declared.typed_trees.Typed.{Typed}
use Rattle.heyvl_syntax.specs.Procedures.{Procedure}
use Rattle.resolved_laws.proofs.resolution_laws.resolved_trees_meet_the_rules.Goals as goal
use Rattle.static_rules.specs.ArmedFiles.{HasArms}
use Rattle.static_rules.specs.Files.{typed}
use Rattle.resolved_laws.specs.ResolvedLaws.{IsAnswer, ResolvedFilesMeetRules}
use Rattle.std.proofs.Common.{Err, List, Ok, ap, arith, length, ◌≤◌}
use Rattle.std.proofs.lemmas.List.{length-map}
use Rattle.std.specs.Prelude.{IfOk, Result}
use Rattle.typed_expressions.specs.Signatures.{called}
use Rattle.typed_expressions.specs.declared.stops.ResolveStop.{ResolveStop}

meet : ResolvedFilesMeetRules → (ps : List Procedure) (result : Result Typed ResolveStop) → HasArms ps → IsAnswer ps result → IfOk result (λ t. Each IsCounted t.procs.items) → IfOk result (λ t. length t.procs.items ≤ 1024 → MeetsAllRules t)
meet files ps (Ok t) armed answer counted = λ few. files ps t armed answer.0 (let l = ap length answer.1 in omega (arith, few, l, length-map ps (typed (called ps)), length-map t.procs.items procedure_of)) answer.1 counted
meet files ps (Err e) armed answer counted = tt

pub returns : goal.returns
returns c = meet c.resolved_files_meet_the_rules.ensures.files
