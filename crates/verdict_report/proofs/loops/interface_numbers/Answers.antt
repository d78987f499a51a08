use Rattle.std.proofs.Common.{ap, sym, ◌∙◌, ◌≡◌}
use Rattle.std.proofs.lemmas.Result.{IfOk-weaker}
use Rattle.heyvl_acts.specs.PlainActs.{procedure_of}
use Rattle.heyvl_acts.specs.Rules.{counted}
use Rattle.std.specs.Prelude.{◌+◌}
use Rattle.verdict_report.specs.LoopScopes.{interface_numbers}
use Rattle.verdict_report.proofs.Heads.{head_length}
use Rattle.verdict_report.proofs.loops.interface_numbers.Goals as goal

pub returns : goal.returns
returns c = IfOk-weaker _ (λ all. all.items ≡ counted 0 (c.args.procedure.now.inputs + c.args.procedure.now.outputs)) (λ all. all.items ≡ interface_numbers (procedure_of c.args.procedure.now)) (λ all h. h ∙ ap (counted 0) (sym (head_length c.args.procedure.now c.requires.counted))) c.first_numbers.ensures
