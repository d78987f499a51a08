use Rattle.heyvl_acts.specs.FormSizes.{FormsWithin}
use Rattle.heyvl_acts.specs.Rules.{Each}
use Rattle.heyvl_syntax.specs.Procedures.{Procedure}
use Rattle.heyvl_syntax.specs.Sizes.{nodes_of_procedure}
use Rattle.resolved_laws.proofs.laws.resolved_forms_are_small.Goals as goal
use Rattle.resolved_laws.proofs.Heads.{IsClean, all_clean}
use Rattle.resolved_laws.proofs.SmallForms.{forms_small}
use Rattle.static_rules.specs.Files.{typed}
use Rattle.std.proofs.Common.{List, [], ◌*◌, ◌+◌, ◌∷◌}
use Rattle.typed_expressions.specs.Signatures.{called}

each_small : (ps qs : List Procedure) → Each (IsClean (called ps)) qs → Each (λ p. FormsWithin (2 * nodes_of_procedure p + 64) (typed (called ps) p)) qs
each_small ps [] k = tt
each_small ps (q ∷ qs) k = (forms_small ps q k.0, each_small ps qs k.1)

pub returns : goal.returns
returns c = λ ps e. each_small ps ps (all_clean (called ps) [] ps e)
