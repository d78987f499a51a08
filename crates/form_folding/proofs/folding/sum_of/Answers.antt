use Rattle.std.proofs.Common.{rules, subst}
use Rattle.form_folding.specs.internal.FoldedNodes.{IsFolded}
use Rattle.form_folding.proofs.FoldedForms.{sum_folded}
use Rattle.form_folding.proofs.folding.sum_of.Goals as goal

pub returns-in-Number-Number : goal.returns-in-Number-Number
returns-in-Number-Number c ns f g h k = sum_folded c.in-Number-Number.x c.in-Number-Number.y c.sum.result f g (search rules) (search rules) c.sum.ensures (subst (λ r. IsFolded ns r f) c.in-Number-Number.is-0 h) (subst (λ r. IsFolded ns r g) c.in-Number-Number.is-1 k)
