use Rattle.std.proofs.Common.{subst}
use Rattle.std.proofs.lemmas.Result.{IfOk-weaker}
use Rattle.form_folding.specs.internal.FoldedNodes.{IsFolded}
use Rattle.form_folding.proofs.FoldedForms.{joined_has, number_for, number_fits}
use Rattle.form_folding.proofs.folding.node_of.Goals as goal

pub join-requires : goal.join-requires
join-requires c = number_fits c.args.graph.now c.in-Number.x

pub returns-in-Number-clause-folded : goal.returns-in-Number-clause-folded
returns-in-Number-clause-folded c f h = IfOk-weaker c.join.result _ _ (λ id k. joined_has c.args.graph.now c.join.new.self _ id f (number_for c.args.graph.now c.in-Number.x f (subst (λ r. IsFolded c.args.graph.now r f) c.in-Number.is h)) k) c.join.ensures.tree
