use Rattle.std.proofs.Common.{◌≡◌, ◌↔◌, sym, ◌∙◌, subst, true}
use Rattle.std.specs.Prelude.{IfSome}
use Rattle.heylo_formula.specs.Goals.{goal_of, HoldsIn}
use Rattle.heylo_formula.specs.State.{environment}
use Rattle.quant_algebra.proofs.Exactness.{goal_is}
use Rattle.quant_algebra.proofs.evaluation.goal_at.Goals as goal

pub returns-clause-meaning : goal.returns-clause-meaning
returns-clause-meaning c = subst (λ o. IfSome o (λ x. (x ≡ true) ↔ HoldsIn (goal_of c.args.goal.now) (environment c.args.state.now))) (sym (c.held.ensures ∙ c.inequality.ensures)) (goal_is (goal_of c.args.goal.now) c.args.state.now)
