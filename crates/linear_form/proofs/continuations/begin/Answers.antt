use Rattle.std.proofs.Common.{sym, subst, []}
use Rattle.heylo_formula.specs.Goals.{goal_of}
use Rattle.linear_form.specs.Places.{IsOn}
use Rattle.linear_form.specs.internal.Evaluations.{standing}
use Rattle.linear_form.proofs.PlaceRuns.{begins}
use Rattle.linear_form.proofs.continuations.begin.Goals as goal

pub returns : goal.returns
returns c = subst (λ e. IsOn (goal_of c.args.goal.now) [] (standing e)) (sym c.in_ok-evaluation.ensures.ok) (begins (goal_of c.args.goal.now) _ _ c.in_ok-goal_part.ensures c.new-frames.ensures.items)
