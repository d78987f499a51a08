use Rattle.std.proofs.Common.{subst}
use Rattle.std.proofs.lemmas.Result.{IfOk-weaker}
use Rattle.lower_goals.specs.LentOmegaPairs.{IsPairOf}
use Rattle.lower_goals.proofs.OmegaGoals.{pair_goal}
use Rattle.lower_goals.proofs.omega_goals.omega_goal.Goals as goal

pub unreachable-requires : goal.unreachable-requires
unreachable-requires c = (subst (λ o. IsPairOf c.args.typed.now c.args.p c.args.q o) c.in-None.is c.in_ok-pair.ensures) c.requires.pair

pub step_goal-requires : goal.step_goal-requires
step_goal-requires c = (subst (λ o. IsPairOf c.args.typed.now c.args.p c.args.q o) c.in-Some.is c.in_ok-pair.ensures).ready

pub returns : goal.returns
returns c = λ l. IfOk-weaker c.step_goal.result _ _ (λ m h. pair_goal c.args.typed.now c.args.p c.args.q c.in-Some.pair (subst (λ o. IsPairOf c.args.typed.now c.args.p c.args.q o) c.in-Some.is c.in_ok-pair.ensures) c.args.step m h l) c.step_goal.ensures
