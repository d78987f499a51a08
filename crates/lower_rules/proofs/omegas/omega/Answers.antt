use Rattle.std.proofs.Common.{subst}
use Rattle.lower_goals.specs.LentOmegaPairs.{IsPairOf}
use Rattle.std.proofs.lemmas.Result.{IfOk-weaker}
use Rattle.lower_rules.proofs.ToldAnswers.{bound, is_answer, shown}
use Rattle.lower_rules.proofs.omegas.omega.Goals as goal

pub returns-in-Some-clause-answer : goal.returns-in-Some-clause-answer
returns-in-Some-clause-answer c = IfOk-weaker c.answer_on.result _ _ (λ answer told. is_answer c.args.typed.now c.args.p c.args.q c.in-Some.pair (subst (λ o. IsPairOf c.args.typed.now c.args.p c.args.q o) c.in-Some.is c.in_ok-pair.ensures) answer told) c.answer_on.ensures

pub returns-in-Some-clause-bound : goal.returns-in-Some-clause-bound
returns-in-Some-clause-bound c = IfOk-weaker c.answer_on.result _ _ (λ answer told. bound c.args.typed.now c.args.p c.args.q c.in-Some.pair (subst (λ o. IsPairOf c.args.typed.now c.args.p c.args.q o) c.in-Some.is c.in_ok-pair.ensures) c.requires.rules c.requires.first c.requires.second c.generated_form_means_acts.ensures.value c.generated_form_means_acts.ensures.over c.prenexed_form_means_choices.ensures.plain c.prenexed_goals_speak_of_choices.ensures.holds c.omega_bounds_runs.ensures answer told) c.answer_on.ensures

pub returns-in-Some-clause-shown : goal.returns-in-Some-clause-shown
returns-in-Some-clause-shown c = IfOk-weaker c.answer_on.result _ _ (λ answer told. shown c.args.typed.now c.args.p c.args.q c.in-Some.pair (subst (λ o. IsPairOf c.args.typed.now c.args.p c.args.q o) c.in-Some.is c.in_ok-pair.ensures) c.requires.rules c.requires.first c.requires.second c.generated_form_means_acts.ensures.over c.prenexed_goals_speak_of_choices.ensures.failing answer told) c.answer_on.ensures
