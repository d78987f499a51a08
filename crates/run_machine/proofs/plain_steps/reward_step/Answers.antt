use Rattle.std.proofs.Common.{ap, ◌∙◌}
use Rattle.heyvl_num.specs.ExtendedNumbers.{value_of}
use Rattle.heylo_formula.specs.PlainTrees.{form_of}
use Rattle.heylo_formula.specs.State.{environment}
use Rattle.heylo_formula.specs.Choices.{Choices}
use Rattle.heylo_formula.specs.Meaning.{value}
use Rattle.quant_algebra.specs.ExactMeaning.{exact_value}
use Rattle.run_machine.specs.Names.{stored}
use Rattle.run_machine.specs.StoredMoves.{collected}
use Rattle.run_machine.proofs.Moves.{if_ok, all_fits, reward_fits, reward_is}
use Rattle.run_machine.proofs.plain_steps.reward_step.Goals as goal

pub returns-in_ok-next-in-Some : goal.returns-in_ok-next-in-Some
returns-in_ok-next-in-Some c =
    let a = c.in-Value.ensures.exact ∙ ap (λ s. exact_value (form_of c.args.form.now) s) c.deref.ensures.value in
    let m = c.in-Value.ensures.meaning ∙ ap (λ s. value (form_of c.args.form.now) (environment s) Choices.stop) c.deref.ensures.value in
    if_ok c.for_sure.result _ _ (λ x h. h ∙ all_fits _ _ _ (reward_fits _ (value_of c.args.config.now.reward) (value_of c.in-Value.value) (value_of c.in-Some.reward) a c.in-Some.ensures) (reward_is (stored c.args.config.now) (stored c.in_ok-next-in-Some.next) (value_of c.in-Value.value) (value_of c.in-Some.reward) c.in-Some.ensures c.in_ok-next-in-Some.ensures ∙ ap (λ v. collected (stored c.args.config.now) v) m)) c.for_sure.ensures
