use Rattle.std.proofs.Common.{◌∙◌, ap₂}
use Rattle.lower_rules.proofs.ToldAnswers.{told_by_goals}
use Rattle.lower_rules.specs.internal.PairAnswers.{both}
use Rattle.lower_goals.specs.declared.answers.Omega.{Omega}
use Rattle.lower_rules.proofs.omegas.answer_on.Goals as goal

pub returns : goal.returns
returns c = record {
  one = c.in_ok-one.one;
  base = c.in_ok-base.base;
  turn = c.in_ok-turn.turn;
  one_is = c.in_ok-one.ensures;
  base_is = c.in_ok-base.ensures;
  turn_is = c.in_ok-turn.ensures;
  is_told = c.both.ensures ∙ (ap₂ (λ (a b : Omega). both a b) c.answer_of-3.ensures (c.both-behind.ensures ∙ ap₂ (λ (a b : Omega). both a b) c.answer_of.ensures c.answer_of-2.ensures) ∙ told_by_goals c.in_ok-one.one c.in_ok-base.base c.in_ok-turn.turn);
}
