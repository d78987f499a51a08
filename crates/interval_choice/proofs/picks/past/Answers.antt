use Rattle.std.proofs.Common.{◌≡◌, subst, sym, ap, ◌∙◌, true}
use Rattle.heyvl_num.specs.Rational.{◌+ʳ◌}
use Rattle.linear_rows.specs.Numbers.{fits}
use Rattle.interval_choice.proofs.Pasts.{one_fits, minus_one_fits, past_low_is, past_high_is}
use Rattle.interval_choice.proofs.picks.past.Goals as goal

pub sum-requires-clause-right : goal.sum-requires-clause-right
sum-requires-clause-right c = subst (λ x. fits x ≡ true) (sym c.whole_of.ensures) one_fits

pub sum-requires-in-High-clause-right : goal.sum-requires-in-High-clause-right
sum-requires-in-High-clause-right c = subst (λ x. fits x ≡ true) (sym c.whole_of-in-High.ensures) minus_one_fits

pub returns-in-Low : goal.returns-in-Low
returns-in-Low c = c.sum.ensures ∙ ap (λ x. c.args.place.now +ʳ x) c.whole_of.ensures ∙ past_low_is c.args.side c.args.place.now c.in-Low.is

pub returns-in-High : goal.returns-in-High
returns-in-High c = c.sum-in-High.ensures ∙ ap (λ x. c.args.place.now +ʳ x) c.whole_of-in-High.ensures ∙ past_high_is c.args.side c.args.place.now c.in-High.is
