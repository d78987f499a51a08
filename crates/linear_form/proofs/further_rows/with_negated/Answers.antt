use Rattle.std.proofs.Common.{◌≡◌, sym, ap, ◌∙◌, subst, rules, false}
use Rattle.linear_values.specs.Lin.{Lin, AreNormal, scaled}
use Rattle.linear_rows.specs.Numbers.{fits, minus_oneʳ}
use Rattle.linear_values.specs.PlainValues.{lin_of}
use Rattle.heylo_formula.specs.Typing.{types_in}
use Rattle.linear_rows.proofs.exported.Narrow.{minus_one_fits}
use Rattle.linear_values.proofs.exported.KeptTerms.{scaled_normal}
use Rattle.linear_form.proofs.RowsOfClaims.{negated_large}
use Rattle.linear_form.proofs.further_rows.with_negated.Goals as goal

pub returns-then-not-is_sized : goal.returns-then-not-is_sized
returns-then-not-is_sized c = let e : c.is_sized.result ≡ false = search rules in negated_large (types_in c.args.types.now) c.args.rows.items (lin_of c.args.left.now) c.args.strict (sym c.is_sized.ensures ∙ e)

pub scaled-requires-clause-factor : goal.scaled-requires-clause-factor
scaled-requires-clause-factor c = ap fits c.minus_one.ensures ∙ minus_one_fits

pub with_claim-requires : goal.with_claim-requires
with_claim-requires c = subst (λ (a : Lin). AreNormal a.terms) (sym (c.in_ok-down.ensures ∙ ap (λ w. scaled w (lin_of c.args.left.now)) c.minus_one.ensures)) (scaled_normal minus_oneʳ (lin_of c.args.left.now) c.requires)
