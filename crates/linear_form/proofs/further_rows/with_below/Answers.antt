use Rattle.std.proofs.Common.{sym, subst, rules}
use Rattle.linear_values.specs.Lin.{Lin, AreNormal}
use Rattle.linear_values.specs.Kept.{IsKept}
use Rattle.linear_values.specs.PlainValues.{lin_of}
use Rattle.linear_values.proofs.exported.KeptTerms.{minus_normal}
use Rattle.linear_form.proofs.further_rows.with_below.Goals as goal

pub with_claim-requires-in-Some-y : goal.with_claim-requires-in-Some-y
with_claim-requires-in-Some-y c = let h : IsKept (lin_of c.in-Some.a) = search rules in subst (λ (a : Lin). AreNormal a.terms) (sym c.in_ok-difference-in-Some-y.ensures) (minus_normal _ _ h.normal)
