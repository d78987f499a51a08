-- If the code returns a result, it is the exact one, and all integers fit. To import: `use
-- Rattle.heyvl_num.proofs.Exactness.{exact_sum_some}`, or
-- `using(heyvl_num::proofs::Exactness::exact)`.
use Rattle.std.proofs.Common.{◌≡◌, refl, ap, ◌∙◌, sym, subst, Bool, true, false}
use Rattle.std.specs.Prelude.{Option, Some, None, option_map, ℤ, if◌then◌else◌}
use Rattle.std.specs.declared.cmp.Ordering.{Ordering}
use Rattle.std.specs.declared.cmp.Ordering.TheVariants.{Less, Equal, Greater}
use Rattle.std.specs.Ordering.{MatchOrdering}
use Rattle.heyvl_num.specs.Rational.{Rational, ◌+ʳ◌, ◌-ʳ◌, ◌*ʳ◌, leqʳ, ◌<ʳ◌, compareʳ}
use Rattle.heyvl_num.specs.Value.{Value, ◌+ᵛ◌, ◌*ᵛ◌, leqᵛ, ◌<ᵛ◌, compareᵛ}
use Rattle.heyvl_num.specs.Value.Value.{finite, infinite}
use Rattle.heyvl_num.specs.Exact.{quotient, quotient_fits, exact_quotient, sum_fits, exact_sum, difference_fits, exact_difference, product_fits, exact_product, order_fits, exact_order}
use Rattle.heyvl_num.specs.ExactValues.{exact_sumᵛ, exact_productᵛ, exact_orderᵛ}
use Rattle.heyvl_num.proofs.Rationals.{≤ʳ_refl}
use Rattle.heyvl_num.proofs.Signs.{compareʳ-is, <ʳ-≤ʳ}
use Rattle.heyvl_num.proofs.Values.{≤ᵛ_refl, compareᵛ-is, <ᵛ-≤ᵛ}

given : {A : Type 0} (b : Bool) (v r : A) → Some r ≡ (if b then Some v else None) → (b ≡ true) × (r ≡ v)
given true v r e = (refl, cc)
given false v r e = absurd (cc)

refused : {A : Type 0} (b : Bool) (v : A) → None ≡ (if b then Some v else None) → b ≡ false
refused true v e = absurd (cc)
refused false v e = refl

pub exact_quotient_some : (a b : ℤ) (r : Rational) → Some r ≡ exact_quotient a b → r ≡ quotient a b
unfolding exact_quotient
exact_quotient_some a b r e = (given (quotient_fits a b) (quotient a b) r e).1

pub exact_sum_some : (x y r : Rational) → Some r ≡ exact_sum x y → r ≡ x +ʳ y
unfolding exact_sum
exact_sum_some x y r e = (given (sum_fits x y) (x +ʳ y) r e).1

pub exact_difference_some : (x y r : Rational) → Some r ≡ exact_difference x y → r ≡ x -ʳ y
unfolding exact_difference
exact_difference_some x y r e = (given (difference_fits x y) (x -ʳ y) r e).1

pub exact_product_some : (x y r : Rational) → Some r ≡ exact_product x y → r ≡ x *ʳ y
unfolding exact_product
exact_product_some x y r e = (given (product_fits x y) (x *ʳ y) r e).1

pub exact_order_some : (x y : Rational) (o : Ordering) → Some o ≡ exact_order x y → o ≡ compareʳ x y
unfolding exact_order
exact_order_some x y o e = (given (order_fits x y) (compareʳ x y) o e).1

-- ---- None, and what does not fit

pub exact_sum_none : (x y : Rational) → None ≡ exact_sum x y → sum_fits x y ≡ false
unfolding exact_sum
exact_sum_none x y e = refused (sum_fits x y) (x +ʳ y) e

pub exact_difference_none : (x y : Rational) → None ≡ exact_difference x y → difference_fits x y ≡ false
unfolding exact_difference
exact_difference_none x y e = refused (difference_fits x y) (x -ʳ y) e

pub exact_product_none : (x y : Rational) → None ≡ exact_product x y → product_fits x y ≡ false
unfolding exact_product
exact_product_none x y e = refused (product_fits x y) (x *ʳ y) e

pub exact_order_none : (x y : Rational) → None ≡ exact_order x y → order_fits x y ≡ false
unfolding exact_order
exact_order_none x y e = refused (order_fits x y) (compareʳ x y) e

-- ---- Values

mapped : (o : Option Rational) (v : Value) (w : Rational) → Some v ≡ option_map finite o → ((r : Rational) → Some r ≡ o → r ≡ w) → v ≡ finite w
mapped None v w e h = absurd (cc)
mapped (Some r) v w e h = let k : v ≡ finite r = cc in k ∙ ap finite (h r refl)

pub exact_sumᵛ_some : (x y v : Value) → Some v ≡ exact_sumᵛ x y → v ≡ x +ᵛ y
unfolding ◌+ᵛ◌
exact_sumᵛ_some (finite x) (finite y) v e = mapped (exact_sum x y) v (x +ʳ y) e (exact_sum_some x y)
exact_sumᵛ_some (finite x) infinite v e = cc
exact_sumᵛ_some infinite (finite y) v e = cc
exact_sumᵛ_some infinite infinite v e = cc

pub exact_productᵛ_some : (x y v : Value) → Some v ≡ exact_productᵛ x y → v ≡ x *ᵛ y
unfolding ◌*ᵛ◌
exact_productᵛ_some (finite x) (finite y) v e = mapped (exact_product x y) v (x *ʳ y) e (exact_product_some x y)
exact_productᵛ_some (finite x) infinite v e = cc
exact_productᵛ_some infinite (finite y) v e = cc
exact_productᵛ_some infinite infinite v e = cc

pub exact_orderᵛ_some : (x y : Value) (o : Ordering) → Some o ≡ exact_orderᵛ x y → o ≡ compareᵛ x y
exact_orderᵛ_some (finite x) (finite y) o e = exact_order_some x y o e
exact_orderᵛ_some (finite x) infinite o e = cc
exact_orderᵛ_some infinite (finite y) o e = cc
exact_orderᵛ_some infinite infinite o e = cc

-- ---- The result of a comparison

pub order_less : (x y : Rational) (o : Ordering) → Some o ≡ exact_order x y → o ≡ Less → leqʳ y x ≡ false
order_less x y o e f = let m : x <ʳ y = subst (λ (o : Ordering). MatchOrdering o (x <ʳ y) (x ≡ y) (y <ʳ x)) (sym (exact_order_some x y o e) ∙ f) (compareʳ-is x y) in m.holds

pub order_equal : (x y : Rational) (o : Ordering) → Some o ≡ exact_order x y → o ≡ Equal → x ≡ y
order_equal x y o e f = let m : x ≡ y = subst (λ (o : Ordering). MatchOrdering o (x <ʳ y) (x ≡ y) (y <ʳ x)) (sym (exact_order_some x y o e) ∙ f) (compareʳ-is x y) in m

pub order_greater : (x y : Rational) (o : Ordering) → Some o ≡ exact_order x y → o ≡ Greater → leqʳ x y ≡ false
order_greater x y o e f = let m : y <ʳ x = subst (λ (o : Ordering). MatchOrdering o (x <ʳ y) (x ≡ y) (y <ʳ x)) (sym (exact_order_some x y o e) ∙ f) (compareʳ-is x y) in m.holds

pub order_at_most_less : (x y : Rational) (o : Ordering) → Some o ≡ exact_order x y → o ≡ Less → leqʳ x y ≡ true
order_at_most_less x y o e f = (<ʳ-≤ʳ x y (record { holds = order_less x y o e f })).holds

pub order_at_most_equal : (x y : Rational) (o : Ordering) → Some o ≡ exact_order x y → o ≡ Equal → leqʳ x y ≡ true
order_at_most_equal x y o e f = subst (λ (z : Rational). leqʳ x z ≡ true) (order_equal x y o e f) (≤ʳ_refl x).holds

pub orderᵛ_less : (x y : Value) (o : Ordering) → Some o ≡ exact_orderᵛ x y → o ≡ Less → leqᵛ y x ≡ false
orderᵛ_less x y o e f = let m : x <ᵛ y = subst (λ (o : Ordering). MatchOrdering o (x <ᵛ y) (x ≡ y) (y <ᵛ x)) (sym (exact_orderᵛ_some x y o e) ∙ f) (compareᵛ-is x y) in m.holds

pub orderᵛ_equal : (x y : Value) (o : Ordering) → Some o ≡ exact_orderᵛ x y → o ≡ Equal → x ≡ y
orderᵛ_equal x y o e f = let m : x ≡ y = subst (λ (o : Ordering). MatchOrdering o (x <ᵛ y) (x ≡ y) (y <ᵛ x)) (sym (exact_orderᵛ_some x y o e) ∙ f) (compareᵛ-is x y) in m

pub orderᵛ_greater : (x y : Value) (o : Ordering) → Some o ≡ exact_orderᵛ x y → o ≡ Greater → leqᵛ x y ≡ false
orderᵛ_greater x y o e f = let m : y <ᵛ x = subst (λ (o : Ordering). MatchOrdering o (x <ᵛ y) (x ≡ y) (y <ᵛ x)) (sym (exact_orderᵛ_some x y o e) ∙ f) (compareᵛ-is x y) in m.holds

pub orderᵛ_at_most_less : (x y : Value) (o : Ordering) → Some o ≡ exact_orderᵛ x y → o ≡ Less → leqᵛ x y ≡ true
orderᵛ_at_most_less x y o e f = (<ᵛ-≤ᵛ x y (record { holds = orderᵛ_less x y o e f })).holds

pub orderᵛ_at_most_equal : (x y : Value) (o : Ordering) → Some o ≡ exact_orderᵛ x y → o ≡ Equal → leqᵛ x y ≡ true
orderᵛ_at_most_equal x y o e f = subst (λ (z : Value). leqᵛ x z ≡ true) (orderᵛ_equal x y o e f) (≤ᵛ_refl x).holds

pub ruleset exact = (exact_quotient_some, exact_sum_some, exact_difference_some, exact_product_some, exact_order_some, exact_sumᵛ_some, exact_productᵛ_some, exact_orderᵛ_some, order_less, order_equal, order_greater, order_at_most_less, order_at_most_equal, orderᵛ_less, orderᵛ_equal, orderᵛ_greater, orderᵛ_at_most_less, orderᵛ_at_most_equal)
