-- Weights are not too wide, so their sums do not overflow.
use Rattle.heyvl_num.specs.Exact.{exact_sum, is_small, sum_fits}
use Rattle.heyvl_num.specs.Gcd.{gcd, gcd_steps}
use Rattle.heyvl_num.specs.Rational.{Rational, ratio, zeroʳ, ◌+ʳ◌}
use Rattle.heyvl_places.specs.declared.spans.Span.{Span}
use Rattle.heyvl_syntax.specs.Expressions.{Expression}
use Rattle.heyvl_syntax.specs.declared.literals.Lit.{Lit}
use Rattle.heyvl_syntax.specs.declared.operators.BinaryOp.{BinaryOp}
use Rattle.typed_right_sides.proofs.WeightFractions.{is_small_from, narrow_parts}
use Rattle.static_rules.specs.Literals.{is_too_wide, literal_quotient, weight, weight_of_quotient, weight_of_value, weight_value}
use Rattle.static_rules.specs.declared.weights.Weight.TheVariants.{NotLiteral, OverZero, TooWide, Value}
use Rattle.static_rules.specs.declared.weights.Weight.{Weight}
use Rattle.std.proofs.Common.{Bool, None, Option, Some, arith, false, pos, refl, true, ◌*◌, ◌<◌, ◌^◌, ◌∙◌, ◌≡◌, ◌≤◌, ℕ, ℤ}
use Rattle.std.proofs.Math.Nat.{mul-le-mul}
use Rattle.std.proofs.lemmas.Bool.{and_from}
use Rattle.std.proofs.lemmas.Int.{ints, unsigned_abs-mul}
use Rattle.std.specs.Prelude.{if◌then◌else◌, unsigned_abs, ◌&&◌, ◌*ℤ◌, ◌+ℤ◌}
use Rattle.typed_expressions.specs.LiteralValues.{is_written, is_zero_literal, literal_value}

pub narrow_zero : is_too_wide zeroʳ ≡ false
unfolding zeroʳ ratio gcd gcd_steps
narrow_zero = refl

narrow_value : (q : Rational) → is_too_wide (weight_value (weight_of_value q)) ≡ false
narrow_value q = go (is_too_wide q) refl
  where
    go : (b : Bool) → is_too_wide q ≡ b → is_too_wide (weight_value (if b then TooWide else Value q)) ≡ false
    go true h = narrow_zero
    go false h = h

narrow_if : (b : Bool) (v w : Weight) → is_too_wide (weight_value v) ≡ false → is_too_wide (weight_value w) ≡ false → is_too_wide (weight_value (if b then v else w)) ≡ false
narrow_if true v w h k = h
narrow_if false v w h k = k

narrow_division : (a b : Expression) (s : Span) → is_too_wide (weight_value (weight (Expression.binary BinaryOp.Slash a b s))) ≡ false
narrow_division (Expression.number n s) (Expression.number m t) u = narrow_if (is_written n && is_written m) (weight_of_quotient n m) NotLiteral (narrow_if (is_zero_literal m) OverZero (weight_of_value (literal_quotient n m)) narrow_zero (narrow_value (literal_quotient n m))) narrow_zero
narrow_division a b u = narrow_zero

pub narrow_weight : (e : Expression) → is_too_wide (weight_value (weight e)) ≡ false
narrow_weight (Expression.number n s) = narrow_if (is_written n) (weight_of_value (literal_value n)) NotLiteral (narrow_value (literal_value n)) narrow_zero
narrow_weight (Expression.binary BinaryOp.Slash a b s) = narrow_division a b s
narrow_weight e = narrow_zero

product_small : (a b : ℕ) → a < 2 ^ 62 → b < 2 ^ 62 → a * b ≤ 2 ^ 124
product_small a b h k = let m : a * b ≤ 2 ^ 62 * 2 ^ 62 = mul-le-mul {n₁ = a} {m₁ = b} {n₂ = 2 ^ 62} {m₂ = 2 ^ 62} (omega arith) (omega arith) in omega (arith, m)

cross_small : (n : ℤ) (d : ℕ) → unsigned_abs n < 2 ^ 62 → d < 2 ^ 62 → unsigned_abs (n *ℤ pos d) ≤ 2 ^ 124
cross_small n d h k = rw (unsigned_abs-mul n (pos d)) (product_small (unsigned_abs n) d h k)

sums_fit : (x y : Rational) → is_too_wide x ≡ false → is_too_wide y ≡ false → sum_fits x y ≡ true
unfolding sum_fits
sums_fit x y h k =
    let p = narrow_parts x h in
    let q = narrow_parts y k in
    let a : unsigned_abs (x.num *ℤ pos y.den) ≤ 2 ^ 124 = cross_small x.num y.den p.0 q.1 in
    let b : unsigned_abs (y.num *ℤ pos x.den) ≤ 2 ^ 124 = cross_small y.num x.den q.0 p.1 in
    let d : unsigned_abs (pos x.den *ℤ pos y.den) ≤ 2 ^ 124 = cross_small (pos x.den) y.den p.1 q.1 in
    let s : unsigned_abs (x.num *ℤ pos y.den +ℤ y.num *ℤ pos x.den) < 2 ^ 127 = sum_small (x.num *ℤ pos y.den) (y.num *ℤ pos x.den) a b in
    and_from _ _ (and_from _ _ (and_from _ _ (is_small_from (x.num *ℤ pos y.den) (omega arith)) (is_small_from (y.num *ℤ pos x.den) (omega arith))) (is_small_from (pos x.den *ℤ pos y.den) (omega arith))) (is_small_from (x.num *ℤ pos y.den +ℤ y.num *ℤ pos x.den) s)
  where
    sum_small : (u v : ℤ) → unsigned_abs u ≤ 2 ^ 124 → unsigned_abs v ≤ 2 ^ 124 → unsigned_abs (u +ℤ v) < 2 ^ 127
    sum_small u v a b = omega (arith, ints)

pub sum_is : (x y : Rational) → is_too_wide x ≡ false → is_too_wide y ≡ false → exact_sum x y ≡ Some (x +ʳ y)
unfolding exact_sum
sum_is x y h k = rw (sums_fit x y h k) refl
