-- Fractions that are tested, divided and added as weights do not overflow.
use Rattle.heyvl_num.proofs.exported.Rationals.{ratio-*}
use Rattle.heyvl_num.specs.Exact.{difference_fits, exact_difference, exact_quotient, is_small, quotient, quotient_fits}
use Rattle.heyvl_num.proofs.exported.Integers.{*ℤ-one, one-*ℤ, zero_times}
use Rattle.heyvl_num.specs.Gcd.{gcd, gcd_steps}
use Rattle.heyvl_num.specs.Rational.{Rational, leqʳ, oneʳ, ratio, zeroʳ, ◌*ʳ◌, ◌-ʳ◌}
use Rattle.heyvl_num.specs.Value.{is_zero_num}
use Rattle.heyvl_syntax.specs.declared.literals.Lit.{Lit}
use Rattle.static_rules.specs.Literals.{is_too_wide, literal_quotient, weight_of_quotient, weight_of_value}
use Rattle.typed_expressions.specs.LiteralValues.{inverse_value, is_written, is_zero_literal, literal_value}
use Rattle.static_rules.specs.declared.weights.Weight.TheVariants.{NotLiteral, OverZero}
use Rattle.typed_expressions.specs.Table.{inverse}
use Rattle.std.proofs.Common.{Bool, None, Some, ap, ap₂, arith, false, negsuc, of_z, pos, refl, suc, sym, to_z, true, zero, ◌-◌, ◌<◌, ◌^◌, ◌∙◌, ◌≡◌, ℕ, ℤ}
use Rattle.std.proofs.lemmas.Bool.{and_from, and_parts, le-leb, ltb-true, not-false}
use Rattle.std.proofs.lemmas.Int.{ints, to_z-of_z}
use Rattle.std.specs.Int.{w128}
use Rattle.std.specs.Int.Signed.{le_z}
use Rattle.std.specs.Prelude.{FitsSigned, if◌then◌else◌, nat_lt, not, unsigned_abs, ◌&&◌, ◌*ℤ◌, ◌-ℤ◌}
use Rattle.typed_expressions.proofs.exported.LiteralFractions.{power_positive}

pub at_most_one_is : (q : Rational) → le_z q.num (pos q.den) ≡ leqʳ q oneʳ
unfolding leqʳ oneʳ ratio gcd gcd_steps
at_most_one_is q = ap₂ le_z (sym (*ℤ-one q.num)) (sym (one-*ℤ (pos q.den)))

pub at_least_one_is : (q : Rational) → le_z (pos q.den) q.num ≡ leqʳ oneʳ q
unfolding leqʳ oneʳ ratio gcd gcd_steps
at_least_one_is q = ap₂ le_z (sym (one-*ℤ (pos q.den))) (sym (*ℤ-one q.num))

pub at_most_zero_is : (q : Rational) → le_z q.num (pos 0) ≡ leqʳ q zeroʳ
unfolding leqʳ zeroʳ ratio gcd gcd_steps
at_most_zero_is q = ap₂ le_z (sym (*ℤ-one q.num)) (sym (zero_times (pos q.den)))

-- The parts of a fraction as arguments of 128 bits.
pub passed_parts : (q : Rational) (a b n : ℤ) (d : ℕ) → FitsSigned w128 a → FitsSigned w128 b → a ≡ n → b ≡ pos d → q ≡ ratio (to_z w128 (of_z w128 a)) (unsigned_abs (to_z w128 (of_z w128 b))) → q ≡ ratio n d
passed_parts q a b n d f g h k e = e ∙ ap₂ (λ (x : ℤ) (y : ℤ). ratio x (unsigned_abs y)) (to_z-of_z w128 a f ∙ h) (to_z-of_z w128 b g ∙ k)

nonzero : (d : ℤ) → is_zero_num d ≡ false → 0 < unsigned_abs d
nonzero (pos zero) h = absurd (cc)
nonzero (pos (suc d)) h = omega arith
nonzero (negsuc d) h = omega arith

quotient_is_product : (n m : Lit) → 0 < unsigned_abs m.digits → literal_value n *ʳ inverse_value m ≡ literal_quotient n m
unfolding literal_value inverse_value literal_quotient
quotient_is_product n m p = ratio-* n.digits (10 ^ n.places) (pos (10 ^ m.places)) (unsigned_abs m.digits) (power_positive n.places) p

-- A literal times the inverse of another is their quotient.
pub quotient_weight : (n m : Lit) (q f : Rational) → Some q ≡ (if is_written n then Some (literal_value n) else None) → Some f ≡ inverse m → weight_of_value (q *ʳ f) ≡ (if is_written n && is_written m then weight_of_quotient n m else NotLiteral)
quotient_weight n m q f e g = go (is_written n) (is_written m) (is_zero_literal m) refl e g
  where
    go : (a b z : Bool) → is_zero_literal m ≡ z → Some q ≡ (if a then Some (literal_value n) else None) → Some f ≡ (if b && not z then Some (inverse_value m) else None) → weight_of_value (q *ʳ f) ≡ (if a && b then (if z then OverZero else weight_of_value (literal_quotient n m)) else NotLiteral)
    go true true false h i j = let k : q ≡ literal_value n = cc in let l : f ≡ inverse_value m = cc in ap weight_of_value (ap₂ ◌*ʳ◌ k l ∙ quotient_is_product n m (nonzero m.digits h))
    go true true true h i j = absurd (cc)
    go true false z h i j = absurd (cc)
    go false b z h i j = absurd (cc)

pub is_small_from : (z : ℤ) → unsigned_abs z < 2 ^ 127 → is_small z ≡ true
is_small_from z h = le-leb (suc (unsigned_abs z)) (2 ^ 127) (omega arith)

pub whole_quotient : (a : ℤ) → unsigned_abs a < 2 ^ 127 → exact_quotient a (pos 1) ≡ Some (ratio a 1)
unfolding exact_quotient quotient_fits quotient
whole_quotient a h = rw (is_small_from a h) refl

pub narrow_parts : (q : Rational) → is_too_wide q ≡ false → (unsigned_abs q.num < 2 ^ 62) × (q.den < 2 ^ 62)
narrow_parts q h =
    let p = and_parts _ _ (not-false (nat_lt (unsigned_abs q.num) (2 ^ 62) && nat_lt q.den (2 ^ 62)) h) in
    (ltb-true (unsigned_abs q.num) (2 ^ 62) p.0, ltb-true q.den (2 ^ 62) p.1)

lacks_small : (n : ℤ) (d : ℕ) → unsigned_abs n < 2 ^ 62 → d < 2 ^ 62 → (is_small (pos 1 *ℤ pos d) && is_small (n *ℤ pos 1) && is_small (pos 1 *ℤ pos d) && is_small (pos 1 *ℤ pos d -ℤ n *ℤ pos 1)) ≡ true
lacks_small n d h k =
    let a : unsigned_abs (pos 1 *ℤ pos d) < 2 ^ 127 = omega arith in
    let b : unsigned_abs (n *ℤ pos 1) < 2 ^ 127 = rw (*ℤ-one n) (omega arith) in
    let l : unsigned_abs (pos 1 *ℤ pos d -ℤ n *ℤ pos 1) < 2 ^ 127 = omega (arith, ints, *ℤ-one n) in
    and_from _ _ (and_from _ _ (and_from _ _ (is_small_from (pos 1 *ℤ pos d) a) (is_small_from (n *ℤ pos 1) b)) (is_small_from (pos 1 *ℤ pos d) a)) (is_small_from (pos 1 *ℤ pos d -ℤ n *ℤ pos 1) l)

lacks_fits : (q : Rational) → is_too_wide q ≡ false → difference_fits (ratio (pos 1) 1) q ≡ true
unfolding difference_fits ratio gcd gcd_steps
lacks_fits q h = let p = narrow_parts q h in lacks_small q.num q.den p.0 p.1

pub complement_is : (q : Rational) → is_too_wide q ≡ false → exact_difference (ratio (pos 1) 1) q ≡ Some (oneʳ -ʳ q)
unfolding exact_difference oneʳ
complement_is q h = rw (lacks_fits q h) refl
