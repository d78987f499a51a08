-- The program's fractions of literals do not overflow.
use Rattle.heyvl_num.specs.Exact.{exact_quotient, is_small, quotient, quotient_fits}
use Rattle.heyvl_num.specs.Rational.{Rational, ratio, zeroʳ}
use Rattle.heyvl_num.specs.Value.{is_zero_num}
use Rattle.heyvl_syntax.specs.declared.literals.Lit.{Lit}
use Rattle.typed_expressions.specs.LiteralValues.{inverse_value, is_written, is_zero_literal, literal_value}
use Rattle.typed_expressions.specs.Table.{inverse}
use Rattle.std.proofs.Common.{Bool, None, Some, arith, false, lit<, negsuc, of_z, pos, refl, suc, to_z, true, zero, ◌+◌, ◌-◌, ◌<◌, ◌^◌, ◌≡◌, ◌≤◌, ℕ, ℤ}
use Rattle.std.proofs.Math.Nat.{pow-suc}
use Rattle.std.proofs.lemmas.Bool.{le-leb, leb-true}
use Rattle.std.proofs.lemmas.Int.{fits_signed_from_abs, ints, to_z-of_z}
use Rattle.std.specs.Int.{w128}
use Rattle.std.specs.Int.Signed.{le_z}
use Rattle.std.specs.Prelude.{FitsSigned, if◌then◌else◌, nat_le, not, unsigned_abs, ◌&&◌}

up : (d n m : ℕ) → d + n ≡ m → 10 ^ n ≤ 10 ^ m
up zero n m e = let q : n ≡ m = omega (arith, e) in rw q (omega arith)
up (suc d) n zero e = absurd (omega (arith, e))
up (suc d) n (suc m) e = let h = up d n m (omega (arith, e)) in let p = pow-suc 10 m in omega (arith, h, p)

-- A power of ten for the largest number of places.
pub power_small : (n : ℕ) → n ≤ 38 → 10 ^ n < 2 ^ 127
power_small n h = let u = up (38 - n) n 38 (omega (arith, h)) in let k : 10 ^ 38 < 2 ^ 127 = lit< tt in omega (arith, u, k)

pub power_positive : (n : ℕ) → 0 < 10 ^ n
power_positive n = let u = up n 0 n (omega arith) in let k : 10 ^ 0 ≡ 1 = refl in omega (arith, u, k)

small : (n : ℕ) → n < 2 ^ 127 → is_small (pos n) ≡ true
small n h = le-leb (suc n) (2 ^ 127) (omega (arith, h))

not_zero : (n : ℕ) → 0 < n → is_zero_num (pos n) ≡ false
not_zero zero h = absurd (omega (arith, h))
not_zero (suc n) h = refl

quotient_is : (a d : ℕ) → a < 2 ^ 127 → 0 < d → d < 2 ^ 127 → exact_quotient (pos a) (pos d) ≡ Some (ratio (pos a) d)
unfolding exact_quotient quotient_fits quotient
quotient_is a d h p k = rw (not_zero d p, small a h, small d k) refl

-- The program's fraction of digits and a power of ten.
pub fraction_is : (d : ℤ) (n : ℕ) → FitsSigned w128 d → le_z (pos 0) d ≡ true → n ≤ 38 → exact_quotient d (pos (10 ^ n)) ≡ Some (ratio d (10 ^ n))
fraction_is (pos d) n f h s = quotient_is d (10 ^ n) (omega (arith, ints, f)) (power_positive n) (power_small n s)
fraction_is (negsuc d) n f h s = absurd (cc)

pub inverse_is : (d : ℤ) (n : ℕ) → FitsSigned w128 d → le_z (pos 1) d ≡ true → n ≤ 38 → exact_quotient (pos (10 ^ n)) d ≡ Some (ratio (pos (10 ^ n)) (unsigned_abs d))
inverse_is (pos d) n f h s = quotient_is (10 ^ n) d (power_small n s) (omega (arith, ints, h)) (omega (arith, ints, f))
inverse_is (negsuc d) n f h s = absurd (cc)

pub zero_fraction : exact_quotient (pos 0) (pos 1) ≡ Some zeroʳ
unfolding exact_quotient quotient_fits quotient zeroʳ
zero_fraction = refl

pub some_is : {A : Type 0} (x y : A) → Some x ≡ Some y → x ≡ y
some_is x y e = cc

natural : (d : ℤ) → le_z (pos 1) d ≡ true → le_z (pos 0) d ≡ true
natural (pos d) h = le-leb 0 d (omega arith)
natural (negsuc d) h = absurd (cc)

positive : (d : ℤ) → le_z (pos 1) d ≡ true → is_zero_num d ≡ false
positive (pos d) h = not_zero d (omega (arith, leb-true 1 d h))
positive (negsuc d) h = absurd (cc)

pub literal_is : (n : Lit) → le_z (pos 0) n.digits ≡ true → n.places ≤ 38 → Some (ratio n.digits (10 ^ n.places)) ≡ (if is_written n then Some (literal_value n) else None)
unfolding literal_value
literal_is n h s = rw (h, le-leb n.places 38 s) refl

pub inverse_of_literal : (n : Lit) → le_z (pos 1) n.digits ≡ true → n.places ≤ 38 → Some (ratio (pos (10 ^ n.places)) (unsigned_abs n.digits)) ≡ inverse n
unfolding inverse_value
inverse_of_literal n h s =
    let w : le_z (pos 0) n.digits ≡ true = natural n.digits h in
    let z : is_zero_num n.digits ≡ false = positive n.digits h in
    rw (w, le-leb n.places 38 s, z) refl

-- A power of ten as an argument of 128 bits.
pub passed_power : (z : ℤ) (n : ℕ) → z ≡ pos (10 ^ n) → n ≤ 38 → to_z w128 (of_z w128 z) ≡ pos (10 ^ n)
passed_power z n e h = rw e (to_z-of_z w128 (pos (10 ^ n)) (fits_signed_from_abs w128 (pos (10 ^ n)) (power_small n h)))

-- The fraction of nonnegative parts.
pub positive_quotient : (a d : ℤ) → FitsSigned w128 a → FitsSigned w128 d → le_z (pos 0) a ≡ true → le_z (pos 1) d ≡ true → exact_quotient a d ≡ Some (ratio a (unsigned_abs d))
positive_quotient (pos a) (pos d) f g h k = quotient_is a d (omega (arith, ints, f)) (omega (arith, leb-true 1 d k)) (omega (arith, ints, g))
positive_quotient (pos a) (negsuc d) f g h k = absurd (cc)
positive_quotient (negsuc a) d f g h k = absurd (cc)

natural_num : (d : ℤ) (b : ℕ) → le_z (pos 0) d ≡ true → le_z (pos 0) (ratio d b).num ≡ true
unfolding ratio
natural_num d zero h = refl
natural_num (pos d) (suc b) h = le-leb 0 _ (omega arith)
natural_num (negsuc d) (suc b) h = absurd (cc)

-- The value of a literal is not negative.
pub written_natural : (n : Lit) (q : Rational) → Some q ≡ (if is_written n then Some (literal_value n) else None) → le_z (pos 0) q.num ≡ true
unfolding literal_value
written_natural n q e = go (le_z (pos 0) n.digits) (nat_le n.places 38) refl e
  where
    go : (a b : Bool) → le_z (pos 0) n.digits ≡ a → Some q ≡ (if a && b then Some (ratio n.digits (10 ^ n.places)) else None) → le_z (pos 0) q.num ≡ true
    go true true h i = let k : q ≡ ratio n.digits (10 ^ n.places) = cc in rw k (natural_num n.digits (10 ^ n.places) h)
    go true false h i = absurd (cc)
    go false b h i = absurd (cc)

-- One divided by a literal is not negative.
pub inverse_natural : (n : Lit) (q : Rational) → Some q ≡ inverse n → le_z (pos 0) q.num ≡ true
unfolding inverse_value
inverse_natural n q e = go (is_written n && not (is_zero_literal n)) e
  where
    go : (b : Bool) → Some q ≡ (if b then Some (ratio (pos (10 ^ n.places)) (unsigned_abs n.digits)) else None) → le_z (pos 0) q.num ≡ true
    go true i = let k : q ≡ ratio (pos (10 ^ n.places)) (unsigned_abs n.digits) = cc in rw k (natural_num (pos (10 ^ n.places)) (unsigned_abs n.digits) (le-leb 0 (10 ^ n.places) (omega arith)))
    go false i = absurd (cc)
