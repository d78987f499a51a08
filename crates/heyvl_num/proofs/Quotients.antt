-- The code's divisions by the greatest common divisor.
use Rattle.std.proofs.Common.{◌≡◌, ℕ, ◌<◌, ◌≤◌, ◌^◌, ap, ap₂, ◌∙◌, arith, to_z, of_z, FitsSigned, ℤ, pos, negsuc, ◌<ℤ◌, unsigned_abs}
use Rattle.std.specs.Int.{w128}
use Rattle.std.specs.Int.RustNames.{int_div}
use Rattle.std.proofs.lemmas.Int.{ints, to_z-of_z, fits_signed_from_abs}
use Rattle.std.proofs.Math.Nat.{le_of_dvd, div-le_self}
use Rattle.heyvl_num.specs.Gcd.{gcd}
use Rattle.heyvl_num.specs.GcdLaws.{gcd-is, gcd-pos, gcd-quotients, quotient_den-pos}
use Rattle.heyvl_num.specs.Rational.{abs_div, ratio}
use Rattle.heyvl_num.specs.RationalParts.{abs-pos}
use Rattle.heyvl_num.proofs.Rationals.{ratio_same, div_cross}

divisor_fits : (a b : ℤ) → pos 0 <ℤ b → (0 < gcd (unsigned_abs a) (unsigned_abs b)) × (gcd (unsigned_abs a) (unsigned_abs b) ≤ unsigned_abs b)
divisor_fits a b p = (gcd-pos _ _ (abs-pos b p), le_of_dvd (abs-pos b p) (gcd-is (unsigned_abs a) (unsigned_abs b)).1)

div_positive : (a b : ℤ) → pos 0 <ℤ b → pos 0 <ℤ int_div b (pos (gcd (unsigned_abs a) (unsigned_abs b)))
div_positive a (pos b) p = omega (arith, ints, quotient_den-pos (unsigned_abs a) b (abs-pos (pos b) p))
div_positive a (negsuc b) p = absurd (omega (arith, ints))

div_small : (a : ℤ) (g : ℕ) → unsigned_abs (int_div a (pos g)) ≤ unsigned_abs a
div_small a g = rw (abs_div a g) (div-le_self (unsigned_abs a) g)

div_lowest : (a b : ℤ) → pos 0 <ℤ b → gcd (unsigned_abs (int_div a (pos (gcd (unsigned_abs a) (unsigned_abs b))))) (unsigned_abs (int_div b (pos (gcd (unsigned_abs a) (unsigned_abs b))))) ≡ 1
div_lowest a b p = rw (abs_div a _, abs_div b _) (gcd-quotients (unsigned_abs a) (unsigned_abs b) (abs-pos b p))

div_ratio : (a b : ℤ) → pos 0 <ℤ b → ratio (int_div a (pos (gcd (unsigned_abs a) (unsigned_abs b)))) (unsigned_abs (int_div b (pos (gcd (unsigned_abs a) (unsigned_abs b))))) ≡ ratio a (unsigned_abs b)
div_ratio a b p = rw (abs_div b (gcd (unsigned_abs a) (unsigned_abs b))) (ratio_same _ _ _ _ (quotient_den-pos (unsigned_abs a) (unsigned_abs b) (abs-pos b p)) (abs-pos b p) (div_cross a (unsigned_abs b)))

pub divisor : (a b : ℤ) (m n r : ℕ) → pos 0 <ℤ b → FitsSigned w128 a → FitsSigned w128 b → m ≡ unsigned_abs (to_z w128 (of_z w128 a)) → n ≡ unsigned_abs (to_z w128 (of_z w128 b)) → r ≡ gcd m n → (to_z w128 r ≡ pos (gcd (unsigned_abs a) (unsigned_abs b))) × (FitsSigned w128 (pos r)) × (pos 0 <ℤ to_z w128 r)
divisor a b m n r p fa f e1 e2 e3 =
    let t1 = to_z-of_z w128 a fa in
    let t2 = to_z-of_z w128 b f in
    let e : r ≡ gcd (unsigned_abs a) (unsigned_abs b) = cc in
    let d = divisor_fits a b p in
    let s : FitsSigned w128 (pos r) = omega (arith, ints, d.0, d.1) in
    let l : to_z w128 r ≡ pos r = omega (arith, ints) in
    (l ∙ ap pos e, s, omega (arith, ints, d.0))

seen_small : (z : ℤ) → unsigned_abs z < 2 ^ 127 → to_z w128 (of_z w128 z) ≡ z
seen_small z h = to_z-of_z w128 z (fits_signed_from_abs w128 z h)

-- The code has divided `a` and `b` by their greatest common divisor, with the results `t` and `u`.
pub record Parts (a b t u : ℤ) : Type 0 where
  pub top : to_z w128 (of_z w128 t) ≡ t
  pub bottom : to_z w128 (of_z w128 u) ≡ u
  pub positive : pos 0 <ℤ u
  pub small : unsigned_abs t < 2 ^ 127
  pub lowest : gcd (unsigned_abs t) (unsigned_abs u) ≡ 1
  pub value : ratio t (unsigned_abs u) ≡ ratio a (unsigned_abs b)

pub parts : (a b t u z : ℤ) → pos 0 <ℤ b → FitsSigned w128 b → unsigned_abs a < 2 ^ 127 → z ≡ pos (gcd (unsigned_abs a) (unsigned_abs b)) → t ≡ int_div (to_z w128 (of_z w128 a)) z → u ≡ int_div (to_z w128 (of_z w128 b)) z → Parts a b t u
parts a b t u z p f s e et eu =
    let t1 = seen_small a s in
    let t2 = to_z-of_z w128 b f in
    let et' : t ≡ int_div a (pos (gcd (unsigned_abs a) (unsigned_abs b))) = cc in
    let eu' : u ≡ int_div b (pos (gcd (unsigned_abs a) (unsigned_abs b))) = cc in
    let small_t : unsigned_abs t < 2 ^ 127 = rw et' (omega (arith, div_small a (gcd (unsigned_abs a) (unsigned_abs b)))) in
    let small_b : unsigned_abs b < 2 ^ 127 = omega (arith, ints) in
    let small_u : unsigned_abs u < 2 ^ 127 = rw eu' (omega (arith, div_small b (gcd (unsigned_abs a) (unsigned_abs b)))) in
    record {
      top = to_z-of_z w128 t (fits_signed_from_abs w128 t small_t);
      bottom = to_z-of_z w128 u (fits_signed_from_abs w128 u small_u);
      positive = rw eu' (div_positive a b p);
      small = small_t;
      lowest = rw (et', eu') (div_lowest a b p);
      value = rw (et', eu') (div_ratio a b p);
    }

pub whole_parts : (a b t u : ℤ) → Parts a b t u → ratio (to_z w128 (of_z w128 t)) (unsigned_abs (to_z w128 (of_z w128 u))) ≡ ratio a (unsigned_abs b)
whole_parts a b t u p = ap₂ (λ t u. ratio t (unsigned_abs u)) p.top p.bottom ∙ p.value
