-- The product of two fractions is in lowest terms after each numerator has been reduced with the
-- other's denominator.
use Prim.Native.Nat.{◌∣◌}
use Rattle.heyvl_num.proofs.exported.Exactness.{exact_product_none, exact_product_some}
use Rattle.heyvl_num.proofs.exported.Rationals.{ratio-*, ratio_den, ratio_num}
use Rattle.heyvl_num.specs.Exact.{exact_product, product_fits}
use Rattle.heyvl_num.specs.Gcd.{gcd}
use Rattle.heyvl_num.specs.GcdLaws.{gcd-is, gcd-mul, quotient_den, quotient_num}
use Rattle.heyvl_num.specs.Rational.{Rational, abs_div, ratio, ◌*ʳ◌}
use Rattle.heyvl_num.specs.RationalParts.{ratio_den-lowest, ratio_num-lowest}
use Rattle.static_rules.specs.Literals.{is_too_wide, weight_of_value}
use Rattle.static_rules.specs.declared.weights.Weight.TheVariants.{TooWide}
use Rattle.std.proofs.Common.{Bool, None, Some, ap, ap₂, arith, false, pos, refl, suc, sym, true, zero, ◌*◌, ◌/◌, ◌<◌, ◌^◌, ◌∙◌, ◌≡◌, ◌≤◌, ℕ, ℤ}
use Rattle.std.proofs.Math.Nat.{dvd-mul_left, dvd-mul_right, dvd-mul_right_of_dvd, dvd-zero, dvd_trans, eq-one_of_dvd-one, mul_comm, one-mul}
use Rattle.std.proofs.lemmas.Bool.Decides.{nat_tests}
use Rattle.std.proofs.lemmas.Int.{unsigned_abs-mul}
use Rattle.std.specs.Prelude.{nat_lt, not, unsigned_abs, ◌&&◌, ◌*ℤ◌}

divides_second : (a b c d : ℕ) → gcd a c ≡ 1 → d ∣ a * b → d ∣ c → d ∣ b
divides_second a zero c d e h k = dvd-zero d
divides_second a (suc b) c d e h k =
    let m = (gcd-is (a * suc b) (c * suc b)).2 d h (dvd-mul_right_of_dvd d k (suc b)) in
    let r : gcd (a * suc b) (c * suc b) ≡ suc b = gcd-mul a c (suc b) (omega arith) ∙ (ap (λ n. n * suc b) e ∙ one-mul (suc b)) in
    rw r at m

one_of : (d n : ℕ) → d ∣ n → n ≡ 1 → d ≡ 1
one_of d n h e = let k = rw e at h in eq-one_of_dvd-one k

coprime_product : (a b c : ℕ) → gcd a c ≡ 1 → gcd b c ≡ 1 → gcd (a * b) c ≡ 1
coprime_product a b c e f =
    let g = gcd-is (a * b) c in
    one_of _ _ ((gcd-is b c).2 _ (divides_second a b c _ e g.0 g.1) g.1) f

gcd_comm : (a b : ℕ) → gcd a b ≡ 1 → gcd b a ≡ 1
gcd_comm a b e = let g = gcd-is b a in one_of _ _ ((gcd-is a b).2 _ g.1 g.0) e

coprime_divisors : (a b c d : ℕ) → c ∣ a → d ∣ b → gcd a b ≡ 1 → gcd c d ≡ 1
coprime_divisors a b c d h k e = let g = gcd-is c d in one_of _ _ ((gcd-is a b).2 _ (dvd_trans _ g.0 h) (dvd_trans _ g.1 k)) e

divides : (a b c : ℕ) → a * b ≡ c → a ∣ c
divides a b c e = rw (← e) (dvd-mul_right a b)

num_divides : (a : ℤ) (b : ℕ) → 0 < b → unsigned_abs (ratio a b).num ∣ unsigned_abs a
num_divides a b p = divides _ (gcd (unsigned_abs a) b) _ (ap (λ n. n * gcd (unsigned_abs a) b) (ap unsigned_abs (ratio_num a b p) ∙ abs_div a (gcd (unsigned_abs a) b)) ∙ quotient_num (unsigned_abs a) b)

den_divides : (a : ℤ) (b : ℕ) → 0 < b → (ratio a b).den ∣ b
den_divides a b p = divides _ (gcd (unsigned_abs a) b) _ (ap (λ n. n * gcd (unsigned_abs a) b) (ratio_den a b p) ∙ quotient_den (unsigned_abs a) b)

module _ (x y : Rational) where
  product_lowest : gcd (unsigned_abs x.num) y.den ≡ 1 → gcd (unsigned_abs y.num) x.den ≡ 1 → gcd (unsigned_abs (x.num *ℤ y.num)) (x.den * y.den) ≡ 1
  product_lowest e f =
      let a : gcd (x.den * y.den) (unsigned_abs x.num) ≡ 1 = coprime_product _ _ _ (gcd_comm _ _ x.lowest) (gcd_comm _ _ e) in
      let b : gcd (x.den * y.den) (unsigned_abs y.num) ≡ 1 = coprime_product _ _ _ (gcd_comm _ _ f) (gcd_comm _ _ y.lowest) in
      ap (λ n. gcd n (x.den * y.den)) (unsigned_abs-mul x.num y.num) ∙ coprime_product _ _ _ (gcd_comm _ _ a) (gcd_comm _ _ b)

positive_product : (m n : ℕ) → 0 < m → 0 < n → 0 < m * n
positive_product zero n p q = absurd (omega arith)
positive_product (suc m) zero p q = absurd (omega arith)
positive_product (suc m) (suc n) p q = omega arith

wide_parts : (m n : ℕ) → (nat_lt m (2 ^ 127) && nat_lt n (2 ^ 127)) ≡ false → not (nat_lt m (2 ^ 62) && nat_lt n (2 ^ 62)) ≡ true
wide_parts m n h = grind (arith, nat_tests)

-- A product that overflows although its factors were reduced is too wide in lowest terms.
pub product_is_wide : (x y : Rational) → gcd (unsigned_abs x.num) y.den ≡ 1 → gcd (unsigned_abs y.num) x.den ≡ 1 → product_fits x y ≡ false → is_too_wide (x *ʳ y) ≡ true
unfolding product_fits ◌*ʳ◌
product_is_wide x y e f h =
    let p = positive_product x.den y.den x.positive y.positive in
    let l = product_lowest x y e f in
    rw (ratio_num-lowest (x.num *ℤ y.num) (x.den * y.den) p l, ratio_den-lowest (x.num *ℤ y.num) (x.den * y.den) p l) (wide_parts (unsigned_abs (x.num *ℤ y.num)) (x.den * y.den) h)

module _ (v w : Rational) where
  -- The factors after reducing.
  abbrev first : Rational
  first = ratio v.num w.den

  abbrev second : Rational
  second = ratio w.num v.den

  first_coprime : gcd (unsigned_abs first.num) second.den ≡ 1
  first_coprime = coprime_divisors _ _ _ _ (num_divides v.num w.den w.positive) (den_divides w.num v.den v.positive) v.lowest

  second_coprime : gcd (unsigned_abs second.num) first.den ≡ 1
  second_coprime = coprime_divisors _ _ _ _ (num_divides w.num v.den v.positive) (den_divides v.num w.den w.positive) w.lowest

  pub crossed_product : first *ʳ second ≡ v *ʳ w
  unfolding ◌*ʳ◌
  crossed_product = ratio-* v.num w.den w.num v.den w.positive v.positive ∙ ap (λ n. ratio (v.num *ℤ w.num) n) (mul_comm w.den v.den)

  pub crossed_wide : product_fits first second ≡ false → is_too_wide (v *ʳ w) ≡ true
  crossed_wide h = rw (← crossed_product) (product_is_wide first second first_coprime second_coprime h)

pub product_some : (v w x y q : Rational) → x ≡ ratio v.num w.den → y ≡ ratio w.num v.den → Some q ≡ exact_product x y → q ≡ v *ʳ w
product_some v w x y q a b e = exact_product_some x y q e ∙ ap₂ ◌*ʳ◌ a b ∙ crossed_product v w

pub product_none : (v w x y : Rational) → x ≡ ratio v.num w.den → y ≡ ratio w.num v.den → None ≡ exact_product x y → TooWide ≡ weight_of_value (v *ʳ w)
product_none v w x y a b e =
    let h : product_fits x y ≡ false = exact_product_none x y e in
    let k : product_fits (ratio v.num w.den) (ratio w.num v.den) ≡ false = ap₂ product_fits (sym a) (sym b) ∙ h in
    rw (crossed_wide v w k) refl
