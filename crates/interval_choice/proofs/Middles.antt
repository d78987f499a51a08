-- The middle of two fractions below 2^62 is exact, and so is the integer nearest to a fraction.
use Rattle.std.proofs.Common.{◌≡◌, ℕ, ◌<◌, ◌≤◌, ◌*◌, ◌/◌, ◌^◌, refl, sym, ap, ◌∙◌, subst, arith, Bool, true, ◌&&◌, unsigned_abs}
use Rattle.std.specs.Prelude.{ℤ, pos, ◌+ℤ◌, ◌*ℤ◌, ◌≤ℤ◌, Some}
use Rattle.std.proofs.Math.IntN.{neg_ℤ}
use Rattle.std.proofs.Math.Nat.{mul-pos, zero-lt-suc}
use Rattle.std.proofs.lemmas.Int.{unsigned_abs-mul}
use Rattle.std.proofs.lemmas.Nat.{mul-lt}
use borrow.Author.Differences.{ints}
use Rattle.heyvl_num.specs.Gcd.{gcd, gcd_steps}
use Rattle.heyvl_num.specs.Rational.{Rational, ratio, halfʳ, middleʳ, ◌+ʳ◌, ◌≤ʳ◌, abs_div}
use Rattle.heyvl_num.specs.Rounding.{whole, IsFloor, IsCeiling}
use Rattle.heyvl_num.specs.Exact.{quotient, quotient_fits, exact_quotient, product_fits, exact_product}
use Rattle.heyvl_num.proofs.exported.Rationals.{ratio_parts, ratio_num, ratio_den, ratio-≤, ratio-≤_out, ≤ʳ_trans}
use Rattle.linear_rows.specs.Numbers.{fits}
use Rattle.linear_rows.proofs.exported.Narrow.{small, num_less, den_less}

pub the_half : exact_quotient (pos 1) (pos 2) ≡ Some halfʳ
unfolding exact_quotient quotient_fits quotient halfʳ
the_half = refl

less_divided : (a g : ℕ) → a / g ≤ a
less_divided a g = omega arith

num_reduced : (a : ℤ) (b : ℕ) → 0 < b → unsigned_abs (ratio a b).num ≤ unsigned_abs a
num_reduced a b p = subst (λ n. n ≤ unsigned_abs a) (sym (ap unsigned_abs (ratio_num a b p) ∙ abs_div a (gcd (unsigned_abs a) b))) (less_divided (unsigned_abs a) (gcd (unsigned_abs a) b))

den_reduced : (a : ℤ) (b : ℕ) → 0 < b → (ratio a b).den ≤ b
den_reduced a b p = subst (λ n. n ≤ b) (sym (ratio_den a b p)) (less_divided b (gcd (unsigned_abs a) b))

product_less : (a b : ℤ) → unsigned_abs a < 2 ^ 62 → unsigned_abs b < 2 ^ 62 → unsigned_abs (a *ℤ b) < 2 ^ 124
product_less a b p q = rw (unsigned_abs-mul a b) (mul-lt (unsigned_abs a) (unsigned_abs b) (2 ^ 62) (2 ^ 62) p q)

sum_less : (a b : ℤ) → unsigned_abs a < 2 ^ 124 → unsigned_abs b < 2 ^ 124 → unsigned_abs (a +ℤ b) < 2 ^ 125
sum_less a b p q = omega (arith, ints)

below : (m n k : ℕ) → m ≤ n → n < k → m < k
below m n k h l = omega arith

sum_num : (x y : Rational) → fits x ≡ true → fits y ≡ true → unsigned_abs (x +ʳ y).num < 2 ^ 125
unfolding ◌+ʳ◌
sum_num x y p q = below _ _ (2 ^ 125) (num_reduced _ (x.den * y.den) (mul-pos x.positive y.positive)) (sum_less (x.num *ℤ pos y.den) (y.num *ℤ pos x.den) (product_less x.num (pos y.den) (num_less x p) (den_less y q)) (product_less y.num (pos x.den) (num_less y q) (den_less x p)))

sum_den : (x y : Rational) → fits x ≡ true → fits y ≡ true → (x +ʳ y).den < 2 ^ 124
unfolding ◌+ʳ◌
sum_den x y p q = below _ _ (2 ^ 124) (den_reduced _ (x.den * y.den) (mul-pos x.positive y.positive)) (mul-lt x.den y.den (2 ^ 62) (2 ^ 62) (den_less x p) (den_less y q))

half_num : halfʳ.num ≡ pos 1
unfolding halfʳ ratio gcd gcd_steps
half_num = refl

half_den : halfʳ.den ≡ 2
unfolding halfʳ ratio gcd gcd_steps
half_den = refl

both_true : (a b : Bool) → a ≡ true → b ≡ true → (a && b) ≡ true
both_true a b h k = rw (h, k)

half_fits : (s : Rational) → unsigned_abs s.num < 2 ^ 125 → s.den < 2 ^ 124 → product_fits halfʳ s ≡ true
unfolding product_fits
half_fits s h k = both_true _ _ (small (halfʳ.num *ℤ s.num) (subst (λ n. unsigned_abs (n *ℤ s.num) < 2 ^ 127) (sym half_num) (once s.num h))) (small (pos halfʳ.den *ℤ pos s.den) (subst (λ n. unsigned_abs (pos n *ℤ pos s.den) < 2 ^ 127) (sym half_den) (twice s.den k)))
  where
    once : (n : ℤ) → unsigned_abs n < 2 ^ 125 → unsigned_abs (pos 1 *ℤ n) < 2 ^ 127
    once n h = omega (arith, ints)

    twice : (n : ℕ) → n < 2 ^ 124 → unsigned_abs (pos 2 *ℤ pos n) < 2 ^ 127
    twice n h = omega (arith, ints)

pub the_middle : (x y : Rational) → fits x ≡ true → fits y ≡ true → exact_product halfʳ (x +ʳ y) ≡ Some (middleʳ x y)
unfolding exact_product middleʳ
the_middle x y p q = let e = half_fits (x +ʳ y) (sum_num x y p q) (sum_den x y p q) in rw e refl

-- ---- Integers

pub whole_mono : (m n : ℤ) → m ≤ℤ n → whole m ≤ʳ whole n
unfolding whole
whole_mono m n h = ratio-≤ m 1 n 1 (zero-lt-suc 0) (zero-lt-suc 0) (omega (arith, ints, h))

pub whole_mono_out : (m n : ℤ) → whole m ≤ʳ whole n → m ≤ℤ n
unfolding whole
whole_mono_out m n h = let k = ratio-≤_out m 1 n 1 (zero-lt-suc 0) (zero-lt-suc 0) h in omega (arith, ints, k)

below_great : (x : Rational) → fits x ≡ true → x ≤ʳ whole (pos (2 ^ 62))
unfolding whole
below_great x h = subst (λ y. y ≤ʳ ratio (pos (2 ^ 62)) 1) (ratio_parts x) (ratio-≤ x.num x.den (pos (2 ^ 62)) 1 x.positive (zero-lt-suc 0) (step x.num x.den (num_less x h) x.positive))
  where
    step : (n : ℤ) (d : ℕ) → unsigned_abs n < 2 ^ 62 → 0 < d → (n *ℤ pos 1) ≤ℤ (pos (2 ^ 62) *ℤ pos d)
    step n d h p = omega (arith, ints)

above_great : (x : Rational) → fits x ≡ true → whole (neg_ℤ (pos (2 ^ 62))) ≤ʳ x
unfolding whole
above_great x h = subst (λ y. ratio (neg_ℤ (pos (2 ^ 62))) 1 ≤ʳ y) (ratio_parts x) (ratio-≤ (neg_ℤ (pos (2 ^ 62))) 1 x.num x.den (zero-lt-suc 0) x.positive (step x.num x.den (num_less x h) x.positive))
  where
    step : (n : ℤ) (d : ℕ) → unsigned_abs n < 2 ^ 62 → 0 < d → (neg_ℤ (pos (2 ^ 62)) *ℤ pos d) ≤ℤ (n *ℤ pos 1)
    step n d h p = omega (arith, ints)

small_between : (n : ℤ) → neg_ℤ (pos (2 ^ 62)) ≤ℤ n → n ≤ℤ pos (2 ^ 62) → unsigned_abs n ≤ 2 ^ 62
small_between n h k = omega (arith, ints)

pub floor_small : (x : Rational) (n : ℤ) → fits x ≡ true → IsFloor x n → unsigned_abs n ≤ 2 ^ 62
floor_small x n h f = small_between n (f.greatest _ (above_great x h)) (whole_mono_out n (pos (2 ^ 62)) (≤ʳ_trans (whole n) x _ f.at_most (below_great x h)))

pub ceil_small : (x : Rational) (n : ℤ) → fits x ≡ true → IsCeiling x n → unsigned_abs n ≤ 2 ^ 62
ceil_small x n h f = small_between n (whole_mono_out _ n (≤ʳ_trans _ x (whole n) (above_great x h) f.at_least)) (f.least _ (below_great x h))
