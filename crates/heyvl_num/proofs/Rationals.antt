-- Laws of exact fractions. To import: `use Rattle.heyvl_num.proofs.Rationals.{ring, order}`, or
-- `using(heyvl_num::proofs::Rationals::order)`. Both rule sets serve `simp`, `search`, `grind` and
-- `using(..)`.
use Rattle.std.proofs.Common.{◌≡◌, ℕ, ◌*◌, ◌/◌, ◌<◌, ◌⊎◌, inl, inr, refl, sym, ap, ap₂, ◌∙◌, subst, arith}
use Rattle.std.specs.Prelude.{◌≤ℤ◌}
use Rattle.std.specs.Int.Signed.{le_z}
use Rattle.std.proofs.Math.IntN.{ℤ, pos, negsuc, ◌+ℤ◌, ◌-ℤ◌, ◌*ℤ◌, neg_ℤ}
use Rattle.std.specs.Int.RustNames.{int_div, unsigned_abs}
use borrow.Author.Differences.{ints}
use Prim.Native.Nat.{suc, zero}
use mathlib.Core.HLevel.{is_prop→PathP}
use Rattle.std.proofs.Math.Bridge.{le_prop}
use Rattle.std.proofs.Math.Nat.{ℕ_set, mul-pos, div-one}
use Rattle.std.proofs.lemmas.Int.{by_lt_z}
use Rattle.heyvl_num.specs.Gcd.{gcd}
use Rattle.heyvl_num.specs.GcdLaws.{quotient_num, quotient_den, quotient_scale, quotient_scale_den}
use Rattle.heyvl_num.specs.Rational.{Rational, ratio, zeroʳ, oneʳ, ◌+ʳ◌, ◌*ʳ◌, negʳ, ◌-ʳ◌, leqʳ, ◌≤ʳ◌}
use Rattle.heyvl_num.proofs.Integers as whole
use Rattle.heyvl_num.proofs.Integers.{neg-*ℤ, ≤ℤ-scale, ≤ℤ-cancel, one-*ℤ, *ℤ-one, zero_times, zero-+ℤ, le_test, test_le, same_test}

-- ---- Fractions and their cross products

pub same_parts : (x y : Rational) → x.num ≡ y.num → x.den ≡ y.den → x ≡ y
same_parts x y p q = λ i. record { num = p i; den = q i; positive = is_prop→PathP (λ i. 0 < q i) (λ i. le_prop) x.positive y.positive i; lowest = is_prop→PathP (λ i. gcd (unsigned_abs (p i)) (q i) ≡ 1) (λ i. ℕ_set _ _) x.lowest y.lowest i }

pub ratio_num : (a : ℤ) (b : ℕ) → 0 < b → (ratio a b).num ≡ int_div a (pos (gcd (unsigned_abs a) b))
unfolding ratio
ratio_num a zero h = absurd (omega arith)
ratio_num a (suc b) h = refl

pub ratio_den : (a : ℤ) (b : ℕ) → 0 < b → (ratio a b).den ≡ b / gcd (unsigned_abs a) b
unfolding ratio
ratio_den a zero h = absurd (omega arith)
ratio_den a (suc b) h = refl

cross_nat : (a b : ℕ) → (a / gcd a b) * b ≡ a * (b / gcd a b)
cross_nat a b = omega (arith, ap (λ x. a / gcd a b * x) (quotient_den a b), ap (λ x. x * (b / gcd a b)) (quotient_num a b))

pub div_cross : (a : ℤ) (b : ℕ) → int_div a (pos (gcd (unsigned_abs a) b)) *ℤ pos b ≡ a *ℤ pos (b / gcd (unsigned_abs a) b)
div_cross (pos a) b = ap pos (cross_nat a b)
div_cross (negsuc a) b = neg-*ℤ (pos (suc a / gcd (suc a) b)) (pos b) ∙ ap (λ n. neg_ℤ (pos n)) (cross_nat (suc a) b)

pub ratio_cross : (a : ℤ) (b : ℕ) → 0 < b → (ratio a b).num *ℤ pos b ≡ a *ℤ pos (ratio a b).den
ratio_cross a b h = rw (ratio_num a b h, ratio_den a b h) (div_cross a b)

same_quotients : (a b c d : ℕ) → 0 < b → 0 < d → a * d ≡ c * b → (a / gcd a b ≡ c / gcd c d) × (b / gcd a b ≡ d / gcd c d)
same_quotients a b c d p q e =
    let f : b * d ≡ d * b = omega arith in (
      sym (quotient_scale a b d q) ∙ ap₂ (λ (x y : ℕ). x / gcd x y) e f ∙ quotient_scale c d b p,
      sym (quotient_scale_den a b d q) ∙ ap₂ (λ (x y : ℕ). y / gcd x y) e f ∙ quotient_scale_den c d b p,
    )

same_div : (a : ℤ) (b : ℕ) (c : ℤ) (d : ℕ) → 0 < b → 0 < d → a *ℤ pos d ≡ c *ℤ pos b → (int_div a (pos (gcd (unsigned_abs a) b)) ≡ int_div c (pos (gcd (unsigned_abs c) d))) × (b / gcd (unsigned_abs a) b ≡ d / gcd (unsigned_abs c) d)
same_div (pos a) b (pos c) d p q e = let s = same_quotients a b c d p q (omega (arith, ints)) in (ap pos s.0, s.1)
same_div (pos a) b (negsuc c) d p q e = absurd (omega (arith, ints))
same_div (negsuc a) b (pos c) d p q e = absurd (omega (arith, ints))
same_div (negsuc a) b (negsuc c) d p q e = let s = same_quotients (suc a) b (suc c) d p q (omega (arith, ints)) in (ap (λ n. neg_ℤ (pos n)) s.0, s.1)

pub ratio_same : (a : ℤ) (b : ℕ) (c : ℤ) (d : ℕ) → 0 < b → 0 < d → a *ℤ pos d ≡ c *ℤ pos b → ratio a b ≡ ratio c d
ratio_same a b c d p q e = let s = same_div a b c d p q e in same_parts _ _ (ratio_num a b p ∙ s.0 ∙ sym (ratio_num c d q)) (ratio_den a b p ∙ s.1 ∙ sym (ratio_den c d q))

pub div_one : (a : ℤ) → int_div a (pos 1) ≡ a
div_one (pos n) = ap pos (div-one n)
div_one (negsuc n) = ap (λ n. neg_ℤ (pos n)) (div-one (suc n))

pub ratio_parts : (x : Rational) → ratio x.num x.den ≡ x
ratio_parts x = same_parts _ _ (ratio_num x.num x.den x.positive ∙ rw x.lowest (div_one x.num)) (ratio_den x.num x.den x.positive ∙ rw x.lowest (div-one x.den))

pub same_cross : (x y : Rational) → x.num *ℤ pos y.den ≡ y.num *ℤ pos x.den → x ≡ y
same_cross x y e = sym (ratio_parts x) ∙ ratio_same x.num x.den y.num y.den x.positive y.positive e ∙ ratio_parts y

-- To prove a property of all fractions, it suffices to prove it of the ratio of any two integers.
pub each_ratio : (P : Rational → Type 0) → ((n : ℤ) (d : ℕ) → 0 < d → P (ratio n d)) → (x : Rational) → P x
each_ratio P h x = subst P (ratio_parts x) (h x.num x.den x.positive)

-- ---- Sums and products

cross_sum : (m n m' n' a b c d : ℤ) → m *ℤ b ≡ a *ℤ n → m' *ℤ d ≡ c *ℤ n' → (m *ℤ n' +ℤ m' *ℤ n) *ℤ (b *ℤ d) ≡ (a *ℤ d +ℤ c *ℤ b) *ℤ (n *ℤ n')
cross_sum m n m' n' a b c d e f =
    let k1 = simp whole.ring at (ap (λ x. x *ℤ (n' *ℤ d)) e) in
    let k2 = simp whole.ring at (ap (λ x. x *ℤ (n *ℤ b)) f) in
    simp whole.ring (omega (arith, ints))

pub ratio-+ : (a : ℤ) (b : ℕ) (c : ℤ) (d : ℕ) → 0 < b → 0 < d → ratio a b +ʳ ratio c d ≡ ratio (a *ℤ pos d +ℤ c *ℤ pos b) (b * d)
unfolding ◌+ʳ◌
ratio-+ a b c d p q = ratio_same _ _ _ _ (mul-pos (ratio a b).positive (ratio c d).positive) (mul-pos p q) (cross_sum (ratio a b).num (pos (ratio a b).den) (ratio c d).num (pos (ratio c d).den) a (pos b) c (pos d) (ratio_cross a b p) (ratio_cross c d q))

cross_product : (m n m' n' a b c d : ℤ) → m *ℤ b ≡ a *ℤ n → m' *ℤ d ≡ c *ℤ n' → (m *ℤ m') *ℤ (b *ℤ d) ≡ (a *ℤ c) *ℤ (n *ℤ n')
cross_product m n m' n' a b c d e f =
    let k1 : (m *ℤ b) *ℤ (m' *ℤ d) ≡ (a *ℤ n) *ℤ (c *ℤ n') = ap₂ (λ x y. x *ℤ y) e f in
    let k2 = simp whole.ring at k1 in
    simp whole.ring (omega (arith, ints))

pub ratio-* : (a : ℤ) (b : ℕ) (c : ℤ) (d : ℕ) → 0 < b → 0 < d → ratio a b *ʳ ratio c d ≡ ratio (a *ℤ c) (b * d)
unfolding ◌*ʳ◌
ratio-* a b c d p q = ratio_same _ _ _ _ (mul-pos (ratio a b).positive (ratio c d).positive) (mul-pos p q) (cross_product (ratio a b).num (pos (ratio a b).den) (ratio c d).num (pos (ratio c d).den) a (pos b) c (pos d) (ratio_cross a b p) (ratio_cross c d q))

cross_neg : (m n a b : ℤ) → m *ℤ b ≡ a *ℤ n → neg_ℤ m *ℤ b ≡ neg_ℤ a *ℤ n
cross_neg m n a b e = rw (neg-*ℤ m b, neg-*ℤ a n, e)

pub ratio-neg : (a : ℤ) (b : ℕ) → 0 < b → negʳ (ratio a b) ≡ ratio (neg_ℤ a) b
unfolding negʳ
ratio-neg a b p = ratio_same _ _ _ _ (ratio a b).positive p (cross_neg (ratio a b).num (pos (ratio a b).den) a (pos b) (ratio_cross a b p))

difference_num : (a b c d : ℤ) → a *ℤ d +ℤ neg_ℤ c *ℤ b ≡ a *ℤ d -ℤ c *ℤ b
difference_num a b c d = rw (neg-*ℤ c b) (omega (arith, ints))

pub ratio-- : (a : ℤ) (b : ℕ) (c : ℤ) (d : ℕ) → 0 < b → 0 < d → ratio a b -ʳ ratio c d ≡ ratio (a *ℤ pos d -ℤ c *ℤ pos b) (b * d)
unfolding ◌-ʳ◌
ratio-- a b c d p q = ap (λ z. ratio a b +ʳ z) (ratio-neg c d q) ∙ ratio-+ a b (neg_ℤ c) d p q ∙ ap (λ n. ratio n (b * d)) (difference_num a (pos b) c (pos d))

pub difference_parts : (x y : Rational) → x -ʳ y ≡ ratio (x.num *ℤ pos y.den -ℤ y.num *ℤ pos x.den) (x.den * y.den)
difference_parts x y = ap₂ (λ u v. u -ʳ v) (sym (ratio_parts x)) (sym (ratio_parts y)) ∙ ratio-- x.num x.den y.num y.den x.positive y.positive

sum_comm : (a b c d : ℤ) → (a *ℤ d +ℤ c *ℤ b) *ℤ (d *ℤ b) ≡ (c *ℤ b +ℤ a *ℤ d) *ℤ (b *ℤ d)
sum_comm a b c d = simp whole.ring

pub +ʳ_comm : (x y : Rational) → x +ʳ y ≡ y +ʳ x
unfolding ◌+ʳ◌
+ʳ_comm x y = ratio_same _ _ _ _ (mul-pos x.positive y.positive) (mul-pos y.positive x.positive) (sum_comm x.num (pos x.den) y.num (pos y.den))

sum_assoc : (a b c d e f : ℤ) → ((a *ℤ d +ℤ c *ℤ b) *ℤ f +ℤ e *ℤ (b *ℤ d)) *ℤ (b *ℤ (d *ℤ f)) ≡ (a *ℤ (d *ℤ f) +ℤ (c *ℤ f +ℤ e *ℤ d) *ℤ b) *ℤ ((b *ℤ d) *ℤ f)
sum_assoc a b c d e f = simp whole.ring

pub +ʳ_assoc : (x y z : Rational) → (x +ʳ y) +ʳ z ≡ x +ʳ (y +ʳ z)
+ʳ_assoc x y z = each_ratio (λ x. (x +ʳ y) +ʳ z ≡ x +ʳ (y +ʳ z)) (λ a b p. each_ratio (λ y. (ratio a b +ʳ y) +ʳ z ≡ ratio a b +ʳ (y +ʳ z)) (λ c d q. each_ratio (λ z. (ratio a b +ʳ ratio c d) +ʳ z ≡ ratio a b +ʳ (ratio c d +ʳ z)) (λ e f r.
    simp (ratio-+, mul-pos) (ratio_same _ _ _ _ (mul-pos (mul-pos p q) r) (mul-pos p (mul-pos q r)) (sum_assoc a (pos b) c (pos d) e (pos f)))) z) y) x

product_comm : (a b c d : ℤ) → (a *ℤ c) *ℤ (d *ℤ b) ≡ (c *ℤ a) *ℤ (b *ℤ d)
product_comm a b c d = simp whole.ring

pub *ʳ_comm : (x y : Rational) → x *ʳ y ≡ y *ʳ x
unfolding ◌*ʳ◌
*ʳ_comm x y = ratio_same _ _ _ _ (mul-pos x.positive y.positive) (mul-pos y.positive x.positive) (product_comm x.num (pos x.den) y.num (pos y.den))

product_assoc : (a b c d e f : ℤ) → ((a *ℤ c) *ℤ e) *ℤ (b *ℤ (d *ℤ f)) ≡ (a *ℤ (c *ℤ e)) *ℤ ((b *ℤ d) *ℤ f)
product_assoc a b c d e f = simp whole.ring

pub *ʳ_assoc : (x y z : Rational) → (x *ʳ y) *ʳ z ≡ x *ʳ (y *ʳ z)
*ʳ_assoc x y z = each_ratio (λ x. (x *ʳ y) *ʳ z ≡ x *ʳ (y *ʳ z)) (λ a b p. each_ratio (λ y. (ratio a b *ʳ y) *ʳ z ≡ ratio a b *ʳ (y *ʳ z)) (λ c d q. each_ratio (λ z. (ratio a b *ʳ ratio c d) *ʳ z ≡ ratio a b *ʳ (ratio c d *ʳ z)) (λ e f r.
    simp (ratio-*, mul-pos) (ratio_same _ _ _ _ (mul-pos (mul-pos p q) r) (mul-pos p (mul-pos q r)) (product_assoc a (pos b) c (pos d) e (pos f)))) z) y) x

spread : (a b c d e f : ℤ) → (a *ℤ (c *ℤ f +ℤ e *ℤ d)) *ℤ ((b *ℤ d) *ℤ (b *ℤ f)) ≡ ((a *ℤ c) *ℤ (b *ℤ f) +ℤ (a *ℤ e) *ℤ (b *ℤ d)) *ℤ (b *ℤ (d *ℤ f))
spread a b c d e f = simp whole.ring

pub *ʳ-+ʳ : (x y z : Rational) → x *ʳ (y +ʳ z) ≡ (x *ʳ y) +ʳ (x *ʳ z)
*ʳ-+ʳ x y z = each_ratio (λ x. x *ʳ (y +ʳ z) ≡ (x *ʳ y) +ʳ (x *ʳ z)) (λ a b p. each_ratio (λ y. ratio a b *ʳ (y +ʳ z) ≡ (ratio a b *ʳ y) +ʳ (ratio a b *ʳ z)) (λ c d q. each_ratio (λ z. ratio a b *ʳ (ratio c d +ʳ z) ≡ (ratio a b *ʳ ratio c d) +ʳ (ratio a b *ʳ z)) (λ e f r.
    simp (ratio-*, ratio-+, mul-pos) (ratio_same _ _ _ _ (mul-pos p (mul-pos q r)) (mul-pos (mul-pos p q) (mul-pos p r)) (spread a (pos b) c (pos d) e (pos f)))) z) y) x

pub +ʳ-*ʳ : (x y z : Rational) → (x +ʳ y) *ʳ z ≡ (x *ʳ z) +ʳ (y *ʳ z)
+ʳ-*ʳ x y z = rw (*ʳ_comm (x +ʳ y) z, *ʳ-+ʳ z x y, *ʳ_comm z x, *ʳ_comm z y)

pub +ʳ_left_comm : (x y z : Rational) → x +ʳ (y +ʳ z) ≡ y +ʳ (x +ʳ z)
+ʳ_left_comm x y z = rw (← +ʳ_assoc x y z, +ʳ_comm x y, +ʳ_assoc)

pub *ʳ_left_comm : (x y z : Rational) → x *ʳ (y *ʳ z) ≡ y *ʳ (x *ʳ z)
*ʳ_left_comm x y z = rw (← *ʳ_assoc x y z, *ʳ_comm x y, *ʳ_assoc)

zero_left : (a b : ℤ) → (pos 0 *ℤ b +ℤ a *ℤ pos 1) *ℤ b ≡ a *ℤ (pos 1 *ℤ b)
zero_left a b = rw (zero_times b, *ℤ-one a, one-*ℤ b, zero-+ℤ a)

one_left : (a b : ℤ) → (pos 1 *ℤ a) *ℤ b ≡ a *ℤ (pos 1 *ℤ b)
one_left a b = rw (one-*ℤ a, one-*ℤ b)

pub zero-+ʳ : (x : Rational) → zeroʳ +ʳ x ≡ x
unfolding zeroʳ
zero-+ʳ x = each_ratio (λ x. ratio (pos 0) 1 +ʳ x ≡ x) (λ a b p. ratio-+ (pos 0) 1 a b (omega arith) p ∙ ratio_same _ _ _ _ (mul-pos (omega arith) p) p (zero_left a (pos b))) x

pub zero-*ʳ : (x : Rational) → zeroʳ *ʳ x ≡ zeroʳ
unfolding zeroʳ
zero-*ʳ x = each_ratio (λ x. ratio (pos 0) 1 *ʳ x ≡ ratio (pos 0) 1) (λ a b p. ratio-* (pos 0) 1 a b (omega arith) p ∙ ratio_same _ _ _ _ (mul-pos (omega arith) p) (omega arith) (omega (arith, ints))) x

pub one-*ʳ : (x : Rational) → oneʳ *ʳ x ≡ x
unfolding oneʳ
one-*ʳ x = each_ratio (λ x. ratio (pos 1) 1 *ʳ x ≡ x) (λ a b p. ratio-* (pos 1) 1 a b (omega arith) p ∙ ratio_same _ _ _ _ (mul-pos (omega arith) p) p (one_left a (pos b))) x

pub +ʳ-zero : (x : Rational) → x +ʳ zeroʳ ≡ x
+ʳ-zero x = +ʳ_comm x zeroʳ ∙ zero-+ʳ x

pub *ʳ-zero : (x : Rational) → x *ʳ zeroʳ ≡ zeroʳ
*ʳ-zero x = *ʳ_comm x zeroʳ ∙ zero-*ʳ x

pub *ʳ-one : (x : Rational) → x *ʳ oneʳ ≡ x
*ʳ-one x = *ʳ_comm x oneʳ ∙ one-*ʳ x

pub ruleset ring = (zero-+ʳ, +ʳ-zero, zero-*ʳ, *ʳ-zero, one-*ʳ, *ʳ-one, *ʳ-+ʳ, +ʳ-*ʳ, *ʳ_assoc, *ʳ_comm, *ʳ_left_comm, +ʳ_assoc, +ʳ_comm, +ʳ_left_comm)

-- ---- Order

cross_le : (m n m' n' a b c d : ℤ) (k l : ℕ) → 0 < k → 0 < l → m *ℤ b ≡ a *ℤ n → m' *ℤ d ≡ c *ℤ n' → pos k ≡ b *ℤ d → pos l ≡ n *ℤ n' → (a *ℤ d) ≤ℤ (c *ℤ b) → (m *ℤ n') ≤ℤ (m' *ℤ n)
cross_le m n m' n' a b c d k l p q e f u v h = ≤ℤ-cancel _ _ k p (let h1 = simp whole.ring at (≤ℤ-scale _ _ l h) in let k1 = simp whole.ring at (ap (λ x. x *ℤ (n' *ℤ d)) e) in let k2 = simp whole.ring at (ap (λ x. x *ℤ (n *ℤ b)) f) in rw u (let h2 = simp (v, whole.ring) at h1 in simp whole.ring (omega (arith, ints))))

pub leq_ratio : (a : ℤ) (b : ℕ) (c : ℤ) (d : ℕ) → 0 < b → 0 < d → leqʳ (ratio a b) (ratio c d) ≡ le_z (a *ℤ pos d) (c *ℤ pos b)
unfolding leqʳ
leq_ratio a b c d p q = same_test _ _ _ _
    (λ h. cross_le a (pos b) c (pos d) (ratio a b).num (pos (ratio a b).den) (ratio c d).num (pos (ratio c d).den) ((ratio a b).den * (ratio c d).den) (b * d) (mul-pos (ratio a b).positive (ratio c d).positive) (mul-pos p q) (sym (ratio_cross a b p)) (sym (ratio_cross c d q)) refl refl h)
    (λ h. cross_le _ _ _ _ a (pos b) c (pos d) (b * d) ((ratio a b).den * (ratio c d).den) (mul-pos p q) (mul-pos (ratio a b).positive (ratio c d).positive) (ratio_cross a b p) (ratio_cross c d q) refl refl h)

pub cross_order : (x y : Rational) → x ≤ʳ y → (x.num *ℤ pos y.den) ≤ℤ (y.num *ℤ pos x.den)
unfolding leqʳ
cross_order x y h = test_le _ _ h.holds

pub order_cross : (x y : Rational) → (x.num *ℤ pos y.den) ≤ℤ (y.num *ℤ pos x.den) → x ≤ʳ y
unfolding leqʳ
order_cross x y h = record { holds = le_test _ _ h }

pub ratio-≤ : (a : ℤ) (b : ℕ) (c : ℤ) (d : ℕ) → 0 < b → 0 < d → (a *ℤ pos d) ≤ℤ (c *ℤ pos b) → ratio a b ≤ʳ ratio c d
ratio-≤ a b c d p q h = record { holds = leq_ratio a b c d p q ∙ le_test _ _ h }

pub ratio-≤_out : (a : ℤ) (b : ℕ) (c : ℤ) (d : ℕ) → 0 < b → 0 < d → ratio a b ≤ʳ ratio c d → (a *ℤ pos d) ≤ℤ (c *ℤ pos b)
ratio-≤_out a b c d p q h = test_le _ _ (sym (leq_ratio a b c d p q) ∙ h.holds)

pub ≤ʳ_refl : (x : Rational) → x ≤ʳ x
≤ʳ_refl x = order_cross x x (omega (arith, ints))

pub ratio_equal_cross : (a : ℤ) (b : ℕ) (c : ℤ) (d : ℕ) → 0 < b → 0 < d → ratio a b ≡ ratio c d → a *ℤ pos d ≡ c *ℤ pos b
ratio_equal_cross a b c d p q e =
    let h = ratio-≤_out a b c d p q (subst (λ z. ratio a b ≤ʳ z) e (≤ʳ_refl (ratio a b))) in
    let k = ratio-≤_out c d a b q p (subst (λ z. z ≤ʳ ratio a b) e (≤ʳ_refl (ratio a b))) in
    omega (arith, ints)

pub ≤ʳ_trans : (x y z : Rational) → x ≤ʳ y → y ≤ʳ z → x ≤ʳ z
≤ʳ_trans x y z h k = order_cross x z (≤ℤ-cancel _ _ y.den y.positive (let h1 = simp whole.ring at (≤ℤ-scale _ _ z.den (cross_order x y h)) in let k1 = simp whole.ring at (≤ℤ-scale _ _ x.den (cross_order y z k)) in simp whole.ring (omega (arith, ints))))

pub ≤ʳ_antisym : (x y : Rational) → x ≤ʳ y → y ≤ʳ x → x ≡ y
≤ʳ_antisym x y h k = same_cross x y (omega (arith, ints, cross_order x y h, cross_order y x k))

pub ≤ʳ_total : (x y : Rational) → (x ≤ʳ y) ⊎ (y ≤ʳ x)
≤ʳ_total x y = by_lt_z (x.num *ℤ pos y.den) (y.num *ℤ pos x.den) (λ h. inl (order_cross x y (omega (arith, ints, h)))) (λ h. inr (order_cross y x h))

sum_le : (a b c d a' b' c' d' : ℤ) → ((a *ℤ b') *ℤ (d *ℤ d')) ≤ℤ ((a' *ℤ b) *ℤ (d *ℤ d')) → ((c *ℤ d') *ℤ (b *ℤ b')) ≤ℤ ((c' *ℤ d) *ℤ (b *ℤ b')) → ((a *ℤ d +ℤ c *ℤ b) *ℤ (b' *ℤ d')) ≤ℤ ((a' *ℤ d' +ℤ c' *ℤ b') *ℤ (b *ℤ d))
sum_le a b c d a' b' c' d' h k = let h1 = simp whole.ring at h in let k1 = simp whole.ring at k in simp whole.ring (omega (arith, ints))

pub +ʳ_mono : (x x' y y' : Rational) → x ≤ʳ x' → y ≤ʳ y' → x +ʳ y ≤ʳ x' +ʳ y'
unfolding ◌+ʳ◌
+ʳ_mono x x' y y' h k = ratio-≤ _ _ _ _ (mul-pos x.positive y.positive) (mul-pos x'.positive y'.positive) (sum_le x.num (pos x.den) y.num (pos y.den) x'.num (pos x'.den) y'.num (pos y'.den) (≤ℤ-scale _ _ (y.den * y'.den) (cross_order x x' h)) (≤ℤ-scale _ _ (x.den * x'.den) (cross_order y y' k)))

pub ratio_nonnegative : (a : ℤ) (b : ℕ) → 0 < b → pos 0 ≤ℤ a → zeroʳ ≤ʳ ratio a b
unfolding zeroʳ
ratio_nonnegative a b p h = ratio-≤ (pos 0) 1 a b (omega arith) p (omega (arith, ints))

pub nonnegative_num : (x : Rational) → zeroʳ ≤ʳ x → pos 0 ≤ℤ x.num
unfolding zeroʳ
nonnegative_num x h = let k : (pos 0 *ℤ pos x.den) ≤ℤ (x.num *ℤ pos 1) = ratio-≤_out (pos 0) 1 x.num x.den (omega arith) x.positive (subst (λ y. ratio (pos 0) 1 ≤ʳ y) (sym (ratio_parts x)) h) in omega (arith, ints)

scale_le : (w e t a b c d : ℤ) → t ≡ w *ℤ e → ((a *ℤ d) *ℤ t) ≤ℤ ((c *ℤ b) *ℤ t) → ((w *ℤ a) *ℤ (e *ℤ d)) ≤ℤ ((w *ℤ c) *ℤ (e *ℤ b))
scale_le w e t a b c d l h = let k = simp (l, whole.ring) at h in simp whole.ring (omega (arith, ints))

scaled_le : (w : ℤ) (a b c d : ℤ) (e : ℕ) → pos 0 ≤ℤ w → (a *ℤ d) ≤ℤ (c *ℤ b) → ((w *ℤ a) *ℤ (pos e *ℤ d)) ≤ℤ ((w *ℤ c) *ℤ (pos e *ℤ b))
scaled_le (pos w) a b c d e p h = scale_le (pos w) (pos e) (pos (w * e)) a b c d refl (≤ℤ-scale _ _ (w * e) h)
scaled_le (negsuc w) a b c d e p h = absurd (omega (arith, ints))

pub *ʳ_mono : (w x y : Rational) → zeroʳ ≤ʳ w → x ≤ʳ y → w *ʳ x ≤ʳ w *ʳ y
unfolding ◌*ʳ◌
*ʳ_mono w x y p h = ratio-≤ _ _ _ _ (mul-pos w.positive x.positive) (mul-pos w.positive y.positive) (scaled_le w.num x.num (pos x.den) y.num (pos y.den) w.den (nonnegative_num w p) (cross_order x y h))

pub *ʳ_mono_right : (w x y : Rational) → zeroʳ ≤ʳ w → x ≤ʳ y → x *ʳ w ≤ʳ y *ʳ w
*ʳ_mono_right w x y p h = rw (*ʳ_comm x w, *ʳ_comm y w) (*ʳ_mono w x y p h)

pub +ʳ_nonnegative : (x y : Rational) → zeroʳ ≤ʳ x → zeroʳ ≤ʳ y → zeroʳ ≤ʳ x +ʳ y
+ʳ_nonnegative x y p q = subst (λ z. z ≤ʳ x +ʳ y) (zero-+ʳ zeroʳ) (+ʳ_mono zeroʳ x zeroʳ y p q)

pub *ʳ_nonnegative : (x y : Rational) → zeroʳ ≤ʳ x → zeroʳ ≤ʳ y → zeroʳ ≤ʳ x *ʳ y
*ʳ_nonnegative x y p q = subst (λ z. z ≤ʳ x *ʳ y) (*ʳ-zero x) (*ʳ_mono x zeroʳ y p q)

pub zero-≤ʳ-one : zeroʳ ≤ʳ oneʳ
unfolding oneʳ
zero-≤ʳ-one = ratio_nonnegative (pos 1) 1 (omega arith) (omega (arith, ints))

pub ≤ʳ-+ʳ : (x y : Rational) → zeroʳ ≤ʳ y → x ≤ʳ x +ʳ y
≤ʳ-+ʳ x y p = subst (λ z. z ≤ʳ x +ʳ y) (+ʳ-zero x) (+ʳ_mono x x zeroʳ y (≤ʳ_refl x) p)

pub ≤ʳ-+ʳ_left : (x y : Rational) → zeroʳ ≤ʳ y → x ≤ʳ y +ʳ x
≤ʳ-+ʳ_left x y p = subst (λ z. x ≤ʳ z) (+ʳ_comm x y) (≤ʳ-+ʳ x y p)

pub ruleset order = (≤ʳ_refl, zero-≤ʳ-one, +ʳ_nonnegative, *ʳ_nonnegative, ≤ʳ-+ʳ, ≤ʳ-+ʳ_left, +ʳ_mono, *ʳ_mono, *ʳ_mono_right, ≤ʳ_trans)
