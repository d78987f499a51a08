-- The factor that makes coefficients integers, term by term from the last one.
use Rattle.std.proofs.Common.{◌≡◌, ℕ, length, ◌==◌, ◌+◌, ◌*◌, ◌/◌, ◌<◌, ◌≤◌, ◌^◌, [], ◌∷◌, refl, sym, ap, ap₂, ◌∙◌, arith, lit<, subst, Bool, true, false, ◌&&◌, ◌||◌, to_z, of_z, FitsSigned}
use Rattle.std.specs.Prelude.{ℤ, pos, negsuc, ◌*ℤ◌, ◌<ℤ◌, neg_ℤ, unsigned_abs, Some, None}
use borrow.Author.Differences.{ints}
use Prim.Native.Nat.{zero, suc, ◌∣◌}
use Rattle.std.proofs.Math.Nat.{mul-pos, div-mul_cancel, mul-div_cancel, pos_of_dvd_of_pos, eq_of_mul-eq-mul_right, eq-one_of_dvd-one, one-mul, zero-lt-suc}
use Rattle.std.proofs.lemmas.Int.{unsigned_abs-mul}
use Rattle.heyvl_num.specs.Gcd.{gcd}
use Rattle.heyvl_num.specs.GcdLaws.{gcd-is, gcd-mul, gcd-zero, quotient_num, quotient_den}
use Rattle.heyvl_num.specs.Rational.{Rational, ratio, ◌*ʳ◌}
use Rattle.heyvl_num.specs.RationalParts.{ratio_num-lowest}
use Rattle.heyvl_num.specs.Rounding.{whole}
use Rattle.heyvl_num.specs.Exact.{quotient, exact_quotient, quotient_fits}
use Rattle.heyvl_num.proofs.exported.Integers.{*ℤ-one, *ℤ-neg, neg-*ℤ, *ℤ_assoc}
use Rattle.std.specs.Int.{w128}
use Rattle.std.proofs.lemmas.Nat.{mul-lt}
use Rattle.linear_rows.proofs.exported.Narrow.{small, num_less, den_less, seen}
use Rattle.heyvl_num.specs.Value.{is_zeroʳ, is_zero_num}
use Rattle.heyvl_num.proofs.exported.Rationals.{ratio_parts, ratio_den, ratio_same, ratio-*, *ʳ_assoc, ratio_equal_cross}
use Rattle.linear_values.specs.Lin.{Terms, AreNormal}
use Rattle.linear_rows.specs.Numbers.{fits}
use Rattle.linear_values.specs.Nonzero.{AreNonzero}
use Rattle.linear_rows.specs.Terms.{is_narrow}
use Rattle.heyvl_num.proofs.exported.Values.{is_zero-*, is_zero-one}
use Rattle.linear_rows.specs.TermResults.{are_narrow}
use Rattle.linear_values.specs.Tightening.{sign_of, common_multiple, common_divisor, factor, whole_terms}
use Rattle.linear_values.specs.WholeTimes.{AreWholeTimes}
use Rattle.linear_values.specs.Operator.{small_product, narrow_value}
use Rattle.linear_values.proofs.Products.{product_none, product_some}
use Rattle.linear_values.proofs.TightRows.{whole-*, Denominators, multiple_positive, lcm_left, lcm_right, common_denominators, divisor_positive, factor_whole, factor_positive, IsPositive, abs_positive, whole_back, product_whole, cleared}

-- ---- A common divisor of multiples

multiple_quotient : (k m d : ℕ) → 0 < d → d ∣ m → (k * m) / d ≡ k * (m / d)
multiple_quotient k m d p h = ap (λ n. (k * n) / d) (sym (div-mul_cancel d h)) ∙ ap (λ n. n / d) (grouped k (m / d) d) ∙ mul-div_cancel (k * (m / d)) p
  where
    grouped : (k q d : ℕ) → k * (q * d) ≡ k * q * d
    grouped k q d = omega arith

divisor_scaled : (k m : ℕ) (ts : Terms) → 0 < k → Denominators m ts → common_divisor (k * m) ts ≡ common_divisor m ts * k
unfolding common_divisor
divisor_scaled k m [] p h = omega arith
divisor_scaled k m (t ∷ ts) p h = ap₂ gcd (ap (λ n. unsigned_abs t.1.num * n) (multiple_quotient k m t.1.den t.1.positive h.0) ∙ turned (unsigned_abs t.1.num) k (m / t.1.den)) (divisor_scaled k m ts p h.1) ∙ gcd-mul (unsigned_abs t.1.num * (m / t.1.den)) (common_divisor m ts) k p
  where
    turned : (n k q : ℕ) → n * (k * q) ≡ n * q * k
    turned n k q = omega arith

-- ---- The factor of one more term

-- The new multiple and the new divisor times e, the greatest common divisor of d and m.
new_multiple : (t : ℕ × Rational) (ts : Terms) → common_multiple (t ∷ ts) * gcd t.1.den (common_multiple ts) ≡ t.1.den * common_multiple ts
unfolding common_multiple
new_multiple t ts = let d = t.1.den in let m = common_multiple ts in ap (λ n. n * gcd d m) (lcm_right d m (multiple_positive ts)) ∙ turned (d / gcd d m) m (gcd d m) ∙ ap (λ n. n * m) (quotient_num d m)
  where
    turned : (q m g : ℕ) → q * m * g ≡ q * g * m
    turned q m g = omega arith

new_divisor : (t : ℕ × Rational) (ts : Terms) → common_divisor (common_multiple (t ∷ ts)) (t ∷ ts) * gcd t.1.den (common_multiple ts) ≡ gcd (unsigned_abs t.1.num * common_multiple ts) (common_divisor (common_multiple ts) ts * t.1.den)
unfolding common_multiple common_divisor
new_divisor t ts =
    let d = t.1.den in
    let m = common_multiple ts in
    let e = gcd d m in
    let p = multiple_positive ts in
    let q : 0 < e = pos_of_dvd_of_pos (gcd-is d m).1 p in
    let k : d / e * e ≡ d = quotient_num d m in
    let j : m / e * e ≡ m = quotient_den d m in
    let r : 0 < d / e = positive_left (d / e) e (subst (λ n. 0 < n) (sym k) t.1.positive) in
    let x : (d * m / e) / d ≡ m / e = ap (λ n. n / d) (lcm_left d m p ∙ flipped d (m / e)) ∙ mul-div_cancel (m / e) t.1.positive in
    let y : common_divisor (d * m / e) ts ≡ common_divisor m ts * (d / e) = ap (λ n. common_divisor n ts) (lcm_right d m p) ∙ divisor_scaled (d / e) m ts r (common_denominators ts) in
    ap (λ n. n * e) (ap₂ (λ a b. gcd (unsigned_abs t.1.num * a) b) x y)
    ∙ sym (gcd-mul (unsigned_abs t.1.num * (m / e)) (common_divisor m ts * (d / e)) e q)
    ∙ ap₂ gcd (grouped (unsigned_abs t.1.num) (m / e) e ∙ ap (λ n. unsigned_abs t.1.num * n) j) (grouped (common_divisor m ts) (d / e) e ∙ ap (λ n. common_divisor m ts * n) k)
  where
    flipped : (a b : ℕ) → a * b ≡ b * a
    flipped a b = omega arith

    grouped : (a b c : ℕ) → a * b * c ≡ a * (b * c)
    grouped a b c = omega arith

    positive_left : (a b : ℕ) → 0 < a * b → 0 < a
    positive_left zero b h = absurd (let z : 0 * b ≡ 0 = omega arith in omega (arith, z))
    positive_left (suc a) b h = omega arith

factor_cross : (x d m g h e : ℕ) → 0 < e → (y z : ℕ) → x * e ≡ d * m → y * e ≡ h → z * h ≡ g * d → x * g ≡ z * m * y
factor_cross x d m g h e p y z r s k = cancel (x * g) (z * m * y) e p (let u = ap (λ n. n * g) r in let v = ap (λ n. n * (z * m)) s in let w = ap (λ n. n * m) k in omega (arith, u, v, w))
  where
    cancel : (a b e : ℕ) → 0 < e → a * e ≡ b * e → a ≡ b
    cancel a b e p h = eq_of_mul-eq-mul_right e p a b h

pub factor_step : (t u : ℕ × Rational) (us : Terms) → AreNonzero (t ∷ u ∷ us) → factor (t ∷ u ∷ us) ≡ ratio (pos (factor (u ∷ us) *ʳ t.1).den) 1 *ʳ factor (u ∷ us)
unfolding factor
factor_step t u us n =
    let ts = u ∷ us in
    let m = common_multiple ts in
    let g = common_divisor m ts in
    let w = ratio (pos m) g in
    let p = multiple_positive ts in
    let q : 0 < g = divisor_positive m u us p n.1.0 (common_denominators ts).0 in
    let h = gcd (unsigned_abs t.1.num * m) (g * t.1.den) in
    let e = gcd t.1.den m in
    let b = (w *ʳ t.1).den in
    let f : 0 < e = pos_of_dvd_of_pos (gcd-is t.1.den m).1 p in
    let k : b * h ≡ g * t.1.den = product_den m g t.1 q in
    ratio_same _ _ _ _ (divisor_positive (common_multiple (t ∷ ts)) t ts (multiple_positive (t ∷ ts)) n.0 (common_denominators (t ∷ ts)).0) (mul-pos (lit< tt) q) (crossed (common_multiple (t ∷ ts)) g b m (common_divisor (common_multiple (t ∷ ts)) (t ∷ ts)) (factor_cross (common_multiple (t ∷ ts)) t.1.den m g h e f (common_divisor (common_multiple (t ∷ ts)) (t ∷ ts)) b (new_multiple t ts) (new_divisor t ts) k))
    ∙ sym (ratio-* (pos b) 1 (pos m) g (lit< tt) q)
  where
    crossed : (x g b m y : ℕ) → x * g ≡ b * m * y → pos x *ℤ pos (1 * g) ≡ (pos b *ℤ pos m) *ℤ pos y
    crossed x g b m y h = omega (arith, ints, h)

    flipped : (a b : ℕ) → a * b ≡ b * a
    flipped a b = omega arith

    product_den : (m g : ℕ) (x : Rational) → 0 < g → (ratio (pos m) g *ʳ x).den * gcd (unsigned_abs x.num * m) (g * x.den) ≡ g * x.den
    product_den m g x q = ap (λ (n : ℕ). n * gcd (unsigned_abs x.num * m) (g * x.den)) (ap (λ (y : Rational). (ratio (pos m) g *ʳ y).den) (sym (ratio_parts x)) ∙ ap (λ (y : Rational). y.den) (ratio-* (pos m) g x.num x.den q x.positive) ∙ ratio_den (pos m *ℤ x.num) (g * x.den) (mul-pos q x.positive) ∙ ap (λ n. g * x.den / gcd n (g * x.den)) (unsigned_abs-mul (pos m) x.num ∙ flipped m (unsigned_abs x.num))) ∙ quotient_den (unsigned_abs x.num * m) (g * x.den)

-- ---- Integers

pub whole_num : (k : ℤ) → (whole k).num ≡ k
unfolding whole
whole_num k = ratio_num-lowest k 1 (lit< tt) (gcd_one (unsigned_abs k))
  where
    gcd_one : (n : ℕ) → gcd n 1 ≡ 1
    gcd_one n = eq-one_of_dvd-one (gcd-is n 1).1

pub quotient_is : (k : ℤ) (x w : Rational) → is_zeroʳ x ≡ false → w *ʳ x ≡ whole k → quotient (k *ℤ pos x.den) x.num ≡ w
unfolding quotient whole is_zeroʳ
quotient_is k x w n e = go x.num n (ratio_equal_cross (w.num *ℤ x.num) (w.den * x.den) k 1 (mul-pos w.positive x.positive) (lit< tt) (sym (ratio-* w.num w.den x.num x.den w.positive x.positive) ∙ ap₂ (λ a b. a *ʳ b) (ratio_parts w) (ratio_parts x) ∙ e))
  where
    up : (k a z : ℤ) (d f : ℕ) → (a *ℤ z) *ℤ pos 1 ≡ k *ℤ pos (f * d) → (k *ℤ pos d) *ℤ pos f ≡ a *ℤ z
    up k a z d f h = *ℤ_assoc k (pos d) (pos f) ∙ ap (λ n. k *ℤ pos n) (flipped d f) ∙ sym h ∙ *ℤ-one (a *ℤ z)
      where
        flipped : (a b : ℕ) → a * b ≡ b * a
        flipped a b = omega arith

    down : (a : ℤ) (m : ℕ) → a *ℤ negsuc m ≡ neg_ℤ (a *ℤ pos (suc m))
    down a m = *ℤ-neg a (pos (suc m))

    twice : (c : ℤ) → neg_ℤ (neg_ℤ c) ≡ c
    twice c = omega (arith, ints)

    minus : (a b c : ℤ) → a *ℤ b ≡ neg_ℤ c → neg_ℤ a *ℤ b ≡ c
    minus a b c h = neg-*ℤ a b ∙ ap neg_ℤ h ∙ twice c

    go : (z : ℤ) → is_zero_num z ≡ false → (w.num *ℤ z) *ℤ pos 1 ≡ k *ℤ pos (w.den * x.den) → quotient (k *ℤ pos x.den) z ≡ w
    go (pos zero) n h = absurd (cc)
    go (pos (suc m)) n h = ratio_same (k *ℤ pos x.den) (suc m) w.num w.den (zero-lt-suc m) w.positive (up k w.num (pos (suc m)) x.den w.den h) ∙ ratio_parts w
    go (negsuc m) n h = ratio_same (neg_ℤ (k *ℤ pos x.den)) (suc m) w.num w.den (zero-lt-suc m) w.positive (minus (k *ℤ pos x.den) (pos w.den) (w.num *ℤ pos (suc m)) (up k w.num (negsuc m) x.den w.den h ∙ down w.num m)) ∙ ratio_parts w

same_bits : (k n : ℤ) → FitsSigned w128 k → FitsSigned w128 n → of_z w128 k ≡ of_z w128 n → k ≡ n
same_bits k n f g e = omega (arith, ints)

pub own_quotient : (k n : ℤ) (x w q : Rational) → FitsSigned w128 k → FitsSigned w128 n → n ≡ x.num → of_z w128 k ≡ of_z w128 n → q ≡ whole (pos x.den) → is_zeroʳ x ≡ false → w *ʳ x ≡ whole k → q ≡ w
unfolding whole
own_quotient k n x w q f g e b d z h = d ∙ sym (quotient_is k x (whole (pos x.den)) z (sym (cleared x) ∙ ap whole (sym e ∙ sym (same_bits k n f g b)))) ∙ quotient_is k x w z h

-- ---- Sizes

wide_product : (k e : ℤ) → unsigned_abs k < 2 ^ 62 → unsigned_abs e < 2 ^ 62 → unsigned_abs (k *ℤ e) < 2 ^ 124
wide_product k e h g = subst (λ (n : ℕ). n < 2 ^ 124) (sym (unsigned_abs-mul k e)) (let m = mul-lt (unsigned_abs k) (unsigned_abs e) (2 ^ 62) (2 ^ 62) h g in omega arith)

pub product_in_range : (k e k' e' : ℤ) → k' ≡ k → e' ≡ e → unsigned_abs k < 2 ^ 62 → unsigned_abs e < 2 ^ 62 → FitsSigned w128 (k' *ℤ e')
product_in_range k e k' e' p q h g = rw (p, q) (in_range (k *ℤ e) (wide_product k e h g))
  where
    in_range : (a : ℤ) → unsigned_abs a < 2 ^ 124 → FitsSigned w128 a
    in_range a h = omega (arith, ints)

the_quotient : (k k' n' : ℤ) (x : Rational) → k' ≡ k *ℤ pos x.den → n' ≡ x.num → unsigned_abs k < 2 ^ 62 → fits x ≡ true → is_zeroʳ x ≡ false → exact_quotient k' n' ≡ Some (quotient (k *ℤ pos x.den) x.num)
unfolding exact_quotient quotient_fits is_zeroʳ
the_quotient k k' n' x p q h f z = rw (p, q, z, small (k *ℤ pos x.den) (let m = wide_product k (pos x.den) h (den_less x f) in omega arith), small x.num (let m = num_less x f in omega arith))

pub quotient_found : (k b d : ℤ) (x : Rational) → FitsSigned w128 k → FitsSigned w128 b → FitsSigned w128 d → b ≡ pos x.den → d ≡ x.num → unsigned_abs k < 2 ^ 62 → fits x ≡ true → is_zeroʳ x ≡ false → exact_quotient (to_z w128 (of_z w128 (to_z w128 (of_z w128 k) *ℤ to_z w128 (of_z w128 b)))) (to_z w128 (of_z w128 d)) ≡ Some (quotient (k *ℤ pos x.den) x.num)
quotient_found k b d x f g r p q h n z = let u = seen k k refl f in let v = seen b (pos x.den) p g in the_quotient k _ _ x (seen _ _ (ap₂ (λ a b. a *ℤ b) u v) (product_in_range k (pos x.den) _ _ u v h (den_less x n))) (seen d x.num q r) h n z

-- ---- Each term times the factor

entry : (b : ℕ) (w x : Rational) → (w *ʳ x).den ≡ 1 → ((ratio (pos b) 1 *ʳ w) *ʳ x).num ≡ pos b *ℤ (w *ʳ x).num
entry b w x e = ap (λ (r : Rational). r.num) (*ʳ_assoc (ratio (pos b) 1) w x ∙ ap (λ y. ratio (pos b) 1 *ʳ y) (sym (whole_back (w *ʳ x) e)) ∙ product_whole b (w *ʳ x).num) ∙ whole_num (pos b *ℤ (w *ʳ x).num)

wide_of : (z : ℤ) → is_narrow z ≡ false → 2 ^ 62 ≤ unsigned_abs z
wide_of z h = grind arith

not_narrow : (z : ℤ) → 2 ^ 62 ≤ unsigned_abs z → is_narrow z ≡ false
not_narrow z h = grind arith

at_least : (a b : ℕ) → 0 < a → b ≤ a * b
at_least zero b h = absurd (omega arith)
at_least (suc a) b h = omega arith

multiple_wide : (b : ℕ) (k : ℤ) → 0 < b → is_narrow k ≡ false → is_narrow (pos b *ℤ k) ≡ false
multiple_wide b k p h = not_narrow (pos b *ℤ k) (subst (λ (n : ℕ). 2 ^ 62 ≤ n) (sym (unsigned_abs-mul (pos b) k)) (let m = wide_of k h in let n = at_least b (unsigned_abs k) p in omega arith))

left_false : (a b : Bool) → a ≡ false → (a && b) ≡ false
left_false a b e = rw e

right_false : (a b : Bool) → b ≡ false → (a && b) ≡ false
right_false true b e = e
right_false false b e = refl

pub times_wide : (b : ℕ) (w : Rational) (ts : Terms) → 0 < b → AreWholeTimes w ts → are_narrow (whole_terms w ts) ≡ false → are_narrow (whole_terms (ratio (pos b) 1 *ʳ w) ts) ≡ false
times_wide b w [] p h e = absurd (cc)
times_wide b w (t ∷ ts) p h e = go (is_narrow (w *ʳ t.1).num) refl e (times_wide b w ts p h.1)
  where
    go : (c : Bool) → is_narrow (w *ʳ t.1).num ≡ c → (c && are_narrow (whole_terms w ts)) ≡ false → (are_narrow (whole_terms w ts) ≡ false → are_narrow (whole_terms (ratio (pos b) 1 *ʳ w) ts) ≡ false) → are_narrow (whole_terms (ratio (pos b) 1 *ʳ w) (t ∷ ts)) ≡ false
    go true f g k = right_false _ _ (k g)
    go false f g k = left_false _ _ (ap is_narrow (entry b w t.1 h.0) ∙ multiple_wide b (w *ʳ t.1).num p f)

pub wide_rest : (t u : ℕ × Rational) (us : Terms) → AreNonzero (t ∷ u ∷ us) → are_narrow (whole_terms (factor (u ∷ us)) (u ∷ us)) ≡ false → are_narrow (whole_terms (factor (t ∷ u ∷ us)) (t ∷ u ∷ us)) ≡ false
wide_rest t u us n e = right_false _ _ (subst (λ w. are_narrow (whole_terms w (u ∷ us)) ≡ false) (sym (factor_step t u us n)) (times_wide (factor (u ∷ us) *ʳ t.1).den (factor (u ∷ us)) (u ∷ us) (factor (u ∷ us) *ʳ t.1).positive (factor_whole u us n.1) e))

pub head_product : (t u : ℕ × Rational) (us : Terms) → AreNonzero (t ∷ u ∷ us) → factor (t ∷ u ∷ us) *ʳ t.1 ≡ whole (factor (u ∷ us) *ʳ t.1).num
head_product t u us n = ap (λ w. w *ʳ t.1) (factor_step t u us n) ∙ *ʳ_assoc (ratio (pos (factor (u ∷ us) *ʳ t.1).den) 1) (factor (u ∷ us)) t.1 ∙ sym (cleared (factor (u ∷ us) *ʳ t.1))

pub nonzero_factor : (w x : Rational) → IsPositive w → is_zeroʳ x ≡ false → is_zeroʳ (w *ʳ x) ≡ false
nonzero_factor w x p h = go (is_zeroʳ w) refl
  where
    inverse : (is_zeroʳ p.inverse || is_zeroʳ w) ≡ false
    inverse = sym (is_zero-* p.inverse w) ∙ ap is_zeroʳ p.one ∙ is_zero-one

    second : (a b : Bool) → (a || b) ≡ false → b ≡ false
    second true b e = absurd (cc)
    second false b e = e

    go : (c : Bool) → is_zeroʳ w ≡ c → is_zeroʳ (w *ʳ x) ≡ false
    go c e = is_zero-* w x ∙ ap (λ b. b || is_zeroʳ x) (second (is_zeroʳ p.inverse) (is_zeroʳ w) inverse) ∙ h

abs_of : (z : ℤ) → is_zero_num z ≡ false → 0 < unsigned_abs z
abs_of (pos zero) e = absurd (cc)
abs_of (pos (suc n)) e = omega arith
abs_of (negsuc n) e = omega arith

zero_test : (x : Rational) → (x.num ≡ pos 0 → ⊥) → is_zeroʳ x ≡ false
unfolding is_zeroʳ
zero_test x h = go x.num h
  where
    go : (z : ℤ) → (z ≡ pos 0 → ⊥) → is_zero_num z ≡ false
    go (pos zero) h = absurd (h refl)
    go (pos (suc n)) h = refl
    go (negsuc n) h = refl

positive_num : (x : Rational) → is_zeroʳ x ≡ false → 0 < unsigned_abs x.num
unfolding is_zeroʳ
positive_num x h = abs_of x.num h

pub wide_head : (t u : ℕ × Rational) (us : Terms) → AreNonzero (t ∷ u ∷ us) → fits (factor (u ∷ us) *ʳ t.1) ≡ false → are_narrow (whole_terms (factor (t ∷ u ∷ us)) (t ∷ u ∷ us)) ≡ false
unfolding fits
wide_head t u us n e = go (is_narrow (factor (u ∷ us) *ʳ t.1).num) refl e
  where
    go : (c : Bool) → is_narrow (factor (u ∷ us) *ʳ t.1).num ≡ c → (c && is_narrow (pos (factor (u ∷ us) *ʳ t.1).den)) ≡ false → are_narrow (whole_terms (factor (t ∷ u ∷ us)) (t ∷ u ∷ us)) ≡ false
    go false f g = left_false _ _ (ap (λ (x : Rational). is_narrow x.num) (head_product t u us n) ∙ ap is_narrow (whole_num (factor (u ∷ us) *ʳ t.1).num) ∙ f)
    go true f g = right_false _ _ (left_false _ _ (ap (λ w. is_narrow (w *ʳ u.1).num) (factor_step t u us n) ∙ ap is_narrow (entry (factor (u ∷ us) *ʳ t.1).den (factor (u ∷ us)) u.1 (factor_whole u us n.1).0) ∙ not_narrow (pos (factor (u ∷ us) *ʳ t.1).den *ℤ (factor (u ∷ us) *ʳ u.1).num) (subst (λ (n : ℕ). 2 ^ 62 ≤ n) (sym (unsigned_abs-mul (pos (factor (u ∷ us) *ʳ t.1).den) (factor (u ∷ us) *ʳ u.1).num)) (let k = wide_of (pos (factor (u ∷ us) *ʳ t.1).den) g in larger (factor (u ∷ us) *ʳ t.1).den (unsigned_abs (factor (u ∷ us) *ʳ u.1).num) k (positive_num (factor (u ∷ us) *ʳ u.1) (nonzero_factor (factor (u ∷ us)) u.1 (factor_positive u us n.1) (zero_test u.1 n.1.0)))))))
      where
        larger : (a b : ℕ) → 2 ^ 62 ≤ a → 0 < b → 2 ^ 62 ≤ a * b
        larger a zero h p = absurd (omega arith)
        larger a (suc b) h p = let e : a * suc b ≡ a * b + a = omega arith in omega arith

-- ---- One term

one_multiple : (t : ℕ × Rational) → common_multiple (t ∷ []) ≡ t.1.den
unfolding common_multiple
one_multiple t = single (common_multiple (t ∷ [])) t.1.den (gcd t.1.den (common_multiple [])) (eq-one_of_dvd-one (gcd-is t.1.den 1).1) (new_multiple t [])
  where
    single : (l d g : ℕ) → g ≡ 1 → l * g ≡ d * 1 → l ≡ d
    single l d g e h = let k : l * 1 ≡ d * 1 = subst (λ n. l * n ≡ d * 1) e h in omega arith

one_divisor : (t : ℕ × Rational) → common_divisor (common_multiple (t ∷ [])) (t ∷ []) ≡ unsigned_abs t.1.num
unfolding common_divisor
one_divisor t = ap (λ m. gcd (unsigned_abs t.1.num * (m / t.1.den)) 0) (one_multiple t) ∙ gcd-zero _ ∙ whole_quotient (unsigned_abs t.1.num) t.1.den t.1.positive
  where
    whole_quotient : (a d : ℕ) → 0 < d → a * (d / d) ≡ a
    whole_quotient a d p = ap (λ n. a * (n / d)) (sym (one-mul d)) ∙ ap (λ n. a * n) (mul-div_cancel 1 p) ∙ (let e : a * 1 ≡ a = omega arith in e)

signed : (n : ℤ) (d : ℕ) → (pos d *ℤ n) *ℤ pos 1 ≡ sign_of n *ℤ pos (unsigned_abs n * d)
signed (pos zero) d = ap pos (omega arith)
signed (pos (suc n)) d = ap pos (omega arith)
signed (negsuc n) d = *ℤ-one _ ∙ ap (λ k. neg_ℤ (pos k)) (flipped d (suc n))
  where
    flipped : (a b : ℕ) → a * b ≡ 1 * (b * a)
    flipped a b = omega arith

pub single_product : (t : ℕ × Rational) → (t.1.num ≡ pos 0 → ⊥) → factor (t ∷ []) *ʳ t.1 ≡ whole (sign_of t.1.num)
unfolding factor whole
single_product t n =
    let d = t.1.den in
    let a = unsigned_abs t.1.num in
    ap (λ w. w *ʳ t.1) (ap₂ (λ l g. ratio (pos l) g) (one_multiple t) (one_divisor t)) ∙ ap (λ x. ratio (pos d) a *ʳ x) (sym (ratio_parts t.1)) ∙ ratio-* (pos d) a t.1.num d (abs_positive t.1.num n) t.1.positive ∙ ratio_same (pos d *ℤ t.1.num) (a * d) (sign_of t.1.num) 1 (mul-pos (abs_positive t.1.num n) t.1.positive) (lit< tt) (signed t.1.num d)

pub normal_nonzero : (ts : Terms) → AreNormal ts → AreNonzero ts
normal_nonzero [] h = tt
normal_nonzero (t ∷ ts) h = (number t.1 h.0, normal_nonzero ts h.1.1)
  where
    number : (x : Rational) → is_zeroʳ x ≡ false → x.num ≡ pos 0 → ⊥
    number x e f = absurd (let k = positive_num x e in let m = ap unsigned_abs f in omega (arith, k, m))

-- ---- The factor of a list, from its first term and the factor of the others

pub only_factor : (ts rest : Terms) (t : ℕ × Rational) (q : Rational) → ts ≡ t ∷ rest → length rest ≡ 0 → AreNormal ts → ((w : Rational) → w *ʳ t.1 ≡ whole (sign_of t.1.num) → q ≡ w) → q ≡ factor ts
only_factor ts [] t q e l n h = h (factor (t ∷ [])) (single_product t (normal_nonzero (t ∷ []) (rw e at n)).0) ∙ ap factor (sym e)
only_factor ts (u ∷ us) t q e l n h = absurd (omega arith)

pub others_wide : (ts rest : Terms) (t : ℕ × Rational) → ts ≡ t ∷ rest → 0 < length rest → AreNormal ts → are_narrow (whole_terms (factor rest) rest) ≡ false → are_narrow (whole_terms (factor ts) ts) ≡ false
others_wide ts [] t e l n h = absurd (omega arith)
others_wide ts (u ∷ us) t e l n h = ap (λ ts. are_narrow (whole_terms (factor ts) ts)) e ∙ wide_rest t u us (normal_nonzero (t ∷ u ∷ us) (rw e at n)) h

pub first_wide : (ts rest : Terms) (t : ℕ × Rational) (w : Rational) → ts ≡ t ∷ rest → 0 < length rest → AreNormal ts → w ≡ factor rest → None ≡ small_product w t.1 → are_narrow (whole_terms (factor ts) ts) ≡ false
first_wide ts [] t w e l n f h = absurd (omega arith)
first_wide ts (u ∷ us) t w e l n f h = ap (λ ts. are_narrow (whole_terms (factor ts) ts)) e ∙ wide_head t u us (normal_nonzero (t ∷ u ∷ us) (rw e at n)) (ap (λ v. fits (v *ʳ t.1)) (sym f) ∙ product_none w t.1 h)

pub next_factor : (ts rest : Terms) (t : ℕ × Rational) (w p q : Rational) → ts ≡ t ∷ rest → 0 < length rest → AreNormal ts → w ≡ factor rest → Some p ≡ small_product w t.1 → ((v : Rational) → v *ʳ t.1 ≡ whole p.num → q ≡ v) → q ≡ factor ts
next_factor ts [] t w p q e l n f h g = absurd (omega arith)
next_factor ts (u ∷ us) t w p q e l n f h g = g (factor (t ∷ u ∷ us)) (head_product t u us (normal_nonzero (t ∷ u ∷ us) (rw e at n)) ∙ ap (λ (r : Rational). whole r.num) (ap (λ v. v *ʳ t.1) (sym f) ∙ sym ((product_some w t.1 p h).0))) ∙ ap factor (sym e)

pub none_left : (n : ℕ) (b : Bool) → b ≡ (n == 0) → b ≡ true → n ≡ 0
none_left n b e f = let g : (n == 0) ≡ true = sym e ∙ f in grind arith

pub some_left : (n : ℕ) (b : Bool) → b ≡ (n == 0) → b ≡ false → 0 < n
some_left n b e f = let g : (n == 0) ≡ false = sym e ∙ f in grind arith

-- ---- The integers of a row

pub scaled_entry : (s : ℤ) (w x : Rational) → (w *ʳ x).den ≡ 1 → ((ratio s 1 *ʳ w) *ʳ x).num ≡ s *ℤ (w *ʳ x).num
unfolding whole
scaled_entry s w x e = ap (λ (r : Rational). r.num) (*ʳ_assoc (ratio s 1) w x ∙ ap (λ y. ratio s 1 *ʳ y) (sym (whole_back (w *ʳ x) e)) ∙ whole-* s (w *ʳ x).num) ∙ whole_num (s *ℤ (w *ʳ x).num)

scaled_wide : (s k : ℤ) → pos 0 <ℤ s → is_narrow k ≡ false → is_narrow (s *ℤ k) ≡ false
scaled_wide s k p h = not_narrow (s *ℤ k) (subst (λ (n : ℕ). 2 ^ 62 ≤ n) (sym (unsigned_abs-mul s k)) (let m = wide_of k h in let q : 0 < unsigned_abs s = omega (arith, ints) in let n = at_least (unsigned_abs s) (unsigned_abs k) q in omega arith))

whole_wide : (x : Rational) → x.den ≡ 1 → fits x ≡ false → is_narrow x.num ≡ false
unfolding fits
whole_wide x e h = go (is_narrow x.num) (subst (λ n. (is_narrow x.num && is_narrow (pos n)) ≡ false) e h)
  where
    go : (b : Bool) → (b && true) ≡ false → b ≡ false
    go true h = absurd (cc)
    go false h = refl

narrow_none : (z : ℤ) → is_narrow z ≡ false → None ≡ narrow_value z
narrow_none z e = rw e

pub product_lost : (s : ℤ) (w x : Rational) → pos 0 <ℤ s → (w *ʳ x).den ≡ 1 → None ≡ small_product w x → None ≡ narrow_value ((ratio s 1 *ʳ w) *ʳ x).num
product_lost s w x p e h = narrow_none ((ratio s 1 *ʳ w) *ʳ x).num (ap is_narrow (scaled_entry s w x e) ∙ scaled_wide s (w *ʳ x).num p (whole_wide (w *ʳ x) e (product_none w x h)))

pub multiple_lost : (s n : ℤ) (w x p : Rational) → (w *ʳ x).den ≡ 1 → Some p ≡ small_product w x → n ≡ p.num → (FitsSigned w128 (s *ℤ n) → ⊥) → None ≡ narrow_value ((ratio s 1 *ʳ w) *ʳ x).num
multiple_lost s n w x p e h f g = narrow_none ((ratio s 1 *ʳ w) *ʳ x).num (ap is_narrow (scaled_entry s w x e) ∙ go (is_narrow (s *ℤ (w *ʳ x).num)) refl)
  where
    same_num : n ≡ (w *ʳ x).num
    same_num = f ∙ ap (λ (r : Rational). r.num) ((product_some w x p h).0)

    narrow_of : (z : ℤ) → is_narrow z ≡ true → unsigned_abs z < 2 ^ 62
    narrow_of z h = grind arith

    in_range : (z : ℤ) → unsigned_abs z < 2 ^ 62 → FitsSigned w128 z
    in_range z h = omega (arith, ints)

    go : (b : Bool) → is_narrow (s *ℤ (w *ʳ x).num) ≡ b → b ≡ false
    go true k = absurd (g (subst (λ z. FitsSigned w128 (s *ℤ z)) (sym same_num) (in_range (s *ℤ (w *ʳ x).num) (narrow_of (s *ℤ (w *ʳ x).num) k))))
    go false k = refl

pub multiple_made : (s n m : ℤ) (w x p : Rational) → (w *ʳ x).den ≡ 1 → Some p ≡ small_product w x → n ≡ p.num → m ≡ s *ℤ n → narrow_value m ≡ narrow_value ((ratio s 1 *ʳ w) *ʳ x).num
multiple_made s n m w x p e h f g = ap narrow_value (g ∙ ap (λ z. s *ℤ z) (f ∙ ap (λ (r : Rational). r.num) ((product_some w x p h).0)) ∙ sym (scaled_entry s w x e))
