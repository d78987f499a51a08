-- Laws of values: the semiring of sums and products, and its order. To import: `use
-- Rattle.heyvl_num.proofs.Values.{semiring, ordered}`, or
-- `using(heyvl_num::proofs::Values::ordered)`. Both rule sets serve `simp`, `search`, `grind` and
-- `using(..)`.
--
-- Sums and products are associative and commutative for all values. A product distributes over a
-- sum if the factor is finite, or if the terms of the sum are nonnegative (infinity times 1 - 1 is
-- 0, but infinity times 1 plus infinity times -1 is infinity).
use Rattle.std.proofs.Common.{◌≡◌, ◌⊎◌, ◌↔◌, inl, inr, refl, sym, ap, ◌∙◌, subst, arith, Bool, true, false, ◌&&◌, ◌||◌}
use Rattle.std.specs.Prelude.{◌<◌, ◌≤ℤ◌}
use Rattle.std.proofs.Math.IntN.{ℤ, pos, negsuc, ◌+ℤ◌, ◌*ℤ◌}
use Rattle.std.specs.Ordering.{MatchOrdering}
use Rattle.std.specs.declared.cmp.Ordering.{Ordering}
use Rattle.std.specs.declared.cmp.Ordering.TheVariants.{Less, Equal, Greater}
use Prim.Native.Nat.{suc, zero, ℕ}
use borrow.Author.Differences.{ints}
use Rattle.std.proofs.Math.Nat.{mul-pos}
use Rattle.heyvl_num.specs.Rational.{Rational, ratio, zeroʳ, oneʳ, halfʳ, ◌+ʳ◌, ◌*ʳ◌, ◌≤ʳ◌, ◌<ʳ◌, compareʳ}
use Rattle.heyvl_num.specs.Value.{Value, zeroᵛ, oneᵛ, is_zero_num, is_zeroʳ, ◌+ᵛ◌, infinite_times, ◌*ᵛ◌, leqᵛ, ◌≤ᵛ◌, ◌<ᵛ◌, compareᵛ}
use Rattle.heyvl_num.specs.Value.Value.{finite, infinite}
use Rattle.heyvl_num.proofs.Integers.{zero_times}
use Rattle.heyvl_num.proofs.Signs.{halves, compareʳ-is, ≤ʳ-+ʳ_cancel}
use Rattle.heyvl_num.proofs.Rationals.{ratio_nonnegative, ratio_cross, ratio_same, ratio_parts, nonnegative_num, +ʳ_comm, *ʳ_comm, +ʳ_assoc, *ʳ_assoc, *ʳ-+ʳ, zero-+ʳ, +ʳ-zero, zero-*ʳ, *ʳ-zero, one-*ʳ, ≤ʳ_refl, ≤ʳ_trans, ≤ʳ_antisym, ≤ʳ_total, +ʳ_mono, *ʳ_mono, zero-≤ʳ-one}

-- ---- Which fractions are 0

pub is_zero-zero : is_zeroʳ zeroʳ ≡ true
unfolding is_zeroʳ zeroʳ ratio
is_zero-zero = refl

pub is_zero-one : is_zeroʳ oneʳ ≡ false
unfolding is_zeroʳ oneʳ ratio
is_zero-one = refl

zero_num : (n : ℤ) → is_zero_num n ≡ true → n ≡ pos 0
zero_num (pos zero) e = refl
zero_num (pos (suc n)) e = absurd (cc)
zero_num (negsuc n) e = absurd (cc)

pub is_zero-is : (x : Rational) → is_zeroʳ x ≡ true → x ≡ zeroʳ
unfolding is_zeroʳ zeroʳ
is_zero-is x e = sym (ratio_parts x) ∙ ratio_same x.num x.den (pos 0) 1 x.positive (omega arith) (ap (λ n. n *ℤ pos 1) (zero_num x.num e) ∙ sym (zero_times (pos x.den)))

zero_same : (m n : ℤ) (b d : ℕ) → 0 < b → 0 < d → m *ℤ pos b ≡ n *ℤ pos d → is_zero_num m ≡ is_zero_num n
zero_same (pos zero) (pos zero) b d p q e = refl
zero_same (pos zero) (pos (suc n)) b d p q e = absurd (omega (arith, ints))
zero_same (pos zero) (negsuc n) b d p q e = absurd (omega (arith, ints))
zero_same (pos (suc m)) (pos zero) b d p q e = absurd (omega (arith, ints))
zero_same (pos (suc m)) (pos (suc n)) b d p q e = refl
zero_same (pos (suc m)) (negsuc n) b d p q e = refl
zero_same (negsuc m) (pos zero) b d p q e = absurd (omega (arith, ints))
zero_same (negsuc m) (pos (suc n)) b d p q e = refl
zero_same (negsuc m) (negsuc n) b d p q e = refl

is_zero_ratio : (a : ℤ) (b : ℕ) → 0 < b → is_zeroʳ (ratio a b) ≡ is_zero_num a
unfolding is_zeroʳ
is_zero_ratio a b p = zero_same _ _ _ _ p (ratio a b).positive (ratio_cross a b p)

not_zero : (n : ℤ) → (n ≡ pos 0 → ⊥) → is_zero_num n ≡ false
not_zero (pos zero) h = absurd (h refl)
not_zero (pos (suc n)) h = refl
not_zero (negsuc n) h = refl

product_num : (x y z : ℤ) → z ≡ x *ℤ y → is_zero_num z ≡ (is_zero_num x || is_zero_num y)
product_num (pos zero) y z e = rw (e ∙ zero_times y)
product_num (pos (suc x)) (pos zero) z e = let f : z ≡ pos 0 = omega (arith, ints) in rw f
product_num (pos (suc x)) (pos (suc y)) z e = not_zero z (λ f. omega (arith, ints))
product_num (pos (suc x)) (negsuc y) z e = not_zero z (λ f. omega (arith, ints))
product_num (negsuc x) (pos zero) z e = let f : z ≡ pos 0 = omega (arith, ints) in rw f
product_num (negsuc x) (pos (suc y)) z e = not_zero z (λ f. omega (arith, ints))
product_num (negsuc x) (negsuc y) z e = not_zero z (λ f. omega (arith, ints))

pub is_zero-* : (x y : Rational) → is_zeroʳ (x *ʳ y) ≡ (is_zeroʳ x || is_zeroʳ y)
unfolding ◌*ʳ◌ is_zeroʳ
is_zero-* x y = is_zero_ratio _ _ (mul-pos x.positive y.positive) ∙ product_num x.num y.num _ refl

-- A sum of nonnegative fractions is 0 if and only if both are.
sum_num : (m n : ℤ) (b d : ℕ) → 0 < b → 0 < d → pos 0 ≤ℤ m → pos 0 ≤ℤ n → (z : ℤ) → z ≡ m *ℤ pos d +ℤ n *ℤ pos b → is_zero_num z ≡ (is_zero_num m && is_zero_num n)
sum_num (negsuc m) n b d p q h k z e = absurd (omega (arith, ints))
sum_num (pos m) (negsuc n) b d p q h k z e = absurd (omega (arith, ints))
sum_num (pos zero) (pos zero) b d p q h k z e = let f : z ≡ pos 0 = omega (arith, ints) in rw f
sum_num (pos zero) (pos (suc n)) b d p q h k z e = not_zero z (λ f. omega (arith, ints))
sum_num (pos (suc m)) (pos n) b d p q h k z e = not_zero z (λ f. omega (arith, ints, mul-pos {m = suc m} {n = d} (omega arith) q))

pub is_zero-+ : (x y : Rational) → zeroʳ ≤ʳ x → zeroʳ ≤ʳ y → is_zeroʳ (x +ʳ y) ≡ (is_zeroʳ x && is_zeroʳ y)
unfolding ◌+ʳ◌ is_zeroʳ
is_zero-+ x y p q = is_zero_ratio _ _ (mul-pos x.positive y.positive) ∙ sum_num x.num y.num x.den y.den x.positive y.positive (nonnegative_num x p) (nonnegative_num y q) _ refl

-- ---- Sums and products

pub +ᵛ_comm : (x y : Value) → x +ᵛ y ≡ y +ᵛ x
unfolding ◌+ᵛ◌
+ᵛ_comm x y = grind (arith, +ʳ_comm)

pub +ᵛ_assoc : (x y z : Value) → (x +ᵛ y) +ᵛ z ≡ x +ᵛ (y +ᵛ z)
unfolding ◌+ᵛ◌
+ᵛ_assoc x y z = grind (arith, +ʳ_assoc)

pub +ᵛ_left_comm : (x y z : Value) → x +ᵛ (y +ᵛ z) ≡ y +ᵛ (x +ᵛ z)
+ᵛ_left_comm x y z = rw (← +ᵛ_assoc x y z, +ᵛ_comm x y, +ᵛ_assoc)

pub zero-+ᵛ : (x : Value) → zeroᵛ +ᵛ x ≡ x
unfolding ◌+ᵛ◌ zeroᵛ
zero-+ᵛ (finite x) = ap finite (zero-+ʳ x)
zero-+ᵛ infinite = refl

pub +ᵛ-zero : (x : Value) → x +ᵛ zeroᵛ ≡ x
+ᵛ-zero x = +ᵛ_comm x zeroᵛ ∙ zero-+ᵛ x

pub *ᵛ_comm : (x y : Value) → x *ᵛ y ≡ y *ᵛ x
unfolding ◌*ᵛ◌
*ᵛ_comm x y = grind (arith, *ʳ_comm)

pub *ᵛ_assoc : (x y z : Value) → (x *ᵛ y) *ᵛ z ≡ x *ᵛ (y *ᵛ z)
unfolding ◌*ᵛ◌ infinite_times zeroᵛ
*ᵛ_assoc x y z = grind (arith, *ʳ_assoc, is_zero-*, is_zero-is, is_zero-zero, zero-*ʳ, *ʳ-zero)

pub *ᵛ_left_comm : (x y z : Value) → x *ᵛ (y *ᵛ z) ≡ y *ᵛ (x *ᵛ z)
*ᵛ_left_comm x y z = rw (← *ᵛ_assoc x y z, *ᵛ_comm x y, *ᵛ_assoc)

pub zero-*ᵛ : (x : Value) → zeroᵛ *ᵛ x ≡ zeroᵛ
unfolding ◌*ᵛ◌ infinite_times zeroᵛ
zero-*ᵛ (finite x) = ap finite (zero-*ʳ x)
zero-*ᵛ infinite = rw is_zero-zero

pub *ᵛ-zero : (x : Value) → x *ᵛ zeroᵛ ≡ zeroᵛ
*ᵛ-zero x = *ᵛ_comm x zeroᵛ ∙ zero-*ᵛ x

pub one-*ᵛ : (x : Value) → oneᵛ *ᵛ x ≡ x
unfolding ◌*ᵛ◌ infinite_times oneᵛ
one-*ᵛ (finite x) = ap finite (one-*ʳ x)
one-*ᵛ infinite = rw is_zero-one

pub *ᵛ-one : (x : Value) → x *ᵛ oneᵛ ≡ x
*ᵛ-one x = *ᵛ_comm x oneᵛ ∙ one-*ᵛ x

pub infinite_times_zero : (x : Rational) → x.num ≡ pos 0 → finite x ≡ infinite *ᵛ finite x
unfolding ◌*ᵛ◌ infinite_times is_zeroʳ zeroᵛ
infinite_times_zero x e = ap finite (is_zero-is x (ap is_zero_num e)) ∙ ap (λ n. infinite_times (is_zero_num n)) (sym e)

pub infinite_times_other : (x : Rational) → (x.num ≡ pos 0 → ⊥) → infinite ≡ infinite *ᵛ finite x
unfolding ◌*ᵛ◌ infinite_times is_zeroʳ
infinite_times_other x h = rw (not_zero x.num h)

pub finite-+ : (x y : Rational) → finite x +ᵛ finite y ≡ finite (x +ʳ y)
unfolding ◌+ᵛ◌
finite-+ x y = refl

pub finite-* : (x y : Rational) → finite x *ᵛ finite y ≡ finite (x *ʳ y)
unfolding ◌*ᵛ◌
finite-* x y = refl

pub finite_sum : (x y : Rational) → finite (x +ʳ y) ≡ finite x +ᵛ finite y
unfolding ◌+ᵛ◌
finite_sum x y = refl

pub finite_product : (x y : Rational) → finite (x *ʳ y) ≡ finite x *ᵛ finite y
unfolding ◌*ᵛ◌
finite_product x y = refl

pub scale_scale : (a b : Rational) (v : Value) → finite a *ᵛ (finite b *ᵛ v) ≡ finite (a *ʳ b) *ᵛ v
scale_scale a b v = sym (*ᵛ_assoc (finite a) (finite b) v) ∙ ap (λ w. w *ᵛ v) (finite-* a b)

pub scale-+ᵛ : (w : Rational) (x y : Value) → finite w *ᵛ (x +ᵛ y) ≡ (finite w *ᵛ x) +ᵛ (finite w *ᵛ y)
unfolding ◌*ᵛ◌ ◌+ᵛ◌ infinite_times zeroᵛ
scale-+ᵛ w x y = grind (arith, *ʳ-+ʳ, is_zero-is, is_zero-zero, zero-*ʳ, zero-+ʳ, +ʳ-zero)

pub finite_order : (x y : Rational) → finite x ≤ᵛ finite y → x ≤ʳ y
unfolding leqᵛ
finite_order x y h = record { holds = h.holds }

pub order_finite : (x y : Rational) → x ≤ʳ y → finite x ≤ᵛ finite y
unfolding leqᵛ
order_finite x y h = record { holds = h.holds }

pub nonnegative_finite : (x : Rational) → zeroᵛ ≤ᵛ finite x → zeroʳ ≤ʳ x
unfolding zeroᵛ
nonnegative_finite x h = finite_order zeroʳ x h

pub finite_nonnegative : (x : Rational) → zeroʳ ≤ʳ x → zeroᵛ ≤ᵛ finite x
unfolding zeroᵛ
finite_nonnegative x h = order_finite zeroʳ x h

infinity_spread : (x y : Rational) → zeroʳ ≤ʳ x → zeroʳ ≤ʳ y → infinite *ᵛ (finite x +ᵛ finite y) ≡ (infinite *ᵛ finite x) +ᵛ (infinite *ᵛ finite y)
unfolding ◌*ᵛ◌ ◌+ᵛ◌ infinite_times zeroᵛ
infinity_spread x y p q = let e = is_zero-+ x y p q in grind (arith, e, zero-+ʳ, +ʳ-zero)

pub *ᵛ-+ᵛ : (x y z : Value) → zeroᵛ ≤ᵛ y → zeroᵛ ≤ᵛ z → x *ᵛ (y +ᵛ z) ≡ (x *ᵛ y) +ᵛ (x *ᵛ z)
unfolding ◌*ᵛ◌ ◌+ᵛ◌ infinite_times zeroᵛ
*ᵛ-+ᵛ (finite x) y z p q = scale-+ᵛ x y z
*ᵛ-+ᵛ infinite (finite y) (finite z) p q = infinity_spread y z (finite_order zeroʳ y p) (finite_order zeroʳ z q)
*ᵛ-+ᵛ infinite (finite y) infinite p q = grind (arith)
*ᵛ-+ᵛ infinite infinite (finite z) p q = grind (arith)
*ᵛ-+ᵛ infinite infinite infinite p q = refl

pub +ᵛ-*ᵛ : (x y z : Value) → zeroᵛ ≤ᵛ x → zeroᵛ ≤ᵛ y → (x +ᵛ y) *ᵛ z ≡ (x *ᵛ z) +ᵛ (y *ᵛ z)
+ᵛ-*ᵛ x y z p q = rw (*ᵛ_comm (x +ᵛ y) z, *ᵛ_comm x z, *ᵛ_comm y z) (*ᵛ-+ᵛ z x y p q)

pub +ᵛ-scale : (x y : Value) (w : Rational) → (x +ᵛ y) *ᵛ finite w ≡ (x *ᵛ finite w) +ᵛ (y *ᵛ finite w)
+ᵛ-scale x y w = rw (*ᵛ_comm (x +ᵛ y) (finite w), *ᵛ_comm x (finite w), *ᵛ_comm y (finite w)) (scale-+ᵛ w x y)

-- Weights distribute over a value, also an infinite one, if they are nonnegative.
pub weights-* : (a b : Rational) (x : Value) → zeroʳ ≤ʳ a → zeroʳ ≤ʳ b → finite (a +ʳ b) *ᵛ x ≡ (finite a *ᵛ x) +ᵛ (finite b *ᵛ x)
weights-* a b x p q = ap (λ w. w *ᵛ x) (sym (finite-+ a b)) ∙ +ᵛ-*ᵛ (finite a) (finite b) x (finite_nonnegative a p) (finite_nonnegative b q)

-- ---- Order

pub ≤ᵛ_refl : (x : Value) → x ≤ᵛ x
unfolding leqᵛ
≤ᵛ_refl (finite x) = order_finite x x (≤ʳ_refl x)
≤ᵛ_refl infinite = record { holds = refl }

pub ≤ᵛ_infinite : (x : Value) → x ≤ᵛ infinite
unfolding leqᵛ
≤ᵛ_infinite (finite x) = record { holds = refl }
≤ᵛ_infinite infinite = record { holds = refl }

pub infinite_above : (x : Rational) → infinite ≤ᵛ finite x → ⊥
unfolding leqᵛ
infinite_above x h = absurd (let e : false ≡ true = h.holds in cc)

pub ≤ᵛ_trans : (x y z : Value) → x ≤ᵛ y → y ≤ᵛ z → x ≤ᵛ z
≤ᵛ_trans (finite x) (finite y) (finite z) h k = order_finite x z (≤ʳ_trans x y z (finite_order x y h) (finite_order y z k))
≤ᵛ_trans x y infinite h k = ≤ᵛ_infinite x
≤ᵛ_trans x infinite (finite z) h k = absurd (infinite_above z k)
≤ᵛ_trans infinite (finite y) (finite z) h k = absurd (infinite_above y h)

pub ≤ᵛ_antisym : (x y : Value) → x ≤ᵛ y → y ≤ᵛ x → x ≡ y
≤ᵛ_antisym (finite x) (finite y) h k = ap finite (≤ʳ_antisym x y (finite_order x y h) (finite_order y x k))
≤ᵛ_antisym (finite x) infinite h k = absurd (infinite_above x k)
≤ᵛ_antisym infinite (finite y) h k = absurd (infinite_above y h)
≤ᵛ_antisym infinite infinite h k = refl

total_finite : (x y : Rational) → (x ≤ʳ y) ⊎ (y ≤ʳ x) → (finite x ≤ᵛ finite y) ⊎ (finite y ≤ᵛ finite x)
total_finite x y (inl h) = inl (order_finite x y h)
total_finite x y (inr h) = inr (order_finite y x h)

pub ≤ᵛ_total : (x y : Value) → (x ≤ᵛ y) ⊎ (y ≤ᵛ x)
≤ᵛ_total x infinite = inl (≤ᵛ_infinite x)
≤ᵛ_total infinite (finite y) = inr (≤ᵛ_infinite (finite y))
≤ᵛ_total (finite x) (finite y) = total_finite x y (≤ʳ_total x y)

pub +ᵛ_mono : (x x' y y' : Value) → x ≤ᵛ x' → y ≤ᵛ y' → x +ᵛ y ≤ᵛ x' +ᵛ y'
unfolding ◌+ᵛ◌
+ᵛ_mono (finite x) (finite x') (finite y) (finite y') h k = order_finite _ _ (+ʳ_mono x x' y y' (finite_order x x' h) (finite_order y y' k))
+ᵛ_mono x infinite y (finite y') h k = ≤ᵛ_infinite _
+ᵛ_mono x infinite y infinite h k = ≤ᵛ_infinite _
+ᵛ_mono x (finite x') y infinite h k = ≤ᵛ_infinite _
+ᵛ_mono infinite (finite x') y (finite y') h k = absurd (infinite_above x' h)
+ᵛ_mono (finite x) (finite x') infinite (finite y') h k = absurd (infinite_above y' k)

zero_scale : (x y : Value) → zeroᵛ ≤ᵛ y → finite zeroʳ *ᵛ x ≤ᵛ y
unfolding zeroᵛ
zero_scale x y h = subst (λ z. z ≤ᵛ y) (sym (zero-*ᵛ x)) h

below_infinite_times : (w : Rational) (x : Value) (t : Bool) → is_zeroʳ w ≡ t → finite w *ᵛ x ≤ᵛ infinite_times t
unfolding infinite_times
below_infinite_times w x true e = subst (λ (v : Rational). finite v *ᵛ x ≤ᵛ zeroᵛ) (sym (is_zero-is w e)) (zero_scale x zeroᵛ (≤ᵛ_refl zeroᵛ))
below_infinite_times w x false e = ≤ᵛ_infinite _

pub scale_mono : (w : Rational) (x y : Value) → zeroʳ ≤ʳ w → x ≤ᵛ y → finite w *ᵛ x ≤ᵛ finite w *ᵛ y
unfolding ◌*ᵛ◌
scale_mono w (finite x) (finite y) p h = order_finite _ _ (*ʳ_mono w x y p (finite_order x y h))
scale_mono w x infinite p h = below_infinite_times w x (is_zeroʳ w) refl
scale_mono w infinite (finite y) p h = absurd (infinite_above y h)

below_times_infinite : (x y : Rational) (t : Bool) → zeroʳ ≤ʳ x → x ≤ʳ y → is_zeroʳ y ≡ t → finite x *ᵛ infinite ≤ᵛ infinite_times t
unfolding infinite_times
below_times_infinite x y true p h e = subst (λ (v : Rational). finite v *ᵛ infinite ≤ᵛ zeroᵛ) (≤ʳ_antisym zeroʳ x p (subst (λ v. x ≤ʳ v) (is_zero-is y e) h)) (zero_scale infinite zeroᵛ (≤ᵛ_refl zeroᵛ))
below_times_infinite x y false p h e = ≤ᵛ_infinite _

infinite_mono : (x y : Value) → zeroᵛ ≤ᵛ x → x ≤ᵛ y → x *ᵛ infinite ≤ᵛ y *ᵛ infinite
unfolding ◌*ᵛ◌
infinite_mono (finite x) (finite y) p h = below_times_infinite x y (is_zeroʳ y) (nonnegative_finite x p) (finite_order x y h) refl
infinite_mono x infinite p h = ≤ᵛ_infinite _
infinite_mono infinite (finite y) p h = absurd (infinite_above y h)

pub *ᵛ_mono_left : (w x y : Value) → zeroᵛ ≤ᵛ w → zeroᵛ ≤ᵛ x → x ≤ᵛ y → w *ᵛ x ≤ᵛ w *ᵛ y
*ᵛ_mono_left (finite w) x y p q h = scale_mono w x y (nonnegative_finite w p) h
*ᵛ_mono_left infinite x y p q h = rw (*ᵛ_comm infinite x, *ᵛ_comm infinite y) (infinite_mono x y q h)

pub *ᵛ_mono_right : (w x y : Value) → zeroᵛ ≤ᵛ w → zeroᵛ ≤ᵛ x → x ≤ᵛ y → x *ᵛ w ≤ᵛ y *ᵛ w
*ᵛ_mono_right w x y p q h = rw (*ᵛ_comm x w, *ᵛ_comm y w) (*ᵛ_mono_left w x y p q h)

pub *ᵛ_mono : (x x' y y' : Value) → zeroᵛ ≤ᵛ x → zeroᵛ ≤ᵛ y → x ≤ᵛ x' → y ≤ᵛ y' → x *ᵛ y ≤ᵛ x' *ᵛ y'
*ᵛ_mono x x' y y' p q h k = ≤ᵛ_trans _ _ _ (*ᵛ_mono_left x y y' p q k) (*ᵛ_mono_right y' x x' (≤ᵛ_trans zeroᵛ y y' q k) p h)

pub zero-≤ᵛ-one : zeroᵛ ≤ᵛ oneᵛ
unfolding oneᵛ
zero-≤ᵛ-one = finite_nonnegative oneʳ zero-≤ʳ-one

pub zero-≤ᵛ-zero : zeroᵛ ≤ᵛ zeroᵛ
zero-≤ᵛ-zero = ≤ᵛ_refl zeroᵛ

pub +ᵛ_nonnegative : (x y : Value) → zeroᵛ ≤ᵛ x → zeroᵛ ≤ᵛ y → zeroᵛ ≤ᵛ x +ᵛ y
+ᵛ_nonnegative x y p q = subst (λ z. z ≤ᵛ x +ᵛ y) (zero-+ᵛ zeroᵛ) (+ᵛ_mono zeroᵛ x zeroᵛ y p q)

pub *ᵛ_nonnegative : (x y : Value) → zeroᵛ ≤ᵛ x → zeroᵛ ≤ᵛ y → zeroᵛ ≤ᵛ x *ᵛ y
*ᵛ_nonnegative x y p q = subst (λ z. z ≤ᵛ x *ᵛ y) (*ᵛ-zero x) (*ᵛ_mono_left x zeroᵛ y p zero-≤ᵛ-zero q)

pub scale_nonnegative : (w : Rational) (x : Value) → zeroʳ ≤ʳ w → zeroᵛ ≤ᵛ x → zeroᵛ ≤ᵛ finite w *ᵛ x
scale_nonnegative w x p q = *ᵛ_nonnegative (finite w) x (finite_nonnegative w p) q

pub weight_mono : (w w' : Rational) (x : Value) → zeroʳ ≤ʳ w → zeroᵛ ≤ᵛ x → w ≤ʳ w' → finite w *ᵛ x ≤ᵛ finite w' *ᵛ x
weight_mono w w' x p q h = *ᵛ_mono_right x (finite w) (finite w') q (finite_nonnegative w p) (order_finite w w' h)

pub ≤ᵛ-+ᵛ : (x y : Value) → zeroᵛ ≤ᵛ y → x ≤ᵛ x +ᵛ y
≤ᵛ-+ᵛ x y p = subst (λ z. z ≤ᵛ x +ᵛ y) (+ᵛ-zero x) (+ᵛ_mono x x zeroᵛ y (≤ᵛ_refl x) p)

pub ≤ᵛ-+ᵛ_left : (x y : Value) → zeroᵛ ≤ᵛ y → x ≤ᵛ y +ᵛ x
≤ᵛ-+ᵛ_left x y p = subst (λ z. x ≤ᵛ z) (+ᵛ_comm x y) (≤ᵛ-+ᵛ x y p)

pub +ᵛ-infinite : (x : Value) → x +ᵛ infinite ≡ infinite
unfolding ◌+ᵛ◌
+ᵛ-infinite (finite x) = refl
+ᵛ-infinite infinite = refl

unit_times : (x : Value) → finite oneʳ *ᵛ x ≡ x
unfolding oneᵛ
unit_times x = one-*ᵛ x

half_nonnegative : zeroʳ ≤ʳ halfʳ
unfolding halfʳ
half_nonnegative = ratio_nonnegative (pos 1) 2 (omega arith) (omega (arith, ints))

pub half-half : (x : Value) → (finite halfʳ *ᵛ x) +ᵛ (finite halfʳ *ᵛ x) ≡ x
half-half x = sym (weights-* halfʳ halfʳ x half_nonnegative half_nonnegative) ∙ ap (λ w. finite w *ᵛ x) halves ∙ unit_times x

-- ---- Strict order, comparisons and finite terms

less_finite : (x y : Rational) → x <ʳ y → finite x <ᵛ finite y
unfolding leqᵛ
less_finite x y h = record { holds = h.holds }

finite_below_infinite : (x : Rational) → finite x <ᵛ infinite
unfolding leqᵛ
finite_below_infinite x = record { holds = refl }

ranked : (o : Ordering) {A B C A' B' C' : Type 0} → (A → A') → (B → B') → (C → C') → MatchOrdering o A B C → MatchOrdering o A' B' C'
ranked Less f g h m = f m
ranked Equal f g h m = g m
ranked Greater f g h m = h m

pub compareᵛ-is : (x y : Value) → MatchOrdering (compareᵛ x y) (x <ᵛ y) (x ≡ y) (y <ᵛ x)
compareᵛ-is (finite x) (finite y) = ranked (compareʳ x y) (less_finite x y) (λ e. ap finite e) (less_finite y x) (compareʳ-is x y)
compareᵛ-is (finite x) infinite = finite_below_infinite x
compareᵛ-is infinite (finite y) = finite_below_infinite y
compareᵛ-is infinite infinite = refl

less_case : (x y : Value) → (x ≤ᵛ y) ⊎ (y ≤ᵛ x) → leqᵛ y x ≡ false → x ≤ᵛ y
less_case x y (inl h) e = h
less_case x y (inr h) e = absurd (let k = h.holds in cc)

pub <ᵛ-≤ᵛ : (x y : Value) → x <ᵛ y → x ≤ᵛ y
<ᵛ-≤ᵛ x y h = less_case x y (≤ᵛ_total x y) h.holds

pub <ᵛ-not : (x y : Value) → x <ᵛ y → y ≤ᵛ x → ⊥
<ᵛ-not x y h k = let e = h.holds in let f = k.holds in cc

order_test : (x y : Value) (b : Bool) → leqᵛ x y ≡ b → (x ≤ᵛ y) ⊎ (y <ᵛ x)
order_test x y true e = inl (record { holds = e })
order_test x y false e = inr (record { holds = e })

pub at_most_or_less : (x y : Value) → (x ≤ᵛ y) ⊎ (y <ᵛ x)
at_most_or_less x y = order_test x y (leqᵛ x y) refl

finite_cancel : (x y : Value) (z : Rational) → x +ᵛ finite z ≤ᵛ y +ᵛ finite z → x ≤ᵛ y
unfolding ◌+ᵛ◌
finite_cancel (finite x) (finite y) z h = order_finite x y (≤ʳ-+ʳ_cancel x y z (finite_order (x +ʳ z) (y +ʳ z) h))
finite_cancel x infinite z h = ≤ᵛ_infinite x
finite_cancel infinite (finite y) z h = absurd (infinite_above (y +ʳ z) h)

pub finite_terms : (x y : Value) (z : Rational) → (x ≤ᵛ y) ↔ (x +ᵛ finite z ≤ᵛ y +ᵛ finite z)
finite_terms x y z = (λ h. +ᵛ_mono x y (finite z) (finite z) h (≤ᵛ_refl (finite z)), finite_cancel x y z)

pub scale-infinite : (w : Rational) → is_zeroʳ w ≡ false → finite w *ᵛ infinite ≡ infinite
unfolding ◌*ᵛ◌ infinite_times
scale-infinite w e = rw e

pub ruleset semiring = (finite_sum, finite_product, zero-+ᵛ, +ᵛ-zero, zero-*ᵛ, *ᵛ-zero, one-*ᵛ, *ᵛ-one, scale-+ᵛ, +ᵛ-scale, *ᵛ-+ᵛ, +ᵛ-*ᵛ, *ᵛ_assoc, *ᵛ_comm, *ᵛ_left_comm, +ᵛ_assoc, +ᵛ_comm, +ᵛ_left_comm)

pub ruleset ordered = (≤ᵛ_refl, ≤ᵛ_infinite, zero-≤ᵛ-one, +ᵛ_nonnegative, scale_nonnegative, *ᵛ_nonnegative, ≤ᵛ-+ᵛ, ≤ᵛ-+ᵛ_left, +ᵛ_mono, scale_mono, weight_mono, *ᵛ_mono, ≤ᵛ_trans)
