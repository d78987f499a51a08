-- Differences and signs of fractions, their order under positive factors, middles, and comparisons.
-- To import: `use Rattle.heyvl_num.proofs.Signs.{signs}`, or
-- `using(heyvl_num::proofs::Signs::signs)`, which moves negations inward.
use Rattle.std.proofs.Common.{◌≡◌, ℕ, ◌<◌, ◌↔◌, ◌⊎◌, inl, inr, refl, sym, ap, ap₂, ◌∙◌, subst, arith, Bool, true, false}
use Rattle.std.specs.Prelude.{◌<ℤ◌}
use Rattle.std.specs.Int.Signed.{le_z}
use Rattle.std.specs.Cmp.{int_ranks}
use Rattle.std.specs.Ordering.{MatchOrdering}
use Rattle.std.specs.declared.cmp.Ordering.{Ordering}
use Rattle.std.specs.declared.cmp.Ordering.TheVariants.{Less, Equal, Greater}
use Rattle.std.proofs.Math.IntN.{ℤ, pos, ◌+ℤ◌, ◌*ℤ◌, neg_ℤ}
use Rattle.std.proofs.Math.Nat.{mul-pos}
use borrow.Author.Differences.{ints}
use Rattle.heyvl_num.specs.Rational.{Rational, ratio, zeroʳ, oneʳ, halfʳ, middleʳ, ◌+ʳ◌, ◌*ʳ◌, ◌-ʳ◌, negʳ, leqʳ, ◌≤ʳ◌, ◌<ʳ◌, compareʳ}
use Rattle.heyvl_num.specs.Rounding.{whole}
use Rattle.heyvl_num.proofs.Integers.{neg-*ℤ, one-*ℤ, *ℤ-one, zero_times}
use Rattle.heyvl_num.proofs.Rationals.{each_ratio, ratio_same, ratio-+, ratio-*, ratio-neg, same_cross, ratio_nonnegative, +ʳ_comm, +ʳ_assoc, *ʳ_comm, *ʳ_assoc, *ʳ-+ʳ, +ʳ-*ʳ, zero-+ʳ, +ʳ-zero, zero-*ʳ, one-*ʳ, ≤ʳ_refl, ≤ʳ_total, +ʳ_mono, *ʳ_mono, *ʳ_nonnegative}

cancelled : (a b : ℤ) → (a *ℤ b +ℤ neg_ℤ a *ℤ b) *ℤ pos 1 ≡ pos 0 *ℤ (b *ℤ b)
cancelled a b = rw (neg-*ℤ a b, zero_times (b *ℤ b), *ℤ-one) (omega (arith, ints))

pub +ʳ-neg : (x : Rational) → x +ʳ negʳ x ≡ zeroʳ
unfolding zeroʳ
+ʳ-neg x = each_ratio (λ x. x +ʳ negʳ x ≡ ratio (pos 0) 1) (λ a b p. ap (λ z. ratio a b +ʳ z) (ratio-neg a b p) ∙ ratio-+ a b (neg_ℤ a) b p p ∙ ratio_same _ _ _ _ (mul-pos p p) (omega arith) (cancelled a (pos b))) x

pub neg-+ʳ : (x : Rational) → negʳ x +ʳ x ≡ zeroʳ
neg-+ʳ x = +ʳ_comm (negʳ x) x ∙ +ʳ-neg x

neg_neg : (a : ℤ) → neg_ℤ (neg_ℤ a) ≡ a
neg_neg a = omega (arith, ints)

pub negʳ-neg : (x : Rational) → negʳ (negʳ x) ≡ x
negʳ-neg x = each_ratio (λ x. negʳ (negʳ x) ≡ x) (λ a b p. ap negʳ (ratio-neg a b p) ∙ ratio-neg (neg_ℤ a) b p ∙ ap (λ n. ratio n b) (neg_neg a)) x

pub negʳ_unique : (x y : Rational) → x +ʳ y ≡ zeroʳ → y ≡ negʳ x
negʳ_unique x y e = sym (zero-+ʳ y) ∙ ap (λ z. z +ʳ y) (sym (neg-+ʳ x)) ∙ +ʳ_assoc (negʳ x) x y ∙ ap (λ z. negʳ x +ʳ z) e ∙ +ʳ-zero (negʳ x)

pub negʳ-zero : negʳ zeroʳ ≡ zeroʳ
negʳ-zero = sym (negʳ_unique zeroʳ zeroʳ (zero-+ʳ zeroʳ))

pub negʳ-*ʳ : (x y : Rational) → negʳ x *ʳ y ≡ negʳ (x *ʳ y)
negʳ-*ʳ x y = negʳ_unique (x *ʳ y) (negʳ x *ʳ y) (sym (+ʳ-*ʳ x (negʳ x) y) ∙ ap (λ z. z *ʳ y) (+ʳ-neg x) ∙ zero-*ʳ y)

pub *ʳ-negʳ : (x y : Rational) → x *ʳ negʳ y ≡ negʳ (x *ʳ y)
*ʳ-negʳ x y = *ʳ_comm x (negʳ y) ∙ negʳ-*ʳ y x ∙ ap negʳ (*ʳ_comm y x)

swap_middle : (x y z w : Rational) → (x +ʳ y) +ʳ (z +ʳ w) ≡ (x +ʳ z) +ʳ (y +ʳ w)
swap_middle x y z w = +ʳ_assoc x y (z +ʳ w) ∙ ap (λ u. x +ʳ u) (sym (+ʳ_assoc y z w) ∙ ap (λ u. u +ʳ w) (+ʳ_comm y z) ∙ +ʳ_assoc z y w) ∙ sym (+ʳ_assoc x z (y +ʳ w))

pub negʳ-+ʳ : (x y : Rational) → negʳ (x +ʳ y) ≡ negʳ x +ʳ negʳ y
negʳ-+ʳ x y = sym (negʳ_unique (x +ʳ y) (negʳ x +ʳ negʳ y) (swap_middle x y (negʳ x) (negʳ y) ∙ ap₂ (λ u v. u +ʳ v) (+ʳ-neg x) (+ʳ-neg y) ∙ zero-+ʳ zeroʳ))

pub ruleset signs = (+ʳ-neg, neg-+ʳ, negʳ-neg, negʳ-zero, negʳ-*ʳ, *ʳ-negʳ, negʳ-+ʳ)

-- ---- Differences

pub -ʳ-is : (x y : Rational) → x -ʳ y ≡ x +ʳ negʳ y
unfolding ◌-ʳ◌
-ʳ-is x y = refl

pub -ʳ-self : (x : Rational) → x -ʳ x ≡ zeroʳ
-ʳ-self x = -ʳ-is x x ∙ +ʳ-neg x

pub -ʳ-+ʳ : (x y : Rational) → (x -ʳ y) +ʳ y ≡ x
-ʳ-+ʳ x y = ap (λ z. z +ʳ y) (-ʳ-is x y) ∙ +ʳ_assoc x (negʳ y) y ∙ ap (λ z. x +ʳ z) (neg-+ʳ y) ∙ +ʳ-zero x

pub +ʳ--ʳ : (x y : Rational) → (x +ʳ y) -ʳ y ≡ x
+ʳ--ʳ x y = -ʳ-is (x +ʳ y) y ∙ +ʳ_assoc x y (negʳ y) ∙ ap (λ z. x +ʳ z) (+ʳ-neg y) ∙ +ʳ-zero x

pub *ʳ--ʳ : (w x y : Rational) → w *ʳ (x -ʳ y) ≡ (w *ʳ x) -ʳ (w *ʳ y)
*ʳ--ʳ w x y = ap (λ z. w *ʳ z) (-ʳ-is x y) ∙ *ʳ-+ʳ w x (negʳ y) ∙ ap (λ z. (w *ʳ x) +ʳ z) (*ʳ-negʳ w y) ∙ sym (-ʳ-is (w *ʳ x) (w *ʳ y))

-- ---- Order

pub ≤ʳ-+ʳ_cancel : (x y z : Rational) → x +ʳ z ≤ʳ y +ʳ z → x ≤ʳ y
≤ʳ-+ʳ_cancel x y z h = subst (λ u. u ≤ʳ y) (+ʳ--ʳ x z) (subst (λ u. (x +ʳ z) -ʳ z ≤ʳ u) (+ʳ--ʳ y z) (minus_mono (x +ʳ z) (y +ʳ z) z h))
  where
    minus_mono : (x y z : Rational) → x ≤ʳ y → x -ʳ z ≤ʳ y -ʳ z
    minus_mono x y z h = subst (λ u. u ≤ʳ y -ʳ z) (sym (-ʳ-is x z)) (subst (λ u. x +ʳ negʳ z ≤ʳ u) (sym (-ʳ-is y z)) (+ʳ_mono x y (negʳ z) (negʳ z) h (≤ʳ_refl (negʳ z))))

pub minus_at_most : (x y z : Rational) → (x -ʳ y ≤ʳ z) ↔ (x ≤ʳ z +ʳ y)
minus_at_most x y z = (
  λ h. subst (λ u. u ≤ʳ z +ʳ y) (-ʳ-+ʳ x y) (+ʳ_mono (x -ʳ y) z y y h (≤ʳ_refl y)),
  λ h. ≤ʳ-+ʳ_cancel (x -ʳ y) z y (subst (λ u. u ≤ʳ z +ʳ y) (sym (-ʳ-+ʳ x y)) h),
)

pub at_most_minus : (x y z : Rational) → (z ≤ʳ x -ʳ y) ↔ (z +ʳ y ≤ʳ x)
at_most_minus x y z = (
  λ h. subst (λ u. z +ʳ y ≤ʳ u) (-ʳ-+ʳ x y) (+ʳ_mono z (x -ʳ y) y y h (≤ʳ_refl y)),
  λ h. ≤ʳ-+ʳ_cancel z (x -ʳ y) y (subst (λ u. z +ʳ y ≤ʳ u) (sym (-ʳ-+ʳ x y)) h),
)

pub difference_nonnegative : (x y : Rational) → (zeroʳ ≤ʳ y -ʳ x) ↔ (x ≤ʳ y)
difference_nonnegative x y = (
  λ h. subst (λ u. u ≤ʳ y) (zero-+ʳ x) ((at_most_minus y x zeroʳ).0 h),
  λ h. (at_most_minus y x zeroʳ).1 (subst (λ u. u ≤ʳ y) (sym (zero-+ʳ x)) h),
)

negation_added : (x y : Rational) → (x +ʳ negʳ x) +ʳ negʳ y ≡ negʳ y
negation_added x y = ap (λ z. z +ʳ negʳ y) (+ʳ-neg x) ∙ zero-+ʳ (negʳ y)

negation_moved : (x y : Rational) → (y +ʳ negʳ x) +ʳ negʳ y ≡ negʳ x
negation_moved x y = ap (λ z. z +ʳ negʳ y) (+ʳ_comm y (negʳ x)) ∙ +ʳ_assoc (negʳ x) y (negʳ y) ∙ ap (λ z. negʳ x +ʳ z) (+ʳ-neg y) ∙ +ʳ-zero (negʳ x)

pub negʳ_mono : (x y : Rational) → x ≤ʳ y → negʳ y ≤ʳ negʳ x
negʳ_mono x y h = subst (λ u. u ≤ʳ negʳ x) (negation_added x y) (subst (λ u. (x +ʳ negʳ x) +ʳ negʳ y ≤ʳ u) (negation_moved x y) (+ʳ_mono (x +ʳ negʳ x) (y +ʳ negʳ x) (negʳ y) (negʳ y) (+ʳ_mono x y (negʳ x) (negʳ x) h (≤ʳ_refl (negʳ x))) (≤ʳ_refl (negʳ y))))

pub negatives-*ʳ : (x y : Rational) → negʳ x *ʳ negʳ y ≡ x *ʳ y
negatives-*ʳ x y = negʳ-*ʳ x (negʳ y) ∙ ap negʳ (*ʳ-negʳ x y) ∙ negʳ-neg (x *ʳ y)

nonnegative_negation : (x : Rational) → x ≤ʳ zeroʳ → zeroʳ ≤ʳ negʳ x
nonnegative_negation x h = subst (λ u. u ≤ʳ negʳ x) negʳ-zero (negʳ_mono x zeroʳ h)

pub nonpositive-*ʳ : (x y : Rational) → x ≤ʳ zeroʳ → y ≤ʳ zeroʳ → zeroʳ ≤ʳ x *ʳ y
nonpositive-*ʳ x y h k = subst (λ u. zeroʳ ≤ʳ u) (negatives-*ʳ x y) (*ʳ_nonnegative (negʳ x) (negʳ y) (nonnegative_negation x h) (nonnegative_negation y k))

inverse_cross : (n : ℤ) → (pos 1 *ℤ n) *ℤ pos 1 ≡ pos 1 *ℤ (n *ℤ pos 1)
inverse_cross n = rw (one-*ℤ n, *ℤ-one n, one-*ℤ n)

inverse : (n : ℕ) → 0 < n → ratio (pos 1) n *ʳ ratio (pos n) 1 ≡ oneʳ
unfolding oneʳ
inverse n p = ratio-* (pos 1) n (pos n) 1 p (omega arith) ∙ ratio_same _ _ _ _ (mul-pos p (omega arith)) (omega arith) (inverse_cross (pos n))

undone : (n : ℕ) (x : Rational) → 0 < n → ratio (pos 1) n *ʳ (ratio (pos n) 1 *ʳ x) ≡ x
undone n x p = sym (*ʳ_assoc (ratio (pos 1) n) (ratio (pos n) 1) x) ∙ ap (λ z. z *ʳ x) (inverse n p) ∙ one-*ʳ x

pub times_whole : (n : ℕ) (x y : Rational) → 0 < n → (x ≤ʳ y) ↔ (whole (pos n) *ʳ x ≤ʳ whole (pos n) *ʳ y)
unfolding whole
times_whole n x y p = (
  λ h. *ʳ_mono (ratio (pos n) 1) x y (ratio_nonnegative (pos n) 1 (omega arith) (omega (arith, ints))) h,
  λ h. subst (λ u. u ≤ʳ y) (undone n x p) (subst (λ u. ratio (pos 1) n *ʳ (ratio (pos n) 1 *ʳ x) ≤ʳ u) (undone n y p) (*ʳ_mono (ratio (pos 1) n) (ratio (pos n) 1 *ʳ x) (ratio (pos n) 1 *ʳ y) (ratio_nonnegative (pos 1) n p (omega (arith, ints))) h)),
)

-- ---- Halves and middles

pub halves : halfʳ +ʳ halfʳ ≡ oneʳ
unfolding halfʳ oneʳ
halves = ratio-+ (pos 1) 2 (pos 1) 2 (omega arith) (omega arith) ∙ ratio_same _ _ _ _ (omega arith) (omega arith) refl

pub half-half : (x : Rational) → (halfʳ *ʳ x) +ʳ (halfʳ *ʳ x) ≡ x
half-half x = sym (+ʳ-*ʳ halfʳ halfʳ x) ∙ ap (λ z. z *ʳ x) halves ∙ one-*ʳ x

not_true : (b : Bool) → (b ≡ true → ⊥) → b ≡ false
not_true true h = absurd (h refl)
not_true false h = refl

clash : (b : Bool) → b ≡ true → b ≡ false → ⊥
clash b h k = cc

twice_middle : (x y : Rational) → middleʳ x y +ʳ middleʳ x y ≡ x +ʳ y
unfolding middleʳ
twice_middle x y = half-half (x +ʳ y)

pub middle_above : (x y : Rational) → x <ʳ y → x <ʳ middleʳ x y
middle_above x y h = record { holds = not_true _ (λ k. let l : middleʳ x y ≤ʳ x = record { holds = k } in let m : y +ʳ x ≤ʳ x +ʳ x = subst (λ u. u ≤ʳ x +ʳ x) (twice_middle x y ∙ +ʳ_comm x y) (+ʳ_mono (middleʳ x y) x (middleʳ x y) x l l) in clash (leqʳ y x) (≤ʳ-+ʳ_cancel y x x m).holds h.holds) }

pub middle_below : (x y : Rational) → x <ʳ y → middleʳ x y <ʳ y
middle_below x y h = record { holds = not_true _ (λ k. let l : y ≤ʳ middleʳ x y = record { holds = k } in let m : y +ʳ y ≤ʳ x +ʳ y = subst (λ u. y +ʳ y ≤ʳ u) (twice_middle x y) (+ʳ_mono y (middleʳ x y) y (middleʳ x y) l l) in clash (leqʳ y x) (≤ʳ-+ʳ_cancel y x y m).holds h.holds) }

less_case : (x y : Rational) → (x ≤ʳ y) ⊎ (y ≤ʳ x) → leqʳ y x ≡ false → x ≤ʳ y
less_case x y (inl h) e = h
less_case x y (inr h) e = absurd (clash (leqʳ y x) h.holds e)

pub <ʳ-≤ʳ : (x y : Rational) → x <ʳ y → x ≤ʳ y
<ʳ-≤ʳ x y h = less_case x y (≤ʳ_total x y) h.holds

pub <ʳ-not : (x y : Rational) → x <ʳ y → y ≤ʳ x → ⊥
<ʳ-not x y h k = clash (leqʳ y x) k.holds h.holds

-- ---- Comparisons

less_cross : (x y : Rational) → (x.num *ℤ pos y.den) <ℤ (y.num *ℤ pos x.den) → x <ʳ y
unfolding leqʳ
less_cross x y h = record { holds = untested _ _ h }
  where
    untested : (a b : ℤ) → a <ℤ b → le_z b a ≡ false
    untested a b h = grind (arith, ints)

ranked : (o : Ordering) {A B C A' B' C' : Type 0} → (A → A') → (B → B') → (C → C') → MatchOrdering o A B C → MatchOrdering o A' B' C'
ranked Less f g h m = f m
ranked Equal f g h m = g m
ranked Greater f g h m = h m

pub compareʳ-is : (x y : Rational) → MatchOrdering (compareʳ x y) (x <ʳ y) (x ≡ y) (y <ʳ x)
unfolding compareʳ
compareʳ-is x y = ranked _ (less_cross x y) (same_cross x y) (less_cross y x) (int_ranks (x.num *ℤ pos y.den) (y.num *ℤ pos x.den))
