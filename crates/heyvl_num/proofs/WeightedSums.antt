-- Laws of weighted sums. To import: `use
-- Rattle.heyvl_num.proofs.WeightedSums.{weighted_sum-append}`, or the rule set
-- `using(heyvl_num::proofs::WeightedSums::weighted)`, which takes sums over lists apart.
use Rattle.std.proofs.Common.{◌≡◌, List, [], ◌∷◌, ◌++◌, refl, sym, ap, ap₂, ◌∙◌, subst}
use Rattle.heyvl_num.specs.Rational.{Rational, zeroʳ, oneʳ, ◌+ʳ◌, ◌*ʳ◌, ◌≤ʳ◌}
use Rattle.heyvl_num.specs.Value.{Value, zeroᵛ, oneᵛ, ◌+ᵛ◌, ◌*ᵛ◌, ◌≤ᵛ◌}
use Rattle.heyvl_num.specs.Value.Value.{finite}
use Rattle.heyvl_num.specs.WeightedSums.{weighted_sum, total_weight, scaled, joined, IsWeighted}
use Rattle.heyvl_num.specs.WeightedSums.IsWeighted.{none, one_more}
use Rattle.heyvl_num.proofs.Rationals.{*ʳ_nonnegative, +ʳ_nonnegative, ≤ʳ_refl}
use Rattle.heyvl_num.proofs.Values.{zero-+ᵛ, +ᵛ_assoc, +ᵛ_left_comm, *ᵛ-zero, zero-*ᵛ, one-*ᵛ, *ᵛ_left_comm, scale_scale, scale-+ᵛ, weights-*, ≤ᵛ_refl, ≤ᵛ_trans, +ᵛ_mono, scale_mono, weight_mono, scale_nonnegative, +ᵛ_nonnegative}

pub weighted_sum-empty : {A : Type 0} (f : A → Value) → weighted_sum f [] ≡ zeroᵛ
unfolding weighted_sum
weighted_sum-empty f = refl

pub weighted_sum-cons : {A : Type 0} (f : A → Value) (w : Rational) (a : A) (xs : List (Rational × A)) → weighted_sum f ((w, a) ∷ xs) ≡ (finite w *ᵛ f a) +ᵛ weighted_sum f xs
unfolding weighted_sum
weighted_sum-cons f w a xs = refl

pub total_weight-empty : (A : Type 0) → total_weight {A = A} [] ≡ zeroʳ
unfolding total_weight
total_weight-empty A = refl

pub total_weight-cons : {A : Type 0} (w : Rational) (a : A) (xs : List (Rational × A)) → total_weight ((w, a) ∷ xs) ≡ w +ʳ total_weight xs
unfolding total_weight
total_weight-cons w a xs = refl

pub weighted_sum-append : {A : Type 0} (f : A → Value) (xs ys : List (Rational × A)) → weighted_sum f (xs ++ ys) ≡ weighted_sum f xs +ᵛ weighted_sum f ys
unfolding weighted_sum
weighted_sum-append f [] ys = sym (zero-+ᵛ (weighted_sum f ys))
weighted_sum-append f (x ∷ xs) ys = ap (λ v. (finite x.0 *ᵛ f x.1) +ᵛ v) (weighted_sum-append f xs ys) ∙ sym (+ᵛ_assoc (finite x.0 *ᵛ f x.1) (weighted_sum f xs) (weighted_sum f ys))

pub weighted_sum-scaled : {A : Type 0} (f : A → Value) (w : Rational) (xs : List (Rational × A)) → weighted_sum f (scaled w xs) ≡ finite w *ᵛ weighted_sum f xs
unfolding weighted_sum scaled
weighted_sum-scaled f w [] = sym (*ᵛ-zero (finite w))
weighted_sum-scaled f w (x ∷ xs) = ap₂ (λ u v. u +ᵛ v) (sym (scale_scale w x.0 (f x.1))) (weighted_sum-scaled f w xs) ∙ sym (scale-+ᵛ w (finite x.0 *ᵛ f x.1) (weighted_sum f xs))

swapped : (a b : Rational) (v : Value) → finite a *ᵛ (finite b *ᵛ v) ≡ finite b *ᵛ (finite a *ᵛ v)
swapped a b v = *ᵛ_left_comm (finite a) (finite b) v

pub weighted_sum-factor : {A : Type 0} (f : A → Value) (w : Rational) (xs : List (Rational × A)) → weighted_sum (λ a. finite w *ᵛ f a) xs ≡ finite w *ᵛ weighted_sum f xs
unfolding weighted_sum
weighted_sum-factor f w [] = sym (*ᵛ-zero (finite w))
weighted_sum-factor f w (x ∷ xs) = ap₂ (λ u v. u +ᵛ v) (swapped x.0 w (f x.1)) (weighted_sum-factor f w xs) ∙ sym (scale-+ᵛ w (finite x.0 *ᵛ f x.1) (weighted_sum f xs))

middle_swap : (x y z w : Value) → (x +ᵛ y) +ᵛ (z +ᵛ w) ≡ (x +ᵛ z) +ᵛ (y +ᵛ w)
middle_swap x y z w = +ᵛ_assoc x y (z +ᵛ w) ∙ ap (λ u. x +ᵛ u) (+ᵛ_left_comm y z w) ∙ sym (+ᵛ_assoc x z (y +ᵛ w))

pub weighted_sum-+ : {A : Type 0} (f g : A → Value) (xs : List (Rational × A)) → weighted_sum (λ a. f a +ᵛ g a) xs ≡ weighted_sum f xs +ᵛ weighted_sum g xs
unfolding weighted_sum
weighted_sum-+ f g [] = sym (zero-+ᵛ zeroᵛ)
weighted_sum-+ f g (x ∷ xs) = ap₂ (λ u v. u +ᵛ v) (scale-+ᵛ x.0 (f x.1) (g x.1)) (weighted_sum-+ f g xs) ∙ middle_swap (finite x.0 *ᵛ f x.1) (finite x.0 *ᵛ g x.1) (weighted_sum f xs) (weighted_sum g xs)

pub weighted_sum-joined : {A B : Type 0} (f : B → Value) (k : A → List (Rational × B)) (xs : List (Rational × A)) → weighted_sum f (joined k xs) ≡ weighted_sum (λ a. weighted_sum f (k a)) xs
unfolding weighted_sum joined
weighted_sum-joined f k [] = refl
weighted_sum-joined f k (x ∷ xs) = weighted_sum-append f (scaled x.0 (k x.1)) (joined k xs) ∙ ap₂ (λ u v. u +ᵛ v) (weighted_sum-scaled f x.0 (k x.1)) (weighted_sum-joined f k xs)

pub weighted_sum-same : {A : Type 0} (f g : A → Value) (xs : List (Rational × A)) → ((a : A) → f a ≡ g a) → weighted_sum f xs ≡ weighted_sum g xs
unfolding weighted_sum
weighted_sum-same f g [] h = refl
weighted_sum-same f g (x ∷ xs) h = ap₂ (λ u v. u +ᵛ v) (ap (λ v. finite x.0 *ᵛ v) (h x.1)) (weighted_sum-same f g xs h)

-- ---- Order and signs
pub weighted_sum_mono : {A : Type 0} (f g : A → Value) (xs : List (Rational × A)) → IsWeighted xs → ((a : A) → f a ≤ᵛ g a) → weighted_sum f xs ≤ᵛ weighted_sum g xs
unfolding weighted_sum
weighted_sum_mono f g [] p h = ≤ᵛ_refl zeroᵛ
weighted_sum_mono f g _ (one_more x xs p q) h = +ᵛ_mono (finite x.0 *ᵛ f x.1) (finite x.0 *ᵛ g x.1) (weighted_sum f xs) (weighted_sum g xs) (scale_mono x.0 (f x.1) (g x.1) p (h x.1)) (weighted_sum_mono f g xs q h)

pub weighted_sum_nonnegative : {A : Type 0} (f : A → Value) (xs : List (Rational × A)) → IsWeighted xs → ((a : A) → zeroᵛ ≤ᵛ f a) → zeroᵛ ≤ᵛ weighted_sum f xs
unfolding weighted_sum
weighted_sum_nonnegative f [] p h = ≤ᵛ_refl zeroᵛ
weighted_sum_nonnegative f _ (one_more x xs p q) h = +ᵛ_nonnegative (finite x.0 *ᵛ f x.1) (weighted_sum f xs) (scale_nonnegative x.0 (f x.1) p (h x.1)) (weighted_sum_nonnegative f xs q h)

pub total_weight_nonnegative : {A : Type 0} (xs : List (Rational × A)) → IsWeighted xs → zeroʳ ≤ʳ total_weight xs
unfolding total_weight
total_weight_nonnegative [] p = ≤ʳ_refl zeroʳ
total_weight_nonnegative _ (one_more x xs p q) = +ʳ_nonnegative x.0 (total_weight xs) p (total_weight_nonnegative xs q)

nothing_times : (v : Value) → finite zeroʳ *ᵛ v ≡ zeroᵛ
unfolding zeroᵛ
nothing_times v = zero-*ᵛ v

pub weighted_sum-constant : {A : Type 0} (v : Value) (xs : List (Rational × A)) → IsWeighted xs → weighted_sum (λ a. v) xs ≡ finite (total_weight xs) *ᵛ v
unfolding weighted_sum total_weight
weighted_sum-constant v [] p = sym (nothing_times v)
weighted_sum-constant v _ (one_more x xs p q) = ap (λ u. (finite x.0 *ᵛ v) +ᵛ u) (weighted_sum-constant v xs q) ∙ sym (weights-* x.0 (total_weight xs) v p (total_weight_nonnegative xs q))

unit_times : (v : Value) → finite oneʳ *ᵛ v ≡ v
unfolding oneᵛ
unit_times v = one-*ᵛ v

pub weighted_sum_bounded : {A : Type 0} (f : A → Value) (v : Value) (xs : List (Rational × A)) → IsWeighted xs → total_weight xs ≤ʳ oneʳ → zeroᵛ ≤ᵛ v → ((a : A) → f a ≤ᵛ v) → weighted_sum f xs ≤ᵛ v
weighted_sum_bounded f v xs p t q h = ≤ᵛ_trans (weighted_sum f xs) (weighted_sum (λ a. v) xs) v (weighted_sum_mono f (λ a. v) xs p h) (subst (λ u. u ≤ᵛ v) (sym (weighted_sum-constant v xs p)) (subst (λ u. finite (total_weight xs) *ᵛ v ≤ᵛ u) (unit_times v) (weight_mono (total_weight xs) oneʳ v (total_weight_nonnegative xs p) q t)))

pub is_weighted-append : {A : Type 0} (xs ys : List (Rational × A)) → IsWeighted xs → IsWeighted ys → IsWeighted (xs ++ ys)
is_weighted-append _ ys none q = q
is_weighted-append _ ys (one_more x xs p r) q = one_more x (xs ++ ys) p (is_weighted-append xs ys r q)

pub is_weighted-scaled : {A : Type 0} (w : Rational) (xs : List (Rational × A)) → zeroʳ ≤ʳ w → IsWeighted xs → IsWeighted (scaled w xs)
unfolding scaled
is_weighted-scaled w _ p none = none
is_weighted-scaled w _ p (one_more x xs q r) = one_more (w *ʳ x.0, x.1) (scaled w xs) (*ʳ_nonnegative w x.0 p q) (is_weighted-scaled w xs p r)

pub is_weighted-joined : {A B : Type 0} (k : A → List (Rational × B)) (xs : List (Rational × A)) → IsWeighted xs → ((a : A) → IsWeighted (k a)) → IsWeighted (joined k xs)
unfolding joined
is_weighted-joined k _ none h = none
is_weighted-joined k _ (one_more x xs p q) h = is_weighted-append (scaled x.0 (k x.1)) (joined k xs) (is_weighted-scaled x.0 (k x.1) p (h x.1)) (is_weighted-joined k xs q h)

pub ruleset weighted = (weighted_sum-append, weighted_sum-scaled, weighted_sum-factor, weighted_sum-+, weighted_sum-joined)
