-- Properties of each outcome, and their consequences for sums and weights.
use Rattle.std.proofs.Common.{◌≡◌, sym, subst, List, [], ◌∷◌, ◌++◌}
use Rattle.heyvl_num.specs.Rational.{Rational, zeroʳ, oneʳ, ◌≤ʳ◌}
use Rattle.heyvl_num.specs.Value.{Value, zeroᵛ, ◌*ᵛ◌, ◌≤ᵛ◌}
use Rattle.heyvl_num.specs.Value.Value.{finite}
use Rattle.heyvl_num.specs.WeightedSums.{weighted_sum, total_weight, scaled}
use Rattle.heyvl_num.proofs.exported.Rationals.{*ʳ_nonnegative, +ʳ_nonnegative, ≤ʳ_refl, zero-≤ʳ-one}
use Rattle.heyvl_num.proofs.exported.Values.{≤ᵛ_refl, +ᵛ_mono, scale_mono, zero-*ᵛ}
use Rattle.heyvl_num.proofs.exported.WeightedSums.{weighted_sum-empty, weighted_sum-cons, total_weight-empty, total_weight-cons}
use Rattle.run_laws.specs.EachOutcome.{EachOutcome}

pub all_sure : {A : Type 0} (P : A → Type 0) (a : A) → P a → EachOutcome P ((oneʳ, a) ∷ [])
all_sure P a h = ((zero-≤ʳ-one, h), tt)

pub all_append : {A : Type 0} (P : A → Type 0) (xs ys : List (Rational × A)) → EachOutcome P xs → EachOutcome P ys → EachOutcome P (xs ++ ys)
all_append P [] ys h k = k
all_append P (x ∷ xs) ys h k = (h.0, all_append P xs ys h.1 k)

pub all_scaled : {A : Type 0} (P : A → Type 0) (w : Rational) (xs : List (Rational × A)) → zeroʳ ≤ʳ w → EachOutcome P xs → EachOutcome P (scaled w xs)
unfolding scaled
all_scaled P w [] p h = tt
all_scaled P w (x ∷ xs) p h = ((*ʳ_nonnegative w x.0 p h.0.0, h.0.1), all_scaled P w xs p h.1)

pub all_more : {A : Type 0} (P Q : A → Type 0) → ((a : A) → P a → Q a) → (xs : List (Rational × A)) → EachOutcome P xs → EachOutcome Q xs
all_more P Q f [] h = tt
all_more P Q f (x ∷ xs) h = ((h.0.0, f x.1 h.0.1), all_more P Q f xs h.1)

pub sum_at_most : {A : Type 0} (f g : A → Value) (xs : List (Rational × A)) → EachOutcome (λ a. f a ≤ᵛ g a) xs → weighted_sum f xs ≤ᵛ weighted_sum g xs
sum_at_most f g [] h = rw (weighted_sum-empty f, weighted_sum-empty g) (≤ᵛ_refl zeroᵛ)
sum_at_most f g (x ∷ xs) h = rw (weighted_sum-cons f x.0 x.1 xs, weighted_sum-cons g x.0 x.1 xs) (+ᵛ_mono _ _ _ _ (scale_mono x.0 (f x.1) (g x.1) h.0.0 h.0.1) (sum_at_most f g xs h.1))

pub weights_held : {A : Type 0} (P : A → Type 0) (xs : List (Rational × A)) → EachOutcome P xs → zeroʳ ≤ʳ total_weight xs
weights_held {A = A} P [] a = subst (λ w. zeroʳ ≤ʳ w) (sym (total_weight-empty A)) (≤ʳ_refl zeroʳ)
weights_held {A = A} P (x ∷ xs) a = subst (λ w. zeroʳ ≤ʳ w) (sym (total_weight-cons x.0 x.1 xs)) (+ʳ_nonnegative x.0 (total_weight xs) a.0.0 (weights_held P xs a.1))

pub no_weight : (v : Value) → finite zeroʳ *ᵛ v ≡ zeroᵛ
unfolding zeroᵛ
no_weight v = zero-*ᵛ v
