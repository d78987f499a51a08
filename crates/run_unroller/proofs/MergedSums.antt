-- Merging changes no sum, if no weight is negative.
use Rattle.std.proofs.Common.{◌≡◌, List, [], ◌∷◌, Bool, true, false, if◌then◌else◌, refl, sym, ap, ◌∙◌}
use Rattle.heyvl_num.specs.Rational.{Rational, zeroʳ, ◌+ʳ◌, ◌≤ʳ◌}
use Rattle.heyvl_num.specs.Value.{Value, ◌+ᵛ◌, ◌*ᵛ◌}
use Rattle.heyvl_num.specs.Value.Value.{finite}
use Rattle.heyvl_num.specs.WeightedSums.{weighted_sum, joined}
use Rattle.heyvl_num.proofs.exported.WeightedSums.{weighted_sum-empty, weighted_sum-cons}
use Rattle.heyvl_num.proofs.exported.Values.{weights-*, +ᵛ_comm, +ᵛ_assoc, +ᵛ_left_comm, +ᵛ-zero, zero-+ᵛ}
use Rattle.heyvl_num.proofs.exported.Rationals.{+ʳ_nonnegative}
use Rattle.run_laws.specs.EachOutcome.{EachOutcome}
use Rattle.run_laws.proofs.exported.Outcomes.{all_append, all_scaled}
use Rattle.run_unroller.specs.MergedLists.{merged, merged_onto, put}

swap_left : (x y z : Value) → (x +ᵛ y) +ᵛ z ≡ y +ᵛ (x +ᵛ z)
swap_left x y z = ap (λ v. v +ᵛ z) (+ᵛ_comm x y) ∙ +ᵛ_assoc y x z

-- ---- Properties of each element

put_one : {A : Type 0} (P : A → Type 0) (b : Bool) (x e : Rational × A) (es more : List (Rational × A)) → zeroʳ ≤ʳ x.0 → (zeroʳ ≤ʳ e.0) × P e.1 → EachOutcome P es → EachOutcome P more → EachOutcome P (if b then (e.0 +ʳ x.0, e.1) ∷ es else e ∷ more)
put_one P true x e es more p r q i = ((+ʳ_nonnegative e.0 x.0 r.0 p, r.1), q)
put_one P false x e es more p r q i = (r, i)

module _ {A : Type 0} (same : A → A → Bool) (P : A → Type 0) where
  put_kept : (x : Rational × A) (es : List (Rational × A)) → (zeroʳ ≤ʳ x.0) × P x.1 → EachOutcome P es → EachOutcome P (put same x es)
  put_kept x [] p q = (p, tt)
  put_kept x (e ∷ es) p q = put_one P (same x.1 e.1) x e es (put same x es) p.0 q.0 q.1 (put_kept x es p q.1)

  merged_onto_kept : (es xs : List (Rational × A)) → EachOutcome P es → EachOutcome P xs → EachOutcome P (merged_onto same es xs)
  unfolding merged_onto
  merged_onto_kept es [] p q = p
  merged_onto_kept es (x ∷ xs) p q = merged_onto_kept (put same x es) xs (put_kept x es q.0 p) q.1

  pub merged_kept : (xs : List (Rational × A)) → EachOutcome P xs → EachOutcome P (merged same xs)
  merged_kept xs q = merged_onto_kept [] xs tt q

pub joined_kept : {A B : Type 0} (P : A → Type 0) (Q : B → Type 0) (k : A → List (Rational × B)) → ((a : A) → P a → EachOutcome Q (k a)) → (xs : List (Rational × A)) → EachOutcome P xs → EachOutcome Q (joined k xs)
unfolding joined
joined_kept P Q k h [] q = tt
joined_kept P Q k h (x ∷ xs) q = all_append Q _ _ (all_scaled Q x.0 (k x.1) q.0.0 (h x.1 q.0.1)) (joined_kept P Q k h xs q.1)

-- ---- Sums

module _ {A : Type 0} (same : A → A → Bool) (sound : (x y : A) → same x y ≡ true → x ≡ y) (P : A → Type 0) (f : A → Value) where
  sum_one : (b : Bool) (x e : Rational × A) (es : List (Rational × A)) → same x.1 e.1 ≡ b → zeroʳ ≤ʳ x.0 → zeroʳ ≤ʳ e.0 → weighted_sum f (put same x es) ≡ (finite x.0 *ᵛ f x.1) +ᵛ weighted_sum f es → weighted_sum f (if b then (e.0 +ʳ x.0, e.1) ∷ es else e ∷ put same x es) ≡ (finite x.0 *ᵛ f x.1) +ᵛ weighted_sum f (e ∷ es)
  sum_one true x e es k p r ih =
      weighted_sum-cons f (e.0 +ʳ x.0) e.1 es
      ∙ ap (λ v. v +ᵛ weighted_sum f es) (weights-* e.0 x.0 (f e.1) r p ∙ ap (λ v. (finite e.0 *ᵛ f e.1) +ᵛ (finite x.0 *ᵛ v)) (ap f (sym (sound x.1 e.1 k))))
      ∙ swap_left (finite e.0 *ᵛ f e.1) (finite x.0 *ᵛ f x.1) (weighted_sum f es)
      ∙ ap (λ v. (finite x.0 *ᵛ f x.1) +ᵛ v) (sym (weighted_sum-cons f e.0 e.1 es))
  sum_one false x e es k p r ih =
      weighted_sum-cons f e.0 e.1 (put same x es)
      ∙ ap (λ v. (finite e.0 *ᵛ f e.1) +ᵛ v) ih
      ∙ +ᵛ_left_comm (finite e.0 *ᵛ f e.1) (finite x.0 *ᵛ f x.1) (weighted_sum f es)
      ∙ ap (λ v. (finite x.0 *ᵛ f x.1) +ᵛ v) (sym (weighted_sum-cons f e.0 e.1 es))

  put_sum : (x : Rational × A) (es : List (Rational × A)) → zeroʳ ≤ʳ x.0 → EachOutcome P es → weighted_sum f (put same x es) ≡ (finite x.0 *ᵛ f x.1) +ᵛ weighted_sum f es
  put_sum x [] p q = weighted_sum-cons f x.0 x.1 []
  put_sum x (e ∷ es) p q = sum_one (same x.1 e.1) x e es refl p q.0.0 (put_sum x es p q.1)

  merged_onto_sum : (es xs : List (Rational × A)) → EachOutcome P es → EachOutcome P xs → weighted_sum f (merged_onto same es xs) ≡ weighted_sum f es +ᵛ weighted_sum f xs
  unfolding merged_onto
  merged_onto_sum es [] p q = sym (ap (λ v. weighted_sum f es +ᵛ v) (weighted_sum-empty f) ∙ +ᵛ-zero (weighted_sum f es))
  merged_onto_sum es (x ∷ xs) p q =
      merged_onto_sum (put same x es) xs (put_kept same P x es q.0 p) q.1
      ∙ ap (λ v. v +ᵛ weighted_sum f xs) (put_sum x es q.0.0 p)
      ∙ swap_left (finite x.0 *ᵛ f x.1) (weighted_sum f es) (weighted_sum f xs)
      ∙ ap (λ v. weighted_sum f es +ᵛ v) (sym (weighted_sum-cons f x.0 x.1 xs))

  pub merged_sum : (xs : List (Rational × A)) → EachOutcome P xs → weighted_sum f (merged same xs) ≡ weighted_sum f xs
  merged_sum xs q = merged_onto_sum [] xs tt q ∙ ap (λ v. v +ᵛ weighted_sum f xs) (weighted_sum-empty f) ∙ zero-+ᵛ (weighted_sum f xs)
