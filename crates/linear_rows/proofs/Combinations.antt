-- Rows that multipliers combine to a contradiction have no solution.
use Rattle.std.proofs.Common.{◌≡◌, ℕ, ◌<◌, List, [], ◌∷◌, refl, sym, ap, ◌∙◌, arith, subst, true, false, ◌⊎◌, inl, inr}
use Rattle.std.specs.Prelude.{ℤ, pos, negsuc, ◌+ℤ◌, ◌*ℤ◌, ◌≤ℤ◌, ◌<ℤ◌}
use Rattle.std.proofs.Math.IntN.{zero-*ℤ}
use borrow.Author.Differences.{ints}
use Prim.Native.Nat.{zero, suc}
use Rattle.std.specs.List.{All}
use Rattle.std.proofs.lemmas.List.Elements.{All-head, All-tail}
use Rattle.heyvl_num.proofs.exported.Integers.{ring}
use Rattle.linear_rows.specs.Terms.{sum_at, coefficient, IsNormal, add_terms}
use Rattle.linear_rows.specs.Row.{Row}
use Rattle.linear_rows.specs.Points.{Point, IsBelow, Meets, IsMetSomewhere, left_side}
use Rattle.linear_rows.specs.Solutions.{IsSolvable}
use Rattle.linear_rows.specs.Combination.{row_at, combined, uses_strict, IsContradiction}
use Rattle.linear_rows.proofs.Sums.{sum_at-nil, sum_at-add}
use Rattle.linear_rows.proofs.Between.{below-weak, below-same, below-scale, below-both}
use Rattle.linear_rows.proofs.Moves.{only, coefficient-is}
use Rattle.linear_rows.proofs.Normal.{add-normal, all_zero}
use Rattle.linear_rows.proofs.Fractions.{solvable_is}

value_sum : (m s r b t u : ℤ) → (m *ℤ (s +ℤ (r *ℤ b))) +ℤ (t +ℤ (u *ℤ b)) ≡ ((m *ℤ s) +ℤ t) +ℤ (((m *ℤ r) +ℤ u) *ℤ b)
value_sum m s r b t u = simp ring

none_sum : (b : ℤ) → pos 0 ≡ pos 0 +ℤ (pos 0 *ℤ b)
none_sum b = rw (zero-*ℤ b) refl

combined-left_side : (w : Point) (ms : List (ℕ × ℕ)) (rs : List Row) → combined (left_side w) ms rs ≡ combined (λ s. sum_at w.top s.terms) ms rs +ℤ (combined (λ s. s.rest) ms rs *ℤ pos w.below)
unfolding combined
combined-left_side w [] rs = none_sum (pos w.below)
combined-left_side w (m ∷ ms) rs = rw (combined-left_side w ms rs) (value_sum (pos m.1) (sum_at w.top (row_at rs m.0).terms) (row_at rs m.0).rest (pos w.below) (combined (λ s. sum_at w.top s.terms) ms rs) (combined (λ s. s.rest) ms rs))

pub met_at : (w : Point) (rs : List Row) → All (Meets w) rs → (i : ℕ) → Meets w (row_at rs i)
met_at w [] h i = record { met = below-same false _ (pos 0) (ap (λ z. z +ℤ (pos 0 *ℤ pos w.below)) (sum_at-nil w.top) ∙ sym (none_sum (pos w.below))) (omega (arith, ints)) }
met_at w (r ∷ rs) h zero = All-head (Meets w) r rs h
met_at w (r ∷ rs) h (suc i) = met_at w rs (All-tail (Meets w) r rs h) i

combined-below : (w : Point) (ms : List (ℕ × ℕ)) (rs : List Row) → All (λ m. 0 < m.1) ms → All (Meets w) rs → IsBelow (uses_strict ms rs) (combined (left_side w) ms rs)
unfolding combined uses_strict
combined-below w [] rs p h = omega (arith, ints)
combined-below w (m ∷ ms) rs p h = below-both (row_at rs m.0).strict (uses_strict ms rs) _ _ (below-scale (row_at rs m.0).strict m.1 (left_side w (row_at rs m.0)) (All-head (λ m. 0 < m.1) m ms p) (met_at w rs h m.0).met) (combined-below w ms rs (All-tail (λ m. 0 < m.1) m ms p) h)

combined_terms : List (ℕ × ℕ) → List Row → List (ℕ × ℤ)
combined_terms [] rs = []
combined_terms (m ∷ ms) rs = add_terms (pos m.1) (row_at rs m.0).terms (combined_terms ms rs)

combined-sum : (f : ℕ → ℤ) (ms : List (ℕ × ℕ)) (rs : List Row) → sum_at f (combined_terms ms rs) ≡ combined (λ s. sum_at f s.terms) ms rs
unfolding combined combined_terms
combined-sum f [] rs = sum_at-nil f
combined-sum f (m ∷ ms) rs = sum_at-add f (pos m.1) (row_at rs m.0).terms (combined_terms ms rs) ∙ ap (λ t. (pos m.1 *ℤ sum_at f (row_at rs m.0).terms) +ℤ t) (combined-sum f ms rs)

combined-normal : (ms : List (ℕ × ℕ)) (rs : List Row) → IsNormal (combined_terms ms rs)
unfolding combined_terms
combined-normal [] rs = tt
combined-normal (m ∷ ms) rs = add-normal (pos m.1) (row_at rs m.0).terms (combined_terms ms rs) (combined-normal ms rs)

combined-same : (F G : Row → ℤ) (ms : List (ℕ × ℕ)) (rs : List Row) → ((r : Row) → F r ≡ G r) → combined F ms rs ≡ combined G ms rs
unfolding combined
combined-same F G [] rs h = refl
combined-same F G (m ∷ ms) rs h = rw (h (row_at rs m.0), combined-same F G ms rs h) refl

positive_times : (c : ℤ) (d : ℕ) → 0 < d → pos 0 <ℤ c → (c *ℤ pos d) ≤ℤ pos 0 → ⊥
positive_times (pos zero) d p q h = omega (arith, ints)
positive_times (pos (suc n)) zero p q h = absurd (omega arith)
positive_times (pos (suc n)) (suc d) p q h = omega (arith, ints)
positive_times (negsuc n) d p q h = omega (arith, ints)

-- If no variable is left, the sums of the terms are 0.
no_terms : (w : Point) (ms : List (ℕ × ℕ)) (rs : List Row) → ((x : ℕ) → combined (λ r. coefficient x r.terms) ms rs ≡ pos 0) → combined (λ s. sum_at w.top s.terms) ms rs ≡ pos 0
no_terms w ms rs h = sym (combined-sum w.top ms rs) ∙ ap (sum_at w.top) (all_zero (combined_terms ms rs) (combined-normal ms rs) (λ x. coefficient-is x (combined_terms ms rs) ∙ combined-sum (only x) ms rs ∙ combined-same (λ s. sum_at (only x) s.terms) (λ s. coefficient x s.terms) ms rs (λ r. sym (coefficient-is x r.terms)) ∙ h x)) ∙ sum_at-nil w.top

pub unmet : (ms : List (ℕ × ℕ)) (rows : List Row) → All (λ m. 0 < m.1) ms → ((x : ℕ) → combined (λ r. coefficient x r.terms) ms rows ≡ pos 0) → (pos 0 <ℤ combined (λ r. r.rest) ms rows) ⊎ ((combined (λ r. r.rest) ms rows ≡ pos 0) × (uses_strict ms rows ≡ true)) → IsMetSomewhere rows → ⊥
unmet ms rows positive none constant s = go constant
  where
    w : Point
    w = s.at_point

    drop_zero : (z : ℤ) → pos 0 +ℤ z ≡ z
    drop_zero z = omega (arith, ints)

    only_rest : combined (left_side w) ms rows ≡ combined (λ r. r.rest) ms rows *ℤ pos w.below
    only_rest = combined-left_side w ms rows ∙ ap (λ t. t +ℤ (combined (λ r. r.rest) ms rows *ℤ pos w.below)) (no_terms w ms rows none) ∙ drop_zero (combined (λ r. r.rest) ms rows *ℤ pos w.below)

    bound : IsBelow (uses_strict ms rows) (combined (λ r. r.rest) ms rows *ℤ pos w.below)
    bound = below-same (uses_strict ms rows) _ _ (sym only_rest) (combined-below w ms rows positive s.meets)

    no_strict : (z : ℤ) → z ≡ pos 0 → (z *ℤ pos w.below) <ℤ pos 0 → ⊥
    no_strict z e k = absurd_zero (subst (λ y. (y *ℤ pos w.below) <ℤ pos 0) e k)
      where
        absurd_zero : (pos 0 *ℤ pos w.below) <ℤ pos 0 → ⊥
        absurd_zero k = let l = subst (λ y. y <ℤ pos 0) (zero-*ℤ (pos w.below)) k in omega (arith, ints, l)

    go : (pos 0 <ℤ combined (λ r. r.rest) ms rows) ⊎ ((combined (λ r. r.rest) ms rows ≡ pos 0) × (uses_strict ms rows ≡ true)) → ⊥
    go (inl l) = positive_times _ w.below w.positive l (below-weak (uses_strict ms rows) _ bound)
    go (inr e) = no_strict _ e.0 (subst (λ b. IsBelow b (combined (λ r. r.rest) ms rows *ℤ pos w.below)) e.1 bound)

pub contradiction_unmet : (ms : List (ℕ × ℕ)) (rows : List Row) → IsContradiction ms rows → IsMetSomewhere rows → ⊥
contradiction_unmet ms rows h s = unmet ms rows h.positive h.no_variable h.false_constant s

pub contradiction_unsolvable : (ms : List (ℕ × ℕ)) (rows : List Row) → IsContradiction ms rows → IsSolvable rows → ⊥
contradiction_unsolvable ms rows h s = contradiction_unmet ms rows h ((solvable_is rows).0 s)
