-- The multipliers of a contradiction combine the first rows to it.
use Rattle.std.proofs.Common.{◌≡◌, ℕ, ◌<◌, ◌^◌, List, [], ◌∷◌, map, length, refl, sym, ap, ap₂, ◌∙◌, arith, subst, Bool, true, false, not, ◌&&◌, ◌||◌, ◌⊎◌, inl, inr}
use Rattle.std.specs.Prelude.{ℤ, pos, negsuc, ◌+ℤ◌, ◌*ℤ◌, ◌<ℤ◌}
use Rattle.std.specs.Int.RustNames.{unsigned_abs}
use Rattle.std.specs.Int.Signed.{lt_z}
use borrow.Author.Differences.{ints}
use Rattle.std.proofs.Math.IntN.{*ℤ-zero}
use Prim.Native.Nat.{zero, suc}
use Rattle.std.specs.List.{All}
use Rattle.std.proofs.lemmas.List.Elements.{All-nil, All-cons, All-head, All-tail}
use Rattle.heyvl_num.specs.Value.{is_zero_num}
use Rattle.linear_rows.specs.Terms.{sum_at, coefficient, IsNormal}
use Rattle.linear_rows.specs.Row.{Row}
use Rattle.linear_rows.specs.Combination.{row_at, combined, uses_strict, IsWideThroughout, IsContradiction}
use Rattle.goal_answers.specs.Multipliers.{IsGrowing}
use Rattle.linear_rows.proofs.exported.Sums.{sum_at-nil, sum_at-cons}
use Rattle.linear_rows.specs.Points.{IsMetSomewhere}
use Rattle.linear_rows.proofs.exported.Combinations.{unmet}
use Rattle.linear_rows.proofs.exported.Moves.{only, coefficient-is}
use Rattle.linear_elim.specs.Joins.{Derived, is_above_zero}
use Rattle.linear_elim.specs.internal.DerivedRows.{any_at, Follows}
use Rattle.linear_elim.specs.Steps.{has_terms, is_contradiction}
use Rattle.linear_elim.specs.Elimination.{multipliers}
use Rattle.linear_elim.proofs.Shares.{ArePositive}
use Rattle.linear_rows.proofs.exported.SameTerms.{and_true}

abbrev pub plain_shares : List (ℕ × ℤ) → List (ℕ × ℕ)
plain_shares ms = map (λ (s : ℕ × ℤ). (s.0, unsigned_abs s.1)) ms

positive_abs : (c : ℤ) → is_above_zero c ≡ true → pos (unsigned_abs c) ≡ c
positive_abs (pos n) e = refl
positive_abs (negsuc n) e = absurd (cc)

abs_positive : (c : ℤ) → is_above_zero c ≡ true → 0 < unsigned_abs c
abs_positive (pos zero) e = absurd (cc)
abs_positive (pos (suc n)) e = omega arith
abs_positive (negsuc n) e = absurd (cc)

pub combined-is : (F : Row → ℤ) (ms : List (ℕ × ℤ)) (rows : List Row) → ArePositive ms → combined F (plain_shares ms) rows ≡ sum_at (λ i. F (row_at rows i)) ms
unfolding combined
combined-is F [] rows h = sym (sum_at-nil (λ i. F (row_at rows i)))
combined-is F (m ∷ ms) rows h = ap₂ (λ c z. (c *ℤ F (row_at rows m.0)) +ℤ z) (positive_abs m.1 (All-head (λ s. is_above_zero s.1 ≡ true) m ms h)) (combined-is F ms rows (All-tail (λ s. is_above_zero s.1 ≡ true) m ms h)) ∙ sym (sum_at-cons (λ i. F (row_at rows i)) m ms)

strict-is : (ms : List (ℕ × ℤ)) (rows : List Row) → uses_strict (plain_shares ms) rows ≡ any_at (λ i. (row_at rows i).strict) ms
unfolding uses_strict any_at
strict-is [] rows = refl
strict-is (m ∷ ms) rows = ap (λ b. (row_at rows m.0).strict || b) (strict-is ms rows)

plain-all : (P : ℕ → Type 0) (ms : List (ℕ × ℤ)) → All (λ s. P s.0) ms → All (λ (s : ℕ × ℕ). P s.0) (plain_shares ms)
plain-all P [] h = All-nil _
plain-all P (m ∷ ms) h = All-cons (λ (s : ℕ × ℕ). P s.0) (m.0, unsigned_abs m.1) (plain_shares ms) (All-head (λ s. P s.0) m ms h) (plain-all P ms (All-tail (λ s. P s.0) m ms h))

growing : (ms : List (ℕ × ℤ)) → IsNormal ms → IsGrowing (plain_shares ms)
growing [] h = tt
growing (m ∷ ms) h = (plain-all (λ i. m.0 < i) ms h.1.0, growing ms h.1.1)

plain-positive : (ms : List (ℕ × ℤ)) → ArePositive ms → All (λ (m : ℕ × ℕ). 0 < m.1) (plain_shares ms)
plain-positive [] h = All-nil _
plain-positive (m ∷ ms) h = All-cons (λ (m : ℕ × ℕ). 0 < m.1) (m.0, unsigned_abs m.1) (plain_shares ms) (abs_positive m.1 (All-head (λ s. is_above_zero s.1 ≡ true) m ms h)) (plain-positive ms (All-tail (λ s. is_above_zero s.1 ≡ true) m ms h))

plain-narrow : (ms : List (ℕ × ℤ)) → All (λ m. unsigned_abs m.1 < 2 ^ 62) ms → All (λ (m : ℕ × ℕ). m.1 < 2 ^ 62) (plain_shares ms)
plain-narrow [] h = All-nil _
plain-narrow (m ∷ ms) h = All-cons (λ (m : ℕ × ℕ). m.1 < 2 ^ 62) (m.0, unsigned_abs m.1) (plain_shares ms) (All-head (λ m. unsigned_abs m.1 < 2 ^ 62) m ms h) (plain-narrow ms (All-tail (λ m. unsigned_abs m.1 < 2 ^ 62) m ms h))

sum-same : (f g : ℕ → ℤ) (ms : List (ℕ × ℤ)) → ((i : ℕ) → f i ≡ g i) → sum_at f ms ≡ sum_at g ms
unfolding sum_at
sum-same f g [] h = refl
sum-same f g (m ∷ ms) h = ap₂ (λ x y. (m.1 *ℤ x) +ℤ y) (h m.0) (sum-same f g ms h)

none_of : (ts : List (ℕ × ℤ)) → not (has_terms ts) ≡ true → ts ≡ []
none_of [] e = refl
none_of (t ∷ ts) e = absurd (cc)

vanishes : (first : List Row) (c : Derived) → Follows first c → c.row.terms ≡ [] → (x : ℕ) → combined (λ r. coefficient x r.terms) (multipliers c) first ≡ pos 0
vanishes first c f e x = combined-is (λ r. coefficient x r.terms) c.shares first f.shares_positive ∙ sum-same (λ i. coefficient x (row_at first i).terms) (λ i. sum_at (only x) (row_at first i).terms) c.shares (λ i. coefficient-is x (row_at first i).terms) ∙ sym (f.sums (only x)) ∙ ap (λ ts. pos c.over *ℤ sum_at (only x) ts) e ∙ ap (λ z. pos c.over *ℤ z) (sum_at-nil (only x)) ∙ *ℤ-zero (pos c.over)

product_over : (o n : ℕ) → 0 < o → pos 0 <ℤ (pos o *ℤ pos (suc n))
product_over zero n p = absurd (omega arith)
product_over (suc o) n p = omega (arith, ints)

false_constant : (o : ℕ) (z t : ℤ) (s u : Bool) → 0 < o → (lt_z (pos 0) z || (is_zero_num z && s)) ≡ true → pos o *ℤ z ≡ t → s ≡ u → (pos 0 <ℤ t) ⊎ ((t ≡ pos 0) × (u ≡ true))
false_constant o (pos zero) t true u p e h k = inr (sym h ∙ *ℤ-zero (pos o), sym k)
false_constant o (pos zero) t false u p e h k = absurd (cc)
false_constant o (pos (suc n)) t s u p e h k = inl (subst (λ z. pos 0 <ℤ z) h (product_over o n p))
false_constant o (negsuc n) t s u p e h k = absurd (cc)

pub contradicts : (first : List Row) (c : Derived) → Follows first c → is_contradiction c.row ≡ true → All (λ m. unsigned_abs m.1 < 2 ^ 62) c.shares → ((x : ℕ) → IsWideThroughout (λ r. coefficient x r.terms) (multipliers c) first) → IsWideThroughout (λ r. r.rest) (multipliers c) first → IsContradiction (multipliers c) first
contradicts first c f e n w v =
    let p = and_true (not (has_terms c.row.terms)) (lt_z (pos 0) c.row.rest || (is_zero_num c.row.rest && c.row.strict)) e in
    record {
      growing = growing c.shares f.shares_normal;
      within = plain-all (λ i. i < length first) c.shares f.shares_within;
      positive = plain-positive c.shares f.shares_positive;
      narrow = plain-narrow c.shares n;
      coefficients_wide = w;
      constants_wide = v;
      no_variable = vanishes first c f (none_of c.row.terms p.0);
      false_constant = false_constant c.over c.row.rest (combined (λ r. r.rest) (multipliers c) first) c.row.strict (uses_strict (multipliers c) first) f.positive p.1 (f.rest ∙ sym (combined-is (λ r. r.rest) c.shares first f.shares_positive)) (f.strict ∙ sym (strict-is c.shares first));
    }

pub refuted_unmet : (first : List Row) (c : Derived) → Follows first c → is_contradiction c.row ≡ true → IsMetSomewhere first → ⊥
refuted_unmet first c f e =
    let p = and_true (not (has_terms c.row.terms)) (lt_z (pos 0) c.row.rest || (is_zero_num c.row.rest && c.row.strict)) e in
    unmet (multipliers c) first (plain-positive c.shares f.shares_positive) (vanishes first c f (none_of c.row.terms p.0)) (false_constant c.over c.row.rest (combined (λ r. r.rest) (multipliers c) first) c.row.strict (uses_strict (multipliers c) first) f.positive p.1 (f.rest ∙ sym (combined-is (λ r. r.rest) c.shares first f.shares_positive)) (f.strict ∙ sym (strict-is c.shares first)))
