-- Eliminations that reach no limit: those that end in a contradiction by small sums, and those that
-- leave no variable to choose.
use Rattle.std.proofs.Common.{◌≡◌, ℕ, ◌+◌, ◌*◌, ◌<◌, ◌≤◌, ◌^◌, List, [], ◌∷◌, ◌++◌, length, take, refl, sym, ◌∙◌, subst, arith, lit<, Bool, true, false, cond, eqb, unsigned_abs, ◌⊎◌}
use Rattle.std.specs.Prelude.{ℤ, pos, ◌+ℤ◌, ◌*ℤ◌, ◌<ℤ◌}
use Rattle.std.proofs.lemmas.List.Elements.{All-nil, All-cons}
use Rattle.std.proofs.lemmas.Int.{unsigned_abs-mul}
use Rattle.std.proofs.lemmas.Nat.{mul-le}
use Prim.Native.Nat.{zero, suc}
use borrow.Author.Differences.{ints}
use Rattle.heylo_formula.specs.declared.types.Ty.{Ty}
use Rattle.linear_rows.specs.Row.{Row}
use Rattle.linear_rows.specs.Terms.{coefficient}
use Rattle.linear_rows.specs.Combination.{IsContradiction, combined, row_at, uses_strict}
use Rattle.linear_rows.specs.VariableOrder.{order_of}
use Rattle.linear_elim.specs.Joins.{Derived}
use Rattle.linear_elim.specs.Steps.{contradiction, strongest}
use Rattle.linear_elim.specs.Elimination as plain
use Rattle.linear_elim.specs.Elimination.{Step, elimination_by, multipliers, run, start}
use Rattle.linear_elim.specs.Elimination.Rule.{keeps}
use Rattle.linear_elim.specs.Answers.{eliminated, IsTooGreat, IsTooGreatBy, IsWide}

-- ---- Partial sums

-- The sum of the absolute values of the coefficients.
abbrev pub sizes : List (ℕ × ℤ) → ℕ
sizes [] = 0
sizes (t ∷ ts) = unsigned_abs t.1 + sizes ts

-- The sizes of rows, each times its multiplier.
abbrev pub weighed : (Row → ℕ) → List (ℕ × ℕ) → List Row → ℕ
weighed S [] rows = 0
weighed S (m ∷ ms) rows = (m.1 * S (row_at rows m.0)) + weighed S ms rows

coefficient_small : (x : ℕ) (ts : List (ℕ × ℤ)) → unsigned_abs (coefficient x ts) ≤ sizes ts
unfolding coefficient
coefficient_small x [] = omega (arith, ints)
coefficient_small x (t ∷ ts) = go (eqb t.0 x) (coefficient_small x ts)
  where
    go : (b : Bool) → unsigned_abs (coefficient x ts) ≤ sizes ts → unsigned_abs (cond b t.1 (pos 0) +ℤ coefficient x ts) ≤ unsigned_abs t.1 + sizes ts
    go true h = omega (arith, ints, h)
    go false h = omega (arith, ints, h)

times_small : (p : ℕ) (z : ℤ) (n : ℕ) → unsigned_abs z ≤ n → unsigned_abs (pos p *ℤ z) ≤ p * n
times_small p z n h = subst (λ k. k ≤ p * n) (sym (unsigned_abs-mul (pos p) z)) (mul-le p (unsigned_abs z) p n (omega arith) h)

sum_small : (a b : ℤ) (m n : ℕ) → unsigned_abs a ≤ m → unsigned_abs b ≤ n → unsigned_abs (a +ℤ b) ≤ m + n
sum_small a b m n h k = omega (arith, ints, h, k)

partial_small : (F : Row → ℤ) (S : Row → ℕ) → ((r : Row) → unsigned_abs (F r) ≤ S r) → (k : ℕ) (ms : List (ℕ × ℕ)) (rows : List Row) → unsigned_abs (combined F (take k ms) rows) ≤ weighed S ms rows
unfolding combined
partial_small F S h zero [] rows = omega (arith, ints)
partial_small F S h zero (m ∷ ms) rows = omega (arith, ints)
partial_small F S h (suc k) [] rows = omega (arith, ints)
partial_small F S h (suc k) (m ∷ ms) rows = sum_small (pos m.1 *ℤ F (row_at rows m.0)) (combined F (take k ms) rows) (m.1 * S (row_at rows m.0)) (weighed S ms rows) (times_small m.1 (F (row_at rows m.0)) (S (row_at rows m.0)) (h (row_at rows m.0))) (partial_small F S h k ms rows)

-- No partial sum overflows if the sizes add up to less than the limit.
pub wide_where : (ms : List (ℕ × ℕ)) (rows : List Row) → weighed (λ r. sizes r.terms) ms rows < 2 ^ 126 → weighed (λ r. unsigned_abs r.rest) ms rows < 2 ^ 126 → IsWide ms rows
wide_where ms rows h k = record {
  coefficients = λ x. record { wide = λ n. below (partial_small (λ r. coefficient x r.terms) (λ r. sizes r.terms) (λ r. coefficient_small x r.terms) n ms rows) h };
  constants = record { wide = λ n. below (partial_small (λ r. r.rest) (λ r. unsigned_abs r.rest) (λ r. own (unsigned_abs r.rest)) n ms rows) k };
}
  where
    own : (n : ℕ) → n ≤ n
    own n = omega arith

    below : {a b c : ℕ} → a ≤ b → b < c → a < c
    below p q = omega (arith, p, q)

-- ---- Contradictions

-- The multipliers combine the constants to a false one.
abbrev pub IsFalseConstant : List (ℕ × ℕ) → List Row → Type 0
IsFalseConstant ms rows = (pos 0 <ℤ combined (λ r. r.rest) ms rows) ⊎ ((combined (λ r. r.rest) ms rows ≡ pos 0) × (uses_strict ms rows ≡ true))

pub one_contradicts : (r : Row) → IsWide ((0, 1) ∷ []) (r ∷ []) → ((x : ℕ) → combined (λ r. coefficient x r.terms) ((0, 1) ∷ []) (r ∷ []) ≡ pos 0) → IsFalseConstant ((0, 1) ∷ []) (r ∷ []) → IsContradiction ((0, 1) ∷ []) (r ∷ [])
one_contradicts r w n f = record {
  growing = (All-nil (λ m. 0 < m.0), tt);
  within = All-cons (λ m. m.0 < length (r ∷ [])) (0, 1) [] (lit< {m = 0} {n = 1} tt) (All-nil (λ m. m.0 < length (r ∷ [])));
  positive = All-cons (λ m. 0 < m.1) (0, 1) [] (lit< {m = 0} {n = 1} tt) (All-nil (λ m. 0 < m.1));
  narrow = All-cons (λ m. m.1 < 2 ^ 62) (0, 1) [] (lit< {m = 1} {n = 2 ^ 62} tt) (All-nil (λ m. m.1 < 2 ^ 62));
  coefficients_wide = w.coefficients;
  constants_wide = w.constants;
  no_variable = n;
  false_constant = f;
}

pub two_contradict : (k : ℕ) (r s : Row) → 0 < k → k < 2 ^ 62 → IsWide ((0, 1) ∷ (1, k) ∷ []) (r ∷ s ∷ []) → ((x : ℕ) → combined (λ r. coefficient x r.terms) ((0, 1) ∷ (1, k) ∷ []) (r ∷ s ∷ []) ≡ pos 0) → IsFalseConstant ((0, 1) ∷ (1, k) ∷ []) (r ∷ s ∷ []) → IsContradiction ((0, 1) ∷ (1, k) ∷ []) (r ∷ s ∷ [])
two_contradict k r s p l w n f = record {
  growing = (All-cons (λ m. 0 < m.0) (1, k) [] (lit< {m = 0} {n = 1} tt) (All-nil (λ m. 0 < m.0)), (All-nil (λ m. 1 < m.0), tt));
  within = All-cons (λ m. m.0 < length (r ∷ s ∷ [])) (0, 1) ((1, k) ∷ []) (lit< {m = 0} {n = 2} tt) (All-cons (λ m. m.0 < length (r ∷ s ∷ [])) (1, k) [] (lit< {m = 1} {n = 2} tt) (All-nil (λ m. m.0 < length (r ∷ s ∷ []))));
  positive = All-cons (λ m. 0 < m.1) (0, 1) ((1, k) ∷ []) (lit< {m = 0} {n = 1} tt) (All-cons (λ m. 0 < m.1) (1, k) [] p (All-nil (λ m. 0 < m.1)));
  narrow = All-cons (λ m. m.1 < 2 ^ 62) (0, 1) ((1, k) ∷ []) (lit< {m = 1} {n = 2 ^ 62} tt) (All-cons (λ m. m.1 < 2 ^ 62) (1, k) [] l (All-nil (λ m. m.1 < 2 ^ 62)));
  coefficients_wide = w.coefficients;
  constants_wide = w.constants;
  no_variable = n;
  false_constant = f;
}

-- ---- Limits

-- The plain elimination of the rows reaches no limit.
pub record IsWithinLimits (rows : List Row) (vars : List Ty) : Type 0 where
  pub few : (steps count : ℕ) → eliminated rows vars ≡ plain.Outcome.too_many steps count → ⊥
  pub small : IsTooGreat rows vars → ⊥

pub refuted_within : (rows : List Row) (vars : List Ty) (c : Derived) → eliminated rows vars ≡ plain.Outcome.refuted c → IsWide (multipliers c) rows → IsWithinLimits rows vars
refuted_within rows vars c e w = record { few = λ n k h. let i = sym e ∙ h in absurd (cc); small = small }
  where
    small : IsTooGreat rows vars → ⊥
    small (IsTooGreatBy.in_a_step h) = let i = sym e ∙ h in absurd (cc)
    small (IsTooGreatBy.in_a_sum d h n) = let i = sym e ∙ h in let j : c ≡ d = cc in n (subst (λ x. IsWide (multipliers x) rows) j w)
    small (IsTooGreatBy.in_a_choice steps h n) = let i = sym e ∙ h in absurd (cc)

-- No rows have variables, so nothing is chosen.
pub standing_within : (rows : List Row) (vars : List Ty) → eliminated rows vars ≡ plain.Outcome.standing [] → IsWithinLimits rows vars
standing_within rows vars e = record { few = λ n k h. let i = sym e ∙ h in absurd (cc); small = small }
  where
    none : (before : List Step) (s : Step) (after : List Step) → [] ≡ before ++ (s ∷ after) → ⊥
    none [] s after h = absurd (cc)
    none (t ∷ before) s after h = absurd (cc)

    small : IsTooGreat rows vars → ⊥
    small (IsTooGreatBy.in_a_step h) = let i = sym e ∙ h in absurd (cc)
    small (IsTooGreatBy.in_a_sum d h n) = let i = sym e ∙ h in absurd (cc)
    small (IsTooGreatBy.in_a_choice steps h c) = let i = sym e ∙ h in let j : steps ≡ [] = cc in none c.before c.next c.after (sym j ∙ c.splits)

no_order : (n : ℕ) → order_of [] n ≡ []
unfolding order_of
no_order zero = refl
no_order (suc n) = no_order n

no_steps : elimination_by keeps [] [] ≡ plain.Outcome.standing []
unfolding run start contradiction strongest
no_steps = refl

pub no_rows_within : (vars : List Ty) → IsWithinLimits [] vars
no_rows_within vars = standing_within [] vars (subst (λ xs. elimination_by keeps xs [] ≡ plain.Outcome.standing []) (sym (no_order (length vars))) no_steps)
