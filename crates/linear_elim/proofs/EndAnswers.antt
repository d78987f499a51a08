-- The answers for the outcomes of an elimination.
use Rattle.std.proofs.Common.{◌≡◌, ◌∙◌, ℕ, ◌<◌, ◌^◌, List, length, sym, ap, arith, subst}
use Rattle.std.specs.List.{All}
use Rattle.heylo_formula.specs.State.{environment, number_of}
use Rattle.heylo_formula.specs.declared.types.Ty.{Ty}
use Rattle.linear_rows.specs.Row.{Row, IsRow}
use Rattle.linear_rows.specs.VariableTypes.{IsNumericRow}
use Rattle.linear_rows.specs.Combination.{IsContradiction}
use Rattle.linear_rows.specs.VariableOrder.{order_of}
use Rattle.linear_rows.proofs.exported.Fractions.{solvable_is}
use Rattle.linear_rows.proofs.exported.Combinations.{contradiction_unmet}
use Rattle.linear_elim.specs.Joins.{Derived}
use Rattle.linear_elim.specs.Elimination as plain
use Rattle.linear_elim.specs.Elimination.{Step, Rule, elimination_by, multipliers}
use Rattle.linear_elim.specs.Elimination.Rule.{keeps, drops}
use Rattle.linear_elim.specs.Answers.{eliminated_by, eliminated, IsTooGreatBy, IsShortLimited, IsAnswer, Settles}
use Rattle.linear_elim.specs.internal.Eliminations.{IsEliminated}
use Rattle.linear_elim.specs.internal.Outcomes.{IsLimited}
use Rattle.linear_elim.specs.internal.Choices.{IsChosen}
use Rattle.linear_elim.specs.ChoiceNumbers.{IsChoiceTooGreat}
use Rattle.linear_elim.specs.declared.choices.Choice.{Choice}
use Rattle.linear_elim.specs.internal.Limits.{IsPlainAnswer}
use Rattle.linear_elim.specs.declared.answers.Elim.{Elim}
use Rattle.linear_elim.specs.declared.answers.Elim.TheVariants.{NoSolution, Point, Fraction, Rows, Bits}
use Rattle.linear_elim.proofs.Certificates.{contradicts}
use Rattle.linear_elim.proofs.Solvability.{refuted-follows}
use Rattle.linear_elim.proofs.OrderedRows.{rows_over, order_length}
use Rattle.linear_elim.proofs.Counts.{elimination-many}
use Rattle.linear_elim.proofs.NarrowShares.{refuted-narrow}

pub sum_too_great : (rule : Rule) (rows : List Row) (vars : List Ty) (c : Derived) → plain.Outcome.refuted c ≡ eliminated_by rule rows vars → (IsContradiction (multipliers c) rows → ⊥) → IsTooGreatBy rule rows vars
sum_too_great rule rows vars c e n =
    let f = refuted-follows rule (order_of rows (length vars)) rows c (sym e) in
    IsTooGreatBy.in_a_sum c (sym e) (λ w. n (contradicts rows c f.0 f.1 (refuted-narrow rule (order_of rows (length vars)) rows c (sym e)) w.coefficients w.constants))

pub settled : (rows : List Row) (vars : List Ty) (e : Elim) → IsAnswer rows vars e → Settles rows e
settled rows vars (NoSolution ms) h = λ s. contradiction_unmet ms.items rows h ((solvable_is rows).0 s)
settled rows vars (Point point) h = record { at_values = λ x. number_of (environment point.items x); meets = h.1 }
settled rows vars (Fraction b) h = h.0.solvable
settled rows vars (Rows steps count) h = tt
settled rows vars Bits h = tt

pub few_in : (rows : List Row) (vars : List Ty) (order : List ℕ) → order ≡ order_of rows (length vars) → length vars < 2 ^ 32 → length order < 2 ^ 32
few_in rows vars order e h = let l = order_length rows (length vars) in subst (λ o. length o < 2 ^ 32) (sym e) (omega (arith, l, h))

pub counted : (rows : List Row) (vars : List Ty) (m k : ℕ) → plain.Outcome.too_many m k ≡ eliminated rows vars → length rows < 2 ^ 32 → length vars < 2 ^ 32 → (m < 2 ^ 32) × (k < 2 ^ 32)
counted rows vars m k e h n =
    let i = elimination-many (order_of rows (length vars)) rows m k e h in
    let s = i.steps in
    let l = order_length rows (length vars) in
    (omega (arith, s, l, n), i.rows)

pub in_order_of : (rule : Rule) (rows : List Row) (vars : List Ty) (order : List ℕ) (o : plain.Outcome) → order ≡ order_of rows (length vars) → o ≡ elimination_by rule order rows → o ≡ eliminated_by rule rows vars
in_order_of rule rows vars order o e h = h ∙ ap (λ xs. elimination_by rule xs rows) e

pub stands_after : (rule : Rule) (rows : List Row) (vars : List Ty) (ss : List Step) → All IsRow rows → All (IsNumericRow vars) rows → plain.Outcome.standing ss ≡ eliminated_by rule rows vars → IsEliminated rows vars ss
stands_after rule rows vars ss h k e = record { are_rows = h; numeric = k; over = rows_over rows vars k; rule = rule; standing = sym e }

-- ---- The result of the greedy choice

pub chosen_of : (rule : Rule) (rows : List Row) (vars : List Ty) (ss ts : List Step) (p : Choice) → ss ≡ ts → All IsRow rows → All (IsNumericRow vars) rows → plain.Outcome.standing ts ≡ eliminated_by rule rows vars → ((rows : List Row) → IsEliminated rows vars ss → IsChosen rows vars ss p) → IsChosen rows vars ss p
chosen_of rule rows vars ss ts p e h k s f = f rows (subst (IsEliminated rows vars) (sym e) (stands_after rule rows vars ts h k s))

pub great_choice : (rule : Rule) (rows : List Row) (vars : List Ty) (ss ts : List Step) → ss ≡ ts → plain.Outcome.standing ts ≡ eliminated_by rule rows vars → IsChoiceTooGreat rows vars ss → IsTooGreatBy rule rows vars
great_choice rule rows vars ss ts e s h = IsTooGreatBy.in_a_choice ts (sym s) (subst (IsChoiceTooGreat rows vars) e h)

-- ---- Limits of the elimination without dominated rows

pub short_limited : (rows : List Row) (vars : List Ty) (o : plain.Outcome) → o ≡ eliminated_by drops rows vars → IsLimited o → IsShortLimited rows vars
short_limited rows vars (plain.Outcome.refuted c) e h = absurd h
short_limited rows vars (plain.Outcome.standing ss) e h = absurd h
short_limited rows vars (plain.Outcome.too_many n c) e h = IsShortLimited.many n c (sym e)
short_limited rows vars plain.Outcome.too_great e h = IsShortLimited.great (IsTooGreatBy.in_a_step (sym e))

pub limited_answer : (rows : List Row) (vars : List Ty) (e : Elim) → IsPlainAnswer rows vars e → IsShortLimited rows vars → IsAnswer rows vars e
limited_answer rows vars (NoSolution ms) h s = h
limited_answer rows vars (Point point) h s = h
limited_answer rows vars (Fraction b) h s = h
limited_answer rows vars (Rows steps count) h s = (h, s)
limited_answer rows vars Bits h s = (h, s)

-- ---- Both eliminations with the same outcome

pub same_in : (rows : List Row) (vars : List Ty) (order : List ℕ) → order ≡ order_of rows (length vars) → elimination_by drops order rows ≡ elimination_by keeps order rows → eliminated_by drops rows vars ≡ eliminated rows vars
same_in rows vars order e h = subst (λ xs. elimination_by drops xs rows ≡ elimination_by keeps xs rows) e h

great_too : (rows : List Row) (vars : List Ty) → eliminated_by drops rows vars ≡ eliminated rows vars → IsTooGreatBy keeps rows vars → IsTooGreatBy drops rows vars
great_too rows vars s (IsTooGreatBy.in_a_step e) = IsTooGreatBy.in_a_step (s ∙ e)
great_too rows vars s (IsTooGreatBy.in_a_sum c e n) = IsTooGreatBy.in_a_sum c (s ∙ e) n
great_too rows vars s (IsTooGreatBy.in_a_choice steps e h) = IsTooGreatBy.in_a_choice steps (s ∙ e) h

pub same_answer : (rows : List Row) (vars : List Ty) (e : Elim) → IsPlainAnswer rows vars e → eliminated_by drops rows vars ≡ eliminated rows vars → IsAnswer rows vars e
same_answer rows vars (NoSolution ms) h s = h
same_answer rows vars (Point point) h s = h
same_answer rows vars (Fraction b) h s = h
same_answer rows vars (Rows steps count) h s = (h, IsShortLimited.many steps count (s ∙ h))
same_answer rows vars Bits h s = (h, IsShortLimited.great (great_too rows vars s h))
