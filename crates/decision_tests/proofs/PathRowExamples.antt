-- The rows of paths, and a front that is dropped, computed at values found by hand.
use Rattle.std.proofs.Common.{◌≡◌, refl, sym, subst, cond, eqb, List, [], ◌∷◌, Bool, true, false, arith, inl, ◌<◌}
use Rattle.std.specs.Prelude.{ℕ, ℤ, pos, negsuc, ◌+ℤ◌, ◌*ℤ◌, ◌<ℤ◌, Some, None}
use Rattle.std.specs.List.{All}
use borrow.Author.Differences.{ints}
use Rattle.std.proofs.lemmas.List.Elements.{All-nil, All-cons}
use Rattle.heyvl_num.specs.Gcd.{gcd, gcd_steps}
use Rattle.heyvl_num.specs.Rational.{ratio, zeroʳ, oneʳ, leqʳ, ◌+ʳ◌, ◌*ʳ◌}
use Rattle.heyvl_num.specs.Value.{Value, is_zeroʳ}
use Rattle.heyvl_num.specs.Value.Value.{finite, infinite}
use Rattle.heyvl_num.specs.Rounding.{floorʳ, ceilʳ}
use Rattle.heyvl_num.specs.Exact.{product_fits}
use Rattle.heylo_formula.specs.Formula.{Form, Cond}
use Rattle.heylo_formula.specs.Goals.{Goal}
use Rattle.heylo_formula.specs.declared.types.Ty.{Ty}
use Rattle.linear_rows.specs.Row.{Row}
use Rattle.linear_rows.specs.Occurrences.{first_row}
use Rattle.linear_values.specs.Lin.{variable, plus, minus, scaled, is_sized}
use Rattle.linear_rows.specs.Numbers.{minus_oneʳ, fits}
use Rattle.linear_rows.specs.Terms.{coefficient}
use Rattle.linear_rows.specs.Combination.{combined}
use Rattle.linear_rows.specs.Solutions.{IsSolvable}
use Rattle.linear_form.specs.Query.{Atom, Taken}
use Rattle.linear_form.specs.Query.Query.{done}
use Rattle.linear_form.specs.Questions.{zero, one}
use Rattle.linear_form.specs.Paths.{Asks}
use Rattle.linear_values.specs.Tightening.{common_multiple, common_divisor, factor, tightened}
use Rattle.linear_form.specs.PathRows.{rows_of}
use Rattle.linear_form.specs.Cells.{IsDropped, IsKeptPath, IsFront}
use Rattle.linear_rows.proofs.exported.Combinations.{unmet}
use Rattle.linear_rows.proofs.exported.Fractions.{solvable_is}

goal : Bool → Form → Form → List Ty → Goal
goal upper stated found types = record { upper = upper; stated = stated; found = found; types = types; names = []; own = 0 }

-- A multiple of the variable `i`, plus a constant.
row : ℕ → ℤ → ℤ → Bool → Row
row i p c strict = record { terms = (i, p) ∷ []; rest = c; strict = strict }

-- A multiple of the variable 0, plus one of the variable 1, plus a constant.
row_of_two : ℤ → ℤ → ℤ → Bool → Row
row_of_two p q c strict = record { terms = (0, p) ∷ ((1, q) ∷ []); rest = c; strict = strict }

sign : ℤ → Bool → Row
sign c strict = record { terms = []; rest = c; strict = strict }

-- The path that answers `x < 0` by `held`.
negative : Bool → List Taken
negative held = record { atom = Atom.row (variable 0) true; held = held } ∷ []

-- The goal whose stated bound is `ite(x < 0, a, 1)` and whose computed form is `b`.
if_negative : Value → Value → Goal
if_negative a b = goal true (Form.select (Cond.lt (Form.variable 0) (Form.number (finite zeroʳ))) (Form.number a) (Form.number (finite oneʳ))) (Form.number b) (Ty.UInt ∷ [])

-- The stated bound is 0 if x < 0, and otherwise 1; the computed form is 1. The denied goal is
-- between the rows of the path and -x <= 0.
denied_in_the_middle : (rows_of (if_negative (finite zeroʳ) (finite oneʳ)) (negative true) true ≡ Some (row 0 (pos 1) (pos 1) false ∷ (sign (negsuc 0) true ∷ (row 0 (negsuc 0) (pos 0) false ∷ [])))) × (rows_of (if_negative (finite zeroʳ) (finite oneʳ)) (negative false) true ≡ Some (row 0 (negsuc 0) (pos 0) false ∷ (sign (pos 0) true ∷ (row 0 (negsuc 0) (pos 0) false ∷ []))))
unfolding goal row sign negative if_negative minus plus scaled minus_oneʳ is_sized fits is_zeroʳ leqʳ tightened common_multiple common_divisor factor ratio gcd gcd_steps zeroʳ oneʳ ◌+ʳ◌ ◌*ʳ◌ floorʳ ceilʳ product_fits
denied_in_the_middle = (refl, refl)

-- The rows without the denied goal, and the rows before the end, which has no denied goal yet.
not_denied : (rows_of (if_negative (finite zeroʳ) (finite oneʳ)) (negative true) false ≡ Some (row 0 (pos 1) (pos 1) false ∷ (row 0 (negsuc 0) (pos 0) false ∷ []))) × (rows_of (if_negative (finite zeroʳ) (finite oneʳ)) [] true ≡ Some [])
unfolding goal row negative if_negative minus plus scaled minus_oneʳ is_sized fits is_zeroʳ leqʳ tightened common_multiple common_divisor factor ratio gcd gcd_steps zeroʳ oneʳ ◌+ʳ◌ ◌*ʳ◌ floorʳ ceilʳ product_fits
not_denied = (refl, refl)

-- 1/(2^31 - 1) - 1/(2^61 - 1) has a denominator above 2^62.
denied_goal_is_too_large : (rows_of (if_negative (finite (ratio (pos 1) 2147483647)) (finite (ratio (pos 1) 2305843009213693951))) (negative true) true ≡ None) × (rows_of (if_negative (finite (ratio (pos 1) 2147483647)) (finite (ratio (pos 1) 2305843009213693951))) (negative true) false ≡ Some (row 0 (pos 1) (pos 1) false ∷ (row 0 (negsuc 0) (pos 0) false ∷ [])))
unfolding goal row negative if_negative minus plus scaled minus_oneʳ is_sized fits is_zeroʳ leqʳ tightened common_multiple common_divisor factor ratio gcd gcd_steps zeroʳ oneʳ ◌+ʳ◌ ◌*ʳ◌ floorʳ ceilʳ product_fits
denied_goal_is_too_large = (refl, refl)

-- The stated bound is x and the computed form y: the denied goal is x < y in an upper goal, and
-- y < x in a lower one. A UInt or a UReal is not negative, an Int may be.
denied_goals : (rows_of (goal true (Form.variable 0) (Form.variable 1) (Ty.Int ∷ (Ty.UInt ∷ []))) [] true ≡ Some (row_of_two (pos 1) (negsuc 0) (pos 1) false ∷ (row 1 (negsuc 0) (pos 0) false ∷ []))) × (rows_of (goal false (Form.variable 0) (Form.variable 1) (Ty.Int ∷ (Ty.Int ∷ []))) [] true ≡ Some (row_of_two (negsuc 0) (pos 1) (pos 1) false ∷ [])) × (rows_of (goal true (Form.variable 0) (Form.variable 1) (Ty.UReal ∷ (Ty.UInt ∷ []))) [] true ≡ Some (row_of_two (pos 1) (negsuc 0) (pos 0) true ∷ (row 0 (negsuc 0) (pos 0) false ∷ (row 1 (negsuc 0) (pos 0) false ∷ []))))
unfolding goal row row_of_two minus plus scaled minus_oneʳ is_sized fits is_zeroʳ tightened common_multiple common_divisor factor ratio gcd gcd_steps zeroʳ oneʳ ◌+ʳ◌ ◌*ʳ◌ floorʳ ceilʳ product_fits
denied_goals = (refl, refl, refl)

-- Infinity cannot be the smaller side. If it is the other one, the denied goal is -1 < 0.
infinite_sides : (rows_of (goal true (Form.number infinite) (Form.variable 0) (Ty.UInt ∷ [])) [] true ≡ Some []) × (rows_of (goal true (Form.variable 0) (Form.number infinite) (Ty.UInt ∷ [])) [] true ≡ Some (sign (negsuc 0) true ∷ [])) × (rows_of (goal false (Form.variable 0) (Form.number infinite) (Ty.UInt ∷ [])) [] true ≡ Some []) × (rows_of (goal false (Form.number infinite) (Form.variable 0) (Ty.UInt ∷ [])) [] true ≡ Some (sign (negsuc 0) true ∷ [])) × (rows_of (goal true (Form.number infinite) (Form.number infinite) []) [] true ≡ Some []) × (rows_of (goal false (Form.number infinite) (Form.number infinite) []) [] true ≡ Some [])
unfolding goal sign minus_oneʳ is_sized fits tightened ratio gcd gcd_steps zeroʳ oneʳ
infinite_sides = (refl, refl, refl, refl, refl, refl)

-- The two comparisons of x = y, for a UReal x and a UInt y: x <= y, then y <= x or its denial, x <
-- y. A Boolean has no row.
answers_in_order : (rows_of (goal true (Form.embed (Cond.equal (Form.variable 0) (Form.variable 1))) (Form.variable 0) (Ty.UReal ∷ (Ty.UInt ∷ []))) (record { atom = Atom.row (minus (variable 0) (variable 1)) false; held = true } ∷ (record { atom = Atom.row (minus (variable 1) (variable 0)) false; held = false } ∷ [])) false ≡ Some (row_of_two (pos 1) (negsuc 0) (pos 0) false ∷ (row_of_two (pos 1) (negsuc 0) (pos 0) true ∷ (row 0 (negsuc 0) (pos 0) false ∷ (row 1 (negsuc 0) (pos 0) false ∷ []))))) × (rows_of (goal true (Form.embed (Cond.flag 0)) (Form.number infinite) (Ty.Bool ∷ [])) (record { atom = Atom.truth 0; held = true } ∷ []) true ≡ Some [])
unfolding goal row row_of_two minus plus scaled minus_oneʳ is_sized fits is_zeroʳ tightened common_multiple common_divisor factor ratio gcd gcd_steps zeroʳ oneʳ ◌+ʳ◌ ◌*ʳ◌ floorʳ ceilʳ product_fits
answers_in_order = (refl, refl)

-- ---- A dropped front: a natural number below 0

natural : Goal
natural = if_negative (finite zeroʳ) (finite oneʳ)

-- x + 1 <= 0 and -x <= 0.
unmet_rows : List Row
unmet_rows = row 0 (pos 1) (pos 1) false ∷ (row 0 (negsuc 0) (pos 0) false ∷ [])

-- Their sum is 1 <= 0.
each_once : List (ℕ × ℕ)
each_once = (0, 1) ∷ ((1, 1) ∷ [])

none_is_left : (b : Bool) → (pos 1 *ℤ (cond b (pos 1) (pos 0) +ℤ pos 0)) +ℤ ((pos 1 *ℤ (cond b (negsuc 0) (pos 0) +ℤ pos 0)) +ℤ pos 0) ≡ pos 0
none_is_left true = refl
none_is_left false = refl

no_variable : (x : ℕ) → combined (λ r. coefficient x r.terms) each_once unmet_rows ≡ pos 0
unfolding unmet_rows each_once row combined coefficient
no_variable x = none_is_left (eqb 0 x)

one_is_left : combined (λ r. r.rest) each_once unmet_rows ≡ pos 1
unfolding unmet_rows each_once row combined
one_is_left = refl

positive : All (λ (m : ℕ × ℕ). 0 < m.1) each_once
unfolding each_once
positive = All-cons (λ (m : ℕ × ℕ). 0 < m.1) (0, 1) ((1, 1) ∷ []) (omega arith) (All-cons (λ (m : ℕ × ℕ). 0 < m.1) (1, 1) [] (omega arith) (All-nil (λ (m : ℕ × ℕ). 0 < m.1)))

unsolvable : IsSolvable unmet_rows → ⊥
unsolvable s = unmet each_once unmet_rows positive no_variable (inl (subst (λ z. pos 0 <ℤ z) (sym one_is_left) (omega (arith, ints)))) ((solvable_is unmet_rows).0 s)

dropped : IsDropped natural (negative true)
unfolding natural unmet_rows
dropped = record { rows = unmet_rows; are_rows = not_denied.0; unsolvable = unsolvable }

-- The path without an answer has no rows, so that it is kept.
nothing_at_the_start : rows_of natural [] false ≡ Some []
unfolding goal natural if_negative minus plus scaled minus_oneʳ is_sized fits is_zeroʳ leqʳ ratio gcd gcd_steps zeroʳ oneʳ ◌+ʳ◌ ◌*ʳ◌
nothing_at_the_start = refl

start_is_kept : IsKeptPath natural []
start_is_kept = record { rows = []; are_rows = nothing_at_the_start; solvable = record { at_values = λ x. zeroʳ; meets = All-nil _ } }

asks_at_the_start : Asks natural [] (Atom.row (variable 0) true)
unfolding goal natural if_negative minus plus scaled minus_oneʳ is_sized fits is_zeroʳ leqʳ ratio gcd gcd_steps zeroʳ oneʳ ◌+ʳ◌ ◌*ʳ◌
asks_at_the_start = record { yes = done (zero, one); no = done (one, one); question = refl }

front : IsFront natural (negative true)
unfolding negative
front = IsFront.answer [] (Atom.row (variable 0) true) true IsFront.start (record { kept = start_is_kept; asks = asks_at_the_start })

-- The variable 0 occurs in the first two rows, 1 in the last two, 2 in none, and 3 in the last one.
three_rows : List Row
three_rows = row 0 (pos 1) (pos 0) false ∷ (row_of_two (pos 1) (pos 2) (pos 5) false ∷ (record { terms = (1, pos 1) ∷ ((3, pos 1) ∷ []); rest = pos 0; strict = true } ∷ []))

first_rows : (first_row 0 0 three_rows ≡ Some (0, 0)) × (first_row 1 0 three_rows ≡ Some (1, 1)) × (first_row 2 0 three_rows ≡ None) × (first_row 3 0 three_rows ≡ Some (3, 2))
unfolding three_rows row row_of_two
first_rows = (refl, refl, refl, refl)
