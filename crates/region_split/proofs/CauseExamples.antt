-- Goals with an overflow, each at another place, and small goals without a cause.
use Rattle.std.proofs.Common.{◌≡◌, ℕ, ◌+◌, List, [], ◌∷◌, length, refl, sym, ◌∙◌, subst, arith, lit<, ◌<◌, ◌^◌, Bool, true, false, cond, eqb, inl, inr}
use Rattle.std.specs.Prelude.{negsuc, pos, ◌+ℤ◌, ◌*ℤ◌, Some, None}
use borrow.Author.Differences.{ints}
use Rattle.std.proofs.lemmas.List.Elements.{All-nil}
use Rattle.heyvl_num.specs.Exact.{product_fits}
use Rattle.heyvl_num.specs.Gcd.{gcd, gcd_steps}
use Rattle.heyvl_num.specs.Rational.{Rational, ratio, zeroʳ, oneʳ, leqʳ, ◌+ʳ◌, ◌*ʳ◌}
use Rattle.heyvl_num.specs.Rounding.{floorʳ, ceilʳ}
use Rattle.heyvl_num.specs.Value.{is_zeroʳ}
use Rattle.heyvl_num.specs.Value.Value.{finite}
use Rattle.heyvl_places.specs.declared.spans.Span.{Span}
use Rattle.heylo_formula.specs.Formula.{Form, Cond}
use Rattle.heylo_formula.specs.Goals.{Goal}
use Rattle.heylo_formula.specs.declared.types.Ty.{Ty}
use Rattle.goal_answers.specs.declared.causes.Cause.{Cause}
use Rattle.goal_answers.specs.declared.causes.Cause.TheVariants.{Bits, Nonlinear, Rows}
use Rattle.goal_answers.specs.Trees.{Tree}
use Rattle.farkas_check.specs.AcceptedCertificates.{has_denied}
use Rattle.linear_elim.specs.Answers.{eliminated}
use Rattle.linear_elim.specs.Elimination.{run, start}
use Rattle.linear_elim.specs.Elimination.Outcome.{refuted, standing}
use Rattle.linear_elim.specs.Joins.{Derived, join, lowest, mixed_row}
use Rattle.linear_elim.specs.Steps.{contradiction, fits_each, pairs, pairs_fit, put_row, strongest}
use Rattle.linear_form.specs.Cells.{GoesOn, IsDropped, IsFront, IsKeptPath}
use Rattle.linear_form.specs.Nonlinear.{nonlinear_product}
use Rattle.linear_form.specs.PathRows.{denial, rows_of, IsPlainAt}
use Rattle.linear_form.specs.Paths.{end_at}
use Rattle.linear_form.specs.Query.Query.{bits, done}
use Rattle.linear_form.specs.Query.{Atom, Taken, onto}
use Rattle.linear_form.specs.Questions.{Ends, questions, zero, one}
use Rattle.linear_rows.specs.Combination.{IsContradiction, combined, uses_strict}
use Rattle.linear_rows.specs.Divisors.{common}
use Rattle.linear_rows.specs.Numbers.{fits, minus_oneʳ}
use Rattle.linear_rows.specs.Row.{Row}
use Rattle.linear_rows.specs.TermResults.{are_wide}
use Rattle.linear_rows.specs.Terms.{add_term, add_terms, coefficient}
use Rattle.linear_rows.specs.VariableOrder.{order_of, put_variable}
use Rattle.linear_rows.proofs.exported.Combinations.{contradiction_unsolvable}
use Rattle.linear_values.specs.Lin.{constant, is_sized, minus, plus, scaled, variable}
use Rattle.linear_values.specs.Tightening.{common_divisor, common_multiple, factor, tightened}
use Rattle.region_split.proofs.CauseFree.{fine_start, lone_fronts, lone_pieces, no_large, none_where_falsified, none_where_refuted, refuted_tree, starts}
use Rattle.region_split.proofs.Examples.{below_zero, denied_row, falsified, false_cell, false_goal, false_point, holds_plainly, plain_goal}
use Rattle.region_split.proofs.UniqueEnds.{point_or_break, split_breaks}
use Rattle.region_split.proofs.WithinLimits.{one_contradicts, standing_within, two_contradict, wide_where}
use Rattle.region_split.specs.Decisions.{HasCells, HasManyRows, IsCause, IsLarge}
use Rattle.region_split.specs.Pieces.{IsPieceOf}
use Rattle.region_split.specs.Walk.{AreBefore, IsReached}
use Rattle.region_split.specs.WalkTree.{IsWalkTree}

abbrev number : Rational → Form
number x = Form.number (finite x)

-- The goal that `stated` is at least `found`.
abbrev upper_goal : Form → Form → List Ty → Goal
upper_goal stated found types = record { upper = true; stated = stated; found = found; types = types; names = []; own = 0 }

at_first : (g : Goal) → IsReached g [] []
at_first g = record { are_before = AreBefore.start; few = omega arith }

no_rows_kept : (g : Goal) → rows_of g [] false ≡ Some [] → IsKeptPath g []
no_rows_kept g e = record { rows = []; are_rows = e; solvable = record { at_values = λ x. zeroʳ; meets = All-nil _ } }

-- ---- Overflows

-- 2^62 is at least 0.
abbrev great_value : Goal
great_value = upper_goal (number (ratio (pos 4611686018427387904) 1)) (number (ratio (pos 0) 1)) []

great_value_ends : end_at great_value [] ≡ bits
unfolding is_sized fits ratio gcd gcd_steps
great_value_ends = refl

-- The value 2^62 of a front that is kept overflows.
large_in_values : IsLarge great_value
large_in_values = IsLarge.in_values [] [] (at_first great_value) (no_rows_kept great_value refl) great_value_ends

-- `ite(x/(2^61 - 1) + 4y <= 1, 1, 0)` is at least 0.
abbrev great_row : Goal
great_row = upper_goal (Form.select (Cond.le (Form.sum (Form.scale (ratio (pos 1) 2305843009213693951) (Form.variable 0)) (Form.scale (ratio (pos 4) 1) (Form.variable 1))) (number (ratio (pos 1) 1))) (number (ratio (pos 1) 1)) (number (ratio (pos 0) 1))) (number (ratio (pos 0) 1)) (Ty.Int ∷ Ty.Int ∷ [])

great_question : Atom
great_question = Atom.row (record { terms = (0, ratio (pos 1) 2305843009213693951) ∷ (1, ratio (pos 4) 1) ∷ []; rest = ratio (negsuc 0) 1 }) false

asks_great : GoesOn great_row [] great_question
unfolding great_question is_sized fits ratio gcd gcd_steps minus plus scaled minus_oneʳ is_zeroʳ zeroʳ oneʳ ◌+ʳ◌ ◌*ʳ◌ leqʳ
asks_great = record { kept = no_rows_kept great_row refl; asks = record { yes = _; no = _; question = refl } }

great_row_lost : rows_of great_row (onto [] great_question true) false ≡ None
unfolding great_question is_sized fits ratio gcd gcd_steps minus plus scaled minus_oneʳ is_zeroʳ zeroʳ oneʳ ◌+ʳ◌ ◌*ʳ◌ leqʳ tightened factor common_multiple common_divisor floorʳ ceilʳ product_fits
great_row_lost = refl

-- The row of the answer yes has the coefficient 4 * (2^61 - 1) of y, which overflows.
large_in_rows : IsLarge great_row
large_in_rows = IsLarge.in_rows (onto [] great_question true) [] (record { are_before = AreBefore.first [] great_question [] asks_great AreBefore.start; few = omega arith }) great_row_lost

-- `ite(x < 0, 1/(2^31 - 1), 1)` is at least 1/(2^61 - 1), for a UInt x.
abbrev great_denial : Goal
great_denial = upper_goal (Form.select (Cond.lt (Form.variable 0) (number (ratio (pos 0) 1))) (number (ratio (pos 1) 2147483647)) (number (ratio (pos 1) 1))) (number (ratio (pos 1) 2305843009213693951)) (Ty.UInt ∷ [])

is_negative_x : Atom
is_negative_x = Atom.row (record { terms = (0, ratio (pos 1) 1) ∷ []; rest = ratio (pos 0) 1 }) true

asks_negative : GoesOn great_denial [] is_negative_x
unfolding is_negative_x is_sized fits ratio gcd gcd_steps minus plus scaled minus_oneʳ is_zeroʳ zeroʳ oneʳ ◌+ʳ◌ ◌*ʳ◌ leqʳ
asks_negative = record { kept = no_rows_kept great_denial refl; asks = record { yes = _; no = _; question = refl } }

-- The rows `x + n <= 0` and `-x <= 0`.
abbrev with_x : ℕ → List Row
with_x n = record { terms = (0, pos 1) ∷ []; rest = pos n; strict = false } ∷ record { terms = (0, negsuc 0) ∷ []; rest = pos 0; strict = false } ∷ []

-- Their sum is `n <= 0`.
with_x_contradict : (n : ℕ) → 0 < n → n < 2 ^ 62 → IsContradiction ((0, 1) ∷ (1, 1) ∷ []) (with_x n)
unfolding combined coefficient
with_x_contradict n p l = two_contradict 1 _ _ (lit< tt) (lit< tt) (wide_where ((0, 1) ∷ (1, 1) ∷ []) (with_x n) (lit< tt) (omega (arith, l))) (λ x. none (eqb 0 x)) (inl (omega (arith, ints, p)))
  where
    none : (b : Bool) → (pos 1 *ℤ (cond b (pos 1) (pos 0) +ℤ pos 0)) +ℤ ((pos 1 *ℤ (cond b (negsuc 0) (pos 0) +ℤ pos 0)) +ℤ pos 0) ≡ pos 0
    none true = refl
    none false = refl

negative_rows : (rows_of great_denial (onto [] is_negative_x true) false ≡ Some (with_x 1)) × (rows_of great_denial (onto [] is_negative_x true) true ≡ None)
unfolding is_negative_x is_sized fits ratio gcd gcd_steps minus plus scaled minus_oneʳ is_zeroʳ zeroʳ oneʳ ◌+ʳ◌ ◌*ʳ◌ leqʳ tightened factor common_multiple common_divisor floorʳ ceilʳ product_fits
negative_rows = (refl, refl)

negative_dropped : IsDropped great_denial (onto [] is_negative_x true)
negative_dropped = record { rows = with_x 1; are_rows = negative_rows.0; unsolvable = contradiction_unsolvable ((0, 1) ∷ (1, 1) ∷ []) (with_x 1) (with_x_contradict 1 (lit< tt) (lit< tt)) }

-- No UInt is negative, and the difference of the two values there overflows.
large_in_denied_goal : IsLarge great_denial
large_in_denied_goal = IsLarge.in_denied_goal (onto [] is_negative_x true) [] (record { are_before = AreBefore.first [] is_negative_x [] asks_negative AreBefore.start; few = omega arith }) negative_dropped negative_rows.1

-- 1/(2^31 - 1) is at least 1/(2^61 - 1).
abbrev great_difference : Goal
great_difference = upper_goal (number (ratio (pos 1) 2147483647)) (number (ratio (pos 1) 2305843009213693951)) []

abbrev two_fractions : Ends
two_fractions = (Some (constant (ratio (pos 1) 2147483647)), Some (constant (ratio (pos 1) 2305843009213693951)))

ends_in_fractions : end_at great_difference [] ≡ done two_fractions
unfolding is_sized fits ratio gcd gcd_steps
ends_in_fractions = refl

difference_lost : rows_of great_difference [] true ≡ None
unfolding is_sized fits ratio gcd gcd_steps minus plus scaled minus_oneʳ is_zeroʳ zeroʳ oneʳ ◌+ʳ◌ ◌*ʳ◌ tightened
difference_lost = refl

fractions_not_plain : IsPlainAt great_difference [] → ⊥
fractions_not_plain p = go p.ends (sym ends_in_fractions ∙ p.at_end) p.plain
  where
    go : (e : Ends) → done two_fractions ≡ done e → denial true e ≡ None → ⊥
    go e h k = let i : two_fractions ≡ e = cc in let j = rw (← i) at k in absurd (cc)

-- The difference of the two values of the only cell overflows.
large_in_piece : IsLarge great_difference
large_in_piece = IsLarge.in_piece 0 [] [] (record {
  cell = [];
  reached = at_first great_difference;
  few = omega arith;
  is_cell = record { front = IsFront.start; kept = no_rows_kept great_difference refl; ends = two_fractions; at_end = ends_in_fractions };
  not_plain = fractions_not_plain;
  piece = IsPieceOf.whole;
}) difference_lost

bits_is_a_cause : IsCause great_difference Bits
bits_is_a_cause = (refl, large_in_piece)

-- ---- No overflow, and at most 4,096 rows

abbrev plain_ends : Ends
plain_ends = (None, Some (variable 0))

-- Infinity is at least x: nothing overflows.
plain_is_not_large : IsLarge plain_goal → ⊥
plain_is_not_large = no_large plain_goal (lone_fronts plain_goal plain_ends refl (fine_start plain_goal plain_ends refl [] refl refl)) (λ n ps cells l. absurd (l.not_plain (subst_plain (starts plain_goal plain_ends refl l.cell cells l.reached.are_before).0)))
  where
    subst_plain : {ps : List Taken} → ps ≡ [] → IsPlainAt plain_goal ps
    subst_plain e = subst (IsPlainAt plain_goal) (sym e) holds_plainly

false_stands : eliminated (below_zero ∷ []) [] ≡ standing []
unfolding below_zero order_of run start contradiction strongest
false_stands = refl

false_asks_nothing : questions false_goal ≡ done (zero, one)
unfolding is_sized fits ratio gcd gcd_steps zeroʳ oneʳ
false_asks_nothing = refl

false_linear : nonlinear_product false_goal ≡ None
false_linear = refl

-- 0 is not at least 1, and no cause prevents this answer.
false_has_no_cause : (cause : Cause) → IsCause false_goal cause → ⊥
false_has_no_cause = none_where_falsified false_goal
    (lone_fronts false_goal (zero, one) false_asks_nothing (fine_start false_goal (zero, one) false_asks_nothing (below_zero ∷ []) refl denied_row))
    (lone_pieces false_goal (zero, one) false_asks_nothing (λ n x m s. point_or_break false_goal [] [] false_point (split_breaks false_goal [] x m s.breaks)) (record { rows = below_zero ∷ []; are_rows = denied_row; within = standing_within (below_zero ∷ []) [] false_stands }))
    [] false_linear falsified

false_is_not_large : IsLarge false_goal → ⊥
false_is_not_large h = false_has_no_cause Bits (false_linear, h)

-- ---- Goals that hold and have no cause

-- `2x + 1` is at least x, for a UInt x.
abbrev up : Goal
up = upper_goal (Form.sum (Form.scale (ratio (pos 2) 1) (Form.variable 0)) (number (ratio (pos 1) 1))) (Form.variable 0) (Ty.UInt ∷ [])

up_ends : Ends
up_ends = (Some (record { terms = (0, ratio (pos 2) 1) ∷ []; rest = ratio (pos 1) 1 }), Some (variable 0))

-- The sum `2 <= 0` of `x + 2 <= 0` and `-x <= 0`, divided by 2.
abbrev halved : Derived
halved = record { row = record { terms = []; rest = pos 1; strict = false }; shares = (0, pos 1) ∷ (1, pos 1) ∷ []; over = 2 }

up_asks_nothing : questions up ≡ done up_ends
unfolding up_ends is_sized fits ratio gcd gcd_steps plus scaled is_zeroʳ zeroʳ oneʳ ◌+ʳ◌ ◌*ʳ◌
up_asks_nothing = refl

up_denied : (rows_of up [] true ≡ Some (with_x 2)) × (has_denied up [] ≡ true)
unfolding is_sized fits ratio gcd gcd_steps minus plus scaled minus_oneʳ is_zeroʳ zeroʳ oneʳ ◌+ʳ◌ ◌*ʳ◌ tightened factor common_multiple common_divisor floorʳ ceilʳ product_fits
up_denied = (refl, refl)

up_refuted : eliminated (with_x 2) (Ty.UInt ∷ []) ≡ refuted halved
unfolding coefficient add_term add_terms are_wide common mixed_row lowest join put_row put_variable order_of strongest contradiction pairs fits_each pairs_fit run start gcd gcd_steps
up_refuted = refl

-- There is no cause at `2x + 1 >= x`, and its two rows have no solution.
up_has_no_cause : (cause : Cause) → IsCause up cause → ⊥
up_has_no_cause = none_where_refuted up up_ends up_asks_nothing (with_x 2) halved refl refl up_denied.0 up_denied.1 up_refuted (with_x_contradict 2 (lit< tt) (lit< tt))

-- The multipliers 1 and 1 prove it.
up_is_proved : IsWalkTree up [] (Tree.farkas ((0, 1) ∷ (1, 1) ∷ []))
up_is_proved = refuted_tree up up_ends up_asks_nothing (with_x 2) halved refl refl up_denied.0 up_denied.1 up_refuted (with_x_contradict 2 (lit< tt) (lit< tt))

-- `2r + 1/2` is at least r, for a UReal r.
abbrev up_real : Goal
up_real = upper_goal (Form.sum (Form.scale (ratio (pos 2) 1) (Form.variable 0)) (number (ratio (pos 1) 2))) (Form.variable 0) (Ty.UReal ∷ [])

up_real_ends : Ends
up_real_ends = (Some (record { terms = (0, ratio (pos 2) 1) ∷ []; rest = ratio (pos 1) 2 }), Some (variable 0))

-- The rows `2r + 1 < 0` and `-r <= 0`.
abbrev up_real_rows : List Row
up_real_rows = record { terms = (0, pos 2) ∷ []; rest = pos 1; strict = true } ∷ record { terms = (0, negsuc 0) ∷ []; rest = pos 0; strict = false } ∷ []

-- The first row plus twice the second is `1 < 0`.
up_real_contradicts : IsContradiction ((0, 1) ∷ (1, 2) ∷ []) up_real_rows
unfolding combined coefficient
up_real_contradicts = two_contradict 2 _ _ (lit< tt) (lit< tt) (wide_where ((0, 1) ∷ (1, 2) ∷ []) up_real_rows (lit< tt) (lit< tt)) (λ x. none (eqb 0 x)) (inl (omega (arith, ints)))
  where
    none : (b : Bool) → (pos 1 *ℤ (cond b (pos 2) (pos 0) +ℤ pos 0)) +ℤ ((pos 2 *ℤ (cond b (negsuc 0) (pos 0) +ℤ pos 0)) +ℤ pos 0) ≡ pos 0
    none true = refl
    none false = refl

abbrev one_below_zero : Derived
one_below_zero = record { row = record { terms = []; rest = pos 1; strict = true }; shares = (0, pos 1) ∷ (1, pos 2) ∷ []; over = 1 }

up_real_asks_nothing : questions up_real ≡ done up_real_ends
unfolding up_real_ends is_sized fits ratio gcd gcd_steps plus scaled is_zeroʳ zeroʳ oneʳ ◌+ʳ◌ ◌*ʳ◌
up_real_asks_nothing = refl

up_real_denied : (rows_of up_real [] true ≡ Some up_real_rows) × (has_denied up_real [] ≡ true)
unfolding is_sized fits ratio gcd gcd_steps minus plus scaled minus_oneʳ is_zeroʳ zeroʳ oneʳ ◌+ʳ◌ ◌*ʳ◌ tightened factor common_multiple common_divisor floorʳ ceilʳ product_fits
up_real_denied = (refl, refl)

up_real_refuted : eliminated up_real_rows (Ty.UReal ∷ []) ≡ refuted one_below_zero
unfolding coefficient add_term add_terms are_wide common mixed_row lowest join put_row put_variable order_of strongest contradiction pairs fits_each pairs_fit run start gcd gcd_steps
up_real_refuted = refl

up_real_has_no_cause : (cause : Cause) → IsCause up_real cause → ⊥
up_real_has_no_cause = none_where_refuted up_real up_real_ends up_real_asks_nothing up_real_rows one_below_zero refl refl up_real_denied.0 up_real_denied.1 up_real_refuted up_real_contradicts

-- A fair coin: 1/2 is at least `1/2 * [true] + 1/2 * [false]`.
abbrev coin : Goal
coin = upper_goal (number (ratio (pos 1) 2)) (Form.sum (Form.scale (ratio (pos 1) 2) (Form.iverson (Cond.constant true))) (Form.scale (ratio (pos 1) 2) (Form.iverson (Cond.constant false)))) (Ty.Bool ∷ [])

coin_ends : Ends
coin_ends = (Some (constant (ratio (pos 1) 2)), Some (constant (ratio (pos 1) 2)))

-- The row `0 < 0`.
abbrev coin_rows : List Row
coin_rows = record { terms = []; rest = pos 0; strict = true } ∷ []

coin_contradicts : IsContradiction ((0, 1) ∷ []) coin_rows
unfolding combined coefficient uses_strict
coin_contradicts = one_contradicts _ (wide_where ((0, 1) ∷ []) coin_rows (lit< tt) (lit< tt)) (λ x. refl) (inr (refl, refl))

abbrev zero_below_zero : Derived
zero_below_zero = record { row = record { terms = []; rest = pos 0; strict = true }; shares = (0, pos 1) ∷ []; over = 1 }

coin_asks_nothing : questions coin ≡ done coin_ends
unfolding coin_ends is_sized fits ratio gcd gcd_steps plus scaled is_zeroʳ zeroʳ oneʳ ◌+ʳ◌ ◌*ʳ◌
coin_asks_nothing = refl

coin_denied : (rows_of coin [] true ≡ Some coin_rows) × (has_denied coin [] ≡ true)
unfolding is_sized fits ratio gcd gcd_steps minus plus scaled minus_oneʳ is_zeroʳ zeroʳ oneʳ ◌+ʳ◌ ◌*ʳ◌ tightened
coin_denied = (refl, refl)

coin_refuted : eliminated coin_rows (Ty.Bool ∷ []) ≡ refuted zero_below_zero
unfolding put_variable order_of contradiction strongest run start
coin_refuted = refl

coin_has_no_cause : (cause : Cause) → IsCause coin cause → ⊥
coin_has_no_cause = none_where_refuted coin coin_ends coin_asks_nothing coin_rows zero_below_zero refl refl coin_denied.0 coin_denied.1 coin_refuted coin_contradicts

-- ---- Counts and products

-- `0 >= 1` has one cell, not two.
one_cell_reached : HasCells false_goal 1
one_cell_reached = record { path = []; before = []; are_before = AreBefore.start; cell = false_cell; counted = refl }

no_second_cell : HasCells false_goal 2 → ⊥
no_second_cell h = let e = (starts false_goal (zero, one) false_asks_nothing h.path h.before h.are_before).1 in absurd (count h.before e h.counted)
  where
    count : (cells : List (List Taken)) → cells ≡ [] → 1 + length cells ≡ 2 → ⊥
    count [] e k = absurd (omega (arith, k))
    count (c ∷ cs) e k = absurd (cc)

up_has_few_rows : (steps count : ℕ) → HasManyRows up steps count → ⊥
up_has_few_rows steps count h = up_has_no_cause (Rows steps count) (refl, h)

abbrev place : Span
place = record { from = 4; to = 5 }

-- `x * x` is at least x.
abbrev square : Goal
square = upper_goal (Form.product (Form.variable 0) (Form.variable 0) place) (Form.variable 0) (Ty.UInt ∷ [])

-- The place of its product is a cause; `2x + 1 >= x` has no such cause.
square_is_nonlinear : IsCause square (Nonlinear place) × (IsCause up (Nonlinear place) → ⊥)
square_is_nonlinear = (refl, up_has_no_cause (Nonlinear place))
