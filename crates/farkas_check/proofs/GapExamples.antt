-- A goal that holds for integers and fails for a fraction, and its certificate, in which x is split
-- at 0. Split at 1 it is refused.
use Rattle.std.proofs.Common.{◌≡◌, ℕ, ◌<◌, ◌^◌, List, [], ◌∷◌, refl, sym, ap, ◌∙◌, subst, arith, lit<, Bool, true, false, cond, eqb, inl, inr, ◌⊎◌}
use Rattle.std.specs.Prelude.{pos, negsuc, Some, None, is_some, ℤ, ◌+ℤ◌, ◌*ℤ◌, ◌<ℤ◌, length, take, unsigned_abs}
use Prim.Native.Nat.{zero, suc}
use borrow.Author.Differences.{ints}
use Rattle.std.proofs.lemmas.List.Elements.{All-nil, All-cons}
use Rattle.heyvl_num.specs.Gcd.{gcd, gcd_steps}
use Rattle.heyvl_num.specs.Rational.{ratio, zeroʳ, oneʳ, ◌+ʳ◌, ◌*ʳ◌, leqʳ}
use Rattle.heyvl_num.specs.Rounding.{whole, floorʳ, ceilʳ}
use Rattle.heyvl_num.specs.Exact.{product_fits}
use Rattle.heyvl_num.specs.Value.{is_zeroʳ}
use Rattle.heyvl_num.specs.Value.Value.{finite}
use Rattle.heylo_formula.specs.Formula.{Form, Cond}
use Rattle.heylo_formula.specs.Goals.{Goal}
use Rattle.heylo_formula.specs.declared.types.Ty.{Ty}
use Rattle.linear_values.specs.Lin.{Lin, constant, plus, scaled, minus, is_sized}
use Rattle.linear_values.specs.Tightening.{common_multiple, common_divisor, factor, tightened}
use Rattle.linear_rows.specs.Numbers.{minus_oneʳ, fits}
use Rattle.linear_rows.specs.Terms.{coefficient}
use Rattle.linear_rows.specs.Row.{Row}
use Rattle.linear_rows.specs.Combination.{IsContradiction, row_at, combined, uses_strict}
use Rattle.linear_form.specs.Query.{Query, Atom, Taken, onto}
use Rattle.linear_form.specs.Query.Query.{done, ask}
use Rattle.linear_form.specs.Questions.{Ends, questions}
use Rattle.linear_form.specs.Splits.{split_at}
use Rattle.linear_form.specs.Paths.{Asks, walk, end_at}
use Rattle.linear_form.specs.PathRows.{rows_of, denial, denial_at, IsPlainAt}
use Rattle.goal_answers.specs.Trees.{Tree}
use Rattle.farkas_check.specs.AcceptedCertificates.{CanSplit, IsRefuted, IsAccepted, IsRefused, has_denied}

number : ℤ → Form
number n = Form.number (finite (whole n))

twice_x : Form
twice_x = Form.scale (whole (pos 2)) (Form.variable 0)

-- `ite(y <= 2*x && y <= 2 - 2*x && 1 <= y, 0, 1)` is at least 1.
gap : Goal
gap = record { upper = true; stated = Form.select (Cond.and (Cond.and (Cond.le (Form.variable 1) twice_x) (Cond.le (Form.variable 1) (Form.difference (number (pos 2)) twice_x))) (Cond.le (number (pos 1)) (Form.variable 1))) (number (pos 0)) (number (pos 1)); found = number (pos 1); types = Ty.Int ∷ (Ty.Int ∷ []); names = [] ∷ ([] ∷ []); own = 2 }

-- A multiple of x, one of y, and a constant.
of_both : ℤ → ℤ → ℤ → Lin
of_both p q c = record { terms = (0, ratio p 1) ∷ ((1, ratio q 1) ∷ []); rest = ratio c 1 }

-- `y - 2x <= 0`.
first_question : Atom
first_question = Atom.row (of_both (negsuc 1) (pos 1) (pos 0)) false

-- `2x + y - 2 <= 0`.
second_question : Atom
second_question = Atom.row (of_both (pos 2) (pos 1) (negsuc 1)) false

-- `1 - y <= 0`.
third_question : Atom
third_question = Atom.row (record { terms = (1, ratio (negsuc 0) 1) ∷ []; rest = ratio (pos 1) 1 }) false

lin : ℤ → Lin
lin n = constant (ratio n 1)

-- If all three hold, the stated value is 0, otherwise 1; the computed one is 1.
tree : Query Ends
tree = ask first_question (ask second_question (ask third_question (done (Some (lin (pos 0)), Some (lin (pos 1)))) (done (Some (lin (pos 1)), Some (lin (pos 1))))) (done (Some (lin (pos 1)), Some (lin (pos 1))))) (done (Some (lin (pos 1)), Some (lin (pos 1))))

questions_of_gap : questions gap ≡ tree
unfolding gap number twice_x of_both first_question second_question third_question lin tree whole is_sized fits ratio gcd gcd_steps minus plus scaled minus_oneʳ is_zeroʳ zeroʳ oneʳ ◌+ʳ◌ ◌*ʳ◌ leqʳ
questions_of_gap = refl

yes : Atom → Taken
yes q = record { atom = q; held = true }

no : Atom → Taken
no q = record { atom = q; held = false }

-- The cell in which all three hold, and its halves.
all_hold : List Taken
all_hold = yes first_question ∷ (yes second_question ∷ (yes third_question ∷ []))

half : ℤ → Bool → List Taken
half m held = onto all_hold (split_at 0 m) held

-- The fronts at which one of them fails.
third_fails : List Taken
third_fails = yes first_question ∷ (yes second_question ∷ (no third_question ∷ []))

second_fails : List Taken
second_fails = yes first_question ∷ (no second_question ∷ [])

first_fails : List Taken
first_fails = no first_question ∷ []

end_of_gap : (ps : List Taken) (t : Query Ends) → walk tree ps ≡ t → end_at gap ps ≡ t
end_of_gap ps t e = ap (λ q. walk q ps) questions_of_gap ∙ e

denied_in : (ps : List Taken) (a b : Lin) → end_at gap ps ≡ done (Some a, Some b) → has_denied gap ps ≡ true
unfolding gap
denied_in ps a b e = ap (λ t. is_some (denial_at true t)) e

not_plain_in : (ps : List Taken) (a b : Lin) → end_at gap ps ≡ done (Some a, Some b) → IsPlainAt gap ps → ⊥
unfolding gap
not_plain_in ps a b e h = go h.ends (sym h.at_end ∙ e) h.plain
  where
    go : (x : Ends) → done x ≡ done (Some a, Some b) → denial true x ≡ None → ⊥
    go x k p = let i : x ≡ (Some a, Some b) = cc in let j = sym (ap (denial true) i) ∙ p in absurd (cc)

ends_where_all_hold : (m : ℤ) (held : Bool) → (end_at gap all_hold ≡ done (Some (lin (pos 0)), Some (lin (pos 1)))) × (end_at gap (half m held) ≡ done (Some (lin (pos 0)), Some (lin (pos 1))))
unfolding tree all_hold half yes
ends_where_all_hold m held = (end_of_gap all_hold _ refl, end_of_gap (half m held) _ refl)

ends_where_one_fails : (end_at gap third_fails ≡ done (Some (lin (pos 1)), Some (lin (pos 1)))) × (end_at gap second_fails ≡ done (Some (lin (pos 1)), Some (lin (pos 1)))) × (end_at gap first_fails ≡ done (Some (lin (pos 1)), Some (lin (pos 1))))
unfolding tree third_fails second_fails first_fails yes no
ends_where_one_fails = (end_of_gap third_fails _ refl, end_of_gap second_fails _ refl, end_of_gap first_fails _ refl)

-- ---- The rows

row : ℤ → ℤ → ℤ → Row
row p q c = record { terms = (0, p) ∷ ((1, q) ∷ []); rest = c; strict = false }

of_x : ℤ → ℤ → Row
of_x p c = record { terms = (0, p) ∷ []; rest = c; strict = false }

of_y : ℤ → ℤ → Row
of_y q c = record { terms = (1, q) ∷ []; rest = c; strict = false }

denied_goal : ℤ → Row
denied_goal c = record { terms = []; rest = c; strict = true }

-- The three comparisons, that of the split, and `0 < 1`, which denies the goal.
rows_with : Row → List Row
rows_with r = row (negsuc 1) (pos 1) (pos 0) ∷ (row (pos 2) (pos 1) (negsuc 1) ∷ (of_y (negsuc 0) (pos 1) ∷ (r ∷ (denied_goal (negsuc 0) ∷ []))))

rows_of_halves : (rows_of gap (half (pos 0) true) true ≡ Some (rows_with (of_x (pos 1) (pos 0)))) × (rows_of gap (half (pos 0) false) true ≡ Some (rows_with (of_x (negsuc 0) (pos 1)))) × (rows_of gap (half (pos 1) true) true ≡ Some (rows_with (of_x (pos 1) (negsuc 0))))
unfolding gap number twice_x of_both first_question second_question third_question all_hold half yes row of_x of_y denied_goal rows_with whole is_sized fits ratio gcd gcd_steps minus plus scaled minus_oneʳ is_zeroʳ zeroʳ oneʳ ◌+ʳ◌ ◌*ʳ◌ leqʳ tightened factor common_multiple common_divisor floorʳ ceilʳ product_fits
rows_of_halves = (refl, refl, refl)

-- If one of them fails, `1 < 1` denies the goal.
rows_where_one_fails : (rows_of gap third_fails true ≡ Some (row (negsuc 1) (pos 1) (pos 0) ∷ (row (pos 2) (pos 1) (negsuc 1) ∷ (of_y (pos 1) (pos 0) ∷ (denied_goal (pos 0) ∷ []))))) × (rows_of gap second_fails true ≡ Some (row (negsuc 1) (pos 1) (pos 0) ∷ (row (negsuc 1) (negsuc 0) (pos 3) ∷ (denied_goal (pos 0) ∷ [])))) × (rows_of gap first_fails true ≡ Some (row (pos 2) (negsuc 0) (pos 1) ∷ (denied_goal (pos 0) ∷ [])))
unfolding gap number twice_x of_both first_question second_question third_question third_fails second_fails first_fails yes no row of_y denied_goal whole is_sized fits ratio gcd gcd_steps minus plus scaled minus_oneʳ is_zeroʳ zeroʳ oneʳ ◌+ʳ◌ ◌*ʳ◌ leqʳ tightened factor common_multiple common_divisor floorʳ ceilʳ product_fits
rows_where_one_fails = (refl, refl, refl)

-- ---- The row `0 < 0` is itself a contradiction

absurd_row : Row
absurd_row = denied_goal (pos 0)

one_sum : (F : Row → ℤ) (n : ℕ) (rows : List Row) → F (row_at rows n) ≡ pos 0 → (k : ℕ) → combined F (take k ((n, 1) ∷ [])) rows ≡ pos 0
unfolding combined
one_sum F n rows e zero = refl
one_sum F n rows e (suc zero) = ap (λ z. (pos 1 *ℤ z) +ℤ pos 0) e
one_sum F n rows e (suc (suc k)) = ap (λ z. (pos 1 *ℤ z) +ℤ pos 0) e

small : (z : ℤ) → z ≡ pos 0 → unsigned_abs z < 2 ^ 126
small z e = subst (λ y. unsigned_abs y < 2 ^ 126) (sym e) (lit< tt)

no_coefficient : (x : ℕ) (r : Row) → r ≡ absurd_row → coefficient x r.terms ≡ pos 0
unfolding coefficient absurd_row denied_goal
no_coefficient x r e = ap (λ (r : Row). coefficient x r.terms) e

no_constant : (r : Row) → r ≡ absurd_row → (r.rest ≡ pos 0) × (r.strict ≡ true)
unfolding absurd_row denied_goal
no_constant r e = (ap (λ (r : Row). r.rest) e, ap (λ (r : Row). r.strict) e)

strict_used : (n : ℕ) (rows : List Row) → (row_at rows n).strict ≡ true → uses_strict ((n, 1) ∷ []) rows ≡ true
unfolding uses_strict
strict_used n rows e = rw e refl

by_itself : (n : ℕ) (rows : List Row) → n < length rows → row_at rows n ≡ absurd_row → IsContradiction ((n, 1) ∷ []) rows
by_itself n rows l e = record {
  growing = (All-nil (λ m. n < m.0), tt);
  within = All-cons (λ m. m.0 < length rows) (n, 1) [] l (All-nil (λ m. m.0 < length rows));
  positive = All-cons (λ m. 0 < m.1) (n, 1) [] (lit< {m = 0} {n = 1} tt) (All-nil (λ m. 0 < m.1));
  narrow = All-cons (λ m. m.1 < 2 ^ 62) (n, 1) [] (lit< {m = 1} {n = 2 ^ 62} tt) (All-nil (λ m. m.1 < 2 ^ 62));
  coefficients_wide = λ x. record { wide = λ k. small _ (one_sum (λ r. coefficient x r.terms) n rows (no_coefficient x (row_at rows n) e) k) };
  constants_wide = record { wide = λ k. small _ (one_sum (λ r. r.rest) n rows (no_constant (row_at rows n) e).0 k) };
  no_variable = λ x. one_sum (λ r. coefficient x r.terms) n rows (no_coefficient x (row_at rows n) e) 1;
  false_constant = inr (one_sum (λ r. r.rest) n rows (no_constant (row_at rows n) e).0 1, strict_used n rows (no_constant (row_at rows n) e).1);
}

-- ---- Three rows that add up to 1 <= 0

-- The partial sums of three numbers.
three : ℤ → ℤ → ℤ → ℕ → ℤ
three a b c zero = pos 0
three a b c (suc zero) = a +ℤ pos 0
three a b c (suc (suc zero)) = a +ℤ (b +ℤ pos 0)
three a b c (suc (suc (suc k))) = a +ℤ (b +ℤ (c +ℤ pos 0))

three_sums : (F : Row → ℤ) (i j : ℕ) (rows : List Row) (k : ℕ) → combined F (take k ((i, 1) ∷ ((2, 1) ∷ ((j, 2) ∷ [])))) rows ≡ three (pos 1 *ℤ F (row_at rows i)) (pos 1 *ℤ F (row_at rows 2)) (pos 2 *ℤ F (row_at rows j)) k
unfolding combined three
three_sums F i j rows zero = refl
three_sums F i j rows (suc zero) = refl
three_sums F i j rows (suc (suc zero)) = refl
three_sums F i j rows (suc (suc (suc zero))) = refl
three_sums F i j rows (suc (suc (suc (suc k)))) = refl

three_small : (a b c : ℤ) → unsigned_abs a < 2 ^ 60 → unsigned_abs b < 2 ^ 60 → unsigned_abs c < 2 ^ 60 → (k : ℕ) → unsigned_abs (three a b c k) < 2 ^ 126
unfolding three
three_small a b c h i j zero = lit< tt
three_small a b c h i j (suc zero) = omega (arith, ints)
three_small a b c h i j (suc (suc zero)) = omega (arith, ints)
three_small a b c h i j (suc (suc (suc k))) = omega (arith, ints)

-- The three rows have small numbers, the coefficients add up to 0, and the constants to 1.
record AddUp (i : ℕ) (rows : List Row) : Type 0 where
  long : length rows ≡ 5
  first : i < 2
  coefficients_small : (x : ℕ) → (unsigned_abs (pos 1 *ℤ coefficient x (row_at rows i).terms) < 2 ^ 60) × (unsigned_abs (pos 1 *ℤ coefficient x (row_at rows 2).terms) < 2 ^ 60) × (unsigned_abs (pos 2 *ℤ coefficient x (row_at rows 3).terms) < 2 ^ 60)
  constants_small : (unsigned_abs (pos 1 *ℤ (row_at rows i).rest) < 2 ^ 60) × (unsigned_abs (pos 1 *ℤ (row_at rows 2).rest) < 2 ^ 60) × (unsigned_abs (pos 2 *ℤ (row_at rows 3).rest) < 2 ^ 60)
  vanish : (x : ℕ) → three (pos 1 *ℤ coefficient x (row_at rows i).terms) (pos 1 *ℤ coefficient x (row_at rows 2).terms) (pos 2 *ℤ coefficient x (row_at rows 3).terms) 3 ≡ pos 0
  one : three (pos 1 *ℤ (row_at rows i).rest) (pos 1 *ℤ (row_at rows 2).rest) (pos 2 *ℤ (row_at rows 3).rest) 3 ≡ pos 1

together : (i : ℕ) (rows : List Row) → AddUp i rows → IsContradiction ((i, 1) ∷ ((2, 1) ∷ ((3, 2) ∷ []))) rows
together i rows h = let l = h.long in let f = h.first in record {
  growing = (All-cons (λ m. i < m.0) (2, 1) ((3, 2) ∷ []) f (All-cons (λ m. i < m.0) (3, 2) [] (omega (arith, f)) (All-nil (λ m. i < m.0))), (All-cons (λ m. 2 < m.0) (3, 2) [] (lit< {m = 2} {n = 3} tt) (All-nil (λ m. 2 < m.0)), (All-nil (λ m. 3 < m.0), tt)));
  within = All-cons (λ m. m.0 < length rows) (i, 1) ((2, 1) ∷ ((3, 2) ∷ [])) (omega (arith, l, f)) (All-cons (λ m. m.0 < length rows) (2, 1) ((3, 2) ∷ []) (omega (arith, l)) (All-cons (λ m. m.0 < length rows) (3, 2) [] (omega (arith, l)) (All-nil (λ m. m.0 < length rows))));
  positive = All-cons (λ m. 0 < m.1) (i, 1) ((2, 1) ∷ ((3, 2) ∷ [])) (lit< {m = 0} {n = 1} tt) (All-cons (λ m. 0 < m.1) (2, 1) ((3, 2) ∷ []) (lit< {m = 0} {n = 1} tt) (All-cons (λ m. 0 < m.1) (3, 2) [] (lit< {m = 0} {n = 2} tt) (All-nil (λ m. 0 < m.1))));
  narrow = All-cons (λ m. m.1 < 2 ^ 62) (i, 1) ((2, 1) ∷ ((3, 2) ∷ [])) (lit< {m = 1} {n = 2 ^ 62} tt) (All-cons (λ m. m.1 < 2 ^ 62) (2, 1) ((3, 2) ∷ []) (lit< {m = 1} {n = 2 ^ 62} tt) (All-cons (λ m. m.1 < 2 ^ 62) (3, 2) [] (lit< {m = 2} {n = 2 ^ 62} tt) (All-nil (λ m. m.1 < 2 ^ 62))));
  coefficients_wide = λ x. record { wide = λ k. let s = h.coefficients_small x in subst (λ z. unsigned_abs z < 2 ^ 126) (sym (three_sums (λ r. coefficient x r.terms) i 3 rows k)) (three_small _ _ _ s.0 s.1 s.2 k) };
  constants_wide = record { wide = λ k. let s = h.constants_small in subst (λ z. unsigned_abs z < 2 ^ 126) (sym (three_sums (λ r. r.rest) i 3 rows k)) (three_small _ _ _ s.0 s.1 s.2 k) };
  no_variable = λ x. three_sums (λ r. coefficient x r.terms) i 3 rows 3 ∙ h.vanish x;
  false_constant = inl (subst (λ z. pos 0 <ℤ z) (sym (three_sums (λ r. r.rest) i 3 rows 3 ∙ h.one)) (omega (arith, ints)));
}

-- y - 2x, 1 - y and twice x.
where_at_most_zero : AddUp 0 (rows_with (of_x (pos 1) (pos 0)))
unfolding rows_with row of_x of_y denied_goal coefficient three
where_at_most_zero = record {
  long = refl;
  first = lit< {m = 0} {n = 2} tt;
  coefficients_small = λ x. sizes (eqb 0 x) (eqb 1 x);
  constants_small = (lit< tt, lit< tt, lit< tt);
  vanish = λ x. none (eqb 0 x) (eqb 1 x);
  one = refl;
}
  where
    sizes : (b c : Bool) → (unsigned_abs (pos 1 *ℤ (cond b (negsuc 1) (pos 0) +ℤ (cond c (pos 1) (pos 0) +ℤ pos 0))) < 2 ^ 60) × (unsigned_abs (pos 1 *ℤ (cond c (negsuc 0) (pos 0) +ℤ pos 0)) < 2 ^ 60) × (unsigned_abs (pos 2 *ℤ (cond b (pos 1) (pos 0) +ℤ pos 0)) < 2 ^ 60)
    sizes true true = (lit< tt, lit< tt, lit< tt)
    sizes true false = (lit< tt, lit< tt, lit< tt)
    sizes false true = (lit< tt, lit< tt, lit< tt)
    sizes false false = (lit< tt, lit< tt, lit< tt)

    none : (b c : Bool) → (pos 1 *ℤ (cond b (negsuc 1) (pos 0) +ℤ (cond c (pos 1) (pos 0) +ℤ pos 0))) +ℤ ((pos 1 *ℤ (cond c (negsuc 0) (pos 0) +ℤ pos 0)) +ℤ ((pos 2 *ℤ (cond b (pos 1) (pos 0) +ℤ pos 0)) +ℤ pos 0)) ≡ pos 0
    none true true = refl
    none true false = refl
    none false true = refl
    none false false = refl

-- 2x + y - 2, 1 - y and twice 1 - x.
where_at_least_one : AddUp 1 (rows_with (of_x (negsuc 0) (pos 1)))
unfolding rows_with row of_x of_y denied_goal coefficient three
where_at_least_one = record {
  long = refl;
  first = lit< {m = 1} {n = 2} tt;
  coefficients_small = λ x. sizes (eqb 0 x) (eqb 1 x);
  constants_small = (lit< tt, lit< tt, lit< tt);
  vanish = λ x. none (eqb 0 x) (eqb 1 x);
  one = refl;
}
  where
    sizes : (b c : Bool) → (unsigned_abs (pos 1 *ℤ (cond b (pos 2) (pos 0) +ℤ (cond c (pos 1) (pos 0) +ℤ pos 0))) < 2 ^ 60) × (unsigned_abs (pos 1 *ℤ (cond c (negsuc 0) (pos 0) +ℤ pos 0)) < 2 ^ 60) × (unsigned_abs (pos 2 *ℤ (cond b (negsuc 0) (pos 0) +ℤ pos 0)) < 2 ^ 60)
    sizes true true = (lit< tt, lit< tt, lit< tt)
    sizes true false = (lit< tt, lit< tt, lit< tt)
    sizes false true = (lit< tt, lit< tt, lit< tt)
    sizes false false = (lit< tt, lit< tt, lit< tt)

    none : (b c : Bool) → (pos 1 *ℤ (cond b (pos 2) (pos 0) +ℤ (cond c (pos 1) (pos 0) +ℤ pos 0))) +ℤ ((pos 1 *ℤ (cond c (negsuc 0) (pos 0) +ℤ pos 0)) +ℤ ((pos 2 *ℤ (cond b (negsuc 0) (pos 0) +ℤ pos 0)) +ℤ pos 0)) ≡ pos 0
    none true true = refl
    none true false = refl
    none false true = refl
    none false false = refl

-- ---- The certificate

multipliers : ℕ → List (ℕ × ℕ)
multipliers i = (i, 1) ∷ ((2, 1) ∷ ((3, 2) ∷ []))

split_tree : ℤ → Tree
split_tree m = Tree.whole 0 m (Tree.farkas (multipliers 0)) (Tree.farkas (multipliers 1))

certificate : ℤ → Tree
certificate m = Tree.split (Tree.split (Tree.split (split_tree m) (Tree.farkas ((3, 1) ∷ []))) (Tree.farkas ((2, 1) ∷ []))) (Tree.farkas ((1, 1) ∷ []))

x_splits : CanSplit gap all_hold 0
unfolding gap
x_splits = record { ends = (Some (lin (pos 0)), Some (lin (pos 1))); at_end = (ends_where_all_hold (pos 0) true).0; not_plain = not_plain_in all_hold _ _ (ends_where_all_hold (pos 0) true).0; whole_type = refl }

refuted_halves : IsRefuted gap (half (pos 0) true) (multipliers 0) × IsRefuted gap (half (pos 0) false) (multipliers 1)
unfolding multipliers
refuted_halves = (
  record { rows = rows_with (of_x (pos 1) (pos 0)); are_rows = ap (rows_of gap (half (pos 0) true)) (denied_in (half (pos 0) true) _ _ (ends_where_all_hold (pos 0) true).1) ∙ rows_of_halves.0; contradiction = together 0 _ where_at_most_zero },
  record { rows = rows_with (of_x (negsuc 0) (pos 1)); are_rows = ap (rows_of gap (half (pos 0) false)) (denied_in (half (pos 0) false) _ _ (ends_where_all_hold (pos 0) false).1) ∙ rows_of_halves.1; contradiction = together 1 _ where_at_least_one },
)

by_itself_in : (ps : List Taken) (n : ℕ) (rows : List Row) → end_at gap ps ≡ done (Some (lin (pos 1)), Some (lin (pos 1))) → rows_of gap ps true ≡ Some rows → n < length rows → row_at rows n ≡ absurd_row → IsRefuted gap ps ((n, 1) ∷ [])
by_itself_in ps n rows e r l h = record { rows = rows; are_rows = ap (rows_of gap ps) (denied_in ps _ _ e) ∙ r; contradiction = by_itself n rows l h }

refuted_fronts : IsRefuted gap third_fails ((3, 1) ∷ []) × IsRefuted gap second_fails ((2, 1) ∷ []) × IsRefuted gap first_fails ((1, 1) ∷ [])
unfolding absurd_row
refuted_fronts = (
  by_itself_in third_fails 3 _ ends_where_one_fails.0 rows_where_one_fails.0 (lit< {m = 3} {n = 4} tt) refl,
  by_itself_in second_fails 2 _ ends_where_one_fails.1 rows_where_one_fails.1 (lit< {m = 2} {n = 3} tt) refl,
  by_itself_in first_fails 1 _ ends_where_one_fails.2 rows_where_one_fails.2 (lit< {m = 1} {n = 2} tt) refl,
)

asks_first : Asks gap [] first_question
unfolding tree
asks_first = record { yes = _; no = _; question = end_of_gap [] _ refl }

asks_second : Asks gap (yes first_question ∷ []) second_question
unfolding tree yes
asks_second = record { yes = _; no = _; question = end_of_gap (yes first_question ∷ []) _ refl }

asks_third : Asks gap (yes first_question ∷ (yes second_question ∷ [])) third_question
unfolding tree yes
asks_third = record { yes = _; no = _; question = end_of_gap (yes first_question ∷ (yes second_question ∷ [])) _ refl }

gap_is_certified : IsAccepted gap [] (certificate (pos 0))
unfolding certificate split_tree all_hold half third_fails second_fails first_fails yes no
gap_is_certified = IsAccepted.split [] first_question _ _ asks_first (IsAccepted.split _ second_question _ _ asks_second (IsAccepted.split _ third_question _ _ asks_third (IsAccepted.whole _ 0 (pos 0) _ _ x_splits (IsAccepted.farkas _ _ refuted_halves.0) (IsAccepted.farkas _ _ refuted_halves.1)) (IsAccepted.farkas _ _ refuted_fronts.0)) (IsAccepted.farkas _ _ refuted_fronts.1)) (IsAccepted.farkas _ _ refuted_fronts.2)

-- y - 2x, 1 - y and twice x - 1 add up to -1 <= 0.
sum_at_one : combined (λ r. r.rest) (multipliers 0) (rows_with (of_x (pos 1) (negsuc 0))) ≡ negsuc 0
unfolding combined multipliers rows_with row of_x of_y denied_goal
sum_at_one = refl

not_refuted_at_one : IsRefuted gap (half (pos 1) true) (multipliers 0) → ⊥
not_refuted_at_one h = go h.rows (sym h.are_rows ∙ ap (rows_of gap (half (pos 1) true)) (denied_in (half (pos 1) true) _ _ (ends_where_all_hold (pos 1) true).1) ∙ rows_of_halves.2) h.contradiction
  where
    apart : (pos 0 <ℤ negsuc 0) ⊎ ((negsuc 0 ≡ pos 0) × (uses_strict (multipliers 0) (rows_with (of_x (pos 1) (negsuc 0))) ≡ true)) → ⊥
    apart (inl l) = omega (arith, ints, l)
    apart (inr k) = let e = k.0 in omega (arith, ints, e)

    go : (rows : List Row) → Some rows ≡ Some (rows_with (of_x (pos 1) (negsuc 0))) → IsContradiction (multipliers 0) rows → ⊥
    go rows e c =
        let i : rows ≡ rows_with (of_x (pos 1) (negsuc 0)) = cc in
        apart (subst (λ z. (pos 0 <ℤ z) ⊎ ((z ≡ pos 0) × (uses_strict (multipliers 0) (rows_with (of_x (pos 1) (negsuc 0))) ≡ true))) sum_at_one (subst (λ rs. (pos 0 <ℤ combined (λ r. r.rest) (multipliers 0) rs) ⊎ ((combined (λ r. r.rest) (multipliers 0) rs ≡ pos 0) × (uses_strict (multipliers 0) rs ≡ true))) i c.false_constant))

gap_is_refused_at_one : IsRefused gap [] (certificate (pos 1)) (true ∷ (true ∷ (true ∷ (true ∷ []))))
unfolding certificate split_tree all_hold half yes
gap_is_refused_at_one = IsRefused.first [] first_question _ _ _ asks_first (IsRefused.first _ second_question _ _ _ asks_second (IsRefused.first _ third_question _ _ _ asks_third (IsRefused.first_half _ 0 (pos 1) _ _ _ x_splits (IsRefused.no_contradiction (half (pos 1) true) (multipliers 0) not_refuted_at_one))))

-- ---- A tree whose second half is refused

-- A plain leaf in place of multipliers.
refused_plain_half : IsRefused gap (half (pos 0) false) Tree.plain (true ∷ true ∷ true ∷ false ∷ [])
unfolding all_hold half yes
refused_plain_half =
    let not_plain = not_plain_in (half (pos 0) false) _ _ (ends_where_all_hold (pos 0) false).1 in
    IsRefused.not_plain (half (pos 0) false) not_plain

-- The second half of a split is refused where the first is accepted.
wrong_split : Tree
wrong_split = Tree.whole 0 (pos 0) (Tree.farkas (multipliers 0)) Tree.plain

refused_second_half : IsRefused gap all_hold wrong_split (true ∷ true ∷ true ∷ false ∷ [])
unfolding half wrong_split
refused_second_half =
    IsRefused.second_half all_hold 0 (pos 0) _ _ _ x_splits
    (IsAccepted.farkas _ _ refuted_halves.0) refused_plain_half

-- The certificate with the wrong second half.
wrong_half : Tree
wrong_half =
    Tree.split
    (Tree.split (Tree.split wrong_split (Tree.farkas ((3, 1) ∷ []))) (Tree.farkas ((2, 1) ∷ [])))
    (Tree.farkas ((1, 1) ∷ []))

gap_is_refused_in_the_second_half : IsRefused gap [] wrong_half (true ∷ true ∷ true ∷ false ∷ [])
unfolding wrong_half all_hold yes
gap_is_refused_in_the_second_half =
    IsRefused.first [] first_question _ _ _ asks_first
    (IsRefused.first _ second_question _ _ _ asks_second
    (IsRefused.first _ third_question _ _ _ asks_third refused_second_half))

-- A plain leaf in the last branch, after a first branch that is accepted.
wrong_last : Tree
wrong_last =
    Tree.split
    (Tree.split (Tree.split (split_tree (pos 0)) (Tree.farkas ((3, 1) ∷ []))) (Tree.farkas ((2, 1) ∷ [])))
    Tree.plain

gap_is_refused_in_the_last_branch : IsRefused gap [] wrong_last (false ∷ [])
unfolding wrong_last split_tree all_hold half third_fails second_fails first_fails yes no
gap_is_refused_in_the_last_branch =
    IsRefused.second [] first_question _ _ _ asks_first
    (IsAccepted.split _ second_question _ _ asks_second
    (IsAccepted.split _ third_question _ _ asks_third
    (IsAccepted.whole _ 0 (pos 0) _ _ x_splits
    (IsAccepted.farkas _ _ refuted_halves.0) (IsAccepted.farkas _ _ refuted_halves.1))
    (IsAccepted.farkas _ _ refuted_fronts.0))
    (IsAccepted.farkas _ _ refuted_fronts.1))
    (IsRefused.not_plain first_fails (not_plain_in first_fails _ _ ends_where_one_fails.2))
