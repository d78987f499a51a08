-- Certificates of small goals, computed.
use Rattle.std.proofs.Common.{◌≡◌, ℕ, ◌<◌, ◌^◌, List, [], ◌∷◌, refl, sym, ap, ◌∙◌, subst, arith, lit<, Bool, true, false, inr}
use Rattle.std.specs.Prelude.{pos, negsuc, Some, None, ℤ, ◌+ℤ◌, ◌*ℤ◌, length, take, unsigned_abs}
use Prim.Native.Nat.{zero, suc}
use Rattle.std.proofs.lemmas.List.Elements.{All-nil, All-cons, All-head}
use Rattle.heyvl_num.specs.Gcd.{gcd, gcd_steps}
use Rattle.heyvl_num.specs.Rational.{ratio, zeroʳ, oneʳ, ◌+ʳ◌, ◌*ʳ◌, leqʳ}
use Rattle.heyvl_num.specs.Rounding.{floorʳ, ceilʳ}
use Rattle.heyvl_num.specs.Exact.{product_fits}
use Rattle.heyvl_num.specs.Value.{Value, is_zeroʳ}
use Rattle.heyvl_num.specs.Value.Value.{finite, infinite}
use Rattle.heylo_formula.specs.Formula.{Form, Cond}
use Rattle.heylo_formula.specs.Goals.{Goal, Holds}
use Rattle.heylo_formula.specs.TypedGoals.{IsTypedGoal}
use Rattle.heylo_formula.specs.declared.types.Ty.{Ty}
use Rattle.linear_values.specs.Lin.{Lin, constant, plus, scaled, minus, is_sized, variable}
use Rattle.linear_rows.specs.Numbers.{minus_oneʳ, fits}
use Rattle.linear_rows.specs.Terms.{coefficient}
use Rattle.linear_form.specs.Query.{Query, Atom, Taken}
use Rattle.linear_form.specs.Questions.{Ends}
use Rattle.linear_form.specs.Paths.{Asks, end_at}
use Rattle.linear_rows.specs.Combination.{IsContradiction, combined, uses_strict}
use Rattle.linear_form.specs.PathRows.{rows_of, denial, IsPlainAt}
use Rattle.linear_rows.specs.Row.{Row}
use Rattle.linear_values.specs.Tightening.{common_multiple, common_divisor, factor, tightened}
use Rattle.goal_answers.specs.Trees.{Tree}
use Rattle.farkas_check.specs.AcceptedCertificates.{CanSplit, IsCertificate, IsNoCertificate}
use Rattle.farkas_check.specs.AcceptedCertificates.{IsRefuted, IsAccepted, IsRefused, has_denied}
use Rattle.farkas_check.proofs.Acceptance.{certificate_or_not, one_refusal}
use Rattle.farkas_check.proofs.Soundness.{certificate_holds}
use Rattle.heyvl_places.specs.declared.spans.Span.{Span}
use Rattle.linear_form.specs.Nonlinear.{nonlinear_product}

half : Value
half = finite (ratio (pos 1) 2)

-- 1/2 is at least 1/2.
halves : Goal
halves = record { upper = true; stated = Form.number half; found = Form.number half; types = []; names = []; own = 0 }

half_lin : Lin
half_lin = constant (ratio (pos 1) 2)

-- There is no comparison, and both values are 1/2.
ends_of_halves : end_at halves [] ≡ Query.done (Some half_lin, Some half_lin)
unfolding halves half half_lin is_sized fits ratio gcd gcd_steps
ends_of_halves = refl

-- The denied goal is among the rows: it is `0 < 0`.
zero_below_zero : Row
zero_below_zero = record { terms = []; rest = pos 0; strict = true }

denied_in_halves : has_denied halves [] ≡ true
unfolding halves half is_sized fits ratio gcd gcd_steps
denied_in_halves = refl

rows_of_halves : rows_of halves [] true ≡ Some (zero_below_zero ∷ [])
unfolding halves half zero_below_zero is_sized fits ratio gcd gcd_steps minus plus scaled minus_oneʳ is_zeroʳ zeroʳ ◌+ʳ◌ ◌*ʳ◌ tightened factor common_multiple common_divisor
rows_of_halves = refl

-- ---- The denied goal alone, a contradiction

once : List (ℕ × ℕ)
once = (0, 1) ∷ []

sums_of_once : (F : Row → ℤ) → F zero_below_zero ≡ pos 0 → (k : ℕ) → combined F (take k once) (zero_below_zero ∷ []) ≡ pos 0
unfolding combined once
sums_of_once F e zero = refl
sums_of_once F e (suc zero) = ap (λ z. (pos 1 *ℤ z) +ℤ pos 0) e
sums_of_once F e (suc (suc k)) = ap (λ z. (pos 1 *ℤ z) +ℤ pos 0) e

small : (z : ℤ) → z ≡ pos 0 → unsigned_abs z < 2 ^ 126
small z e = subst (λ y. unsigned_abs y < 2 ^ 126) (sym e) (lit< tt)

no_coefficient : (x : ℕ) → coefficient x zero_below_zero.terms ≡ pos 0
unfolding coefficient zero_below_zero
no_coefficient x = refl

no_constant : zero_below_zero.rest ≡ pos 0
unfolding zero_below_zero
no_constant = refl

strict_once : uses_strict once (zero_below_zero ∷ []) ≡ true
unfolding uses_strict once zero_below_zero
strict_once = refl

contradiction_of_once : IsContradiction once (zero_below_zero ∷ [])
unfolding once
contradiction_of_once = record {
  growing = (All-nil (λ m. 0 < m.0), tt);
  within = All-cons (λ m. m.0 < 1) (0, 1) [] (lit< {m = 0} {n = 1} tt) (All-nil (λ m. m.0 < 1));
  positive = All-cons (λ m. 0 < m.1) (0, 1) [] (lit< {m = 0} {n = 1} tt) (All-nil (λ m. 0 < m.1));
  narrow = All-cons (λ m. m.1 < 2 ^ 62) (0, 1) [] (lit< {m = 1} {n = 2 ^ 62} tt) (All-nil (λ m. m.1 < 2 ^ 62));
  coefficients_wide = λ x. record { wide = λ k. small _ (sums_of_once (λ r. coefficient x r.terms) (no_coefficient x) k) };
  constants_wide = record { wide = λ k. small _ (sums_of_once (λ r. r.rest) no_constant k) };
  no_variable = λ x. sums_of_once (λ r. coefficient x r.terms) (no_coefficient x) 1;
  false_constant = inr (sums_of_once (λ r. r.rest) no_constant 1, strict_once);
}

refuted_halves : IsRefuted halves [] once
refuted_halves = record { rows = zero_below_zero ∷ []; are_rows = ap (rows_of halves []) denied_in_halves ∙ rows_of_halves; contradiction = contradiction_of_once }

accepted_halves : IsAccepted halves [] (Tree.farkas once)
accepted_halves = IsAccepted.farkas [] once refuted_halves

-- ---- There is no row 1, no side is infinite, and there is no comparison

no_row_one : IsRefuted halves [] ((1, 1) ∷ []) → ⊥
no_row_one h = go h.rows (sym h.are_rows ∙ ap (rows_of halves []) denied_in_halves ∙ rows_of_halves) h.contradiction
  where
    go : (rows : List Row) → Some rows ≡ Some (zero_below_zero ∷ []) → IsContradiction ((1, 1) ∷ []) rows → ⊥
    go rows e k = let i : rows ≡ zero_below_zero ∷ [] = cc in let l : 1 < length rows = All-head (λ m. m.0 < length rows) (1, 1) [] k.within in let n = ap length i in omega (arith, l, n)

refused_row_one : IsRefused halves [] (Tree.farkas ((1, 1) ∷ [])) []
refused_row_one = IsRefused.no_contradiction [] ((1, 1) ∷ []) no_row_one

not_plain_halves : IsPlainAt halves [] → ⊥
unfolding halves
not_plain_halves h = go h.ends (sym h.at_end ∙ ends_of_halves) h.plain
  where
    go : (e : Ends) → Query.done e ≡ Query.done (Some half_lin, Some half_lin) → denial halves.upper e ≡ None → ⊥
    go e k p = let i : e ≡ (Some half_lin, Some half_lin) = cc in let q = sym (ap (denial true) i) ∙ p in absurd (cc)

refused_plain_halves : IsRefused halves [] Tree.plain []
refused_plain_halves = IsRefused.not_plain [] not_plain_halves

no_question_halves : (q : Atom) → Asks halves [] q → ⊥
no_question_halves q h = let e = sym ends_of_halves ∙ h.question in absurd (cc)

refused_split_halves : IsRefused halves [] (Tree.split Tree.plain Tree.plain) []
refused_split_halves = IsRefused.no_question [] Tree.plain Tree.plain no_question_halves

-- ---- The answers of the check on the trees above

-- The multiplier 1 is a certificate, and so is refused nowhere.
certified_halves : IsCertificate halves (Tree.farkas once)
unfolding halves
certified_halves = record { linear = refl; accepted = accepted_halves }

not_refused_halves : (place : List Bool) → IsNoCertificate halves (Tree.farkas once) place → ⊥
not_refused_halves place = certificate_or_not halves (Tree.farkas once) place certified_halves

-- The goal is typed, too, and so it holds by the law of certified goals.
typed_halves : IsTypedGoal halves
unfolding halves half leqʳ zeroʳ ratio
typed_halves = record { stated = refl; found = refl }

halves_hold : Holds halves
halves_hold = certificate_holds halves (Tree.farkas once) typed_halves certified_halves

-- The other three trees are refused at their root, and nowhere else.
no_certificates_of_halves :
    IsNoCertificate halves (Tree.farkas ((1, 1) ∷ [])) []
    × IsNoCertificate halves Tree.plain []
    × IsNoCertificate halves (Tree.split Tree.plain Tree.plain) []
unfolding halves
no_certificates_of_halves = (
  IsNoCertificate.at_node [] refl refused_row_one,
  IsNoCertificate.at_node [] refl refused_plain_halves,
  IsNoCertificate.at_node [] refl refused_split_halves,
)

nowhere_else : (place : List Bool) → IsNoCertificate halves Tree.plain place → place ≡ []
nowhere_else place h = one_refusal halves Tree.plain place [] h no_certificates_of_halves.1

not_certified_halves : IsCertificate halves Tree.plain → ⊥
not_certified_halves h = certificate_or_not halves Tree.plain [] h no_certificates_of_halves.1

-- The goal has no whole variable to split.
no_variable_halves : CanSplit halves [] 0 → ⊥
unfolding halves
no_variable_halves h = let no = h.whole_type in cc

refused_whole_halves : IsRefused halves [] (Tree.whole 0 (pos 0) Tree.plain Tree.plain) []
refused_whole_halves = IsRefused.no_split [] 0 (pos 0) Tree.plain Tree.plain no_variable_halves

-- ---- A goal that holds plainly

-- infinity is at least x
endless : Goal
endless = record {
  upper = true;
  stated = Form.number infinite;
  found = Form.variable 0;
  types = Ty.UInt ∷ [];
  names = [] ∷ [];
  own = 1;
}

plain_endless : IsPlainAt endless []
unfolding endless
plain_endless = record { ends = (None, Some (variable 0)); at_end = refl; plain = refl }

-- It needs no multipliers, and a plain leaf is not refused.
certified_endless : IsCertificate endless Tree.plain
unfolding endless
certified_endless = record { linear = refl; accepted = IsAccepted.plain [] plain_endless }

not_refused_endless : (place : List Bool) → IsNoCertificate endless Tree.plain place → ⊥
not_refused_endless place = certificate_or_not endless Tree.plain place certified_endless

-- ---- A goal with a product

at_product : Span
at_product = record { from = 4; to = 5 }

-- x times x is at least x
square : Goal
square = record {
  upper = true;
  stated = Form.product (Form.variable 0) (Form.variable 0) at_product;
  found = Form.variable 0;
  types = Ty.UInt ∷ [];
  names = [] ∷ [];
  own = 1;
}

-- Each tree is refused at its root. `halves` has no product.
product_of_square : (t : Tree) → IsNoCertificate square t []
unfolding square at_product
product_of_square t = IsNoCertificate.product at_product refl

no_product_of_halves : nonlinear_product halves ≡ None
unfolding halves
no_product_of_halves = refl

not_certified_square : (t : Tree) → IsCertificate square t → ⊥
not_certified_square t h = certificate_or_not square t [] h (product_of_square t)

-- ---- The rows for a UInt below 0: the answer, the denied goal, and the sign

number : ℤ → Form
number n = Form.number (finite (ratio n 1))

-- 0 if x is below 0, otherwise 1, is at least 1.
never_below_zero : Goal
never_below_zero = record { upper = true; stated = Form.select (Cond.lt (Form.variable 0) (number (pos 0))) (number (pos 0)) (number (pos 1)); found = number (pos 1); types = Ty.UInt ∷ []; names = [] ∷ []; own = 1 }

x_lin : Lin
x_lin = record { terms = (0, ratio (pos 1) 1) ∷ []; rest = ratio (pos 0) 1 }

below_zero : Bool → List Taken
below_zero held = (record { atom = Atom.row x_lin true; held = held }) ∷ []

first_question : end_at never_below_zero [] ≡ Query.ask (Atom.row x_lin true) (Query.done (Some (constant (ratio (pos 0) 1)), Some (constant (ratio (pos 1) 1)))) (Query.done (Some (constant (ratio (pos 1) 1)), Some (constant (ratio (pos 1) 1))))
unfolding never_below_zero number x_lin is_sized fits ratio gcd gcd_steps minus plus scaled minus_oneʳ is_zeroʳ zeroʳ oneʳ ◌+ʳ◌ ◌*ʳ◌ leqʳ
first_question = refl

rows_where_it_holds : rows_of never_below_zero (below_zero true) true ≡ Some ((record { terms = (0, pos 1) ∷ []; rest = pos 1; strict = false }) ∷ (record { terms = []; rest = negsuc 0; strict = true }) ∷ (record { terms = (0, negsuc 0) ∷ []; rest = pos 0; strict = false }) ∷ [])
unfolding never_below_zero number below_zero x_lin is_sized fits ratio gcd gcd_steps minus plus scaled minus_oneʳ is_zeroʳ zeroʳ oneʳ ◌+ʳ◌ ◌*ʳ◌ leqʳ tightened factor common_multiple common_divisor floorʳ ceilʳ product_fits
rows_where_it_holds = refl

rows_where_it_fails : rows_of never_below_zero (below_zero false) true ≡ Some ((record { terms = (0, negsuc 0) ∷ []; rest = pos 0; strict = false }) ∷ (record { terms = []; rest = pos 0; strict = true }) ∷ (record { terms = (0, negsuc 0) ∷ []; rest = pos 0; strict = false }) ∷ [])
unfolding never_below_zero number below_zero x_lin is_sized fits ratio gcd gcd_steps minus plus scaled minus_oneʳ is_zeroʳ zeroʳ oneʳ ◌+ʳ◌ ◌*ʳ◌ leqʳ tightened factor common_multiple common_divisor floorʳ ceilʳ product_fits
rows_where_it_fails = refl
