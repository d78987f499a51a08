-- The point of a false cell is a state of the right types in which the goal fails.
use Rattle.std.proofs.Common.{◌≡◌, ℕ, ◌+◌, ◌<◌, List, [], ◌∷◌, length, get_or, refl, sym, ap, ap₂, ◌∙◌, subst, arith, Bool, true, false, ◌==◌, ◌&&◌}
use Rattle.std.specs.Prelude.{Option, Some, None}
use Prim.Native.Nat.{zero, suc}
use Rattle.std.specs.List.{All}
use Rattle.heyvl_num.specs.Rational.{Rational, zeroʳ, ◌≤ʳ◌}
use Rattle.heyvl_num.proofs.exported.Rationals.{≤ʳ_refl}
use Rattle.heylo_formula.specs.Goals.{Goal}
use Rattle.heylo_formula.specs.State.{IsTyped, environment, number_of, truth_of, has}
use Rattle.heylo_formula.specs.Typing.{is_bool, types_in}
use Rattle.heylo_formula.specs.declared.types.Ty.{Ty}
use Rattle.heylo_formula.specs.declared.values.Val.{Val}
use Rattle.heylo_formula.specs.declared.values.Val.TheVariants.{Truth, Num}
use Rattle.linear_form.specs.Query.Query.{done}
use Rattle.linear_form.specs.Query.{Taken, known}
use Rattle.linear_form.specs.Questions.{Ends}
use Rattle.linear_form.specs.Splits.{split_at}
use Rattle.linear_form.specs.Paths.{IsPath, end_at}
use Rattle.linear_form.specs.PathRows.{rows_of, is_unsigned_type}
use Rattle.linear_rows.specs.Row.{Row}
use Rattle.linear_rows.specs.VariableTypes.{is_numeric, IsNumericRow, is_integral}
use Rattle.linear_rows.specs.Solutions.{MeetsAt, IsSolvable}
use Rattle.heylo_formula.specs.TypedGoals.{IsTypedGoal, HasItsVariables}
use Rattle.linear_rows.specs.GreedyPoint.{Greedy, ChoosesFrom, chosen_value, value_for}
use Rattle.linear_form.specs.PointLaws.{HasTruths}
use Rattle.linear_form.proofs.exported.NumericRows.{unsigned_number, numeric_rows}
use Rattle.linear_form.proofs.exported.PathSteps.{plain_path}
use Rattle.linear_form.proofs.exported.FalsifyingPoints.{points_falsify}
use Rattle.linear_form.proofs.exported.Truths.{truths_booleans, truths_variables}
use Rattle.linear_form.proofs.exported.UnsignedRows.{unsigned_nonnegative}
use Rattle.region_split.specs.Decisions.{IsFalsified}
use Rattle.region_split.specs.PathPoints.{value_on, with_truths, IsPointOf}
use Rattle.region_split.specs.Pieces.{HasFirstPoint, first_half, second_half}
use Rattle.region_split.specs.Walk.{IsFalse}
use Rattle.region_split.specs.Meanings.{Fails}
use Rattle.region_split.proofs.CellOrder.{front_path}
use Rattle.region_split.proofs.HalvedPaths.{end_past, half_path}
use Rattle.region_split.proofs.GreedyStates.{number_below, rows_same, greedy_meets, greedy_whole, greedy_value}

-- ---- The truths of a path among the values

truths_length : (ps : List Taken) (k : ℕ) (vs : List Val) → length (with_truths ps k vs) ≡ length vs
truths_length ps k [] = refl
truths_length ps k (v ∷ vs) = ap suc (truths_length ps (suc k) vs)

truths_at : (ps : List Taken) (k : ℕ) (vs : List Val) (x : ℕ) (d : Val) → x < length vs → get_or (with_truths ps k vs) x d ≡ value_on (known (k + x) ps) (get_or vs x d)
truths_at ps k [] x d l = absurd (omega (arith, l))
truths_at ps k (v ∷ vs) zero d l = ap (λ n. value_on (known n ps) v) (start k)
  where
    start : (k : ℕ) → k ≡ k + 0
    start k = omega arith
truths_at ps k (v ∷ vs) (suc x) d l = truths_at ps (suc k) vs x d (omega (arith, l)) ∙ ap (λ n. value_on (known n ps) (get_or vs x d)) (next k x)
  where
    next : (k x : ℕ) → suc k + x ≡ k + suc x
    next k x = omega arith

-- ---- The state of the point, variable by variable

-- A point with its values, and the properties of the choice.
record Pointed (g : Goal) (ps : List Taken) (rows : List Row) (cs : List (ℕ × Rational)) (point : List Val) : Type 0 where
  size : length point ≡ length g.types
  at_variable : (x : ℕ) → x < length g.types → environment point x ≡ value_on (known x ps) (value_for (types_in g.types x) (chosen_value x cs))
  booleans : (x : ℕ) (b : Bool) → known x ps ≡ Some b → is_bool (types_in g.types x) ≡ true
  variables : (x : ℕ) (b : Bool) → known x ps ≡ Some b → x < length g.types
  choice : ChoosesFrom rows g.types (Greedy.chose cs)

no_truth : (ty : Ty) (o : Option Bool) → is_numeric ty ≡ true → ((b : Bool) → o ≡ Some b → is_bool ty ≡ true) → o ≡ None
no_truth ty None n h = refl
no_truth Ty.Bool (Some b) n h = absurd (cc)
no_truth Ty.Int (Some b) n h = absurd (let k = h b refl in cc)
no_truth Ty.UInt (Some b) n h = absurd (let k = h b refl in cc)
no_truth Ty.UReal (Some b) n h = absurd (let k = h b refl in cc)

number_for : (ty : Ty) (v : Rational) → is_numeric ty ≡ true → value_for ty v ≡ Num v
number_for Ty.Bool v e = absurd (cc)
number_for Ty.Int v e = refl
number_for Ty.UInt v e = refl
number_for Ty.UReal v e = refl

number_is : (g : Goal) (ps : List Taken) (rows : List Row) (cs : List (ℕ × Rational)) (point : List Val) → Pointed g ps rows cs point → (x : ℕ) → is_numeric (types_in g.types x) ≡ true → environment point x ≡ Num (chosen_value x cs)
number_is g ps rows cs point p x n = p.at_variable x (number_below g.types x n) ∙ ap (λ o. value_on o (value_for (types_in g.types x) (chosen_value x cs))) (no_truth (types_in g.types x) (known x ps) n (p.booleans x)) ∙ number_for (types_in g.types x) (chosen_value x cs) n

point_meets : (g : Goal) (ps : List Taken) (rows : List Row) (cs : List (ℕ × Rational)) (point : List Val) → Pointed g ps rows cs point → All (IsNumericRow g.types) rows → IsSolvable rows → All (MeetsAt (λ x. number_of (environment point x))) rows
point_meets g ps rows cs point p n s = rows_same g.types (λ x. chosen_value x cs) (λ x. number_of (environment point x)) rows n (λ x k o. sym (ap number_of (number_is g ps rows cs point p x k))) (greedy_meets rows g.types cs s n p.choice)

truths_are : (g : Goal) (ps : List Taken) (rows : List Row) (cs : List (ℕ × Rational)) (point : List Val) → Pointed g ps rows cs point → HasTruths (environment point) ps
truths_are g ps rows cs point p x b e = ap truth_of (p.at_variable x (p.variables x b e) ∙ ap (λ o. value_on o (value_for (types_in g.types x) (chosen_value x cs))) e)

-- ---- The types of the values

whole_test : (n : ℕ) → n ≡ 1 → (n == 1) ≡ true
whole_test n e = grind arith

has_type : (ty : Ty) (o : Option Bool) (v : Rational) → ((b : Bool) → o ≡ Some b → is_bool ty ≡ true) → ((is_integral ty ≡ true) → v.den ≡ 1) → (is_unsigned_type ty ≡ true → zeroʳ ≤ʳ v) → has ty (value_on o (value_for ty v)) ≡ true
has_type Ty.Bool (Some b) v h w u = refl
has_type Ty.Bool None v h w u = refl
has_type Ty.Int (Some b) v h w u = absurd (let k = h b refl in cc)
has_type Ty.Int None v h w u = whole_test v.den (w refl)
has_type Ty.UInt (Some b) v h w u = absurd (let k = h b refl in cc)
has_type Ty.UInt None v h w u = ap₂ (λ a b. a && b) (whole_test v.den (w refl)) (u refl).holds
has_type Ty.UReal (Some b) v h w u = absurd (let k = h b refl in cc)
has_type Ty.UReal None v h w u = (u refl).holds

typed_each : (tys : List Ty) (s : List Val) → length s ≡ length tys → ((x : ℕ) → x < length tys → has (types_in tys x) (environment s x) ≡ true) → IsTyped tys s
typed_each [] [] e h = refl
typed_each [] (v ∷ s) e h = absurd (omega (arith, e))
typed_each (ty ∷ tys) [] e h = absurd (omega (arith, e))
typed_each (ty ∷ tys) (v ∷ s) e h = (h zero (omega arith), typed_each tys s (omega (arith, e)) (λ x l. h (suc x) (omega (arith, l))))

point_typed : (g : Goal) (ps : List Taken) (rows : List Row) (cs : List (ℕ × Rational)) (point : List Val) → Pointed g ps rows cs point → IsPath g ps → rows_of g ps true ≡ Some rows → All (MeetsAt (λ x. number_of (environment point x))) rows → IsTyped g.types point
point_typed g ps rows cs point p a e m = typed_each g.types point p.size (λ x l. subst (λ v. has (types_in g.types x) v ≡ true) (sym (p.at_variable x l)) (has_type (types_in g.types x) (known x ps) (chosen_value x cs) (p.booleans x) (greedy_whole rows g.types cs x p.choice) (λ u. greedy_value (λ v. zeroʳ ≤ʳ v) rows g.types cs x p.choice (≤ʳ_refl zeroʳ) (λ o. subst (λ v. zeroʳ ≤ʳ v) (ap number_of (number_is g ps rows cs point p x (unsigned_number (types_in g.types x) u))) (unsigned_nonnegative g ps true rows (environment point) x a e m l u o)))))

-- ---- The point of a false cell

pointed : (g : Goal) (ps : List Taken) (point : List Val) → IsTypedGoal g → HasItsVariables g → IsPath g ps → (h : IsPointOf g ps point) → Pointed g ps h.rows h.greedy.chosen point
pointed g ps point w v a h = record {
  size = ap length h.truths ∙ truths_length ps 0 h.values ∙ h.greedy.state.each;
  at_variable = λ x l. ap (λ s. get_or s x (Truth false)) h.truths ∙ truths_at ps 0 h.values x (Truth false) (subst (λ n. x < n) (sym h.greedy.state.each) l) ∙ ap₂ (λ n y. value_on (known n ps) y) (none x) (h.greedy.state.values x l);
  booleans = λ x b e. truths_booleans g ps x b w a e;
  variables = λ x b e. truths_variables g ps x b v a e;
  choice = h.greedy.choice;
}
  where
    none : (x : ℕ) → 0 + x ≡ x
    none x = omega arith

-- ---- The piece that gives the point

-- A path at an end with the point `point`, where the goal is false.
record GivesPoint (g : Goal) (point : List Val) : Type 0 where
  path : List Taken
  is_path : IsPath g path
  ends : Ends
  at_end : end_at g path ≡ done ends
  false_piece : IsFalse g path
  point_of : IsPointOf g path point

giving_piece : (g : Goal) (n : ℕ) (ps : List Taken) (point : List Val) (e : Ends) → IsPath g ps → end_at g ps ≡ done e → HasFirstPoint g n ps point → GivesPoint g point
giving_piece g _ _ _ e a h (HasFirstPoint.whole n ps point f p) = record { path = ps; is_path = a; ends = e; at_end = h; false_piece = f; point_of = p }
giving_piece g _ _ _ e a h (HasFirstPoint.first n ps x m point s i) = giving_piece g (suc n) (first_half ps x m) point e (half_path g n ps x m true e a h s) (end_past g ps (split_at x m) true e h) i
giving_piece g _ _ _ e a h (HasFirstPoint.second n ps x m es point s u v i) = giving_piece g (suc n) (second_half ps x m) point e (half_path g n ps x m false e a h s) (end_past g ps (split_at x m) false e h) i

piece_fails : (g : Goal) (point : List Val) → IsTypedGoal g → HasItsVariables g → GivesPoint g point → Fails g point
piece_fails g point w v f =
    let h = f.point_of in
    let p = pointed g f.path point w v f.is_path h in
    let o : Some f.false_piece.rows ≡ Some h.rows = sym f.false_piece.are_rows ∙ h.are_rows in
    let same : f.false_piece.rows ≡ h.rows = cc in
    let n = numeric_rows g f.path true h.rows w f.is_path h.are_rows in
    let m = point_meets g f.path h.rows h.greedy.chosen point p n (subst IsSolvable same f.false_piece.solvable) in
    let t = point_typed g f.path h.rows h.greedy.chosen point p f.is_path h.are_rows m in
    record { typed = t; fails = points_falsify g f.path f.ends h.rows point w t f.is_path f.at_end f.false_piece.not_plain h.are_rows (truths_are g f.path h.rows h.greedy.chosen point p) m }

pub falsified_fails : (g : Goal) (point : List Val) → IsTypedGoal g → HasItsVariables g → IsFalsified g point → Fails g point
falsified_fails g point w v f =
    let c = f.first.is_cell in
    piece_fails g point w v (giving_piece g 0 f.first.cell point c.ends (plain_path g f.first.cell (front_path g f.first.cell c.front)) c.at_end f.first.gives)
