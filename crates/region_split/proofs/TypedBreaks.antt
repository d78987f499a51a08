-- The values that are shown with a break have the types of their variables.
use Rattle.std.proofs.Common.{◌≡◌, ℕ, ◌<◌, List, [], ◌∷◌, ◌++◌, length, refl, sym, ap, ap₂, subst, arith, true, ◌&&◌, ◌==◌}
use Rattle.std.specs.Prelude.{reverse, Some}
use Rattle.std.specs.List.{All}
use Rattle.std.proofs.lemmas.List.Elements.{All-nil, All-cons, All-head, All-tail, All-map}
use Rattle.heyvl_num.specs.Rational.{Rational, zeroʳ, ◌≤ʳ◌}
use Rattle.heylo_formula.specs.Goals.{Goal}
use Rattle.heylo_formula.specs.State.{has}
use Rattle.heylo_formula.specs.declared.types.Ty.{Ty}
use Rattle.heylo_formula.specs.declared.values.Val.{Val}
use Rattle.heylo_formula.specs.declared.values.Val.TheVariants.{Num}
use Rattle.linear_form.specs.Query.{Taken}
use Rattle.linear_form.specs.Paths.{IsPath}
use Rattle.linear_form.specs.PathRows.{rows_of, is_unsigned_type}
use Rattle.linear_rows.specs.Row.{Row}
use Rattle.linear_rows.specs.VariableTypes.{is_numeric, is_integral}
use Rattle.linear_rows.specs.Solutions.{MeetsAt}
use Rattle.heylo_formula.specs.TypedGoals.{IsTypedGoal}
use Rattle.heylo_formula.specs.Typing.{types_in}
use Rattle.linear_rows.specs.VariableOrder.{occurrences, order_of}
use Rattle.linear_rows.specs.GreedyPoint.{Interval, Greedy, Chooses}
use Rattle.linear_form.proofs.exported.NumericRows.{numeric_rows}
use Rattle.linear_elim.proofs.exported.Numeric.{counted_numeric}
use Rattle.linear_form.proofs.exported.UnsignedRows.{unsigned_nonnegative}
use Rattle.goal_answers.specs.declared.causes.Broken.{Broken}
use Rattle.region_split.specs.PathPoints.{IsBreakOf}
use Rattle.region_split.specs.internal.PathFindings.{IsBreakAt}
use Rattle.region_split.proofs.WalkMoves.{all_first}
use Rattle.linear_rows.proofs.exported.GreedyChoices.{AreWhole, completed, chosen_whole}
use Rattle.region_split.proofs.GreedyOrder.{turned_occurs, chosen_all}
use Rattle.region_split.proofs.GreedyStates.{number_below}

-- The choices before one that breaks.
record BeforeBreak (rows : List Row) (vars : List Ty) (xs : List ℕ) (cs ds : List (ℕ × Rational)) : Type 0 where
  before : List ℕ
  rest : List ℕ
  whole : xs ≡ before ++ rest
  choice : Chooses rows vars before cs (Greedy.chose ds)

before_break : (rows : List Row) (vars : List Ty) (xs : List ℕ) (cs ds : List (ℕ × Rational)) (x : ℕ) (i : Interval) → Chooses rows vars xs cs (Greedy.broke x ds i) → BeforeBreak rows vars xs cs ds
before_break rows vars _ cs ds x i (Chooses.takes y ys _ j v _ a c r) = let h = before_break rows vars ys (cs ++ (y, v) ∷ []) ds x i r in record { before = y ∷ h.before; rest = h.rest; whole = ap (λ zs. y ∷ zs) h.whole; choice = Chooses.takes y h.before cs j v (Greedy.chose ds) a c h.choice }
before_break rows vars _ cs ds x i (Chooses.breaks _ ys _ _ a b) = record { before = []; rest = x ∷ ys; whole = refl; choice = Chooses.ends ds }

whole_test : (n : ℕ) → n ≡ 1 → (n == 1) ≡ true
whole_test n e = grind arith

number_typed : (ty : Ty) (v : Rational) → is_numeric ty ≡ true → ((is_integral ty ≡ true) → v.den ≡ 1) → (is_unsigned_type ty ≡ true → zeroʳ ≤ʳ v) → has ty (Num v) ≡ true
number_typed Ty.Bool v n w u = absurd (cc)
number_typed Ty.Int v n w u = whole_test v.den (w refl)
number_typed Ty.UInt v n w u = ap₂ (λ a b. a && b) (whole_test v.den (w refl)) (u refl).holds
number_typed Ty.UReal v n w u = (u refl).holds

abbrev HasTypeOf : List Ty → ℕ × Rational → Type 0
HasTypeOf types c = has (types_in types c.0) (Num c.1) ≡ true

-- Each chosen value occurs, is an integer if its type says so, and is that of a completion.
chosen_typed : (g : Goal) (ps : List Taken) (rows : List Row) (f : ℕ → Rational) (cs : List (ℕ × Rational)) → IsTypedGoal g → IsPath g ps → rows_of g ps true ≡ Some rows → All (MeetsAt f) rows → All (λ c. 0 < occurrences c.0 rows) cs → AreWhole g.types cs → All (λ c. f c.0 ≡ c.1) cs → All (HasTypeOf g.types) cs
chosen_typed g ps rows f [] t p e m o w a = All-nil _
chosen_typed g ps rows f (c ∷ cs) t p e m o w a =
    let occurs = All-head (λ (c : ℕ × Rational). 0 < occurrences c.0 rows) c cs o in
    let n = counted_numeric g.types c.0 rows (numeric_rows g ps true rows t p e) occurs in
    All-cons (HasTypeOf g.types) c cs
    (number_typed (types_in g.types c.0) c.1 n (All-head (λ (c : ℕ × Rational). (is_integral (types_in g.types c.0) ≡ true) → c.1.den ≡ 1) c cs w) (λ u. subst (λ v. zeroʳ ≤ʳ v) (All-head (λ (c : ℕ × Rational). f c.0 ≡ c.1) c cs a) (unsigned_nonnegative g ps true rows (λ x. Num (f x)) c.0 p e m (number_below g.types c.0 n) u occurs)))
    (chosen_typed g ps rows f cs t p e m (All-tail (λ (c : ℕ × Rational). 0 < occurrences c.0 rows) c cs o) (All-tail (λ (c : ℕ × Rational). (is_integral (types_in g.types c.0) ≡ true) → c.1.den ≡ 1) c cs w) (All-tail (λ (c : ℕ × Rational). f c.0 ≡ c.1) c cs a))

pub break_of : (g : Goal) (ps : List Taken) (b : Broken) → IsTypedGoal g → IsPath g ps → IsBreakAt g ps true b → IsBreakOf g ps b
break_of g ps b t p h =
    let order = reverse (order_of h.rows (length g.types)) in
    let k = before_break h.rows g.types order [] h.broken.chosen b.var _ h.broken.choice in
    let s = h.broken.solvable in
    let m = completed h.rows g.types k.before [] h.broken.chosen k.choice (record { at_values = s.at_values; agrees = All-nil _; meets = s.meets }) in
    let o = chosen_all (λ y. 0 < occurrences y h.rows) h.rows g.types k.before [] h.broken.chosen k.choice (all_first (λ y. 0 < occurrences y h.rows) k.before k.rest (subst (All (λ y. 0 < occurrences y h.rows)) k.whole (turned_occurs h.rows (length g.types)))) (All-nil _) in
    let w = chosen_whole h.rows g.types k.before [] h.broken.chosen k.choice (All-nil _) in
    record {
      rows = h.rows;
      are_rows = h.are_rows;
      broken = h.broken;
      typed = subst (All (λ (c : ℕ × Val). has (types_in g.types c.0) c.1 ≡ true)) (sym h.broken.earlier) (All-map (λ (c : ℕ × Val). has (types_in g.types c.0) c.1 ≡ true) (λ (c : ℕ × Rational). (c.0, Num c.1)) h.broken.chosen (chosen_typed g ps h.rows m.at_values h.broken.chosen t p h.are_rows m.meets o w m.agrees));
    }
