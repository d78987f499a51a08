-- The greedy point of solvable rows: one variable after the other takes a value near 0 that the
-- values chosen so far admit. The definitions mention only the solutions of the rows. Source: this
-- project's own choice of a point.
use Rattle.std.specs.Prelude.{◌≡◌, ◌↔◌, ℕ, ◌<◌, ◌≤◌, List, [], ◌∷◌, ◌++◌, length, get_or, reverse}
use Rattle.std.specs.Prelude.{unsigned_abs, Bool, true, false, Option, Some, None, cond, eqb}
use Rattle.std.specs.List.{All}
use Rattle.heyvl_num.specs.Rational.{Rational, zeroʳ, oneʳ, middleʳ, ◌+ʳ◌, ◌-ʳ◌, ◌≤ʳ◌, ◌<ʳ◌}
use Rattle.heylo_formula.specs.declared.types.Ty.{Ty}
use Rattle.heylo_formula.specs.declared.values.Val.{Val}
use Rattle.heylo_formula.specs.declared.values.Val.TheVariants.{Truth, Num}
use Rattle.heylo_formula.specs.Typing.{types_in}
use Rattle.linear_rows.specs.VariableTypes.{is_integral}
use Rattle.linear_rows.specs.Row.{Row}
use Rattle.linear_rows.specs.Solutions.{MeetsAt, IsSolvable}
use Rattle.linear_rows.specs.VariableOrder.{order_of}

-- `IsCompleted rows chosen`: the values `chosen` (pairs of a variable and its value) are part of a
-- solution of `rows`.
pub record IsCompleted (rows : List Row) (chosen : List (ℕ × Rational)) : Type 0 where
  pub at_values : ℕ → Rational
  pub agrees : All (λ c. at_values c.0 ≡ c.1) chosen
  pub meets : All (MeetsAt at_values) rows

-- An end of an interval: the place where it is, and whether the place is inside the interval.
pub record End : Type 0 where
  pub place : Rational
  pub inside : Bool

-- An interval of fractions; a side without an end is unbounded.
pub record Interval : Type 0 where
  pub low : Option End
  pub high : Option End

-- `IsUpFrom e v`: `v` is above the lower end `e`, or at `e` if `e` is inside.
abbrev pub IsUpFrom : End → Rational → Type 0
IsUpFrom e v = cond e.inside (e.place ≤ʳ v) (e.place <ʳ v)

-- `IsUpTo e v`: `v` is below the upper end `e`, or at `e` if `e` is inside.
abbrev pub IsUpTo : End → Rational → Type 0
IsUpTo e v = cond e.inside (v ≤ʳ e.place) (v <ʳ e.place)

-- `IsInside i v`: the value `v` is in the interval `i`.
pub record IsInside (i : Interval) (v : Rational) : Type 0 where
  pub from_low : (e : End) → i.low ≡ Some e → IsUpFrom e v
  pub to_high : (e : End) → i.high ≡ Some e → IsUpTo e v

-- `IsIntervalOf rows chosen x i`: the interval `i` consists of the values of `x` that, with the
-- values `chosen`, are part of a solution of `rows`.
pub record IsIntervalOf (rows : List Row) (chosen : List (ℕ × Rational)) (x : ℕ) (i : Interval)
    : Type 0 where
  pub values : (v : Rational) → IsInside i v ↔ IsCompleted rows (chosen ++ (x, v) ∷ [])

-- `IsWhole v`: the fraction `v` is an integer.
pub record IsWhole (v : Rational) : Type 0 where
  pub whole : v.den ≡ 1

-- `IsChoice i ty v`: a variable of type `ty` takes the value `v` in the interval `i`. The value is
-- 0 if 0 is inside. Otherwise, an `Int` or a `UInt` takes the integer inside that is nearest to 0.
-- A `UReal` takes the end nearest to 0 if that end is inside, else the middle of the two ends; if
-- there is only the near end, it takes this end plus 1 above a lower end, and minus 1 below an
-- upper end. A `Bool` has no choice but 0.
--
-- For the open interval from 2 to 3, a `UReal` takes 5/2 and an `Int` has no choice; for the open
-- interval above 2, a `UReal` takes 3.
pub data IsChoice (i : Interval) : Ty → Rational → Type 0 where
  zero : (ty : Ty) → IsInside i zeroʳ → IsChoice i ty zeroʳ
  nearest_whole : (ty : Ty) (v : Rational) → (IsInside i zeroʳ → ⊥) → (is_integral ty ≡ true)
      → IsWhole v → IsInside i v
      → ((w : Rational) → IsWhole w → IsInside i w → unsigned_abs v.num ≤ unsigned_abs w.num)
      → IsChoice i ty v
  low_end : (e : End) → (IsInside i zeroʳ → ⊥) → i.low ≡ Some e → zeroʳ ≤ʳ e.place → e.inside ≡ true
      → IsChoice i Ty.UReal e.place
  high_end : (e : End) → (IsInside i zeroʳ → ⊥) → i.high ≡ Some e → e.place ≤ʳ zeroʳ
      → e.inside ≡ true → IsChoice i Ty.UReal e.place
  middle_of_low : (e f : End) → (IsInside i zeroʳ → ⊥) → i.low ≡ Some e → i.high ≡ Some f
      → zeroʳ ≤ʳ e.place → e.inside ≡ false → IsChoice i Ty.UReal (middleʳ e.place f.place)
  middle_of_high : (e f : End) → (IsInside i zeroʳ → ⊥) → i.low ≡ Some e → i.high ≡ Some f
      → f.place ≤ʳ zeroʳ → f.inside ≡ false → IsChoice i Ty.UReal (middleʳ e.place f.place)
  past_low : (e : End) → (IsInside i zeroʳ → ⊥) → i.low ≡ Some e → i.high ≡ None → e.inside ≡ false
      → IsChoice i Ty.UReal (e.place +ʳ oneʳ)
  past_high : (e : End) → (IsInside i zeroʳ → ⊥) → i.low ≡ None → i.high ≡ Some e → e.inside ≡ false
      → IsChoice i Ty.UReal (e.place -ʳ oneʳ)

-- `IsBroken i ty`: `ty` is `Int` or `UInt`, and the interval `i` contains no integer.
pub record IsBroken (i : Interval) (ty : Ty) : Type 0 where
  pub whole_type : (is_integral ty ≡ true)
  pub none_whole : (v : Rational) → IsInside i v → IsWhole v → ⊥

-- The outcome of the greedy choice. `chose`: a value for each variable, in the order of choice.
-- `broke`: a variable whose interval contains no integer, the values chosen before it, and the
-- interval.
pub data Greedy : Type 0 where
  chose : List (ℕ × Rational) → Greedy
  broke : ℕ → List (ℕ × Rational) → Interval → Greedy

-- `Chooses rows vars xs chosen g`: if the variables `xs` are still to be chosen, in this order,
-- after the values `chosen`, the outcome is `g`.
pub data Chooses (rows : List Row) (vars : List Ty) : List ℕ → List (ℕ × Rational) → Greedy
    → Type 0 where
  ends : (chosen : List (ℕ × Rational)) → Chooses rows vars [] chosen (chose chosen)
  takes : (x : ℕ) (xs : List ℕ) (chosen : List (ℕ × Rational)) (i : Interval) (v : Rational)
      (g : Greedy) → IsIntervalOf rows chosen x i → IsChoice i (types_in vars x) v
      → Chooses rows vars xs (chosen ++ (x, v) ∷ []) g → Chooses rows vars (x ∷ xs) chosen g
  breaks : (x : ℕ) (xs : List ℕ) (chosen : List (ℕ × Rational)) (i : Interval)
      → IsIntervalOf rows chosen x i → IsBroken i (types_in vars x)
      → Chooses rows vars (x ∷ xs) chosen (broke x chosen i)

-- `ChoosesFrom rows vars g`: the greedy choice for `rows` has the outcome `g`. Variables are chosen
-- in the reverse order of elimination.
abbrev pub ChoosesFrom : List Row → List Ty → Greedy → Type 0
ChoosesFrom rows vars g = Chooses rows vars (reverse (order_of rows (length vars))) [] g

-- `chosen_value x cs`: the value chosen for `x` in `cs`, 0 if there is none.
abbrev pub chosen_value : ℕ → List (ℕ × Rational) → Rational
chosen_value x [] = zeroʳ
chosen_value x (c ∷ cs) = cond (eqb c.0 x) c.1 (chosen_value x cs)

-- `value_for ty v`: the value of a variable of type `ty` for which the number `v` is chosen: `v`
-- itself, and false for a Boolean.
abbrev pub value_for : Ty → Rational → Val
value_for Ty.Bool v = Truth false
value_for Ty.Int v = Num v
value_for Ty.UInt v = Num v
value_for Ty.UReal v = Num v

-- `IsStateOf vars chosen point`: the state `point` gives each variable its chosen value, 0 to a
-- variable without one, and false to each Boolean.
pub record IsStateOf (vars : List Ty) (chosen : List (ℕ × Rational)) (point : List Val)
    : Type 0 where
  pub each : length point ≡ length vars
  pub values : (x : ℕ) → x < length vars
      → get_or point x (Truth false) ≡ value_for (types_in vars x) (chosen_value x chosen)

-- `IsGreedyPoint rows vars point`: the rows are solvable, and the greedy choice for them yields the
-- state `point`.
pub record IsGreedyPoint (rows : List Row) (vars : List Ty) (point : List Val) : Type 0 where
  pub solvable : IsSolvable rows
  pub chosen : List (ℕ × Rational)
  pub choice : ChoosesFrom rows vars (chose chosen)
  pub state : IsStateOf vars chosen point
