-- The choice between the ends of an interval.
use Rattle.std.specs.Prelude.{◌≡◌, ℕ, List, ◌++◌, not, true, Option}
use Rattle.std.specs.List.{All, list_any}
use Rattle.heylo_formula.specs.declared.types.Ty.{Ty}
use Rattle.heyvl_num.specs.Rational.{Rational}
use Rattle.linear_rows.specs.VariableTypes.{is_numeric}
use Rattle.linear_rows.specs.GreedyPoint.{End, IsInside}
use Rattle.linear_elim.specs.internal.DerivedRows.{IsDerived}
use Rattle.linear_elim.specs.Elimination.{Step}
use Rattle.linear_elim.specs.ChoiceNumbers.{end_of, end_fits}
use Rattle.linear_elim.specs.internal.ChoiceSteps.{IsTightest}
use Rattle.interval_choice.specs.declared.sides.Side.TheVariants.{Low, High}
use Rattle.interval_choice.specs.declared.picks.Pick.{Pick}
use Rattle.interval_choice.specs.declared.picks.Pick.TheVariants.{Great}
use Rattle.interval_choice.specs.Picks.{between, IsPicked}

-- `IsNextPick s chosen ty p`: the choice for the variable of the step `s` after the values
-- `chosen`: an end of the step overflows, or the choice is between its ends.
pub data IsNextPick (s : Step) (chosen : List (ℕ × Rational)) (ty : Ty) : Pick → Type 0 where
  great_end : list_any (λ r. not (end_fits (end_of s.var chosen r.row))) (s.lows ++ s.ups) ≡ true
      → IsNextPick s chosen ty Great
  between_ends : (low high : Option End) (p : Pick) → IsTightest Low s.var chosen s.lows low
      → IsTightest High s.var chosen s.ups high
      → (is_numeric ty ≡ true → (w : Rational) → IsInside (between Low low high) w
      → IsPicked (between Low low high) ty p) → IsNextPick s chosen ty p

-- `IsDerivedStep s`: the rows of the step `s` satisfy the invariant of the program.
pub record IsDerivedStep (s : Step) : Type 0 where
  pub lows : All IsDerived s.lows
  pub ups : All IsDerived s.ups
