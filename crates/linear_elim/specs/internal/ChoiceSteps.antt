-- The parts of the greedy choice: the ends given by the rows of a step, and the value between them.
use Rattle.std.specs.Prelude.{◌≡◌, ◌↔◌, ℕ, List, Bool, true, cond, not, Option, Some, None, IfSome}
use Rattle.std.specs.Prelude.{is_some}
use Rattle.std.specs.List.{All}
use Rattle.heyvl_num.specs.Rational.{Rational}
use Rattle.linear_rows.specs.Numbers.{fits}
use Rattle.linear_rows.specs.Row.{Row}
use Rattle.linear_rows.specs.GreedyPoint.{End}
use Rattle.linear_elim.specs.Joins.{Derived}
use Rattle.linear_elim.specs.ChoiceNumbers.{end_of}
use Rattle.interval_choice.specs.declared.sides.Side.{Side}
use Rattle.interval_choice.specs.Sides.{IsWithin, IsPast}

abbrev pub bounded : Bool → Option Rational → Option End
bounded strict None = None
bounded strict (Some p) = cond (fits p) (Some (record { place = p; inside = not strict })) None

-- `narrow_end x chosen r`: the end that the row `r` gives to `x`, unless it overflows.
abbrev pub narrow_end : ℕ → List (ℕ × Rational) → Row → Option End
narrow_end x chosen r = bounded r.strict (end_of x chosen r)

-- `IsTightest side x chosen rows o`: no end overflows, and the values beyond `o` are those beyond
-- the end that each row gives.
pub record IsTightest (side : Side) (x : ℕ) (chosen : List (ℕ × Rational)) (rows : List Derived)
    (o : Option End) : Type 0 where
  pub each : All (λ r. is_some (narrow_end x chosen r.row) ≡ true) rows
  pub narrow : IfSome o (λ e. fits e.place ≡ true)
  pub values : (v : Rational) → IsPast side o v
      ↔ All (λ r. (e : End) → narrow_end x chosen r.row ≡ Some e → IsWithin side e v) rows
