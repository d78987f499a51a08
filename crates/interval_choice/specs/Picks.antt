-- The choice between the ends of an interval.
use Rattle.std.specs.Prelude.{◌≡◌, ◌<◌, ◌^◌, ℤ, ◌≤ℤ◌, unsigned_abs, true, false, cond, Option, Some}
use Rattle.heylo_formula.specs.declared.types.Ty.{Ty}
use Rattle.heyvl_num.specs.Rational.{Rational, oneʳ, ◌+ʳ◌, ◌-ʳ◌}
use Rattle.heyvl_num.specs.Rounding.{whole}
use Rattle.linear_rows.specs.Numbers.{fits}
use Rattle.linear_rows.specs.GreedyPoint.{End, Interval, IsInside, IsChoice, IsBroken}
use Rattle.interval_choice.specs.Sides.{IsWithin}
use Rattle.interval_choice.specs.declared.sides.Side.{Side}
use Rattle.interval_choice.specs.declared.sides.Side.TheVariants.{Low, High}
use Rattle.interval_choice.specs.declared.picks.Pick.{Pick}
use Rattle.interval_choice.specs.declared.picks.Pick.TheVariants.{Value, Breaks, Great}

-- `between side near far`: the interval with the end `near` on the given side, and `far` on the
-- other.
abbrev pub between : Side → Option End → Option End → Interval
between Low near far = record { low = near; high = far }
between High near far = record { low = far; high = near }

-- `sided side near far`: the interval with the end `near` on the given side and, if there is one,
-- the end `far` on the other.
abbrev pub sided : Side → End → Option End → Interval
sided side near far = between side (Some near) far

-- `IsNearer side n m`: of two integers that satisfy an end on the side `side`, `n` is at least as
-- near to the end as `m`.
abbrev pub IsNearer : Side → ℤ → ℤ → Type 0
IsNearer Low n m = n ≤ℤ m
IsNearer High n m = m ≤ℤ n

-- `across side`: the opposite side.
abbrev pub across : Side → Side
across Low = High
across High = Low

-- `IsNextWhole side e n`: `n` is the integer nearest to the end `e`, among those that satisfy it.
pub record IsNextWhole (side : Side) (e : End) (n : ℤ) : Type 0 where
  pub within : IsWithin side e (whole n)
  pub nearest : (m : ℤ) → IsWithin side e (whole m) → IsNearer side n m
  pub small : unsigned_abs n < 2 ^ 63

-- `IsPicked i ty p`: `p` is the choice in the interval `i`: a value that fits; or a break between
-- its ends; or a value that overflows.
abbrev pub IsPicked : Interval → Ty → Pick → Type 0
IsPicked i ty (Value v) = IsChoice i ty v × IsInside i v × (fits v ≡ true)
IsPicked i ty (Breaks low high) = IsBroken i ty × (i.low ≡ Some low) × (i.high ≡ Some high)
IsPicked i ty Great = (v : Rational) × IsChoice i ty v × (fits v ≡ false)

-- `narrow_pick v`: the choice `v`, unless it overflows.
abbrev pub narrow_pick : Rational → Pick
narrow_pick v = cond (fits v) (Value v) Great

-- `broken_pick side near far`: a break between two ends, the low end first; `near` is the one on
-- the given side.
abbrev pub broken_pick : Side → End → End → Pick
broken_pick Low near far = Breaks near far
broken_pick High near far = Breaks far near

-- `past_place side p`: the place 1 beyond an end at `p`.
abbrev pub past_place : Side → Rational → Rational
past_place Low p = p +ʳ oneʳ
past_place High p = p -ʳ oneʳ
