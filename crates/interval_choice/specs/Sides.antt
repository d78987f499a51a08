-- Values that satisfy an end of an interval.
use Rattle.std.specs.Prelude.{Option, Some, None}
use Rattle.heyvl_num.specs.Rational.{Rational}
use Rattle.linear_rows.specs.GreedyPoint.{End, IsUpFrom, IsUpTo}
use Rattle.interval_choice.specs.declared.sides.Side.{Side}
use Rattle.interval_choice.specs.declared.sides.Side.TheVariants.{Low, High}

-- `IsWithin side e v`: the value `v` satisfies `e`, an end of an interval on the side `side`. At
-- the low side it is above `e`, or at `e` if `e` is inside.
abbrev pub IsWithin : Side → End → Rational → Type 0
IsWithin Low e v = IsUpFrom e v
IsWithin High e v = IsUpTo e v

-- `IsPast side o v`: the value `v` satisfies the end `o` on the side `side`, if there is one.
abbrev pub IsPast : Side → Option End → Rational → Type 0
IsPast side None v = Unit {0}
IsPast side (Some e) v = IsWithin side e v
