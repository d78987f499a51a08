-- Integers among the values: the fractions whose denominator in lowest terms is 1.
use Rattle.std.specs.Prelude.{◌≡◌}
use Rattle.heyvl_num.specs.Value.{Value}
use Rattle.heyvl_num.specs.Value.Value.{finite, infinite}

-- The value is an integer, and hence not infinite.
abbrev pub IsWhole : Value → Type 0
IsWhole (finite x) = x.den ≡ 1
IsWhole infinite = ⊥
