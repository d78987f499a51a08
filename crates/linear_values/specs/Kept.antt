-- The invariant of linear values in the program.
use Rattle.std.specs.Prelude.{◌≡◌, true, Some, None}
use Rattle.linear_values.specs.Lin.{Lin, AreNormal, is_sized, Linear}

-- `IsKept a`: the variables of `a` increase, no coefficient is 0, and each number is below 2^62.
pub record IsKept (a : Lin) : Type 0 where
  pub sized : is_sized a ≡ true
  pub normal : AreNormal a.terms

-- `IsKeptValue x`: the value `x` is infinity, or satisfies `IsKept`.
abbrev pub IsKeptValue : Linear → Type 0
IsKeptValue (Some a) = IsKept a
IsKeptValue None = Unit {0}
