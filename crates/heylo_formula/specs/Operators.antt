-- The operators of forms and conditions beside those of all values. Source of validate and
-- covalidate: HeyLo, the logic of HeyVL (Schroeer, Batz, Kaminski, Katoen, Matheja, OOPSLA 2023).
use Rattle.std.specs.Prelude.{Bool, true, false, not, ◌&&◌, if◌then◌else◌}
use Rattle.heyvl_num.specs.Rational.{Rational, zeroʳ, ◌-ʳ◌}
use Rattle.heyvl_num.specs.Value.{Value, zeroᵛ, is_zeroʳ, leqᵛ}
use Rattle.heyvl_num.specs.Value.Value.{finite, infinite}

-- The plain difference. Both arguments are finite in a well-typed form.
unfoldable pub differenceᵛ : Value → Value → Value
differenceᵛ (finite x) (finite y) = finite (x -ʳ y)
differenceᵛ (finite x) infinite = zeroᵛ
differenceᵛ infinite y = infinite

-- Infinity if the value is infinite, otherwise 0. Validate maps 1/2 to 0.
unfoldable pub validateᵛ : Value → Value
validateᵛ (finite x) = zeroᵛ
validateᵛ infinite = infinite

-- 0 if the value is 0, otherwise infinity. Covalidate maps 1/2 to infinity.
unfoldable pub covalidateᵛ : Value → Value
covalidateᵛ (finite x) = if is_zeroʳ x then zeroᵛ else infinite
covalidateᵛ infinite = infinite

-- The test of `x` < `y`.
abbrev pub lessᵛ : Value → Value → Bool
lessᵛ x y = not (leqᵛ y x)

-- The test that each of two values is at most the other.
abbrev pub equalᵛ : Value → Value → Bool
equalᵛ x y = leqᵛ x y && leqᵛ y x

-- The test that two truth values are equal.
abbrev pub agree : Bool → Bool → Bool
agree true b = b
agree false b = not b

-- The fraction of a value; 0 for infinity.
abbrev pub finite_part : Value → Rational
finite_part (finite x) = x
finite_part infinite = zeroʳ

-- The test that a value is a fraction.
abbrev pub is_finite : Value → Bool
is_finite (finite x) = true
is_finite infinite = false
