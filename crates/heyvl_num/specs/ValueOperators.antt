-- Operators on values beside sum and product: minimum, maximum, implication, coimplication and
-- truncated difference. Source of the implications: HeyLo, the logic of HeyVL (Schroeer, Batz,
-- Kaminski, Katoen, Matheja, OOPSLA 2023).
use Rattle.std.specs.Prelude.{if◌then◌else◌}
use Rattle.heyvl_num.specs.Rational.{◌-ʳ◌, leqʳ}
use Rattle.heyvl_num.specs.Value.{Value, zeroᵛ, leqᵛ}
use Rattle.heyvl_num.specs.Value.Value.{finite, infinite}

-- The smaller of two values.
unfoldable pub minᵛ : Value → Value → Value
minᵛ x y = if leqᵛ x y then x else y

-- The larger of two values.
unfoldable pub maxᵛ : Value → Value → Value
maxᵛ x y = if leqᵛ x y then y else x

-- Implication (Goedel's): infinity if `x` is at most `y`, otherwise `y`. The implication of 3 and 5
-- is infinity, that of 5 and 3 is 3.
unfoldable pub impliesᵛ : Value → Value → Value
impliesᵛ x y = if leqᵛ x y then infinite else y

-- Coimplication: 0 if `x` is at least `y`, otherwise `y`. The coimplication of 5 and 3 is 0, that
-- of 3 and 5 is 5.
unfoldable pub coimpliesᵛ : Value → Value → Value
coimpliesᵛ x y = if leqᵛ y x then zeroᵛ else y

-- The truncated difference: `x` - `y` if it is nonnegative, otherwise 0.
unfoldable pub monusᵛ : Value → Value → Value
monusᵛ (finite x) (finite y) = if leqʳ y x then finite (x -ʳ y) else zeroᵛ
monusᵛ (finite x) infinite = zeroᵛ
monusᵛ infinite (finite y) = infinite
monusᵛ infinite infinite = zeroᵛ
