-- Laws of the operators of forms: validate and covalidate are monotone and nonnegative, and the
-- difference of integers is an integer.
use Rattle.heyvl_num.specs.Value.{Value, zeroᵛ, ◌≤ᵛ◌}
use Rattle.heyvl_num.specs.WholeNumbers.{IsWhole}
use Rattle.heylo_formula.specs.Operators.{differenceᵛ, validateᵛ, covalidateᵛ}

-- Validate is monotone on all values, also on negative ones.
abbrev pub ValidateGrows : Type 0
ValidateGrows = (x y : Value) → x ≤ᵛ y → validateᵛ x ≤ᵛ validateᵛ y

-- Covalidate is monotone on nonnegative values. It maps negative ones to infinity.
abbrev pub CovalidateGrows : Type 0
CovalidateGrows = (x y : Value) → zeroᵛ ≤ᵛ x → x ≤ᵛ y → covalidateᵛ x ≤ᵛ covalidateᵛ y

-- The results of validate and covalidate are nonnegative.
abbrev pub ValidatesNonnegative : Type 0
ValidatesNonnegative = (x : Value) → (zeroᵛ ≤ᵛ validateᵛ x) × (zeroᵛ ≤ᵛ covalidateᵛ x)

-- The plain difference of integers is an integer.
abbrev pub WholeDifferences : Type 0
WholeDifferences = (x y : Value) → IsWhole x → IsWhole y → IsWhole (differenceᵛ x y)
