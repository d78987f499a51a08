-- Further laws: monotone operators and their signs, operators that keep integers, and sums of
-- weights.
use Rattle.std.specs.Prelude.{◌≡◌, List, [], ◌∷◌, ℕ}
use Rattle.heyvl_num.specs.Rational.{Rational, zeroʳ, oneʳ, ◌+ʳ◌, ◌-ʳ◌, ◌*ʳ◌, negʳ}
use Rattle.heyvl_num.specs.Value.{Value, zeroᵛ, ◌+ᵛ◌, ◌*ᵛ◌, ◌≤ᵛ◌}
use Rattle.heyvl_num.specs.ValueOperators.{minᵛ, maxᵛ, impliesᵛ, coimpliesᵛ, monusᵛ}
use Rattle.heyvl_num.specs.WeightedSums.{weighted_sum, total_weight, IsWeighted}
use Rattle.heyvl_num.specs.WholeNumbers.{IsWhole}

-- The sum of two integers is an integer.
abbrev pub WholeSums : Type 0
WholeSums = (x y : Rational) → x.den ≡ 1 → y.den ≡ 1 → (x +ʳ y).den ≡ 1

-- The difference of two integers is an integer.
abbrev pub WholeDifferences : Type 0
WholeDifferences = (x y : Rational) → x.den ≡ 1 → y.den ≡ 1 → (x -ʳ y).den ≡ 1

-- The product of two integers is an integer.
abbrev pub WholeProducts : Type 0
WholeProducts = (x y : Rational) → x.den ≡ 1 → y.den ≡ 1 → (x *ʳ y).den ≡ 1

-- The negative of an integer is an integer.
abbrev pub WholeNegatives : Type 0
WholeNegatives = (x : Rational) → x.den ≡ 1 → (negʳ x).den ≡ 1

-- 0 and 1 are integers.
abbrev pub ZeroAndOneAreWhole : Type 0
ZeroAndOneAreWhole = (zeroʳ.den ≡ 1) × (oneʳ.den ≡ 1)

-- Sums, products, minima, maxima and truncated differences of integers among the values are
-- integers.
abbrev pub WholeValues : Type 0
WholeValues = (x y : Value) → IsWhole x → IsWhole y
    → IsWhole (x +ᵛ y)
    × (IsWhole (x *ᵛ y) × (IsWhole (minᵛ x y) × (IsWhole (maxᵛ x y) × IsWhole (monusᵛ x y))))

-- The minimum is monotone in both arguments.
abbrev pub MinimumGrows : Type 0
MinimumGrows = (x x' y y' : Value) → x ≤ᵛ x' → y ≤ᵛ y' → minᵛ x y ≤ᵛ minᵛ x' y'

-- The maximum is monotone in both arguments.
abbrev pub MaximumGrows : Type 0
MaximumGrows = (x x' y y' : Value) → x ≤ᵛ x' → y ≤ᵛ y' → maxᵛ x y ≤ᵛ maxᵛ x' y'

-- The implication is monotone in its right argument, and antitone in its left one.
abbrev pub ImplicationGrows : Type 0
ImplicationGrows = (x x' y y' : Value) → x' ≤ᵛ x → y ≤ᵛ y' → impliesᵛ x y ≤ᵛ impliesᵛ x' y'

-- The coimplication is monotone in its right argument if the left one is nonnegative.
abbrev pub CoimplicationGrows : Type 0
CoimplicationGrows = (x y y' : Value) → zeroᵛ ≤ᵛ x → y ≤ᵛ y' → coimpliesᵛ x y ≤ᵛ coimpliesᵛ x y'

-- The coimplication is nonnegative if its left argument is.
abbrev pub CoimplicationNonnegative : Type 0
CoimplicationNonnegative = (x y : Value) → zeroᵛ ≤ᵛ x → zeroᵛ ≤ᵛ coimpliesᵛ x y

-- The total weight of no outcomes is 0.
abbrev pub WeightOfNothing : Type 0
WeightOfNothing = total_weight {A = ℕ} [] ≡ zeroʳ

-- The weight of the first outcome is added to the total weight of the others.
abbrev pub WeightsAddUp : Type 0
WeightsAddUp = (w : Rational) (a : ℕ) (xs : List (Rational × ℕ))
    → total_weight ((w, a) ∷ xs) ≡ w +ʳ total_weight xs

-- A weighted sum with nonnegative weights and nonnegative values is nonnegative.
abbrev pub WeightedSumsNonnegative : Type 0
WeightedSumsNonnegative = (f : ℕ → Value) (xs : List (Rational × ℕ)) → IsWeighted xs
    → ((a : ℕ) → zeroᵛ ≤ᵛ f a) → zeroᵛ ≤ᵛ weighted_sum f xs
