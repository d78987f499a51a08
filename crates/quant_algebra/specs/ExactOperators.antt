-- The operators of formulas on exact numbers: the result, or nothing if a number on the way
-- overflows. This project's own.
use Rattle.std.specs.Prelude.{Bool, true, false, Option, Some, None, option_map}
use Rattle.std.specs.declared.cmp.Ordering.{Ordering}
use Rattle.std.specs.declared.cmp.Ordering.TheVariants.{Less, Equal, Greater}
use Rattle.heyvl_num.specs.Rational.{Rational}
use Rattle.heyvl_num.specs.Value.{Value, zeroᵛ}
use Rattle.heyvl_num.specs.Value.Value.{finite, infinite}
use Rattle.heyvl_num.specs.Exact.{exact_difference}
use Rattle.heyvl_num.specs.ExactValues.{exact_productᵛ, exact_orderᵛ}

-- Applies `f` to the value of an option; nothing without a value.
abbrev pub and_then : {A B : Type 0} → Option A → (A → Option B) → Option B
and_then (Some x) f = f x
and_then None f = None

-- The first of `x` and `y` for less or equal, otherwise the second.
abbrev pub at_most_or : {A : Type 0} → Ordering → A → A → A
at_most_or Less x y = x
at_most_or Equal x y = x
at_most_or Greater x y = y

-- The first of `x` and `y` for less, otherwise the second.
abbrev pub less_or : {A : Type 0} → Ordering → A → A → A
less_or Less x y = x
less_or Equal x y = y
less_or Greater x y = y

-- Whether an order is equal.
abbrev pub is_equal : Ordering → Bool
is_equal Less = false
is_equal Equal = true
is_equal Greater = false

-- The difference: of fractions by one subtraction; 0 for a fraction minus infinity, and infinity
-- for infinity minus any value.
abbrev pub exact_differenceᵛ : Value → Value → Option Value
exact_differenceᵛ (finite x) (finite y) = option_map finite (exact_difference x y)
exact_differenceᵛ (finite x) infinite = Some zeroᵛ
exact_differenceᵛ infinite (finite y) = Some infinite
exact_differenceᵛ infinite infinite = Some infinite

-- The truncated difference: one comparison, and one difference if `x` is larger than `y`.
abbrev pub exact_cutᵛ : Value → Value → Option Value
exact_cutᵛ x y = and_then (exact_orderᵛ x y)
    (λ o. at_most_or o (Some zeroᵛ) (exact_differenceᵛ x y))

-- The multiple by a weight: one product of fractions if the value is finite.
abbrev pub exact_scaleᵛ : Rational → Value → Option Value
exact_scaleᵛ w x = exact_productᵛ (finite w) x

-- The smaller of two values, by one comparison.
abbrev pub exact_minᵛ : Value → Value → Option Value
exact_minᵛ x y = option_map (λ o. at_most_or o x y) (exact_orderᵛ x y)

-- The larger of two values, by one comparison.
abbrev pub exact_maxᵛ : Value → Value → Option Value
exact_maxᵛ x y = option_map (λ o. at_most_or o y x) (exact_orderᵛ x y)

-- Infinity if `x` is at most `y`, otherwise `y`; nothing if the comparison overflows.
abbrev pub exact_impliesᵛ : Value → Value → Option Value
exact_impliesᵛ x y = option_map (λ o. at_most_or o infinite y) (exact_orderᵛ x y)

-- `y` if `x` is below `y`, otherwise 0; nothing if the comparison overflows.
abbrev pub exact_coimpliesᵛ : Value → Value → Option Value
exact_coimpliesᵛ x y = option_map (λ o. less_or o y zeroᵛ) (exact_orderᵛ x y)

-- Whether `x` is at most `y`; nothing if the comparison overflows.
abbrev pub exact_leqᵛ : Value → Value → Option Bool
exact_leqᵛ x y = option_map (λ o. at_most_or o true false) (exact_orderᵛ x y)

-- Whether `x` is below `y`; nothing if the comparison overflows.
abbrev pub exact_lessᵛ : Value → Value → Option Bool
exact_lessᵛ x y = option_map (λ o. less_or o true false) (exact_orderᵛ x y)

-- Whether two values are equal; nothing if the comparison overflows.
abbrev pub exact_equalᵛ : Value → Value → Option Bool
exact_equalᵛ x y = option_map is_equal (exact_orderᵛ x y)
