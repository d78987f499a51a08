-- Exact arithmetic of values: fractions as in `Exact`, and infinity without a limit.
use Rattle.std.specs.Prelude.{Option, Some, option_map}
use Rattle.std.specs.declared.cmp.Ordering.{Ordering}
use Rattle.heyvl_num.specs.Value.{Value, ◌*ᵛ◌, compareᵛ}
use Rattle.heyvl_num.specs.Value.Value.{finite, infinite}
use Rattle.heyvl_num.specs.Exact.{exact_sum, exact_product, exact_order}

-- The sum, or `None` if both values are finite and their sum does not fit.
abbrev pub exact_sumᵛ : Value → Value → Option Value
exact_sumᵛ (finite x) (finite y) = option_map finite (exact_sum x y)
exact_sumᵛ (finite x) infinite = Some infinite
exact_sumᵛ infinite (finite y) = Some infinite
exact_sumᵛ infinite infinite = Some infinite

-- The product, or `None` if both values are finite and their product does not fit.
abbrev pub exact_productᵛ : Value → Value → Option Value
exact_productᵛ (finite x) (finite y) = option_map finite (exact_product x y)
exact_productᵛ (finite x) infinite = Some (finite x *ᵛ infinite)
exact_productᵛ infinite (finite y) = Some (infinite *ᵛ finite y)
exact_productᵛ infinite infinite = Some infinite

-- How `x` compares with `y`, or `None` if both are finite and their cross products do not fit.
abbrev pub exact_orderᵛ : Value → Value → Option Ordering
exact_orderᵛ (finite x) (finite y) = exact_order x y
exact_orderᵛ (finite x) infinite = Some (compareᵛ (finite x) infinite)
exact_orderᵛ infinite (finite y) = Some (compareᵛ infinite (finite y))
exact_orderᵛ infinite infinite = Some (compareᵛ infinite infinite)
