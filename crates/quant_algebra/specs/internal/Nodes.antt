-- The operators of nodes in memory, on the exact values of their parts.
use Rattle.std.specs.Prelude.{Bool, Option, Some}
use Rattle.heyvl_num.specs.Value.{Value}
use Rattle.heyvl_num.specs.ExactValues.{exact_sumᵛ, exact_productᵛ}
use Rattle.heylo_formula.specs.Operators.{validateᵛ, covalidateᵛ}
use Rattle.quant_algebra.specs.ExactOperators.{exact_differenceᵛ, exact_cutᵛ, exact_scaleᵛ}
use Rattle.quant_algebra.specs.ExactOperators.{exact_minᵛ, exact_maxᵛ, exact_impliesᵛ}
use Rattle.quant_algebra.specs.ExactOperators.{exact_coimpliesᵛ, exact_leqᵛ, exact_lessᵛ}
use Rattle.quant_algebra.specs.ExactOperators.{exact_equalᵛ}
use Rattle.quant_algebra.specs.declared.nodes.Binary.{Binary}
use Rattle.quant_algebra.specs.declared.nodes.Unary.{Unary}
use Rattle.quant_algebra.specs.declared.nodes.Comparison.{Comparison}

abbrev pub exact_binary : Binary → Value → Value → Option Value
exact_binary Binary.Sum x y = exact_sumᵛ x y
exact_binary Binary.Difference x y = exact_differenceᵛ x y
exact_binary Binary.Cut x y = exact_cutᵛ x y
exact_binary Binary.Product x y = exact_productᵛ x y
exact_binary Binary.Min x y = exact_minᵛ x y
exact_binary Binary.Max x y = exact_maxᵛ x y
exact_binary Binary.Imply x y = exact_impliesᵛ x y
exact_binary Binary.CoImply x y = exact_coimpliesᵛ x y

abbrev pub exact_unary : Unary → Value → Option Value
exact_unary (Unary.Scale w) x = exact_scaleᵛ w x
exact_unary Unary.Validate x = Some (validateᵛ x)
exact_unary Unary.CoValidate x = Some (covalidateᵛ x)

abbrev pub exact_comparison : Comparison → Value → Value → Option Bool
exact_comparison Comparison.AtMost x y = exact_leqᵛ x y
exact_comparison Comparison.Less x y = exact_lessᵛ x y
exact_comparison Comparison.Equal x y = exact_equalᵛ x y
