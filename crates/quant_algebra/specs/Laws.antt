-- Exact values and exact truth values are those that formulas and conditions mean.
use Rattle.std.specs.Prelude.{◌≡◌, List, IfSome}
use Rattle.heylo_formula.specs.Formula.{Form, Cond}
use Rattle.heylo_formula.specs.State.{environment}
use Rattle.heylo_formula.specs.Choices.{Choices}
use Rattle.heylo_formula.specs.Meaning.{value, holds}
use Rattle.heylo_formula.specs.declared.values.Val.{Val}
use Rattle.quant_algebra.specs.ExactMeaning.{exact_value, exact_truth}

-- If a formula has an exact value in a state, it is the value that the formula means there.
abbrev pub ExactValuesAreMeant : Type 0
ExactValuesAreMeant = (f : Form) (s : List Val)
    → IfSome (exact_value f s) (λ x. x ≡ value f (environment s) Choices.stop)

-- If a condition has an exact truth value in a state, it is true if and only if the condition holds
-- there.
abbrev pub ExactTruthIsMeant : Type 0
ExactTruthIsMeant = (g : Cond) (s : List Val)
    → IfSome (exact_truth g s) (λ t. t ≡ holds g (environment s) Choices.stop)
