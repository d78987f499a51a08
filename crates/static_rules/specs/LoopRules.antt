-- The rules before a loop, and what they break. This project's own.
use Rattle.heyvl_syntax.specs.Expressions.{Expression}
use Rattle.heyvl_syntax.specs.Statements.{LoopRule}
use Rattle.static_rules.specs.Literals.{copies, is_over_zero, is_step, weight}
use Rattle.static_rules.specs.RightSides.{weight_findings}
use Rattle.std.specs.List.{list_any}
use Rattle.std.specs.Option.{is_none}
use Rattle.std.specs.Prelude.{Bool, List, [], false, not, true, ◌++◌, ◌+◌, ◌==◌, ◌∷◌, ℕ, nat_le}
use Rattle.std.specs.Prelude.{◌&&◌}
use Rattle.typed_expressions.specs.Findings.{Finding}
use Rattle.typed_expressions.specs.Scopes.{Scope}
use Rattle.typed_expressions.specs.TypedExpressions.{closed_findings, elaborate, lacks}
use Rattle.typed_expressions.specs.declared.demands.Demand.{Demand}

-- The findings in the parts of a rule.
abbrev pub rule_findings : ℕ → Scope → LoopRule → List Finding
rule_findings n sc (LoopRule.invariant i s) = closed_findings Demand.Any n sc i
rule_findings n sc (LoopRule.k_induction k i s) =
    closed_findings Demand.Any n sc k ++ closed_findings Demand.Any n sc i
rule_findings n sc (LoopRule.ranking e r s) =
    weight_findings n sc e ++ closed_findings Demand.Any n sc r

-- The findings in the parts of rules, one rule after the other.
abbrev pub rules_findings : ℕ → Scope → List LoopRule → List Finding
rules_findings n sc [] = []
rules_findings n sc (r ∷ rs) = rule_findings n sc r ++ rules_findings n sc rs

-- The formula of a rule: an invariant or a ranking.
abbrev pub formula : LoopRule → Expression
formula (LoopRule.invariant i s) = i
formula (LoopRule.k_induction k i s) = i
formula (LoopRule.ranking e r s) = r

-- Whether an invariant or a ranking is not a formula of type `UInt`, `UReal` or `EUReal`.
abbrev pub is_no_formula : ℕ → Scope → LoopRule → Bool
is_no_formula n sc r = lacks Demand.Formula (elaborate n sc (formula r))

-- Whether the step of a ranking is not a weight literal above 0.
abbrev pub step_wrong : LoopRule → Bool
step_wrong (LoopRule.ranking e r s) = not (is_step (weight e))
step_wrong (LoopRule.invariant i s) = false
step_wrong (LoopRule.k_induction k i s) = false

-- Whether the step of a ranking has the divisor 0.
abbrev pub steps_over_zero : LoopRule → Bool
steps_over_zero (LoopRule.ranking e r s) = is_over_zero (weight e)
steps_over_zero (LoopRule.invariant i s) = false
steps_over_zero (LoopRule.k_induction k i s) = false

-- 1 if the Boolean holds, otherwise 0.
abbrev pub one_if : Bool → ℕ
one_if true = 1
one_if false = 0

-- Whether a rule is a ranking.
abbrev pub is_ranking : LoopRule → Bool
is_ranking (LoopRule.ranking e r s) = true
is_ranking (LoopRule.invariant i s) = false
is_ranking (LoopRule.k_induction k i s) = false

-- The number of rankings.
abbrev pub count_of_rankings : List LoopRule → ℕ
count_of_rankings [] = 0
count_of_rankings (r ∷ rs) = one_if (is_ranking r) + count_of_rankings rs

-- The number of invariants, also those with a number of copies.
abbrev pub count_of_invariants : List LoopRule → ℕ
count_of_invariants [] = 0
count_of_invariants (r ∷ rs) = one_if (not (is_ranking r)) + count_of_invariants rs

-- Whether the rules are not one invariant and at most one ranking.
abbrev pub rules_wrong : List LoopRule → Bool
rules_wrong rs = not ((count_of_invariants rs == 1) && nat_le (count_of_rankings rs) 1)

-- Whether the number of copies is not one from 1 to 16.
abbrev pub copies_wrong : LoopRule → Bool
copies_wrong (LoopRule.k_induction k i s) = is_none (copies k)
copies_wrong (LoopRule.invariant i s) = false
copies_wrong (LoopRule.ranking e r s) = false

-- The rules of a loop. `rankable` says that a loop with a ranking may have its body.
abbrev pub loop_rules : ℕ → Scope → List LoopRule → Bool → List (ℕ × Bool)
loop_rules n sc rs rankable =
    ((12, list_any (is_no_formula n sc) rs)
    ∷ (15, list_any step_wrong rs)
    ∷ (16, list_any steps_over_zero rs)
    ∷ (18, rules_wrong rs)
    ∷ (19, list_any copies_wrong rs)
    ∷ (22, list_any is_ranking rs && not rankable)
    ∷ [])
