-- The goal in which the computed form is guarded by `g` and increased by the step `e`.
use Rattle.std.specs.Prelude.{◌≡◌}
use Rattle.heyvl_num.specs.Rational.{Rational}
use Rattle.heylo_formula.specs.Formula.{Cond}
use Rattle.heylo_formula.specs.Goals.{Goal, goal_of}
use Rattle.heylo_formula.specs.declared.goals.Made.{Made}
use Rattle.heylo_formula.specs.declared.goals.Made.TheVariants as made
use Rattle.ranking_rule.specs.RankingGoals.{tested}

abbrev pub with_test : Cond → Rational → Goal → Goal
with_test g e goal = record {
  upper = goal.upper;
  stated = goal.stated;
  found = tested g e goal.found;
  types = goal.types;
  names = goal.names;
  own = goal.own;
}

-- The result with the guard: the guarded goal, or the same limit.
abbrev pub IsTested : Cond → Rational → Made → Made → Type 0
IsTested g e (made.Goal before) (made.Goal after) = goal_of after ≡ with_test g e (goal_of before)
IsTested g e (made.Goal before) made.Depth = ⊥
IsTested g e (made.Goal before) made.Nodes = ⊥
IsTested g e made.Depth after = after ≡ made.Depth
IsTested g e made.Nodes after = after ≡ made.Nodes
