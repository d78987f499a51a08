-- The goal of a remainder: a bound over the inputs is at least the pre-expectation of the loop's
-- ranking over the acts before the loop, with every choice upward. This project's own.
use Rattle.std.specs.Prelude.{true, List}
use Rattle.heyvl_num.specs.Rational.{Rational}
use Rattle.heyvl_num.specs.Value.{◌≤ᵛ◌}
use Rattle.heylo_formula.specs.Choices.{Choices}
use Rattle.heylo_formula.specs.Formula.{Form}
use Rattle.heylo_formula.specs.Goals.{Goal}
use Rattle.heylo_formula.specs.Meaning.{value}
use Rattle.heylo_formula.specs.State.{environment}
use Rattle.heylo_formula.specs.declared.values.Val.{Val}
use Rattle.heyvl_acts.specs.Acts.{Acts, TypedProcedure, variables}
use Rattle.heyvl_acts.specs.Forward.{forward}
use Rattle.heyvl_acts.specs.Upward.{upward}
use Rattle.made_goals.specs.MadeGoals.{goal_over}
use Rattle.ranking_rule.specs.RankingGoals.{generated}
use Rattle.run_machine.specs.Bound.{IsState}

-- The goal, with `bound` as the stated bound. The computed form is generated from the acts, taken
-- upward, before the ranking, and each binder becomes a variable. The other variables are the
-- procedure's.
abbrev pub start_goal : TypedProcedure → Acts → Rational × Form → Form → Goal
start_goal p front r bound = goal_over true (variables p) bound (generated front r)

-- In each state of the procedure, for all choices, the bound is at least the expected value of the
-- ranking after the acts.
abbrev pub StartHolds : TypedProcedure → Acts → Rational × Form → Form → Type 0
StartHolds p front r bound = (s : List Val) (c : Choices) → IsState p s
    → forward (upward front) (value r.1) (environment s) c
    ≤ᵛ value bound (environment s) Choices.stop

-- In the state `s` the bound is less than this expected value, for some choices.
pub record StartFails (p : TypedProcedure) (front : Acts) (r : Rational × Form) (bound : Form)
    (s : List Val) : Type 0 where
  pub choices : Choices
  pub state : IsState p s
  pub fails : forward (upward front) (value r.1) (environment s) choices
      ≤ᵛ value bound (environment s) Choices.stop → ⊥
