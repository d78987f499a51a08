-- The fresh variables of an encoding, in the main goals. This project's own.
use Rattle.std.specs.Prelude.{◌≡◌, ◌<◌, ◌+◌, ℕ, false, List, length}
use Rattle.heylo_formula.specs.PlainTrees.{form_of}
use Rattle.heylo_formula.specs.Variables.{occurs}
use Rattle.heylo_formula.specs.declared.goals.Made.{Made}
use Rattle.heylo_formula.specs.declared.goals.Made.TheVariants as made
use Rattle.heyvl_acts.specs.Acts.{TypedProcedure, acts_in, procedure_at, variables}
use Rattle.heyvl_acts.specs.Rules.{Each, MeetsRules}
use Rattle.loop_encodings.specs.BoundGoals.{BoundGoal}
use Rattle.loop_encodings.specs.Fresh.{fresh}
use Rattle.loop_encodings.specs.FreshLaws.{IsFreshNumber}
use Rattle.goal_answers.specs.declared.named_goals.NamedGoal.{NamedGoal}
use Rattle.verify_core.specs.Questions.{IsGoalOf}

-- `OwnsSoMany n made`: if `made` is a goal, it has `n` own variables.
abbrev pub OwnsSoMany : ℕ → Made → Type 0
OwnsSoMany n (made.Goal g) = g.own ≡ n
OwnsSoMany n made.Depth = Unit {0}
OwnsSoMany n made.Nodes = Unit {0}

-- `Lacks x made`: if `made` is a goal, the variable `x` occurs in neither of its forms.
abbrev pub Lacks : ℕ → Made → Type 0
Lacks x (made.Goal g) = (occurs x (form_of g.stated) ≡ false) × (occurs x (form_of g.found) ≡ false)
Lacks x made.Depth = Unit {0}
Lacks x made.Nodes = Unit {0}

-- The own variables of a main goal are the procedure's and the fresh ones of its encoding.
abbrev pub MadeGoalsCountFreshVariables : Type 0
MadeGoalsCountFreshVariables = (ps : List TypedProcedure) (p : ℕ) (g : NamedGoal)
    → IsGoalOf ps p BoundGoal.main g
    → OwnsSoMany
    (length (variables (procedure_at ps p)) + length (fresh ps (acts_in (procedure_at ps p).body)))
    g.made

-- In a file that satisfies the rules, no fresh variable of a procedure's encoding occurs in a form
-- of its main goal.
abbrev pub MadeGoalsLackFreshVariables : Type 0
MadeGoalsLackFreshVariables = (ps : List TypedProcedure) (p : ℕ) (g : NamedGoal) (x : ℕ)
    → Each (MeetsRules ps) ps → p < length ps → IsGoalOf ps p BoundGoal.main g
    → IsFreshNumber ps (procedure_at ps p) x → Lacks x g.made
