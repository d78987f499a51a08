-- The goals of a file with their decisions, and the certificates of the proved ones. This project's
-- own.
use Rattle.std.specs.Prelude.{◌≡◌, ℕ, List, [], ◌∷◌, ◌++◌, Option, Some, None}
use Rattle.goal_answers.specs.declared.causes.Cause.TheVariants as cause
use Rattle.goal_answers.specs.declared.decisions.Decision.{Decision}
use Rattle.goal_answers.specs.declared.decisions.Decision.TheVariants.{Proved, Falsified, Unknown}
use Rattle.goal_answers.specs.declared.named_goals.NamedGoal.{NamedGoal}
use Rattle.goal_answers.specs.declared.trees.GoalCert.{GoalCert}
use Rattle.goal_answers.specs.declared.trees.Tree.{Tree}
use Rattle.heylo_formula.specs.Goals.{goal_of}
use Rattle.heylo_formula.specs.declared.goals.Made.{Made}
use Rattle.heylo_formula.specs.declared.goals.Made.TheVariants as made
use Rattle.heyvl_acts.specs.Acts.{TypedProcedure}
use Rattle.region_split.specs.Decisions.{IsDecision}
use Rattle.verify_core.specs.Tables.{AreBoundsFound, AreRankingsFound, GoalWith}
use Rattle.verify_core.specs.declared.outcomes.Outcome.{Outcome}
use Rattle.verify_core.specs.declared.outcomes.Outcome.TheVariants as outcome

-- `IsDecisionOf made d`: `d` is a decision of the goal `made`. If a form passed a limit, there is
-- no goal, and `d` is unknown for this cause.
abbrev pub IsDecisionOf : Made → Decision → Type 0
IsDecisionOf (made.Goal g) d = IsDecision (goal_of g) d
IsDecisionOf made.Depth d = d ≡ Unknown cause.Depth
IsDecisionOf made.Nodes d = d ≡ Unknown cause.Nodes

-- A goal, and its decision.
abbrev pub DecidedGoal : Type 0
DecidedGoal = GoalWith Decision

-- `d` is a decision of the goal `g`.
abbrev pub Decides : NamedGoal → Decision → Type 0
Decides g d = IsDecisionOf g.made d

-- `IsTable ps p qs table`: `table` has for each of the procedures `qs`, numbered from `p` on, the
-- goals of its bound with their decisions.
abbrev pub IsTable : List TypedProcedure → ℕ → List TypedProcedure → List (List DecidedGoal)
    → Type 0
IsTable ps p qs table = AreBoundsFound Decides ps p qs table

-- `IsRankTable ps p qs table`: `table` has for each of the procedures `qs`, numbered from `p` on,
-- the goals of its rankings with their decisions.
abbrev pub IsRankTable : List TypedProcedure → ℕ → List TypedProcedure → List (List DecidedGoal)
    → Type 0
IsRankTable ps p qs table = AreRankingsFound Decides ps p qs table

-- The outcome of a goal that is decided.
abbrev pub outcome_of : Decision → Outcome
outcome_of (Proved t) = outcome.Proved
outcome_of (Falsified s) = outcome.Falsified s
outcome_of (Unknown c) = outcome.Unknown c

-- ---- Certificates

-- The certificate of a goal that is proved with a tree; otherwise none. A goal can be proved
-- without a tree: one that would be too deep.
abbrev pub certificate : DecidedGoal → List GoalCert
certificate d = of_decision d.found
  where
    of_tree : Option Tree → List GoalCert
    of_tree (Some t) = (record { proc = d.goal.proc; id = d.goal.id; tree = t }) ∷ []
    of_tree None = []

    of_decision : Decision → List GoalCert
    of_decision (Proved t) = of_tree t
    of_decision (Falsified s) = []
    of_decision (Unknown c) = []

-- The certificates of those of the goals that are proved with a tree, in their order.
abbrev pub certificates : List DecidedGoal → List GoalCert
certificates [] = []
certificates (d ∷ ds) = certificate d ++ certificates ds

-- `certified_in_file table ranks`: the certificates of a file, procedure by procedure. For each
-- procedure, those of the goals of its bound, in `table`, precede those of its rankings, in
-- `ranks`.
abbrev pub certified_in_file : List (List DecidedGoal) → List (List DecidedGoal) → List GoalCert
certified_in_file [] ranks = []
certified_in_file (ds ∷ table) [] = []
certified_in_file (ds ∷ table) (rs ∷ ranks) =
    (certificates ds ++ certificates rs) ++ certified_in_file table ranks
