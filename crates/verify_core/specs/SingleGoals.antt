-- The meaning of the outcome of one goal of a bound, independent of the procedure's other goals.
-- This project's own.
use Rattle.std.specs.List.{AllZip}
use Rattle.std.specs.Prelude.{List, Vec, length, take, true, ◌<◌, ◌≡◌, ℕ}
use Rattle.std.specs.declared.alloc.Global.{Global}
use Rattle.goal_answers.specs.declared.named_goals.NamedGoal.{NamedGoal}
use Rattle.goal_answers.specs.declared.trees.GoalCert.{GoalCert}
use Rattle.heylo_formula.specs.TypedGoals.{IsGoal}
use Rattle.heylo_formula.specs.declared.values.Val.{Val}
use Rattle.heyvl_acts.specs.Acts.{TypedProcedure, procedure_at}
use Rattle.heyvl_acts.specs.Rules.{Each, MeetsRules}
use Rattle.loop_encodings.specs.BoundGoals.{BoundGoal, GoalFails, GoalHolds, bound_goals, goal_id}
use Rattle.loop_encodings.specs.BoundGoals.{goal_variables}
use Rattle.region_split.specs.Meanings.{Fails}
use Rattle.verdict_report.specs.declared.answers.Answer.{Answer}
use Rattle.verify_core.specs.AnsweredProcedures.{AreAnswered}
use Rattle.verify_core.specs.CertifiedGoals as certified
use Rattle.verify_core.specs.CheckedAnswers.{IsCheckedFile}
use Rattle.verify_core.specs.GoalDecisions as decided
use Rattle.verify_core.specs.NumberedLists.{row_at}
use Rattle.verify_core.specs.Outcomes.{all_outcomes, is_proved}
use Rattle.verify_core.specs.Questions.{goal, question}
use Rattle.verify_core.specs.declared.outcomes.GoalOutcome.{GoalOutcome}
use Rattle.verify_core.specs.declared.outcomes.Outcome.TheVariants.{Falsified}

-- In a file that satisfies the rules, each goal of a bound is typed and over its own variables.
abbrev pub BoundGoalsAreGoals : Type 0
BoundGoalsAreGoals = (ps : List TypedProcedure) (p : ℕ) (asked : BoundGoal)
    → Each (MeetsRules ps) ps → p < length ps
    → IsGoal (goal (question ps (procedure_at ps p) asked))

-- `o` is an outcome of the goal `asked`. If it is proved, the goal holds, in every state and for
-- all choices. If it is falsified, the goal fails in the state that is shown, and is false with the
-- values that are shown.
pub record IsMeantAlone (ps : List TypedProcedure) (p : ℕ) (asked : BoundGoal) (o : GoalOutcome)
    : Type 0 where
  pub id_of : o.goal.id ≡ goal_id asked
  pub proved : is_proved o.outcome ≡ true → GoalHolds ps (procedure_at ps p) asked
  pub falsified : (s : Vec Val Global) → o.outcome ≡ Falsified s
      → GoalFails ps (procedure_at ps p) asked
      (take (length (goal_variables ps (procedure_at ps p) asked)) s.items)
  pub as_shown : (s : Vec Val Global) → o.outcome ≡ Falsified s
      → Fails (goal (question ps (procedure_at ps p) asked)) s.items

-- In a file that satisfies the rules, `IsMeantAlone` holds for each goal of a bound that is
-- decided.
abbrev pub GoalsAreMeantAlone : Type 0
GoalsAreMeantAlone = (ps : List TypedProcedure) (answers : List Answer) (made : List NamedGoal)
    (certs : List GoalCert) → Each (MeetsRules ps) ps
    → (are : AreAnswered ps answers made certs) (p : ℕ) → p < length ps
    → AllZip (IsMeantAlone ps p) (bound_goals (procedure_at ps p))
    (row_at (all_outcomes decided.outcome_of are.table) p)

-- In a file that satisfies the rules, `IsMeantAlone` holds for each goal of a bound that is checked
-- by certificates.
abbrev pub CheckedGoalsAreMeantAlone : Type 0
CheckedGoalsAreMeantAlone = (ps : List TypedProcedure) (certs : List GoalCert)
    (answers : List Answer) → Each (MeetsRules ps) ps
    → (are : IsCheckedFile ps certs answers) (p : ℕ) → p < length ps
    → AllZip (IsMeantAlone ps p) (bound_goals (procedure_at ps p))
    (row_at (all_outcomes certified.outcome_of are.table) p)
