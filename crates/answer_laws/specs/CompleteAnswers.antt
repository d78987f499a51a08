-- Complete answers: if a goal is within reach, it is proved exactly if it holds. A goal is within
-- reach if no form passes a limit and no cause for leaving a goal undecided applies to it. This
-- project's own.
use Rattle.std.specs.List.{AllZip}
use Rattle.std.specs.Prelude.{◌≡◌, ◌↔◌, ◌<◌, ℕ, true, List, None, length}
use Rattle.answer_laws.specs.Named.{GoalOutcome}
use Rattle.goal_answers.specs.declared.causes.Cause.{Cause}
use Rattle.goal_answers.specs.declared.decisions.Decision.{Decision}
use Rattle.goal_answers.specs.declared.named_goals.NamedGoal.{NamedGoal}
use Rattle.goal_answers.specs.declared.trees.GoalCert.{GoalCert}
use Rattle.heylo_formula.specs.Goals.{Goal, Holds, goal_of}
use Rattle.heylo_formula.specs.TypedGoals.{HasItsVariables, IsTypedGoal}
use Rattle.heylo_formula.specs.declared.goals.Made.{Made}
use Rattle.heylo_formula.specs.declared.goals.Made.TheVariants as made
use Rattle.heyvl_acts.specs.Acts.{TypedProcedure, procedure_at}
use Rattle.heyvl_acts.specs.Rules.{Each, MeetsRules}
use Rattle.loop_encodings.specs.BoundGoals.{BoundGoal, BoundGoalsHold, GoalHolds, bound_goals}
use Rattle.ranking_rule.specs.RankingGoals as ranking
use Rattle.ranking_rule.specs.Rankings.{IsRanking, RankedLoop}
use Rattle.region_split.specs.Decisions.{IsCause, IsDecision}
use Rattle.verdict_report.specs.VerdictsOn.{IsVerdictOn, IsVerdictOnLoop}
use Rattle.verdict_report.specs.declared.answers.Answer.{Answer}
use Rattle.verdict_report.specs.declared.answers.RankVerdict.{RankVerdict}
use Rattle.verdict_report.specs.declared.answers.RankVerdict.TheVariants.{Ranked}
use Rattle.verdict_report.specs.declared.answers.Verdict.{Verdict}
use Rattle.verify_core.specs.AnsweredProcedures.{AreAnswered}
use Rattle.verify_core.specs.GoalDecisions.{outcome_of}
use Rattle.verify_core.specs.Headline.{IsHeadline, says_proved}
use Rattle.verify_core.specs.NumberedLists.{row_at}
use Rattle.verify_core.specs.Outcomes.{all_outcomes, is_proved}
use Rattle.verify_core.specs.Questions.{IsMadeOf, question}

-- No cause for leaving a goal undecided applies to the goal `g`: it is linear, and neither the
-- cells, the rows, the numbers nor the greedy choice stop its decision.
abbrev pub HasNoCause : Goal → Type 0
HasNoCause g = (c : Cause) → IsCause g c → ⊥

-- If no cause applies to a typed goal, a decision proves it exactly if it holds.
abbrev pub DecisionsAreComplete : Type 0
DecisionsAreComplete = (g : Goal) (d : Decision) → IsTypedGoal g → HasItsVariables g → HasNoCause g
    → IsDecision g d → (is_proved (outcome_of d) ≡ true) ↔ Holds g

-- `made` is a goal, not a form that passed a limit, and no cause for leaving it undecided applies
-- to it.
abbrev pub IsWithinReach : Made → Type 0
IsWithinReach (made.Goal g) = HasNoCause (goal_of g)
IsWithinReach made.Depth = ⊥
IsWithinReach made.Nodes = ⊥

-- `IsGoalWithinReach ps p asked`: the goal `asked` of the procedure with the number `p` is within
-- reach.
abbrev pub IsGoalWithinReach : List TypedProcedure → ℕ → BoundGoal → Type 0
IsGoalWithinReach ps p asked = (m : Made) → IsMadeOf (question ps (procedure_at ps p) asked) m
    → IsWithinReach m

-- `IsCompleteAlone ps p asked o`: if the goal `asked` is within reach, its outcome `o` is that it
-- is proved exactly if it holds.
abbrev pub IsCompleteAlone : List TypedProcedure → ℕ → BoundGoal → GoalOutcome → Type 0
IsCompleteAlone ps p asked o = IsGoalWithinReach ps p asked → (is_proved o.outcome ≡ true)
    ↔ GoalHolds ps (procedure_at ps p) asked

-- In a file that satisfies the rules, `IsCompleteAlone` holds for each goal of a bound, whatever
-- the outcomes of the procedure's other goals.
abbrev pub GoalsAreComplete : Type 0
GoalsAreComplete = (ps : List TypedProcedure) (answers : List Answer) (told : List NamedGoal)
    (certs : List GoalCert) → Each (MeetsRules ps) ps
    → (are : AreAnswered ps answers told certs) (p : ℕ) → p < length ps
    → AllZip (IsCompleteAlone ps p) (bound_goals (procedure_at ps p))
    (row_at (all_outcomes outcome_of are.table) p)

-- `IsBoundWithinReach ps p`: each goal of the bound of the procedure with the number `p` is within
-- reach.
abbrev pub IsBoundWithinReach : List TypedProcedure → ℕ → Type 0
IsBoundWithinReach ps p = Each (IsGoalWithinReach ps p) (bound_goals (procedure_at ps p))

-- If the bound of a procedure with a body is within reach, the verdict on the procedure implies
-- that its goals are proved exactly if they hold.
abbrev pub VerdictsAreComplete : Type 0
VerdictsAreComplete = (ps : List TypedProcedure) (answers : List Answer) (told : List NamedGoal)
    (certs : List GoalCert) → AreAnswered ps answers told certs → IsHeadline ps answers
    → (p : ℕ) (v : Verdict) → ((procedure_at ps p).body ≡ None → ⊥) → IsBoundWithinReach ps p
    → IsVerdictOn answers p v → (says_proved v ≡ true) ↔ BoundGoalsHold ps (procedure_at ps p)

-- `IsRankingWithinReach p n l`: the goal of the ranking of the loop `l`, which has the number `n`
-- in the procedure `p`, is within reach.
abbrev pub IsRankingWithinReach : (p : TypedProcedure) (n : ℕ) → RankedLoop p n → Type 0
IsRankingWithinReach p n l = (m : Made) → ranking.IsMadeOf p l.head l.body l.rank m
    → IsWithinReach m

-- If the goal of a ranking is within reach, the verdict is that the loop is ranked exactly if the
-- ranking is one.
abbrev pub RankVerdictsAreComplete : Type 0
RankVerdictsAreComplete = (ps : List TypedProcedure) (answers : List Answer) (told : List NamedGoal)
    (certs : List GoalCert) → AreAnswered ps answers told certs → IsHeadline ps answers
    → (p n : ℕ) (v : RankVerdict) (l : RankedLoop (procedure_at ps p) n)
    → IsRankingWithinReach (procedure_at ps p) n l → IsVerdictOnLoop answers p n v
    → (v ≡ Ranked) ↔ IsRanking (procedure_at ps p) l.head l.body l.rank
