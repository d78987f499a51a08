-- Laws of rankings. This project's own.
use Rattle.std.specs.Prelude.{◌↔◌, ◌<◌, ◌^◌, ℕ, List, length, take}
use Rattle.heylo_formula.specs.Goals.{Goal, Holds, HoldsIn}
use Rattle.heylo_formula.specs.Sizes.{nodes}
use Rattle.heylo_formula.specs.TypedGoals.{IsGoal}
use Rattle.heylo_formula.specs.State.{environment, IsTyped}
use Rattle.heylo_formula.specs.declared.values.Val.{Val}
use Rattle.heyvl_acts.specs.Acts.{TypedProcedure, procedure_at, variables}
use Rattle.heyvl_acts.specs.FormSizes.{FormsWithin}
use Rattle.heyvl_acts.specs.Rules.{MeetsRules}
use Rattle.run_machine.specs.Bound.{RankedBy}
use Rattle.ranking_rule.specs.Rankings.{RankedLoop, IsRanking, IsNoRanking}
use Rattle.vp_generator.specs.Limits.{IsSmall}
use Rattle.ranking_rule.specs.RankingGoals.{generated, goal}

-- A ranking bounds the expected iterations of its loop, under every scheduler and for every number
-- of steps: in a coproc, in a proc, and in a procedure that is no program.
abbrev pub RankingsBoundTurns : Type 0
RankingsBoundTurns = (ps : List TypedProcedure) (p n : ℕ) (l : RankedLoop (procedure_at ps p) n)
    → MeetsRules ps (procedure_at ps p) → IsRanking (procedure_at ps p) l.head l.body l.rank
    → RankedBy ps p l.head l.body l.rank

-- The goal of a ranking holds exactly if the formula is a ranking.
abbrev pub RankingGoalsHold : Type 0
RankingGoalsHold = (ps : List TypedProcedure) (p : TypedProcedure) (n : ℕ) (l : RankedLoop p n)
    → MeetsRules ps p → IsRanking p l.head l.body l.rank ↔ Holds (goal p l.head l.body l.rank)

-- If the goal fails in a state, the formula is no ranking: in the state of the procedure's
-- variables it is less than its expected value after an iteration plus the step.
abbrev pub RankingGoalsFail : Type 0
RankingGoalsFail = (ps : List TypedProcedure) (p : TypedProcedure) (n : ℕ) (l : RankedLoop p n)
    → MeetsRules ps p → (s : List Val) → IsTyped (goal p l.head l.body l.rank).types s
    → (HoldsIn (goal p l.head l.body l.rank) (environment s) → ⊥)
    → IsNoRanking p l.head l.body l.rank (take (length (variables p)) s)

-- The goal of a ranking is a goal.
abbrev pub RankingGoalsAreGoals : Type 0
RankingGoalsAreGoals = (ps : List TypedProcedure) (p : TypedProcedure) (n : ℕ) (l : RankedLoop p n)
    → MeetsRules ps p → IsGoal (goal p l.head l.body l.rank)

-- The goal has fewer than 2^29 nodes in each form, and fewer than 2^31 variables.
pub record IsFew (g : Goal) : Type 0 where
  pub stated : nodes g.stated < 2 ^ 29
  pub found : nodes g.found < 2 ^ 29
  pub variables : length g.types < 2 ^ 31

-- The goal of a ranking satisfies `IsFew`, if the procedure's forms have at most 2^27 nodes and the
-- generated form is within its limits.
abbrev pub RankingGoalsAreFew : Type 0
RankingGoalsAreFew = (ps : List TypedProcedure) (p : TypedProcedure) (n : ℕ) (l : RankedLoop p n)
    → MeetsRules ps p → FormsWithin (2 ^ 27) p → IsSmall (generated l.body l.rank)
    → IsFew (goal p l.head l.body l.rank)
