-- The answer on a remainder pair, and what it promises. This project's own.
use Rattle.std.specs.Prelude.{◌≡◌, ℕ, List, [], ◌∷◌, Option, length, take}
use Rattle.goal_answers.specs.declared.decisions.Decision.{Decision}
use Rattle.goal_answers.specs.declared.decisions.Decision.TheVariants as decision
use Rattle.goal_answers.specs.declared.trees.Tree.{Tree}
use Rattle.heyvl_num.specs.Rational.{Rational, zeroʳ, ◌<ʳ◌}
use Rattle.heylo_formula.specs.Choices.{Choices}
use Rattle.heylo_formula.specs.Meaning.{value}
use Rattle.heylo_formula.specs.State.{environment}
use Rattle.heylo_formula.specs.declared.values.Val.{Val}
use Rattle.heyvl_acts.specs.Acts.{TypedProcedure, procedure_at, variables}
use Rattle.loop_encodings.specs.BoundGoals.{BoundGoal, GoalHolds}
use Rattle.ranking_rule.specs.RankingGoals.{generated}
use Rattle.ranking_rule.specs.Rankings.{RankedLoop}
use Rattle.region_split.specs.Meanings as meaning
use Rattle.run_machine.specs.Bound.{Bound, IsState, RankedBy}
use Rattle.verdict_report.specs.declared.answers.Answer.{Answer}
use Rattle.verdict_report.specs.declared.answers.RankVerdict.TheVariants.{Ranked}
use Rattle.verdict_report.specs.declared.answers.Verdict.TheVariants.{Verified}
use Rattle.lower_rules.specs.Remainder.{BoundsWithRemainder}
use Rattle.lower_goals.specs.RemainderPairs.{RemainderPair}
use Rattle.lower_goals.specs.StartGoals.{StartFails, start_goal}
use Rattle.lower_rules.specs.LimitedDecisions.{IsDecidedWithin}
use Rattle.verdict_report.specs.VerdictsOn.{IsVerdictOn, IsVerdictOnLoop}
use Rattle.lower_goals.specs.declared.remainder_answers.Remainder.{Remainder}
use Rattle.lower_goals.specs.declared.remainder_answers.Remainder.TheVariants.{Holds, NotVerified}
use Rattle.lower_goals.specs.declared.remainder_answers.Remainder.TheVariants.{NotRanked, Fails}
use Rattle.lower_goals.specs.declared.remainder_answers.Remainder.TheVariants.{Unknown, Shape}

-- ---- Requirements on the file's answers

-- The bound of the procedure `p` holds over all runs, and its post is at most 1 in every state, for
-- all choices.
pub record HasSmallBound (ps : List TypedProcedure) (p : ℕ) : Type 0 where
  pub bound : Bound ps p
  pub post : GoalHolds ps (procedure_at ps p) BoundGoal.post

-- The loop `n` of the procedure `p` has a ranking that bounds its iterations, from every state of
-- the procedure, under every scheduler and for every number of steps.
pub record HasBoundedTurns (ps : List TypedProcedure) (p n : ℕ) : Type 0 where
  pub loop : RankedLoop (procedure_at ps p) n
  pub turns : RankedBy ps p loop.head loop.body loop.rank

-- ---- The answer

-- A remainder pair whose first procedure is not verified.
pub record IsUnverified (ps : List TypedProcedure) (answers : List Answer) (p q : ℕ) : Type 0 where
  pub pair : RemainderPair (procedure_at ps p) (procedure_at ps q)
  pub unverified : IsVerdictOn answers p Verified → ⊥

-- A remainder pair whose first procedure is verified, and its loop is not ranked.
pub record IsUnranked (ps : List TypedProcedure) (answers : List Answer) (p q : ℕ) : Type 0 where
  pub pair : RemainderPair (procedure_at ps p) (procedure_at ps q)
  pub verified : IsVerdictOn answers p Verified
  pub unranked : IsVerdictOnLoop answers p pair.loop.head.number Ranked → ⊥

-- A remainder pair whose first procedure is verified, its loop is ranked, and `d` is the decision
-- of its goal.
pub record IsDecidedSo (ps : List TypedProcedure) (answers : List Answer) (p q : ℕ) (d : Decision)
    : Type 0 where
  pub pair : RemainderPair (procedure_at ps p) (procedure_at ps q)
  pub verified : IsVerdictOn answers p Verified
  pub ranked : IsVerdictOnLoop answers p pair.loop.head.number Ranked
  pub decided : IsDecidedWithin
      (start_goal (procedure_at ps p) pair.loop.front pair.rank (procedure_at ps q).pre)
      (generated pair.loop.front pair.rank ∷ []) d

-- A remainder pair whose goal is proved, and `e` is the step of its loop's ranking.
pub record IsProvedWith (ps : List TypedProcedure) (answers : List Answer) (p q : ℕ) (e : Rational)
    : Type 0 where
  pub tree : Option Tree
  pub so : IsDecidedSo ps answers p q (decision.Proved tree)
  pub step : so.pair.rank.0 ≡ e

-- The answer on the procedures `p` and `q`: `Shape` if they are no remainder pair, else
-- `NotVerified` if the first is not verified, else `NotRanked` if its loop is not ranked, otherwise
-- by the decision of the goal.
abbrev pub IsRemainderAnswer : List TypedProcedure → List Answer → ℕ → ℕ → Remainder → Type 0
IsRemainderAnswer ps answers p q Shape = RemainderPair (procedure_at ps p) (procedure_at ps q) → ⊥
IsRemainderAnswer ps answers p q NotVerified = IsUnverified ps answers p q
IsRemainderAnswer ps answers p q NotRanked = IsUnranked ps answers p q
IsRemainderAnswer ps answers p q (Fails s) = IsDecidedSo ps answers p q (decision.Falsified s)
IsRemainderAnswer ps answers p q (Unknown c) = IsDecidedSo ps answers p q (decision.Unknown c)
IsRemainderAnswer ps answers p q (Holds e) = IsProvedWith ps answers p q e

-- ---- Promises of the answers

-- The procedures are a remainder pair, the step of the ranking is `e`, which is above 0, and from
-- every state of the first procedure: the expected post of the runs that terminate within m
-- iterations is at least the pre, less one part in e*m of the second procedure's pre.
pub record RemainderHolds (ps : List TypedProcedure) (p q : ℕ) (e : Rational) : Type 0 where
  pub pair : RemainderPair (procedure_at ps p) (procedure_at ps q)
  pub step : pair.rank.0 ≡ e
  pub positive : zeroʳ <ʳ e
  pub bounds : (s : List Val) → IsState (procedure_at ps p) s
      → BoundsWithRemainder ps p pair.loop.front pair.loop.body pair.loop.behind pair.loop.head e
      (value (procedure_at ps q).pre (environment s) Choices.stop) s

-- The goal fails in the reported state `s`: its first values are a state of the first procedure.
-- The goal is also false with all values of `s`.
pub record RemainderFails (ps : List TypedProcedure) (p q : ℕ) (s : List Val) : Type 0 where
  pub pair : RemainderPair (procedure_at ps p) (procedure_at ps q)
  pub fails : StartFails (procedure_at ps p) pair.loop.front pair.rank (procedure_at ps q).pre
      (take (length (variables (procedure_at ps p))) s)
  pub as_shown : meaning.Fails
      (start_goal (procedure_at ps p) pair.loop.front pair.rank (procedure_at ps q).pre) s

-- The promise of an answer: `Holds` promises the bound, `Fails` that the goal fails in the reported
-- state.
abbrev pub IsPromised : List TypedProcedure → ℕ → ℕ → Remainder → Type 0
IsPromised ps p q (Holds e) = RemainderHolds ps p q e
IsPromised ps p q (Fails s) = RemainderFails ps p q s.items
IsPromised ps p q Shape = Unit {0}
IsPromised ps p q NotVerified = Unit {0}
IsPromised ps p q NotRanked = Unit {0}
IsPromised ps p q (Unknown c) = Unit {0}
