-- What a report requires of its answers: each place is in the text, and each procedure is in the
-- file. This project's own.
use Rattle.heyvl_acts.specs.Rules.{Each, MeetsAllRules}
use Rattle.heyvl_acts.specs.declared.typed_trees.Typed.{Typed}
use Rattle.goal_answers.specs.declared.causes.Cause.{Cause}
use Rattle.goal_answers.specs.declared.causes.Cause.TheVariants.{Depth, Nodes, Nonlinear, Cells}
use Rattle.goal_answers.specs.declared.causes.Cause.TheVariants.{Rows, Bits, Fraction}
use Rattle.proc_contracts.specs.declared.reasons.WhyNot.{WhyNot}
use Rattle.proc_contracts.specs.declared.reasons.WhyNot.TheVariants as why
use Rattle.std.specs.Prelude.{List, length, ◌<◌, ◌^◌, ◌≡◌, ◌≤◌, ℕ}
use Rattle.verdict_report.specs.declared.answers.Answer.{Answer}
use Rattle.verdict_report.specs.declared.answers.LoopAnswer.{LoopAnswer}
use Rattle.verdict_report.specs.declared.answers.RankVerdict.{RankVerdict}
use Rattle.verdict_report.specs.declared.answers.RankVerdict.TheVariants as rank
use Rattle.verdict_report.specs.declared.answers.Verdict.{Verdict}
use Rattle.verdict_report.specs.declared.answers.Verdict.TheVariants as verdict

-- The place in a cause is within a text of `bytes` bytes.
abbrev pub IsCausePlaced : ℕ → Cause → Type 0
IsCausePlaced bytes Depth = Unit {0}
IsCausePlaced bytes Nodes = Unit {0}
IsCausePlaced bytes (Nonlinear span) = span.from ≤ bytes
IsCausePlaced bytes (Cells count) = Unit {0}
IsCausePlaced bytes (Rows step count) = Unit {0}
IsCausePlaced bytes Bits = Unit {0}
IsCausePlaced bytes (Fraction b) = Unit {0}

-- The place in a reason is within a text of `bytes` bytes.
abbrev pub IsReasonPlaced : ℕ → WhyNot → Type 0
IsReasonPlaced bytes why.NoBody = Unit {0}
IsReasonPlaced bytes why.NoWlp = Unit {0}
IsReasonPlaced bytes why.Quantifier = Unit {0}
IsReasonPlaced bytes (why.Statement span) = span.from ≤ bytes

-- The place in a verdict is within a text of `bytes` bytes, and its procedure is one of `procs`.
abbrev pub IsVerdictPlaced : ℕ → ℕ → Verdict → Type 0
IsVerdictPlaced bytes procs verdict.Verified = Unit {0}
IsVerdictPlaced bytes procs (verdict.Valid reason) = IsReasonPlaced bytes reason
IsVerdictPlaced bytes procs (verdict.Conditional q) = q < procs
IsVerdictPlaced bytes procs (verdict.NotVerified id s) = Unit {0}
IsVerdictPlaced bytes procs (verdict.Unknown id cause) = IsCausePlaced bytes cause
IsVerdictPlaced bytes procs verdict.NoBody = Unit {0}
IsVerdictPlaced bytes procs (verdict.Unchecked id miss) = Unit {0}

-- The place in the verdict on a ranking is within a text of `bytes` bytes.
abbrev pub IsRankPlaced : ℕ → RankVerdict → Type 0
IsRankPlaced bytes rank.Ranked = Unit {0}
IsRankPlaced bytes (rank.NotRanked s) = Unit {0}
IsRankPlaced bytes (rank.Unknown cause) = IsCausePlaced bytes cause
IsRankPlaced bytes (rank.Unchecked miss) = Unit {0}

-- The place in the answer on a loop is within a text of `bytes` bytes.
abbrev pub IsLoopPlaced : ℕ → LoopAnswer → Type 0
IsLoopPlaced bytes l = IsRankPlaced bytes l.rank

-- The places of an answer are within a text of `bytes` bytes, and its procedure is one of `procs`.
pub record IsAnswerPlaced (bytes procs : ℕ) (a : Answer) : Type 0 where
  pub verdict : IsVerdictPlaced bytes procs a.verdict
  pub loops : Each (IsLoopPlaced bytes) a.loops.items

-- The typed tree satisfies the static rules, each procedure has one answer, and the places and
-- procedures of the answers exist.
pub record CanReport (bytes : List ℕ) (typed : Typed) (answers : List Answer) : Type 0 where
  pub short : length bytes < 2 ^ 31
  pub rules : MeetsAllRules typed
  pub each : length answers ≡ length typed.procs.items
  pub placed : Each (IsAnswerPlaced (length bytes) (length typed.procs.items)) answers
