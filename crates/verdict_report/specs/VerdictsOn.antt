-- The verdict of answers on one procedure, and on one of its loops. This project's own.
use Rattle.std.specs.Prelude.{◌≡◌, ℕ, List, ◌∷◌, ◌++◌, length}
use Rattle.std.specs.List.{Contains}
use Rattle.verdict_report.specs.declared.answers.Answer.{Answer}
use Rattle.verdict_report.specs.declared.answers.LoopAnswer.{LoopAnswer}
use Rattle.verdict_report.specs.declared.answers.RankVerdict.{RankVerdict}
use Rattle.verdict_report.specs.declared.answers.Verdict.{Verdict}

-- `v` is the verdict on the procedure with the number `p`.
pub record IsVerdictOn (answers : List Answer) (p : ℕ) (v : Verdict) : Type 0 where
  pub before : List Answer
  pub answer : Answer
  pub behind : List Answer
  pub all : answers ≡ before ++ (answer ∷ behind)
  pub place : length before ≡ p
  pub verdict : answer.verdict ≡ v

-- `v` is the verdict on the ranking of the loop `n` of the procedure with the number `p`.
pub record IsVerdictOnLoop (answers : List Answer) (p n : ℕ) (v : RankVerdict) : Type 0 where
  pub before : List Answer
  pub answer : Answer
  pub behind : List Answer
  pub all : answers ≡ before ++ (answer ∷ behind)
  pub place : length before ≡ p
  pub line : LoopAnswer
  pub listed : Contains answer.loops.items line
  pub number : line.number ≡ n
  pub verdict : line.rank ≡ v
