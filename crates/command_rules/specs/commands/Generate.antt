-- `gen N`: the summary of the answers on the generated text of N lines. This project's own.
use Rattle.command_words.specs.LineCounts.{is_line_count}
use Rattle.command_rules.specs.Reports.{IsSummary}
use Rattle.command_rules.specs.Messages.{Reply, answered}
use Rattle.command_rules.specs.declared.faults.Fault.TheVariants as faults
use Rattle.std.specs.Prelude.{List, length, true, ◌≡◌, ◌≤◌, ℕ}

-- The reply of `gen`: the answers on the generated text, and their summary.
pub record IsGenReply (n : ℕ) (reply : Reply) : Type 0 where
  pub text : List ℕ
  pub summary : IsSummary n reply.answers text
  pub is_reply : reply ≡ answered reply.answers text

-- The reply has an answer on each of the `n` procedures of the generated text, no fault, and the
-- status 0, 1 or 2.
pub record IsAnsweredSummary (n : ℕ) (reply : Reply) : Type 0 where
  pub each : length reply.answers ≡ n
  pub fault : reply.fault ≡ faults.Nothing
  pub status : reply.status ≤ 2

-- `gen` answers each procedure, for every number of lines that may be asked for.
abbrev pub GeneratedTextsAreAnswered : Type 0
GeneratedTextsAreAnswered = (n : ℕ) (reply : Reply) → is_line_count n ≡ true → IsGenReply n reply
    → IsAnsweredSummary n reply
