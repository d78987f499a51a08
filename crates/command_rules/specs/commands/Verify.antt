-- `verify FILE`: the report on a file. This project's own.
use Rattle.goal_answers.specs.declared.named_goals.NamedGoal.{NamedGoal}
use Rattle.goal_answers.specs.declared.trees.GoalCert.{GoalCert}
use Rattle.heyvl_acts.specs.Acts.{TypedProcedure}
use Rattle.heyvl_syntax.specs.Procedures.{Procedure}
use Rattle.heyvl_syntax.specs.SourceFaults.{IsSource}
use Rattle.command_rules.specs.FileReplies.{IsAnsweredWhole, IsTypedReply}
use Rattle.command_rules.specs.Messages.{Reply, answered}
use Rattle.static_rules.specs.Files.{first_fault, resolved}
use Rattle.std.specs.Prelude.{List, None, ◌≡◌, ℕ}
use Rattle.verdict_report.specs.Reports.{report_text}
use Rattle.verify_core.specs.AnsweredProcedures.{AreAnswered}
use Rattle.verify_core.specs.Headline.{IsHeadline}

-- The report on a file with these bytes, whose typed procedures are `file`. Its answers are those
-- by the file's goals and keep the promises of the headline, and its output is the text of these
-- answers.
pub record IsReport (bytes : List ℕ) (file : List TypedProcedure) (reply : Reply) : Type 0 where
  pub made : List NamedGoal
  pub certs : List GoalCert
  pub are_answers : AreAnswered file reply.answers made certs
  pub headline : IsHeadline file reply.answers
  pub is_reply : reply ≡ answered reply.answers (report_text bytes file reply.answers made)

-- `IsVerifyReply bytes reply`: `reply` is the reply of `verify` to a file with the bytes `bytes`.
abbrev pub IsVerifyReply : List ℕ → Reply → Type 0
IsVerifyReply bytes reply = IsTypedReply (IsReport bytes) bytes reply

-- If `bytes` spell a file without an error, `verify` makes the report.
abbrev pub FilesAreVerified : Type 0
FilesAreVerified = (bytes : List ℕ) (file : List Procedure) (reply : Reply) → IsSource bytes file
    → first_fault file ≡ None → IsVerifyReply bytes reply
    → IsReport bytes (resolved file) reply × IsAnsweredWhole (resolved file) reply
