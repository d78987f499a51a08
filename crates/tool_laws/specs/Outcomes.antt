-- What a call of the program replies, and what it writes. This project's own.
use Rattle.heyvl_io.specs.Bytes.{with_appended}
use Rattle.heyvl_io.specs.Faults.{Rose}
use Rattle.tool_laws.specs.Calls.{Call, IsFilesReply}
use Rattle.command_rules.specs.Messages.{Reply, message}
use Rattle.command_rules.specs.Statuses.{fault_status}
use Rattle.command_words.specs.Words.{AskFor, IsUsage}
use Rattle.command_words.specs.Forms.{usage_line}
use Rattle.command_rules.specs.commands.{IsReplyTo}
use Rattle.command_words.specs.Requests.{files_of}
use Rattle.command_rules.specs.declared.faults.Fault.TheVariants as faults
use Rattle.tool_laws.specs.declared.outcomes.Outcome.{Outcome}
use Rattle.command_words.specs.declared.requests.Settings.{Settings}
use Rattle.std.specs.Prelude.{List, Option, [], length, take, ◌<◌, ◌≡◌, ◌⊎◌, ℕ}

-- ---- Replies to a call

-- The reply if the arguments are not a valid command.
abbrev pub usage : Reply
usage = message faults.Usage usage_line

-- The reply has its cause: the arguments are not a valid command, or the command replies so after
-- reading its files.
pub data HasCause (made : Call) (reply : Reply) : Type 0 where
  by_words : IsUsage made.words → reply ≡ usage → HasCause made reply
  by_command : (settings : Settings) → AskFor made.words settings
      → IsFilesReply (files_of settings)
      (IsReplyTo settings) made.names made.before made.after reply → HasCause made reply

-- ---- What is written

-- A sink before and after a call: the bytes that were written to it, if it reports them, and the
-- number of its failures.
pub record Writing : Type 0 where
  pub told_before : Option (List ℕ)
  pub told_after : Option (List ℕ)
  pub faults_before : ℕ
  pub faults_after : ℕ

-- The writing with these bytes and numbers of failures.
abbrev pub writing : Option (List ℕ) → Option (List ℕ) → ℕ → ℕ → Writing
writing told now before after =
    record { told_before = told; told_after = now; faults_before = before; faults_after = after }

-- The whole output was written and nothing else, and the fault and the status are the reply's.
pub record IsWritten (reply : Reply) (done : Writing) (outcome : Outcome) : Type 0 where
  pub fault : outcome.fault ≡ reply.fault
  pub status : outcome.status ≡ reply.status
  pub written : outcome.written ≡ length reply.output
  pub appended : done.told_after ≡ with_appended done.told_before reply.output

-- The sink failed after it had taken a prefix of the output. The fault and the status are those of
-- a failed write, not the reply's.
pub record IsCut (reply : Reply) (done : Writing) (outcome : Outcome) : Type 0 where
  pub fault : outcome.fault ≡ faults.Write
  pub status : outcome.status ≡ fault_status faults.Write
  pub written : outcome.written < length reply.output
  pub appended : done.told_after
      ≡ with_appended done.told_before (take outcome.written reply.output)
  pub rose : Rose done.faults_before done.faults_after

-- The reply was written as a whole, or the sink failed. In both cases, the answers are the reply's.
pub record IsDelivered (reply : Reply) (done : Writing) (outcome : Outcome) : Type 0 where
  pub delivered : IsWritten reply done outcome ⊎ IsCut reply done outcome
  pub answers : outcome.answers.items ≡ reply.answers

-- A reply that has its cause was delivered.
pub record IsAnswered (made : Call) (done : Writing) (outcome : Outcome) : Type 0 where
  pub reply : Reply
  pub cause : HasCause made reply
  pub is_delivered : IsDelivered reply done outcome

-- Memory ran out, and nothing was written.
pub record IsOutOfMemory (done : Writing) (outcome : Outcome) : Type 0 where
  pub fault : outcome.fault ≡ faults.Memory
  pub status : outcome.status ≡ fault_status faults.Memory
  pub answers : outcome.answers.items ≡ []
  pub written : outcome.written ≡ 0
  pub unchanged : done.told_after ≡ done.told_before
