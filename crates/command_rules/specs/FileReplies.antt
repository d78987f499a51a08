-- Replies of the commands that read a file of HeyVL. This project's own.
use Rattle.heyvl_acts.specs.Acts.{TypedProcedure}
use Rattle.spelled_files.specs.Sources.{IsFileFault}
use Rattle.heyvl_places.specs.declared.spans.Span.{Span}
use Rattle.heyvl_syntax.specs.Procedures.{Procedure}
use Rattle.heyvl_syntax.specs.SourceFaults.{IsSource, IsSourceFault}
use Rattle.command_rules.specs.Messages.{Reply, source_fault}
use Rattle.command_rules.specs.declared.faults.Fault.TheVariants as faults
use Rattle.static_rules.specs.Files.{first_fault, resolved}
use Rattle.std.specs.Prelude.{List, None, length, ◌≡◌, ◌≤◌, ℕ}

-- The reply to `bytes` of a command that does not type its file: the first of the errors 1 to 6, or
-- what `Says` demands for the file that the bytes spell.
pub data IsSpelledReply (Says : List Procedure → Reply → Type 0) (bytes : List ℕ) (reply : Reply)
    : Type 0 where
  by_fault : (number : ℕ) (place : Span) → IsSourceFault bytes number place
      → reply ≡ source_fault bytes number place → IsSpelledReply Says bytes reply
  by_file : (file : List Procedure) → IsSource bytes file → Says file reply
      → IsSpelledReply Says bytes reply

-- The reply to `bytes` of a command that types its file: the error of the file, or what `Says`
-- demands for its typed procedures.
pub data IsTypedReply (Says : List TypedProcedure → Reply → Type 0) (bytes : List ℕ) (reply : Reply)
    : Type 0 where
  by_fault : (number : ℕ) (place : Span) → IsFileFault bytes number place
      → reply ≡ source_fault bytes number place → IsTypedReply Says bytes reply
  by_file : (file : List Procedure) → IsSource bytes file → first_fault file ≡ None
      → Says (resolved file) reply → IsTypedReply Says bytes reply

-- The reply has an answer on each procedure of `file`, no fault, and the status 0, 1 or 2.
pub record IsAnsweredWhole (file : List TypedProcedure) (reply : Reply) : Type 0 where
  pub each : length reply.answers ≡ length file
  pub fault : reply.fault ≡ faults.Nothing
  pub status : reply.status ≤ 2
