-- `check FILE CERT`: the report on a file by certificates. This project's own.
use Rattle.cert_text.specs.Certificates.{certificates_of}
use Rattle.cert_text.specs.Texts.{IsFirstFault, Spells}
use Rattle.goal_answers.specs.declared.trees.GoalCert.{GoalCert}
use Rattle.heyvl_acts.specs.Acts.{TypedProcedure}
use Rattle.heyvl_syntax.specs.Procedures.{Procedure}
use Rattle.heyvl_syntax.specs.SourceFaults.{IsSource}
use Rattle.command_rules.specs.FileReplies.{IsAnsweredWhole, IsTypedReply}
use Rattle.command_rules.specs.Messages.{Reply, answered, message}
use Rattle.command_rules.specs.declared.faults.Fault.TheVariants as faults
use Rattle.static_rules.specs.Files.{first_fault, resolved}
use Rattle.std.specs.Prelude.{List, None, [], codes, decimal, ◌++◌, ◌≡◌, ℕ}
use Rattle.verdict_report.specs.Reports.{report_text}
use Rattle.verify_core.specs.CheckedAnswers.{IsCheckedFile}
use Rattle.verify_core.specs.Headline.{IsHeadline}

-- The report on a file with these bytes, whose typed procedures are `file`, by the certificates
-- that `text` spells. Its answers depend on the certificates alone and keep the promises of the
-- headline, and its output is the text of these answers.
pub record IsCheckReport (bytes : List ℕ) (file : List TypedProcedure) (text : List ℕ)
    (reply : Reply) : Type 0 where
  pub certs : List GoalCert
  pub spelled : Spells (certificates_of certs) text
  pub checked : IsCheckedFile file certs reply.answers
  pub headline : IsHeadline file reply.answers
  pub is_reply : reply ≡ answered reply.answers (report_text bytes file reply.answers [])

-- The line on invalid certificates, whose first invalid line is `line`.
abbrev pub certificate_fault : ℕ → Reply
certificate_fault line =
    message (faults.Cert line) (codes "certificate line " ++ decimal line ++ codes ": fault\n")

-- The reply to typed procedures and a text of certificates: the first invalid line of the text, or
-- else the report.
pub data IsCheckedReply (bytes : List ℕ) (text : List ℕ) (file : List TypedProcedure)
    (reply : Reply) : Type 0 where
  by_line : (line : ℕ) → IsFirstFault text line → reply ≡ certificate_fault line
      → IsCheckedReply bytes text file reply
  by_certificates : IsCheckReport bytes file text reply → IsCheckedReply bytes text file reply

-- `IsCheckReply bytes text reply`: `reply` is the reply of `check` to a file with the bytes `bytes`
-- and the text `text` of certificates.
abbrev pub IsCheckReply : List ℕ → List ℕ → Reply → Type 0
IsCheckReply bytes text reply = IsTypedReply (IsCheckedReply bytes text) bytes reply

-- If `bytes` spell a file without an error and `text` spells certificates, `check` makes the report
-- by them.
abbrev pub FilesAreChecked : Type 0
FilesAreChecked = (bytes text : List ℕ) (file : List Procedure) (certs : List GoalCert)
    (reply : Reply) → IsSource bytes file → first_fault file ≡ None
    → Spells (certificates_of certs) text
    → IsCheckReply bytes text reply → IsCheckReport bytes (resolved file) text reply
    × IsAnsweredWhole (resolved file) reply
