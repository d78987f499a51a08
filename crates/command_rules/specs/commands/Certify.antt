-- `certify FILE`: the certificates of a file's proved goals. This project's own.
use Rattle.cert_text.specs.Certificates.{certificates_of}
use Rattle.cert_text.specs.Texts.{text_of}
use Rattle.goal_answers.specs.declared.named_goals.NamedGoal.{NamedGoal}
use Rattle.goal_answers.specs.declared.trees.GoalCert.{GoalCert}
use Rattle.heyvl_acts.specs.Acts.{TypedProcedure}
use Rattle.heyvl_syntax.specs.Procedures.{Procedure}
use Rattle.heyvl_syntax.specs.SourceFaults.{IsSource}
use Rattle.command_rules.specs.FileReplies.{IsAnsweredWhole, IsTypedReply}
use Rattle.command_rules.specs.Messages.{Reply, answered}
use Rattle.static_rules.specs.Files.{first_fault, resolved}
use Rattle.std.specs.Prelude.{List, None, ◌≡◌, ℕ}
use Rattle.verify_core.specs.AnsweredProcedures.{AreAnswered}
use Rattle.verify_core.specs.Headline.{IsHeadline}

-- The reply with the certificates of a file whose typed procedures are `file`. Its answers are
-- those of `verify` and keep the promises of the headline, and its output is the text of the
-- certificates that belong to these answers.
pub record IsCertification (file : List TypedProcedure) (reply : Reply) : Type 0 where
  pub made : List NamedGoal
  pub certs : List GoalCert
  pub are_answers : AreAnswered file reply.answers made certs
  pub headline : IsHeadline file reply.answers
  pub is_reply : reply ≡ answered reply.answers (text_of (certificates_of certs))

-- `IsCertifyReply bytes reply`: `reply` is the reply of `certify` to a file with the bytes `bytes`.
abbrev pub IsCertifyReply : List ℕ → Reply → Type 0
IsCertifyReply bytes reply = IsTypedReply IsCertification bytes reply

-- If `bytes` spell a file without an error, `certify` writes its certificates.
abbrev pub FilesAreCertified : Type 0
FilesAreCertified = (bytes : List ℕ) (file : List Procedure) (reply : Reply) → IsSource bytes file
    → first_fault file ≡ None → IsCertifyReply bytes reply
    → IsCertification (resolved file) reply × IsAnsweredWhole (resolved file) reply
