-- `print FILE`: the canonical text of a file. This project's own.
use Rattle.heyvl_print.specs.Canonical.{canonical_text}
use Rattle.heyvl_syntax.specs.Procedures.{Procedure}
use Rattle.heyvl_syntax.specs.SourceFaults.{IsSource}
use Rattle.command_rules.specs.FileReplies.{IsSpelledReply}
use Rattle.command_rules.specs.Messages.{Reply, message}
use Rattle.command_rules.specs.declared.faults.Fault.TheVariants as faults
use Rattle.std.specs.Prelude.{List, ◌≡◌, ℕ}

-- The reply with the canonical text of a file, without answers.
abbrev pub printed : List Procedure → Reply
printed file = message faults.Nothing (canonical_text file)

-- `IsPrintReply bytes reply`: `reply` is the reply of `print` to a file with the bytes `bytes`.
abbrev pub IsPrintReply : List ℕ → Reply → Type 0
IsPrintReply bytes reply = IsSpelledReply (λ file r. r ≡ printed file) bytes reply

-- If `bytes` spell a file, `print` writes its canonical text.
abbrev pub FilesArePrinted : Type 0
FilesArePrinted = (bytes : List ℕ) (file : List Procedure) (reply : Reply) → IsSource bytes file
    → IsPrintReply bytes reply → reply ≡ printed file
