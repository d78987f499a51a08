-- The table of the commands: how each reads its first file, and what it replies. `command_words`
-- has the table of their arguments and files; each command has a row in both. This project's own.
use Rattle.command_rules.specs.Messages.{Reply}
use Rattle.command_rules.specs.commands.Certify.{IsCertifyReply}
use Rattle.command_rules.specs.commands.Check.{IsCheckReply}
use Rattle.command_rules.specs.commands.Generate.{IsGenReply}
use Rattle.command_rules.specs.commands.Omega.{IsOmegaReply}
use Rattle.command_rules.specs.commands.Pgcl.{IsPgclReply}
use Rattle.command_rules.specs.commands.Print.{IsPrintReply}
use Rattle.command_rules.specs.commands.Refute.{IsRefuteReply}
use Rattle.command_rules.specs.commands.Remainder.{IsRemainderReply}
use Rattle.command_rules.specs.commands.Run.{IsRunReply}
use Rattle.command_rules.specs.commands.Verify.{IsVerifyReply}
use Rattle.command_words.specs.declared.requests.Settings.TheVariants as commands
use Rattle.command_words.specs.declared.requests.Settings.{Settings}
use Rattle.generated_files.specs.Texts.{generated_text}
use Rattle.std.specs.Prelude.{List, ℕ}
pub mod Verify
pub mod Print
pub mod Run
pub mod Certify
pub mod Check
pub mod Generate
pub mod Pgcl
pub mod Omega
pub mod Remainder
pub mod Refute

-- ---- The rows

-- How a command reads its first file. `other`: not as HeyVL. `spelled`: as a file, with the errors
-- 1 to 6. `typed`: as a typed file, with the static errors too.
pub data Front : Type 0 where
  other : Front
  spelled : Front
  typed : Front

-- A row of the table: how the first file is read; the text that the answers are on, made of the
-- bytes of the first file; and the reply to the bytes of both files, which are `[]` for a file that
-- the command does not have.
pub record Row : Type 1 where
  pub front : Front
  pub text : List ℕ → List ℕ
  pub says : List ℕ → List ℕ → Reply → Type 0

-- The row of a command whose answers are on its first file.
abbrev pub row : Front → (List ℕ → List ℕ → Reply → Type 0) → Row
row front says = record { front = front; text = λ bytes. bytes; says = says }

-- The table of the commands.
abbrev pub row_of : Settings → Row
row_of (commands.Verify file) = row Front.typed (λ bytes second. IsVerifyReply bytes)
row_of (commands.Print file) = row Front.spelled (λ bytes second. IsPrintReply bytes)
row_of (commands.Run file procedure script) =
    row Front.typed (λ bytes second. IsRunReply procedure bytes second)
row_of (commands.Certify file) = row Front.typed (λ bytes second. IsCertifyReply bytes)
row_of (commands.Check file certificates) =
    row Front.typed (λ bytes second. IsCheckReply bytes second)
row_of (commands.Gen n) =
    record (row Front.other (λ bytes second. IsGenReply n)) { text = λ bytes. generated_text n }
row_of (commands.Pgcl file) = row Front.other (λ bytes second. IsPgclReply bytes)
row_of (commands.Omega file procedure name) =
    row Front.typed (λ bytes second. IsOmegaReply procedure name bytes)
row_of (commands.Remainder file procedure name) =
    row Front.typed (λ bytes second. IsRemainderReply procedure name bytes)
row_of (commands.Refute file procedure script) =
    row Front.typed (λ bytes second. IsRefuteReply procedure bytes second)

-- ---- Its columns

-- The text that a command's answers are on: the generated one for `gen`, otherwise the bytes of its
-- file.
abbrev pub verified_text : Settings → List ℕ → List ℕ
verified_text settings bytes = (row_of settings).text bytes

-- The reply of a command to the bytes of its files.
abbrev pub IsReplyTo : Settings → List ℕ → List ℕ → Reply → Type 0
IsReplyTo settings bytes second reply = (row_of settings).says bytes second reply
