-- Laws of the errors of files that the commands report. This project's own.
use Rattle.heyvl_places.specs.declared.spans.Span.{Span}
use Rattle.heyvl_syntax.specs.Procedures.{Procedure}
use Rattle.heyvl_syntax.specs.SourceFaults.{IsSource, IsSourceFault}
use Rattle.spelled_files.specs.Sources.{IsFileFault}
use Rattle.command_rules.specs.Messages.{Reply, source_fault}
use Rattle.command_rules.specs.commands.{Front, IsReplyTo, row_of}
use Rattle.command_rules.specs.declared.faults.Fault.TheVariants.{Source}
use Rattle.command_words.specs.declared.requests.Settings.{Settings}
use Rattle.static_rules.specs.Files.{first_fault}
use Rattle.std.specs.Prelude.{List, Some, ◌≡◌, ℕ}

-- If `bytes` spell a file with a static error, each command that types its file reports the first
-- one, and nothing else.
abbrev pub StaticFaultsAreTold : Type 0
StaticFaultsAreTold =
    (settings : Settings) (bytes second : List ℕ) (file : List Procedure) (number : ℕ)
    (place : Span) (reply : Reply) → (row_of settings).front ≡ Front.typed → IsSource bytes file
    → first_fault file ≡ Some (number, place) → IsReplyTo settings bytes second reply
    → reply ≡ source_fault bytes number place

-- `MayTell front bytes number place`: a command that reads its first file as `front` may report the
-- error `number` at `place` of `bytes`.
abbrev pub MayTell : Front → List ℕ → ℕ → Span → Type 0
MayTell Front.other bytes number place = Unit {0}
MayTell Front.spelled bytes number place = IsSourceFault bytes number place
MayTell Front.typed bytes number place = IsFileFault bytes number place

-- An error of HeyVL that a command reports is the first of the bytes or, if the command types its
-- file, the first static one of the file that they spell.
abbrev pub ToldFaultsAreThere : Type 0
ToldFaultsAreThere =
    (settings : Settings) (bytes second : List ℕ) (number : ℕ) (place : Span) (reply : Reply)
    → IsReplyTo settings bytes second reply → reply.fault ≡ Source number place
    → MayTell (row_of settings).front bytes number place
