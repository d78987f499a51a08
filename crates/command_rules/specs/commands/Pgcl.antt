-- `pgcl FILE`: the HeyVL file of a program of guarded commands. This project's own.
use Rattle.spelled_files.specs.Programs.{IsProgramFault, IsProgramFile}
use Rattle.heyvl_places.specs.declared.spans.Span.{Span}
use Rattle.heyvl_print.specs.WithoutPlaces.{SameButPlaces}
use Rattle.heyvl_syntax.specs.Grammar.{Spells}
use Rattle.heyvl_syntax.specs.Procedures.{Procedure}
use Rattle.command_rules.specs.Messages.{Reply, source_fault}
use Rattle.command_rules.specs.commands.Print.{printed}
use Rattle.std.specs.Prelude.{List, ◌≡◌, ℕ}

-- `IsPgclReply bytes reply`: `reply` is the reply of `pgcl` to a program with the bytes `bytes`:
-- its first error, at its place, or else the canonical text of its file.
pub data IsPgclReply (bytes : List ℕ) (reply : Reply) : Type 0 where
  by_fault : (number : ℕ) (place : Span) → IsProgramFault bytes number place
      → reply ≡ source_fault bytes number place → IsPgclReply bytes reply
  by_file : (file : List Procedure) → IsProgramFile bytes file → reply ≡ printed file
      → IsPgclReply bytes reply

-- If `bytes` spell a program without an error, `pgcl` writes the canonical text of its file, and
-- this text spells the file again, up to places.
abbrev pub ProgramsAreTranslated : Type 0
ProgramsAreTranslated = (bytes : List ℕ) (file : List Procedure) (reply : Reply)
    → IsProgramFile bytes file → IsPgclReply bytes reply
    → (reply ≡ printed file)
    × ((other : List Procedure) × Spells reply.output other × SameButPlaces file other)

-- If `bytes` have an error as a program, `pgcl` reports the first one, and nothing else.
abbrev pub ProgramFaultsAreTold : Type 0
ProgramFaultsAreTold = (bytes : List ℕ) (number : ℕ) (place : Span) (reply : Reply)
    → IsProgramFault bytes number place → IsPgclReply bytes reply
    → reply ≡ source_fault bytes number place
