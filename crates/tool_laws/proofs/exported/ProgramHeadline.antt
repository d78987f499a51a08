-- The meaning of the file that `pgcl` writes, from the reply of a call.
use Rattle.spelled_files.specs.Programs.{IsProgramFile, KeepsSumsOf, ProgramFilesHaveSums, program_of}
use Rattle.heyvl_syntax.specs.Grammar.{Spells}
use Rattle.heyvl_syntax.specs.Procedures.{Procedure}
use Rattle.heyvl_syntax.specs.SourceFaults.{IsSource}
use Rattle.tool_laws.proofs.exported.CallLemmas.CameTo.{failed, said, too_long}
use Rattle.tool_laws.proofs.exported.CallLemmas.{CameTo, came_to}
use Rattle.tool_laws.proofs.exported.RunHeadline.{fault_is, no_read, no_source, not_long, written_whole}
use Rattle.tool_laws.specs.Calls.{Call}
use Rattle.tool_laws.specs.GuardedPrograms.{IsBoundWhereVerified, IsSpelledAgain, IsTranslatedFrom, ProgramsAreMeant}
use Rattle.command_rules.specs.Messages.{Reply}
use Rattle.tool_laws.specs.Outcomes.{HasCause, IsDelivered, IsWritten, Writing}
use Rattle.command_rules.specs.commands.Pgcl.IsPgclReply.{by_fault, by_file}
use Rattle.command_rules.specs.commands.Pgcl.{IsPgclReply, ProgramsAreTranslated}
use Rattle.command_rules.specs.commands.Print.{printed}
use Rattle.command_words.specs.Requests.{Files}
use Rattle.command_rules.specs.declared.faults.Fault.TheVariants as faults
use Rattle.tool_laws.specs.declared.outcomes.Outcome.{Outcome}
use Rattle.command_words.specs.declared.requests.Settings.TheVariants.{Pgcl}
use Rattle.std.proofs.Common.{List, refl, subst, sym, ◌∙◌, ◌≡◌, ℕ}

record Translated (bytes : List ℕ) (reply : Reply) : Type 0 where
  file : List Procedure
  becomes : IsProgramFile bytes file
  told : reply ≡ printed file

translated_by : (bytes : List ℕ) (reply : Reply) → reply.fault ≡ faults.Nothing → IsPgclReply bytes reply → Translated bytes reply
translated_by bytes reply finished (by_fault number place fault e) = absurd (no_source number place (fault_is reply _ faults.Nothing e finished))
translated_by bytes reply finished (by_file file is e) = record { file = file; becomes = is; told = e }

-- If a call verifies the text of a file with the sums of a program and reports `main` as verified,
-- its bound is one of the program.
bounded_where_verified : (bytes : List ℕ) (file : List Procedure) (p : IsProgramFile bytes file) → KeepsSumsOf (program_of bytes file p) file → IsBoundWhereVerified bytes file p
bounded_where_verified bytes file p sums settings later end told v same main =
    let spelled = subst (λ (text : List ℕ). IsSource text v.file) same v.spelled in
    let kept = sums.written v.file (record { tokens = spelled.tokens; lexes = spelled.lexes; is_file = spelled.is_file }) in
    kept.bounded (v.headline.verified 0 main)

spelled_again : ProgramsAreTranslated → (bytes : List ℕ) (reply : Reply) (t : Translated bytes reply) → IsPgclReply bytes reply → IsSpelledAgain t.file
spelled_again translated bytes reply t replied =
    let k = translated bytes t.file reply t.becomes replied in
    record { other = k.1.0; spells = subst (λ (r : Reply). Spells r.output k.1.0) t.told k.1.1; same = k.1.2 }

from_came : ProgramFilesHaveSums → ProgramsAreTranslated → (name : List ℕ) (made : Call) (done : Writing) (outcome : Outcome) (reply : Reply) → outcome.fault ≡ faults.Nothing → IsWritten reply done outcome → CameTo (Pgcl name) (Files.one name) made reply
    → IsTranslatedFrom name made done outcome
from_came summed translated name made done outcome reply finished written (failed k rose e) = absurd (no_read k (fault_is reply _ faults.Nothing e (sym written.fault ∙ finished)))
from_came summed translated name made done outcome reply finished written (too_long k taken e) = absurd (not_long k (fault_is reply _ faults.Nothing e (sym written.fault ∙ finished)))
from_came summed translated name made done outcome reply finished written (said bytes text read replied) =
    let t = translated_by bytes reply (sym written.fault ∙ finished) replied in
    let sums = summed bytes t.file t.becomes in
    record {
      bytes = bytes;
      read = (read.0, refl);
      file = t.file;
      becomes = t.becomes;
      spelled = spelled_again translated bytes reply t replied;
      sums = sums;
      written = subst (λ (r : Reply). IsWritten r done outcome) t.told written;
      verified = bounded_where_verified bytes t.file t.becomes sums;
    }

pub programs_meant : ProgramFilesHaveSums → ProgramsAreTranslated → (made : Call) (done : Writing) (outcome : Outcome) (reply : Reply) → HasCause made reply → IsDelivered reply done outcome → ProgramsAreMeant made done outcome
programs_meant summed translated made done outcome reply cause delivered name asks finished =
    from_came summed translated name made done outcome reply finished (written_whole reply done outcome finished delivered.delivered) (came_to (Pgcl name) made reply asks cause)
