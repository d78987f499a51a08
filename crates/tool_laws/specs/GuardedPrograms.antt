-- What a user may rely on if `pgcl` writes the file of a program of guarded commands. This
-- project's own.
use Rattle.spelled_files.specs.Programs.{IsProgramBounded, IsProgramFile, KeepsSumsOf, program_of}
use Rattle.heyvl_print.specs.Canonical.{canonical_text}
use Rattle.heyvl_print.specs.WithoutPlaces.{SameButPlaces}
use Rattle.heyvl_syntax.specs.Grammar.{Spells}
use Rattle.heyvl_syntax.specs.Procedures.{Procedure}
use Rattle.tool_laws.specs.Calls.{AreRead, Call}
use Rattle.tool_laws.specs.Headline.{IsVerifiedFrom}
use Rattle.tool_laws.specs.Outcomes.{IsWritten, Writing}
use Rattle.command_words.specs.Words.{AskFor}
use Rattle.command_rules.specs.commands.Print.{printed}
use Rattle.command_rules.specs.commands.{verified_text}
use Rattle.command_words.specs.Requests.{Files}
use Rattle.command_rules.specs.declared.faults.Fault.TheVariants.{Nothing}
use Rattle.tool_laws.specs.declared.outcomes.Outcome.{Outcome}
use Rattle.command_words.specs.declared.requests.Settings.TheVariants.{Pgcl}
use Rattle.command_words.specs.declared.requests.Settings.{Settings}
use Rattle.std.specs.Prelude.{List, [], ◌≡◌, ℕ}
use Rattle.verdict_report.specs.VerdictsOn.{IsVerdictOn}
use Rattle.verdict_report.specs.declared.answers.Verdict.TheVariants.{Verified}

-- If a later call, with any arguments and devices, verifies the canonical text of `file` and
-- reports its first procedure, `main`, as verified, each sum of the program is at most its pre.
abbrev pub IsBoundWhereVerified : (bytes : List ℕ) (file : List Procedure)
    → IsProgramFile bytes file → Type 0
IsBoundWhereVerified bytes file becomes =
    (settings : Settings) (later : Call) (end : Writing) (told : Outcome)
    (v : IsVerifiedFrom settings later end told)
    → verified_text settings v.bytes ≡ canonical_text file
    → IsVerdictOn told.answers.items 0 Verified → IsProgramBounded bytes file becomes

-- The canonical text of `file` spells `file` again, up to places.
pub record IsSpelledAgain (file : List Procedure) : Type 0 where
  pub other : List Procedure
  pub spells : Spells (canonical_text file) other
  pub same : SameButPlaces file other

-- A call of `pgcl` wrote the file of a program, as a whole and nothing else.
--
-- The bytes that were read are those that the source holds, if it reports them. They spell a
-- program of guarded commands that is translated to `file`, and `file` has no static error. `file`
-- was written in its canonical text, which spells it again up to places. The upper sums of the
-- program's runs, by the steps of guarded commands, are those of `main` in `file` and in each file
-- that the text spells. If the bound of `main` holds in one of these files, or if a later call
-- verifies the text and reports `main` as verified, each sum is at most the program's pre.
pub record IsTranslatedFrom (name : List ℕ) (made : Call) (done : Writing) (outcome : Outcome)
    : Type 0 where
  pub bytes : List ℕ
  pub read : AreRead (Files.one name) made.names bytes [] made.before made.after
  pub file : List Procedure
  pub becomes : IsProgramFile bytes file
  pub spelled : IsSpelledAgain file
  pub sums : KeepsSumsOf (program_of bytes file becomes) file
  pub written : IsWritten (printed file) done outcome
  pub verified : IsBoundWhereVerified bytes file becomes

-- If `pgcl` ends without an error, `IsTranslatedFrom` holds for the file `name` that the call
-- names.
abbrev pub ProgramsAreMeant : Call → Writing → Outcome → Type 0
ProgramsAreMeant made done outcome = (name : List ℕ) → AskFor made.words (Pgcl name)
    → outcome.fault ≡ Nothing → IsTranslatedFrom name made done outcome
