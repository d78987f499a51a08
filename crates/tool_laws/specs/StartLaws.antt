-- The law of the number of names that are started. This project's own.
use Rattle.heyvl_io.specs.Order.{first, other}
use Rattle.tool_laws.specs.Calls.{Call}
use Rattle.tool_laws.specs.Outcomes.{IsAnswered, IsOutOfMemory, Writing}
use Rattle.tool_laws.specs.SourceUses.{IsStartedRight}
use Rattle.command_words.specs.Words.{AskFor}
use Rattle.command_words.specs.Requests.{Files, files_of}
use Rattle.command_rules.specs.declared.faults.Fault.TheVariants as faults
use Rattle.command_rules.specs.declared.faults.Fault.{Fault}
use Rattle.tool_laws.specs.declared.outcomes.Outcome.{Outcome}
use Rattle.command_words.specs.declared.requests.Settings.{Settings}
use Rattle.std.specs.Prelude.{IfSome, List, None, Option, Some, slice_get, ◌+◌, ◌≡◌, ◌≢◌, ◌⊎◌, ℕ}

-- The number of names that were started, if the fault implies it.
abbrev pub starts_of : Fault → Option ℕ
starts_of faults.Nothing = None
starts_of faults.Usage = Some 0
starts_of (faults.Read k) = Some (k + 1)
starts_of (faults.TooLong k) = Some (k + 1)
starts_of (faults.Source number place) = None
starts_of (faults.Cert line) = None
starts_of (faults.Script line) = None
starts_of faults.NoProcedure = None
starts_of faults.Shape = None
starts_of (faults.NotProgram p) = None
starts_of (faults.Run stopped) = None
starts_of faults.Write = None
starts_of faults.Memory = None

-- The files are the first of the names, in their order.
abbrev pub AreFirst : Files → List (List ℕ) → Type 0
AreFirst Files.none names = Unit {0}
AreFirst (Files.one file) names = slice_get names 0 ≡ Some file
AreFirst (Files.two file second) names =
    (slice_get names 0 ≡ Some file) × (slice_get names 1 ≡ Some second)

-- Before the call, the source has started nothing, and its first names are the files of the
-- arguments. It reports the order of its starts.
pub record HasNamesOf (made : Call) : Type 0 where
  pub fresh : made.before.order ≡ first 0
  pub files : (settings : Settings) → AskFor made.words settings
      → AreFirst (files_of settings) made.names.order

-- The names are started in their order, as many as the fault implies. A command without files, such
-- as `gen`, starts none, whatever its fault.
abbrev pub StartsAreCounted : Type 0
StartsAreCounted =
    (made : Call) (done : Writing) (outcome : Outcome) → HasNamesOf made
    → IsStartedRight made (outcome.fault ≡ faults.Memory) → IsAnswered made done outcome
    ⊎ IsOutOfMemory done outcome
    → IfSome (starts_of outcome.fault) (λ n. made.after.order ≡ first n)
    × ((made.after.order ≢ other)
    × ((settings : Settings) → AskFor made.words settings → files_of settings ≡ Files.none
    → made.after.order ≡ first 0))
