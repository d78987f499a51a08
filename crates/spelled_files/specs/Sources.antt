-- Files of HeyVL that bytes spell: their errors, and their typed trees. This project's own.
use Rattle.heyvl_acts.specs.FormSizes.{FormsWithin}
use Rattle.heyvl_acts.specs.PlainActs.{procedures_of}
use Rattle.heyvl_acts.specs.Rules.{Each, MeetsAllRules}
use Rattle.heyvl_acts.specs.declared.typed_trees.Typed.{Typed}
use Rattle.heyvl_places.specs.declared.spans.Span.{Span}
use Rattle.heyvl_syntax.specs.Procedures.{Procedure}
use Rattle.heyvl_syntax.specs.SourceFaults.{IsSource, IsSourceFault}
use Rattle.spelled_files.specs.declared.stops.SourceStop.TheVariants.{Fault, Memory}
use Rattle.spelled_files.specs.declared.stops.SourceStop.{SourceStop}
use Rattle.static_rules.specs.Files.{first_fault, resolved}
use Rattle.std.specs.Prelude.{List, None, Some, length, ◌^◌, ◌≡◌, ℕ}
use Rattle.heyvl_acts.specs.StandingParts.{StandsWithin}

-- The largest number of bytes of a file.
abbrev pub file_limit : ℕ
file_limit = 1048576

-- `IsFileFault bytes number place`: the error of a file with the bytes `bytes` has the number
-- `number` and the place `place`. It is the first of the errors 1 to 6, or else the first static
-- error of the file that `bytes` spell.
pub data IsFileFault (bytes : List ℕ) (number : ℕ) (place : Span) : Type 0 where
  spelling : IsSourceFault bytes number place → IsFileFault bytes number place
  static : (file : List Procedure) → IsSource bytes file → first_fault file ≡ Some (number, place)
      → IsFileFault bytes number place

-- A typed tree that every command may use: it satisfies the static rules, its forms are small, and
-- its places are within `bytes`.
pub record IsReady (bytes : List ℕ) (typed : Typed) : Type 0 where
  pub rules : MeetsAllRules typed
  pub small : Each (FormsWithin (2 ^ 27)) (procedures_of typed)
  pub stand : Each (StandsWithin (length bytes)) (procedures_of typed)

-- `typed` is the typed tree of the file that `bytes` spell, and this file has no error.
pub record IsTypedSource (bytes : List ℕ) (typed : Typed) : Type 0 where
  pub file : List Procedure
  pub spelled : IsSource bytes file
  pub faultless : first_fault file ≡ None
  pub same : procedures_of typed ≡ resolved file
  pub ready : IsReady bytes typed

-- Why bytes are refused: one of the errors 1 to 6, or memory ran out.
abbrev pub IsSpellingStop : List ℕ → SourceStop → Type 0
IsSpellingStop bytes (Fault number place) = IsSourceFault bytes number place
IsSpellingStop bytes (Memory error) = Unit {0}

-- Why a file is refused: its error, or memory ran out.
abbrev pub IsSourceStop : List ℕ → SourceStop → Type 0
IsSourceStop bytes (Fault number place) = IsFileFault bytes number place
IsSourceStop bytes (Memory error) = Unit {0}
