-- The files of programs of guarded commands that bytes spell, and the errors of programs. This
-- project's own.
use Rattle.spelled_files.specs.declared.stops.SourceStop.TheVariants.{Fault, Memory}
use Rattle.spelled_files.specs.declared.stops.SourceStop.{SourceStop}
use Rattle.heyvl_places.specs.declared.spans.Span.{Span}
use Rattle.heyvl_print.specs.Canonical.{canonical_text}
use Rattle.heyvl_print.specs.WithoutPlaces.{SameButPlaces}
use Rattle.heyvl_syntax.specs.Grammar.{Spells}
use Rattle.heyvl_syntax.specs.Procedures.{Procedure}
use Rattle.static_rules.specs.Files.{first_fault}
use Rattle.pgcl_front.specs.EqualSums.{HasSumsOf, IsGuardedBound}
use Rattle.pgcl_front.specs.Programs.{ProgramTree}
use Rattle.pgcl_front.specs.Sources.{IsPgclFault, IsPgclSource}
use Rattle.std.specs.Prelude.{List, None, Some, ◌≡◌, ℕ}

-- `bytes` spell a program that is translated to `file`, and `file` has no static error.
pub record IsProgramFile (bytes : List ℕ) (file : List Procedure) : Type 0 where
  pub source : IsPgclSource bytes file
  pub faultless : first_fault file ≡ None

-- The program that the bytes spell.
abbrev pub program_of : (bytes : List ℕ) (file : List Procedure) → IsProgramFile bytes file
    → ProgramTree
program_of bytes file p = p.source.translation.program

-- Each sum of the program that the bytes spell is at most its pre.
abbrev pub IsProgramBounded : (bytes : List ℕ) (file : List Procedure) → IsProgramFile bytes file
    → Type 0
IsProgramBounded bytes file p = IsGuardedBound (program_of bytes file p)

-- `file` has the sums of `program`, and so has each file that its canonical text spells.
pub record KeepsSumsOf (program : ProgramTree) (file : List Procedure) : Type 0 where
  pub made : HasSumsOf program file
  pub written : (other : List Procedure) → Spells (canonical_text file) other
      → HasSumsOf program other

-- If `bytes` spell a program whose file is `file`, this file has the sums of the program, and so
-- has each file that its canonical text spells.
abbrev pub HasProgramSums : List ℕ → List Procedure → Type 0
HasProgramSums bytes file = (p : IsProgramFile bytes file)
    → KeepsSumsOf (program_of bytes file p) file

-- The first error of a program with these bytes: one of 1 to 3, 5, 30 and 31, or else the first
-- static error of its file, at the place of the part of the program from which the erroneous part
-- was made.
pub data IsProgramFault (bytes : List ℕ) (number : ℕ) (place : Span) : Type 0 where
  spelling : IsPgclFault bytes number place → IsProgramFault bytes number place
  static : (file : List Procedure) → IsPgclSource bytes file
      → first_fault file ≡ Some (number, place) → IsProgramFault bytes number place

-- Why bytes are not translated: an error of bytes, tokens or names, or memory ran out.
abbrev pub IsTranslationStop : List ℕ → SourceStop → Type 0
IsTranslationStop bytes (Fault number place) = IsPgclFault bytes number place
IsTranslationStop bytes (Memory error) = Unit {0}

-- Why a program is refused: its first error, or memory ran out.
abbrev pub IsProgramStop : List ℕ → SourceStop → Type 0
IsProgramStop bytes (Fault number place) = IsProgramFault bytes number place
IsProgramStop bytes (Memory error) = Unit {0}

-- Each file of a program has the sums of this program, and so has each file that its canonical text
-- spells.
abbrev pub ProgramFilesHaveSums : Type 0
ProgramFilesHaveSums = (bytes : List ℕ) (file : List Procedure) → HasProgramSums bytes file

-- A program has one file at most.
abbrev pub ProgramFileIsUnique : Type 0
ProgramFileIsUnique = (bytes : List ℕ) (file other : List Procedure) → IsProgramFile bytes file
    → IsProgramFile bytes other → file ≡ other

-- A program has one first error at most.
abbrev pub ProgramFaultIsUnique : Type 0
ProgramFaultIsUnique =
    (bytes : List ℕ) (number other : ℕ) (place at : Span) → IsProgramFault bytes number place
    → IsProgramFault bytes other at → (number ≡ other) × (place ≡ at)

-- A program does not have both a file without a static error and a first error.
abbrev pub ProgramFilesHaveNoFault : Type 0
ProgramFilesHaveNoFault = (bytes : List ℕ) (file : List Procedure) (number : ℕ) (place : Span)
    → IsProgramFile bytes file → IsProgramFault bytes number place → ⊥

-- The canonical text of the file of a program spells this file again, up to places.
abbrev pub ProgramFilesAreSpelled : Type 0
ProgramFilesAreSpelled = (bytes : List ℕ) (file : List Procedure) → IsProgramFile bytes file
    → (other : List Procedure) × Spells (canonical_text file) other × SameButPlaces file other
