-- The file of a program has its sums, and so has each file that the canonical text of this file
-- spells.
use Rattle.spelled_files.specs.PrintLaws.{SpellingIsUnique}
use Rattle.spelled_files.specs.Programs.{IsProgramFile, ProgramFilesAreSpelled, ProgramFilesHaveSums, program_of}
use Rattle.heyvl_print.specs.Canonical.{canonical_text}
use Rattle.heyvl_print.specs.WithoutPlaces.{SameButPlaces}
use Rattle.heyvl_syntax.specs.Grammar.{Spells}
use Rattle.heyvl_syntax.specs.Procedures.{Procedure}
use Rattle.pgcl_front.specs.EqualSums.{BoundsCarryOver, HasSumsOf, SumsAreEqual}
use Rattle.pgcl_front.specs.Programs.{ProgramTree}
use Rattle.placeless_files.specs.PlacelessRuns.{BoundsIgnorePlaces, StatesIgnorePlaces, SumsIgnorePlaces}
use Rattle.std.proofs.Common.{List, length, subst, sym, true, ◌+◌, ◌∙◌, ℕ}

spells_the_same : ProgramFilesAreSpelled → SpellingIsUnique → (bytes : List ℕ) (file other : List Procedure) → IsProgramFile bytes file → Spells (canonical_text file) other → SameButPlaces file other
spells_the_same spelled unique bytes file other p h =
    let again = spelled bytes file p in
    subst (λ (f : List Procedure). SameButPlaces file f) (unique (canonical_text file) again.0 other again.1 h) again.2

sums_kept : StatesIgnorePlaces → SumsIgnorePlaces → BoundsIgnorePlaces → (program : ProgramTree) (file other : List Procedure) → SameButPlaces file other → HasSumsOf program file → HasSumsOf program other
sums_kept states sums bounds program file other e h = record {
  equal = λ start st n tree. h.equal start (states other file (sym e) 0 start st) n tree ∙ sums file other e true 0 (n + length program.declarations) start tree;
  bounded = λ b. h.bounded (bounds other file (sym e) 0 b);
}

module _ (equal : SumsAreEqual) (carry : BoundsCarryOver) (states : StatesIgnorePlaces) (sums : SumsIgnorePlaces) (bounds : BoundsIgnorePlaces) (spelled : ProgramFilesAreSpelled) (unique : SpellingIsUnique) where
  made_sums : (bytes : List ℕ) (file : List Procedure) (p : IsProgramFile bytes file) → HasSumsOf (program_of bytes file p) file
  made_sums bytes file p = record {
    equal = equal p.source.tokens file p.source.translation p.faultless;
    bounded = carry p.source.tokens file p.source.translation p.faultless;
  }

  pub has_sums : ProgramFilesHaveSums
  has_sums bytes file p = record {
    made = made_sums bytes file p;
    written = λ other h. sums_kept states sums bounds (program_of bytes file p) file other (spells_the_same spelled unique bytes file other p h) (made_sums bytes file p);
  }
