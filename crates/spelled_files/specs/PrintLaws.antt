-- Laws of printing a file that bytes spell. This project's own.
use Rattle.heyvl_print.specs.Canonical.{canonical_text}
use Rattle.heyvl_syntax.specs.Grammar.{Spells}
use Rattle.heyvl_syntax.specs.Procedures.{Procedure}
use Rattle.std.specs.Prelude.{List, ◌≡◌, ℕ}

-- Bytes spell one file at most, places included.
abbrev pub SpellingIsUnique : Type 0
SpellingIsUnique = (bytes : List ℕ) (file other : List Procedure) → Spells bytes file
    → Spells bytes other → file ≡ other

-- If the canonical text of a file spells a file, this text is also the canonical text of that file:
-- printing a printed text yields the same bytes.
abbrev pub PrintedTextPrintsItself : Type 0
PrintedTextPrintsItself =
    (bytes : List ℕ) (file other : List Procedure) → Spells bytes file
    → Spells (canonical_text file) other → canonical_text other ≡ canonical_text file
