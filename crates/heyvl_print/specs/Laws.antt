-- Laws of the canonical text.
use Rattle.heyvl_print.specs.Canonical.{canonical_text}
use Rattle.heyvl_print.specs.Printable.{ArePrintable}
use Rattle.heyvl_print.specs.WithoutPlaces.{SameButPlaces}
use Rattle.heyvl_syntax.specs.Grammar.{IsFile, Spells}
use Rattle.heyvl_syntax.specs.Procedures.{Procedure}
use Rattle.heyvl_syntax.specs.Tokens.{Lexes}
use Rattle.heyvl_syntax.specs.declared.tokens.Token.{Token}
use Rattle.std.specs.Prelude.{List, ◌≡◌, ℕ}

-- If some bytes spell `file`, its canonical text spells the same file, up to places.
abbrev pub PrintedTextSpells : Type 0
PrintedTextSpells =
    (bytes : List ℕ) (file : List Procedure) → Spells bytes file →
    (other : List Procedure) × Spells (canonical_text file) other × SameButPlaces file other

-- If some tokens spell `file` and all of them are printable, its canonical text spells the same
-- file, up to places.
abbrev pub PrintableFilesSpell : Type 0
PrintableFilesSpell =
    (tokens : List Token) (file : List Procedure) → ArePrintable tokens → IsFile file tokens →
    (other : List Procedure) × Spells (canonical_text file) other × SameButPlaces file other

-- The tokens of bytes are printable.
abbrev pub LexedTokensArePrintable : Type 0
LexedTokensArePrintable = (bytes : List ℕ) (tokens : List Token) → Lexes 0 bytes tokens
    → ArePrintable tokens

-- Files that differ in places alone have the same canonical text.
abbrev pub TextIgnoresPlaces : Type 0
TextIgnoresPlaces = (file other : List Procedure) → SameButPlaces file other
    → canonical_text file ≡ canonical_text other

-- If some bytes spell `file`, its canonical text spells a file whose canonical text it is too:
-- printing twice changes nothing more.
abbrev pub PrintingIsStable : Type 0
PrintingIsStable =
    (bytes : List ℕ) (file : List Procedure) → Spells bytes file →
    (other : List Procedure) × Spells (canonical_text file) other
    × (canonical_text other ≡ canonical_text file)
