-- The file that tokens are translated to. This project's own.
use Rattle.heyvl_print.specs.Canonical.{canonical_text}
use Rattle.heyvl_print.specs.WithoutPlaces.{SameButPlaces}
use Rattle.heyvl_syntax.specs.Grammar.{Spells}
use Rattle.heyvl_syntax.specs.Procedures.{Procedure}
use Rattle.heyvl_syntax.specs.Tokens.{Lexes}
use Rattle.heyvl_syntax.specs.declared.tokens.Token.{Token}
use Rattle.guarded_commands.specs.Programs.{ProgramTree}
use Rattle.guarded_commands.specs.ReservedNames.{IsTranslatable}
use Rattle.guarded_commands.specs.Translation.{first_place, translated}
use Rattle.std.specs.Prelude.{List, [], ◌∷◌, ◌≡◌, ℕ}

-- `IsTranslation tokens file`: `tokens` spell a program within the limit of the load and without a
-- reserved name, and `file` holds its translation alone.
pub record IsTranslation (tokens : List Token) (file : List Procedure) : Type 0 where
  pub program : ProgramTree
  pub translatable : IsTranslatable program tokens
  pub is_file : file ≡ translated (first_place tokens) program ∷ []

-- If the tokens of some bytes are translated to `file`, its canonical text spells the same file, up
-- to places.
abbrev pub TranslationsSpell : Type 0
TranslationsSpell =
    (bytes : List ℕ) (tokens : List Token) (file : List Procedure) → Lexes 0 bytes tokens
    → IsTranslation tokens file
    → (other : List Procedure) × Spells (canonical_text file) other × SameButPlaces file other

-- Tokens are translated to at most one file.
abbrev pub TranslationIsUnique : Type 0
TranslationIsUnique = (tokens : List Token) (file other : List Procedure)
    → IsTranslation tokens file → IsTranslation tokens other → file ≡ other
