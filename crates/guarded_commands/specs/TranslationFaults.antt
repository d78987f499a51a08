-- The first error of tokens that have to be translated. This project's own.
use Rattle.heyvl_syntax.specs.Procedures.{Procedure}
use Rattle.heyvl_syntax.specs.SourceFaults.{IsLight}
use Rattle.heyvl_syntax.specs.declared.tokens.Token.{Token}
use Rattle.guarded_commands.specs.Grammar.{IsProgram}
use Rattle.guarded_commands.specs.ProgramFaults.{IsProgramFault}
use Rattle.guarded_commands.specs.Programs.{ProgramTree}
use Rattle.guarded_commands.specs.ReservedNames.{IsFirstReserved}
use Rattle.guarded_commands.specs.Translations.{IsTranslation}
use Rattle.guarded_commands.specs.declared.stops.PgclStop.TheVariants as stops
use Rattle.guarded_commands.specs.declared.stops.PgclStop.{PgclStop}
use Rattle.std.specs.Prelude.{List, length, ◌≡◌, ℕ}

-- The tokens spell a program within the limit of the load, and their first reserved name has the
-- index `i`.
pub record IsReservedFault (tokens : List Token) (i : ℕ) : Type 0 where
  pub program : ProgramTree
  pub light : IsLight tokens
  pub spelled : IsProgram program tokens
  pub first : IsFirstReserved (length program.declarations) tokens i

-- `IsTranslationFault tokens number i`: the first error of `tokens` is `number` at the index `i`.
-- It is 5 or 30 if they spell no program within the limit of the load, otherwise 31 at the first
-- reserved name.
pub data IsTranslationFault (tokens : List Token) (number i : ℕ) : Type 0 where
  unspelled : IsProgramFault tokens number i → IsTranslationFault tokens number i
  reserved : number ≡ 31 → IsReservedFault tokens i → IsTranslationFault tokens number i

-- `IsTranslationStop tokens stop`: `stop` is the first error of `tokens` in translation, or says
-- that memory ran out.
abbrev pub IsTranslationStop : List Token → PgclStop → Type 0
IsTranslationStop tokens (stops.Fault number i) = IsTranslationFault tokens number i
IsTranslationStop tokens (stops.Memory error) = Unit {0}

-- Tokens have at most one first error in translation.
abbrev pub TranslationFaultIsUnique : Type 0
TranslationFaultIsUnique =
    (tokens : List Token) (number other i j : ℕ) → IsTranslationFault tokens number i
    → IsTranslationFault tokens other j → (number ≡ other) × (i ≡ j)

-- Tokens that are translated have no error.
abbrev pub TranslationsHaveNoFault : Type 0
TranslationsHaveNoFault = (tokens : List Token) (file : List Procedure) (number i : ℕ)
    → IsTranslation tokens file → IsTranslationFault tokens number i → ⊥
