-- The other clauses of `translate`, from its clauses `found` and `fault`.
use Rattle.heyvl_parse.proofs.exported.Spellings.{no_spelling_fault}
use Rattle.heyvl_places.specs.declared.spans.Span.{Span}
use Rattle.heyvl_syntax.specs.Procedures.{Procedure, procedures}
use Rattle.heyvl_syntax.specs.SourceFaults.{IsLight}
use Rattle.heyvl_syntax.specs.declared.procedures.File.{File}
use Rattle.heyvl_syntax.specs.declared.tokens.Token.{Token}
use Rattle.guarded_commands.proofs.ProgramClauses.{fault_unique, unique}
use Rattle.guarded_commands.specs.Grammar.{IsProgram}
use Rattle.guarded_commands.specs.ProgramFaults.{IsPgclMemory, IsThisPgclStop}
use Rattle.guarded_commands.specs.Programs.{ProgramTree}
use Rattle.guarded_commands.specs.ReservedNames.{IsFirstReserved, IsReservedAt, IsTranslatable}
use Rattle.guarded_commands.specs.Translation.{first_place, translated}
use Rattle.guarded_commands.specs.TranslationFaults.{IsReservedFault, IsTranslationFault, IsTranslationStop, TranslationFaultIsUnique, TranslationsHaveNoFault}
use Rattle.guarded_commands.specs.Translations.{IsTranslation, TranslationIsUnique}
use Rattle.guarded_commands.specs.declared.stops.PgclStop.TheVariants.{Fault, Memory}
use Rattle.guarded_commands.specs.declared.stops.PgclStop.{PgclStop}
use Rattle.std.proofs.Common.{Err, IfErr, IfOk, List, MatchResult, Ok, Result, [], ap, arith, length, subst, sym, ◌<◌, ◌∙◌, ◌∷◌, ◌≡◌, ◌≤◌, ◌⊎◌, ℕ, inl, inr, refl}
use Rattle.std.proofs.lemmas.Bool.{cases_lt}

first_unique : (n : ℕ) (ts : List Token) (i j : ℕ) → IsFirstReserved n ts i → IsFirstReserved n ts j → i ≡ j
first_unique n ts i j h k = pick (cases_lt i j) (cases_lt j i)
  where
    pick : (i < j) ⊎ (j ≤ i) → (j < i) ⊎ (i ≤ j) → i ≡ j
    pick (inl a) b = absurd (k.before i a h.here)
    pick (inr a) (inl b) = absurd (h.before j b k.here)
    pick (inr a) (inr b) = omega arith

pub translation_unique : TranslationIsUnique
translation_unique ts file other h k =
    h.is_file ∙ (ap (λ (p : ProgramTree). translated (first_place ts) p ∷ []) (unique ts h.program k.program h.translatable.spelled k.translatable.spelled) ∙ sym k.is_file)

reserved_unique : (ts : List Token) (i j : ℕ) → IsReservedFault ts i → IsReservedFault ts j → i ≡ j
reserved_unique ts i j h k =
    let same = unique ts h.program k.program h.spelled k.spelled in
    first_unique (length k.program.declarations) ts i j (subst (λ (p : ProgramTree). IsFirstReserved (length p.declarations) ts i) same h.first) k.first

pub translation_fault_unique : TranslationFaultIsUnique
translation_fault_unique ts number other i j (IsTranslationFault.unspelled h) (IsTranslationFault.unspelled k) = fault_unique ts number other i j h k
translation_fault_unique ts number other i j (IsTranslationFault.unspelled h) (IsTranslationFault.reserved e k) = absurd (no_spelling_fault IsProgram 30 ts k.program number i k.light k.spelled h)
translation_fault_unique ts number other i j (IsTranslationFault.reserved e h) (IsTranslationFault.unspelled k) = absurd (no_spelling_fault IsProgram 30 ts h.program other j h.light h.spelled k)
translation_fault_unique ts number other i j (IsTranslationFault.reserved e h) (IsTranslationFault.reserved f k) = (e ∙ sym f, reserved_unique ts i j h k)

pub no_translation_fault : TranslationsHaveNoFault
no_translation_fault ts file number i h (IsTranslationFault.unspelled k) = no_spelling_fault IsProgram 30 ts h.program number i h.translatable.light h.translatable.spelled k
no_translation_fault ts file number i h (IsTranslationFault.reserved e k) =
    let same = unique ts k.program h.program k.spelled h.translatable.spelled in
    h.translatable.unreserved i (subst (λ (p : ProgramTree). IsFirstReserved (length p.declarations) ts i) same k.first).here

-- A program without reserved names is translated.
pub is_translation : (ts : List Token) (p : ProgramTree) (file : List Procedure) (n : ℕ) (place : Span) → n ≡ length p.declarations → IsLight ts → IsProgram p ts → ((i : ℕ) → IsReservedAt n ts i → ⊥)
    → place ≡ first_place ts → file ≡ translated place p ∷ [] → IsTranslation ts file
is_translation ts p file n place counted light spelled unreserved first is = record {
  program = p;
  translatable = record { light = light; spelled = spelled; unreserved = subst (λ (m : ℕ). (i : ℕ) → IsReservedAt m ts i → ⊥) counted unreserved };
  is_file = is ∙ ap (λ (s : Span). translated s p ∷ []) first;
}

module _ (ts : List Token) where
  abbrev Found : Result File PgclStop → Type 0
  Found result = IfOk result (λ file. IsTranslation ts (procedures file))

  translation_of : (p : ProgramTree) → IsTranslatable p ts → IsTranslation ts (translated (first_place ts) p ∷ [])
  translation_of p h = record { program = p; translatable = h; is_file = refl }

  pub only_translation : (result : Result File PgclStop) → Found result → IfErr result (λ stop. IsTranslationStop ts stop) → (p : ProgramTree) → IsTranslatable p ts
      → MatchResult result (λ file. procedures file ≡ translated (first_place ts) p ∷ []) (λ stop. IsPgclMemory stop)
  only_translation (Ok file) found fault p h = translation_unique ts (procedures file) (translated (first_place ts) p ∷ []) found (translation_of p h)
  only_translation (Err (Fault number i)) found fault p h = no_translation_fault ts (translated (first_place ts) p ∷ []) number i (translation_of p h) fault
  only_translation (Err (Memory error)) found fault p h = tt

  pub only_translation_fault : (result : Result File PgclStop) → Found result → IfErr result (λ stop. IsTranslationStop ts stop) → (number i : ℕ) → IsTranslationFault ts number i
      → MatchResult result (λ _. ⊥) (λ stop. IsThisPgclStop number i stop)
  only_translation_fault (Ok file) found fault number i h = no_translation_fault ts (procedures file) number i found h
  only_translation_fault (Err (Fault other j)) found fault number i h = translation_fault_unique ts other number j i fault h
  only_translation_fault (Err (Memory error)) found fault number i h = tt
