-- A program has one file, or one first error.
use Rattle.spelled_files.specs.Programs.IsProgramFault.{spelling, static}
use Rattle.spelled_files.specs.Programs.{IsProgramStop, IsTranslationStop, ProgramFaultIsUnique, ProgramFileIsUnique, ProgramFilesAreSpelled, ProgramFilesHaveNoFault}
use Rattle.spelled_files.specs.declared.stops.SourceStop.TheVariants.{Fault, Memory}
use Rattle.spelled_files.specs.declared.stops.SourceStop.{SourceStop}
use Rattle.heyvl_places.specs.declared.spans.Span.{Span}
use Rattle.static_rules.specs.Files.{first_fault}
use Rattle.typed_expressions.specs.Findings.{Finding}
use Rattle.pgcl_front.specs.Sources.IsPgclFault.{unlexed}
use Rattle.pgcl_front.specs.Sources.{IsPgclFault, PgclFaultIsUnique, PgclSourceIsUnique, PgclSourcesHaveNoFault}
use Rattle.pgcl_front.specs.Translations.{TranslationsSpell}
use Rattle.heyvl_syntax.specs.Tokens.{Stops}
use Rattle.std.proofs.Common.{List, None, Option, Some, ap, sym, ◌∙◌, ◌≡◌, ℕ}

pub stops_program : (bytes : List ℕ) (stop : SourceStop) → IsTranslationStop bytes stop → IsProgramStop bytes stop
stops_program bytes (Fault number place) h = spelling h
stops_program bytes (Memory error) h = tt

pub unlexed_at : (bytes : List ℕ) (n m : ℕ) (p q : Span) → m ≡ n → q ≡ p → Stops 0 bytes n p → IsPgclFault bytes m q
unlexed_at bytes n m p q e f h = unlexed (rw (e, f) h)

pub file_unique : PgclSourceIsUnique → ProgramFileIsUnique
file_unique one bytes file other h k = one bytes file other h.source k.source

pub spelled : TranslationsSpell → ProgramFilesAreSpelled
spelled spell bytes file h = spell bytes h.source.tokens file h.source.lexes h.source.translation

no_fault_is_none : (f : Finding) → ◌≡◌ {A = Option Finding} None (Some f) → ⊥
no_fault_is_none f e = cc

one_finding : (n m : ℕ) (p q : Span) → ◌≡◌ {A = Option Finding} (Some (n, p)) (Some (m, q)) → (n ≡ m) × (p ≡ q)
one_finding n m p q e = let same : ◌≡◌ {A = Finding} (n, p) (m, q) = cc in (ap (λ (f : Finding). f.0) same, ap (λ (f : Finding). f.1) same)

module _ (one : PgclSourceIsUnique) (first : PgclFaultIsUnique) (clean : PgclSourcesHaveNoFault) where
  pub fault_unique : ProgramFaultIsUnique
  fault_unique bytes n m p q (spelling h) (spelling k) = first bytes n m p q h k
  fault_unique bytes n m p q (spelling h) (static file is found) = absurd (clean bytes file n p is h)
  fault_unique bytes n m p q (static file is found) (spelling k) = absurd (clean bytes file m q is k)
  fault_unique bytes n m p q (static file is found) (static other also seen) = one_finding n m p q (sym found ∙ (ap first_fault (one bytes file other is also) ∙ seen))

  pub no_fault : ProgramFilesHaveNoFault
  no_fault bytes file n p h (spelling fault) = clean bytes file n p h.source fault
  no_fault bytes file n p h (static other also found) = no_fault_is_none (n, p) (sym h.faultless ∙ (ap first_fault (one bytes file other h.source also) ∙ found))
