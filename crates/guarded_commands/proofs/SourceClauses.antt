-- Bytes are translated to one file, or have one first error.
use Rattle.heyvl_syntax.specs.SourceFaults.{token_place}
use Rattle.heyvl_syntax.specs.TokenLaws.{FaultsAreUnique, TokensAreUnique, TokensExcludeFaults}
use Rattle.heyvl_syntax.specs.declared.tokens.Token.{Token}
use Rattle.guarded_commands.proofs.TranslationClauses.{no_translation_fault, translation_fault_unique, translation_unique}
use Rattle.guarded_commands.specs.Sources.IsPgclFault.{unlexed, untranslated}
use Rattle.guarded_commands.specs.Sources.{PgclFaultIsUnique, PgclSourceIsUnique, PgclSourcesHaveNoFault}
use Rattle.guarded_commands.specs.TranslationFaults.{IsTranslationFault}
use Rattle.guarded_commands.specs.Translations.{IsTranslation}
use Rattle.std.proofs.Common.{List, ap₂, subst, sym, ◌∙◌}

pub source_unique : TokensAreUnique → PgclSourceIsUnique
source_unique tokens bytes file other h k =
    let same = tokens 0 bytes h.tokens k.tokens h.lexes k.lexes in
    translation_unique k.tokens file other (subst (λ (ts : List Token). IsTranslation ts file) same h.translation) k.translation

pub fault_unique : TokensAreUnique → FaultsAreUnique → TokensExcludeFaults → PgclFaultIsUnique
fault_unique tokens faults excluded bytes number other place at (unlexed h) (unlexed k) = faults 0 bytes number other place at h k
fault_unique tokens faults excluded bytes number other place at (unlexed h) (untranslated ts i lexes k e) = absurd (excluded 0 bytes ts number place lexes h)
fault_unique tokens faults excluded bytes number other place at (untranslated ts i lexes h e) (unlexed k) = absurd (excluded 0 bytes ts other at lexes k)
fault_unique tokens faults excluded bytes number other place at (untranslated ts i lexes h e) (untranslated us j lexed k f) =
    let same = tokens 0 bytes ts us lexes lexed in
    let one = translation_fault_unique us number other i j (subst (λ (vs : List Token). IsTranslationFault vs number i) same h) k in
    (one.0, e ∙ (ap₂ (token_place bytes) same one.1 ∙ sym f))

pub no_fault : TokensAreUnique → TokensExcludeFaults → PgclSourcesHaveNoFault
no_fault tokens excluded bytes file number place h (unlexed k) = excluded 0 bytes h.tokens number place h.lexes k
no_fault tokens excluded bytes file number place h (untranslated ts i lexes k e) =
    let same = tokens 0 bytes ts h.tokens lexes h.lexes in
    no_translation_fault h.tokens file number i h.translation (subst (λ (vs : List Token). IsTranslationFault vs number i) same k)
