use Rattle.spelled_files.proofs.exported.ProgramFiles.{unlexed_at}
use Rattle.heyvl_syntax.proofs.exported.InOrder.{tokens_few}
use Rattle.heyvl_syntax.specs.Procedures.{procedures}
use Rattle.heyvl_syntax.specs.SourceFaults.{token_place}
use Rattle.heyvl_syntax.specs.Tokens.{Stops}
use Rattle.heyvl_syntax.specs.declared.tokens.Token.{Token}
use Rattle.heyvl_files.proofs.programs.translated_file.Goals as goal
use Rattle.pgcl_front.specs.Sources.IsPgclFault.{untranslated}
use Rattle.pgcl_front.specs.TranslationFaults.{IsTranslationFault}
use Rattle.pgcl_front.specs.Translations.{IsTranslation}
use Rattle.std.proofs.Common.{List, ap, arith, subst, ◌∙◌, ◌≡◌}

pub returns-in-Err-Fault : goal.returns-in-Err-Fault
returns-in-Err-Fault c =
    let stops : Stops 0 c.args.bytes.now c.in-Err-Fault.number c.in-Err-Fault.place = rw c.in-Err-Fault.field-0-is at c.in-Err-Fault.ensures.fault in
    unlexed_at c.args.bytes.now c.in-Err-Fault.number _ c.in-Err-Fault.place _ c.in-Err-Fault.number-is c.in-Err-Fault.place-is stops

pub translate-requires : goal.translate-requires
translate-requires c =
    let few = tokens_few c.args.bytes.now c.in-Ok.tokens.items c.in-Ok.ensures.found in
    rw c.deref.ensures.value (omega arith)

pub returns-in-Ok-translate : goal.returns-in-Ok-translate
returns-in-Ok-translate c =
    let found : IsTranslation c.in-Ok.tokens.items (procedures c.in-Ok-translate.file) = rw c.deref.ensures.value at c.in-Ok-translate.ensures.found in
    record { tokens = c.in-Ok.tokens.items; lexes = c.in-Ok.ensures.found; translation = found }

pub returns-in-Err-Fault-translate : goal.returns-in-Err-Fault-translate
returns-in-Err-Fault-translate c =
    let stop : IsTranslationFault c.deref.result.now c.in-Err-Fault-translate.number c.in-Err-Fault-translate.index = rw c.in-Err-Fault-translate.field-0-is at c.in-Err-Fault-translate.ensures.fault in
    let fault : IsTranslationFault c.in-Ok.tokens.items c.in-Err-Fault-translate.number c.in-Err-Fault-translate.index = subst (λ (ts : List Token). IsTranslationFault ts c.in-Err-Fault-translate.number c.in-Err-Fault-translate.index) c.deref.ensures.value stop in
    let place : c.token_place-place.result ≡ token_place c.args.bytes.now c.in-Ok.tokens.items c.in-Err-Fault-translate.index =
    c.token_place-place.ensures ∙ ap (λ (ts : List Token). token_place c.args.bytes.now ts c.in-Err-Fault-translate.index) c.deref-in-Err-Fault-translate.ensures.value in
    untranslated c.in-Ok.tokens.items c.in-Err-Fault-translate.index c.in-Ok.ensures.found fault place
