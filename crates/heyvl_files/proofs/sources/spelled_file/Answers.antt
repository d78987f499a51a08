use Rattle.heyvl_syntax.proofs.exported.InOrder.{tokens_few}
use Rattle.heyvl_syntax.specs.Grammar.{IsFile}
use Rattle.heyvl_syntax.specs.Procedures.{procedures}
use Rattle.heyvl_syntax.specs.SourceFaults.{IsTokenFault, IsWithinLimits, token_place}
use Rattle.heyvl_syntax.specs.Tokens.{Stops}
use Rattle.heyvl_syntax.specs.declared.tokens.Token.{Token}
use Rattle.heyvl_files.proofs.sources.spelled_file.Goals as goal
use Rattle.std.proofs.Common.{List, ap, arith, inl, inr, subst, ◌∙◌, ◌≡◌}

pub returns-in-Err-Fault : goal.returns-in-Err-Fault
returns-in-Err-Fault c =
    let stops : Stops 0 c.args.bytes.now c.in-Err-Fault.number c.in-Err-Fault.place = rw c.in-Err-Fault.field-0-is at c.in-Err-Fault.ensures.fault in
    rw (c.in-Err-Fault.number-is, c.in-Err-Fault.place-is) (inl stops)

pub parse-requires : goal.parse-requires
parse-requires c =
    let few = tokens_few c.args.bytes.now c.in-Ok.tokens.items c.in-Ok.ensures.found in
    rw c.deref.ensures.value (omega arith)

pub returns-in-Ok-parse : goal.returns-in-Ok-parse
returns-in-Ok-parse c =
    let found : IsWithinLimits c.in-Ok.tokens.items × IsFile (procedures c.in-Ok-parse.file) c.in-Ok.tokens.items = rw c.deref.ensures.value at c.in-Ok-parse.ensures.found in
    record { tokens = c.in-Ok.tokens.items; lexes = c.in-Ok.ensures.found; within = found.0; is_file = found.1 }

pub returns-in-Err-Fault-parse : goal.returns-in-Err-Fault-parse
returns-in-Err-Fault-parse c =
    let stop : IsTokenFault c.deref.result.now c.in-Err-Fault-parse.number c.in-Err-Fault-parse.index = rw c.in-Err-Fault-parse.field-0-is at c.in-Err-Fault-parse.ensures.fault in
    let fault : IsTokenFault c.in-Ok.tokens.items c.in-Err-Fault-parse.number c.in-Err-Fault-parse.index = subst (λ (ts : List Token). IsTokenFault ts c.in-Err-Fault-parse.number c.in-Err-Fault-parse.index) c.deref.ensures.value stop in
    let place : c.token_place-place.result ≡ token_place c.args.bytes.now c.in-Ok.tokens.items c.in-Err-Fault-parse.index =
    c.token_place-place.ensures ∙ ap (λ (ts : List Token). token_place c.args.bytes.now ts c.in-Err-Fault-parse.index) c.deref-in-Err-Fault-parse.ensures.value in
    inr (c.in-Ok.tokens.items, c.in-Err-Fault-parse.index, c.in-Ok.ensures.found, fault, place)
