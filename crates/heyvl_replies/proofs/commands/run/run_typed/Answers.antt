use Rattle.heyvl_acts.specs.PlainActs.{procedures_of}
use Rattle.heyvl_replies.proofs.commands.run.run_typed.Goals as goal
use Rattle.command_rules.specs.RunStarts.{known_at, procedure_named}
use Rattle.command_rules.specs.commands.Run.IsRunOf.{by_name, by_script}
use Rattle.run_script.specs.PlainScripts.{known_in, script_of}
use Rattle.run_script.specs.Scripts.{IsFirstFault, Known, Spells}
use Rattle.std.proofs.Common.{None, Some, ap, subst, sym, ◌∙◌, ◌≡◌}
use Rattle.std.proofs.lemmas.Result.{IfOk-weaker}

pub run_at-requires-clause-steps : goal.run_at-requires-clause-steps
run_at-requires-clause-steps c =
    let spells : Spells (known_in c.known_at-known.result) (script_of c.in-Ok.read) c.args.script.now = c.in-Ok.ensures.found in
    spells.allowed.steps

pub returns-in-Some : goal.returns-in-Some
returns-in-Some c =
    let known = c.known_at-known.ensures ∙ ap (known_at (procedures_of c.args.typed.now)) c.procedure_named-found.ensures.value in
    let spells = subst (λ (k : Known). Spells k (script_of c.in-Ok.read) c.args.script.now) known c.in-Ok.ensures.found in
    let named : procedure_named c.args.name.now (procedures_of c.args.typed.now) ≡ Some c.in-Some.p = sym c.procedure_named-found.ensures.value ∙ c.in-Some.is in
    IfOk-weaker c.run_at.result _ _ (λ r h. h c.args.name.now c.args.script.now named spells) c.run_at.ensures

pub returns-in-Ok : goal.returns-in-Ok
returns-in-Ok c =
    let known = c.known_at-known.ensures ∙ ap (known_at (procedures_of c.args.typed.now)) c.procedure_named-found.ensures.value in
    let spells = subst (λ (k : Known). Spells k (script_of c.in-Ok.read) c.args.script.now) known c.in-Ok.ensures.found in
    let named : procedure_named c.args.name.now (procedures_of c.args.typed.now) ≡ None = sym c.procedure_named-found.ensures.value ∙ c.in-None.is in
    by_name (script_of c.in-Ok.read) spells named c.no_procedure.ensures

pub returns-in-Err-Fault : goal.returns-in-Err-Fault
returns-in-Err-Fault c =
    let known = c.known_at-known.ensures ∙ ap (known_at (procedures_of c.args.typed.now)) c.procedure_named-found.ensures.value in
    let stops : IsFirstFault (known_in c.known_at-known.result) c.args.script.now c.in-Err-Fault.line = rw c.in-Err-Fault.field-0-is at c.in-Err-Fault.ensures.fault in
    let fault = subst (λ (k : Known). IsFirstFault k c.args.script.now c.in-Err-Fault.line) known stops in
    IfOk-weaker c.script_fault.result _ _ (λ r h. by_script _ (rw c.in-Err-Fault.line-is fault) h) c.script_fault.ensures
