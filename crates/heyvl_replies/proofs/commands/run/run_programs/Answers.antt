use Rattle.heyvl_acts.specs.Acts.{procedure_at}
use Rattle.heyvl_acts.specs.PlainActs.{procedures_of}
use Rattle.heyvl_replies.proofs.RunStarts.{begins_with, unrolls_by}
use Rattle.heyvl_replies.proofs.commands.run.run_programs.Goals as goal
use Rattle.run_machine.specs.Names.{stored}
use Rattle.run_script.specs.PlainScripts.{script_of}
use Rattle.run_script.specs.Starts.{start_state}
use Rattle.run_unroller.specs.Unrolling.{unrolling_of}
use Rattle.std.proofs.Common.{ap₂, refl, ◌∙◌, ◌≡◌}
use Rattle.std.proofs.lemmas.Result.{IfOk-weaker}

pub unroll-requires-clause-begins : goal.unroll-requires-clause-begins
unroll-requires-clause-begins c =
    let state : c.deref-2.result.now ≡ start_state (procedure_at (procedures_of c.args.typed.now) c.args.p) c.args.script.now.settings.items = c.deref-2.ensures.value ∙ c.in_ok-state.ensures ∙ ap₂ start_state c.procedure.ensures.value c.deref.ensures.value in
    begins_with (procedures_of c.args.typed.now) c.args.p c.args.script.now.settings.items c.deref-2.result.now (stored c.in_ok-first.first) state c.in_ok-first.ensures.stored (λ typed. c.in_ok-first.ensures.config c.requires.programs typed)

pub returns : goal.returns
returns c =
    let state : c.deref-2.result.now ≡ start_state (procedure_at (procedures_of c.args.typed.now) c.args.p) c.args.script.now.settings.items = c.deref-2.ensures.value ∙ c.in_ok-state.ensures ∙ ap₂ start_state c.procedure.ensures.value c.deref.ensures.value in
    let unrolls = unrolls_by (procedures_of c.args.typed.now) c.args.p (script_of c.args.script.now) c.deref-3.result.now c.args.script.now.steps c.deref-2.result.now (stored c.in_ok-first.first) (unrolling_of c.in_ok-answer.answer) c.in_ok-answer.ensures c.deref-3.ensures.value refl c.in_ok-first.ensures.stored state in
    IfOk-weaker c.run_answer.result _ _ (λ r h. record { answer = c.in_ok-answer.answer; unrolls = unrolls; told = h }) c.run_answer.ensures
