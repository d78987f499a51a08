use Rattle.heylo_formula.specs.declared.values.Val.{Val}
use Rattle.heyvl_acts.specs.Acts.{procedure_at}
use Rattle.heyvl_acts.specs.PlainActs.{procedures_of}
use Rattle.heyvl_replies.proofs.commands.refute.searched.Goals as goal
use Rattle.heyvl_replies.proofs.RefuteStarts.{starts_at}
use Rattle.command_rules.specs.commands.Refute.{refute_start}
use Rattle.refute_runs.specs.RefutedAnswers.{IsRefutedAnswer}
use Rattle.refute_runs.specs.Violations.{NumbersAreOfRuns, ViolationIsOfRuns}
use Rattle.run_machine.specs.Bound.{IsState}
use Rattle.run_script.proofs.exported.StartStates.{start_over_typed}
use Rattle.run_script.specs.PlainScripts.{script_of}
use Rattle.run_machine.specs.declared.configurations.Decide.{Decide}
use Rattle.std.proofs.Common.{List, subst, sym, ◌∙◌, ◌≡◌}
use Rattle.std.proofs.lemmas.Result.{IfOk-weaker}

pub refute-requires-clause-state : goal.refute-requires-clause-state
refute-requires-clause-state c =
    let state : c.deref-2.result.now ≡ refute_start (procedures_of c.args.typed.now) c.args.p (script_of c.args.script.now) c.args.answers.now =
    c.deref-2.ensures.value ∙ (c.in_ok-state.ensures ∙ starts_at _ _ _ _ _ _ c.procedure.ensures.value c.deref.ensures.value c.shown_of-shown.ensures) in
    subst (IsState (procedure_at (procedures_of c.args.typed.now) c.args.p)) (sym state) (start_over_typed (procedure_at (procedures_of c.args.typed.now) c.args.p) c.args.script.now.settings.items _)

pub returns-clause-answer : goal.returns-clause-answer
returns-clause-answer c =
    let state : c.deref-2.result.now ≡ refute_start (procedures_of c.args.typed.now) c.args.p (script_of c.args.script.now) c.args.answers.now =
    c.deref-2.ensures.value ∙ (c.in_ok-state.ensures ∙ starts_at _ _ _ _ _ _ c.procedure.ensures.value c.deref.ensures.value c.shown_of-shown.ensures) in
    IfOk-weaker c.refute.result _ _ (λ r h. subst (λ (s : List Val). IsRefutedAnswer (procedures_of c.args.typed.now) c.args.p s c.args.script.now.decisions.items c.args.script.now.steps r) state
    (subst (λ (d : List Decide). IsRefutedAnswer (procedures_of c.args.typed.now) c.args.p c.deref-2.result.now d c.args.script.now.steps r) c.deref-3.ensures.value h)) c.refute.ensures.answer

pub returns-clause-violation : goal.returns-clause-violation
returns-clause-violation c =
    let state : c.deref-2.result.now ≡ refute_start (procedures_of c.args.typed.now) c.args.p (script_of c.args.script.now) c.args.answers.now =
    c.deref-2.ensures.value ∙ (c.in_ok-state.ensures ∙ starts_at _ _ _ _ _ _ c.procedure.ensures.value c.deref.ensures.value c.shown_of-shown.ensures) in
    IfOk-weaker c.refute.result _ _ (λ r h. subst (λ (s : List Val). ViolationIsOfRuns (procedures_of c.args.typed.now) c.args.p s c.args.script.now.decisions.items r) state
    (subst (λ (d : List Decide). ViolationIsOfRuns (procedures_of c.args.typed.now) c.args.p c.deref-2.result.now d r) c.deref-3.ensures.value h)) c.refute.ensures.violation

pub returns-clause-numbers : goal.returns-clause-numbers
returns-clause-numbers c =
    let state : c.deref-2.result.now ≡ refute_start (procedures_of c.args.typed.now) c.args.p (script_of c.args.script.now) c.args.answers.now =
    c.deref-2.ensures.value ∙ (c.in_ok-state.ensures ∙ starts_at _ _ _ _ _ _ c.procedure.ensures.value c.deref.ensures.value c.shown_of-shown.ensures) in
    IfOk-weaker c.refute.result _ _ (λ r h. subst (λ (s : List Val). NumbersAreOfRuns (procedures_of c.args.typed.now) c.args.p s c.args.script.now.decisions.items c.args.script.now.steps r) state
    (subst (λ (d : List Decide). NumbersAreOfRuns (procedures_of c.args.typed.now) c.args.p c.deref-2.result.now d c.args.script.now.steps r) c.deref-3.ensures.value h)) c.refute.ensures.numbers
