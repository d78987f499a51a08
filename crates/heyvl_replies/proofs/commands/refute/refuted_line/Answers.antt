use Rattle.heyvl_acts.specs.Acts.{TypedProcedure, procedure_at}
use Rattle.heyvl_acts.specs.PlainActs.{procedures_of}
use Rattle.heyvl_replies.proofs.commands.refute.refuted_line.Goals as goal
use Rattle.command_rules.specs.commands.Refute.{refuted_reply}
use Rattle.std.proofs.Common.{IfOk, List, ap, subst, ◌∙◌, ◌≡◌, ℕ}

pub returns : goal.returns
returns c answers =
    let name : c.as_bytes.result.now ≡ (procedure_at (procedures_of c.args.typed.now) c.args.p).name = c.as_bytes.ensures ∙ ap (λ (q : TypedProcedure). q.name) c.procedure.ensures.value in
    subst (λ (n : List ℕ). IfOk c.refuted_text.result (λ text. text.items ≡ (refuted_reply n c.args.steps answers c.args.answer.now).output)) name (c.refuted_text.ensures answers)
