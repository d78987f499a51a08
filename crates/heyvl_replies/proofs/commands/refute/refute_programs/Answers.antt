use Rattle.heyvl_acts.specs.Acts.{procedure_at}
use Rattle.heyvl_acts.specs.PlainActs.{procedure_of, procedures_of}
use Rattle.heyvl_replies.proofs.SaidOfFiles.{one_for_each}
use Rattle.heyvl_replies.proofs.RefuteStarts.{tells_refuted}
use Rattle.heyvl_replies.proofs.commands.refute.refute_programs.Goals as goal
use Rattle.run_script.specs.PlainScripts.{script_of}
use Rattle.std.proofs.Common.{◌∙◌}
use Rattle.std.proofs.lemmas.List.{length-map}

pub searched-requires-clause-each : goal.searched-requires-clause-each
searched-requires-clause-each c =
    let a = c.in_ok-whole.ensures.answered in
    rw c.deref.ensures.value (one_for_each (procedures_of c.args.typed.now) _ _ 0 (procedures_of c.args.typed.now) c.in_ok-whole.whole.answers.items a.answers_of ∙ length-map c.args.typed.now.procs.items procedure_of)

pub returns : goal.returns
returns c =
    let said = c.in_ok-whole.whole.answers.items in
    let told = c.refuted_response.ensures (procedure_at (procedures_of c.args.typed.now) c.args.p).name c.args.script.now.steps (c.in_ok-text.ensures said) in
    tells_refuted (procedures_of c.args.typed.now) c.args.p (script_of c.args.script.now) said c.in_ok-whole.whole.made.items c.in_ok-whole.whole.certs.items c.in_ok-whole.ensures.answered c.in_ok-whole.ensures.headline c.in_ok-answer.answer _
    (rw c.deref.ensures.value at c.in_ok-answer.ensures.answer) (rw c.deref.ensures.value at c.in_ok-answer.ensures.violation) (rw c.deref.ensures.value at c.in_ok-answer.ensures.numbers) told
