use Rattle.std.proofs.Common.{◌≡◌, ◌<◌, arith, length, refl, subst, sym, take}
use Rattle.std.proofs.lemmas.List.{length-map, length-take-le}
use Rattle.heyvl_acts.specs.Acts.{procedure_at}
use Rattle.heyvl_acts.specs.PlainActs.{procedure_of, procedures_of}
use Rattle.verify_core.specs.internal.Own.{AreOwn}
use Rattle.verify_core.proofs.OwnAnswers.{none_own, none_taken, own_more}
use Rattle.verify_core.proofs.ProcedureKinds.{take_procedures}
use Rattle.verify_core.proofs.answering.own_answers.Goals as goal

pub loop-p-init : goal.loop-p-init
loop-p-init c = none_own c.args.way (procedures_of c.args.typed.now) _ _ _ _ (none_taken (procedures_of c.args.typed.now)) c.new-all.ensures.items c.requires.no_certs c.requires.none_made

pub loop-p-preserved : goal.loop-p-preserved
loop-p-preserved c =
    let ps = procedures_of c.args.typed.now in
    let p = c.loop-p.p in
    let sizes = length-map c.args.typed.now.procs.items procedure_of in
    let long = c.args.typed.now.procs.ok.0 in
    let test = c.loop-p-test.true in
    let len = c.len-p-end.ensures in
    let below : p < length ps = omega (arith, sizes, long, test, len) in
    let seen : length (take p ps) ≡ p = length-take-le p ps (omega (arith, below)) in
    subst (λ l. AreOwn c.args.way ps l c.push.new.self.items c.own_answer.new.certs.items c.own_answer.new.made.items) (sym (take_procedures ps p below)) (own_more c.args.way ps (take p ps) (procedure_at ps p) p c.loop-p.all.items c.push.new.self.items _ _ _ _ _ c.loop-p.invariant (sym seen) refl c.in_ok-answer.ensures c.in_ok-push.ensures.items)
