use Rattle.std.proofs.Common.{arith, subst, sym, ◌<◌, length, slice_index_or}
use Rattle.std.proofs.lemmas.List.{length-map}
use Rattle.heyvl_acts.specs.PlainActs.{procedure_of, procedures_of}
use Rattle.proc_contracts.specs.ReachedProcedures.{AreReached}
use Rattle.verify_core.proofs.ProcedureMarks.{all_closed, all_within, first_open}
use Rattle.verify_core.proofs.reached_answers.reaching_verdict.Goals as goal

pub first_marked-requires : goal.first_marked-requires
first_marked-requires c =
    let ps = procedures_of c.args.typed.now in
    let reached : AreReached ps c.args.p c.deref.result.now = subst (AreReached ps c.args.p) (sym c.deref.ensures.value) c.in_ok-reached.ensures in
    λ k d l. let h : slice_index_or c.deref.result.now k d < length ps = all_within 0 (length ps) c.deref.result.now reached.growing k d l in let procs = length-map c.args.typed.now.procs.items procedure_of in let each = c.requires.each in omega (arith, h, procs, each)

pub returns-in-Some : goal.returns-in-Some
returns-in-Some c =
    let ps = procedures_of c.args.typed.now in
    let reached : AreReached ps c.args.p c.deref.result.now = subst (AreReached ps c.args.p) (sym c.deref.ensures.value) c.in_ok-reached.ensures in
    λ table h m. (h, first_open ps table c.args.p c.args.marks.now c.deref.result.now reached m c.in-Some.q c.in-Some.ensures)

pub returns : goal.returns
returns c =
    let ps = procedures_of c.args.typed.now in
    let reached : AreReached ps c.args.p c.deref.result.now = subst (AreReached ps c.args.p) (sym c.deref.ensures.value) c.in_ok-reached.ensures in
    λ table h m. (h, all_closed ps table c.args.p c.args.marks.now c.deref.result.now reached m c.in-None.ensures)
