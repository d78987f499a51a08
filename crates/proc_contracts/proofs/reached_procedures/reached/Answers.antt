use Rattle.std.proofs.Common.{◌<◌, ◌≤◌, ◌+◌, ◌∙◌, [], arith, rules, subst, sym}
use Rattle.std.proofs.lemmas.List.{length-map}
use Rattle.heyvl_acts.specs.PlainActs.{procedure_of, procedures_of}
use Rattle.proc_contracts.specs.internal.MarkedNumbers.{AreMarked}
use Rattle.proc_contracts.proofs.Marks.{none_marked}
use Rattle.proc_contracts.proofs.Walk.{OnTheWay, below_marks, finished, further_on, past_itself, stands, started}
use Rattle.proc_contracts.proofs.reached_procedures.reached.Goals as goal
use Rattle.proc_contracts.proofs.reached_procedures.reached.Goals.{then-q-p+in_ok-called+in_ok-add_new-2, else-q-p}

pub add_new-requires-clause-marked : goal.add_new-requires-clause-marked
add_new-requires-clause-marked c = subst (λ l. AreMarked c.in_ok-marks.marks.items l) (sym c.new-order.ensures.items) (subst (λ l. AreMarked l []) (sym (c.in_ok-marks.ensures.items_if_clones_equal (λ y e. search rules))) (none_marked c.len.result))

pub calls-init : goal.calls-init
calls-init c = started _ _ c.in_ok-first.first.items _ _ c.in_ok-first.ensures c.in_ok-add_new.ensures.marked (c.in_ok-add_new.ensures.length ∙ (sym c.in_ok-marks.marks.ok.0 ∙ (c.in_ok-marks.ensures.len ∙ (c.len.ensures ∙ (c.args.typed.now.procs.ok.0 ∙ sym (length-map c.args.typed.now.procs.items procedure_of)))))) (rw c.new-order.ensures.items at (rw c.deref.ensures.value at c.in_ok-add_new.ensures.grew))

pub called_by-requires-then-q-p-clause-there : goal.called_by-requires-then-q-p-clause-there
called_by-requires-then-q-p-clause-there c =
    let next = subst (λ n. c.calls.next < n) (c.len-in-calls.ensures ∙ c.calls.order.ok.0) c.calls-test.true in
    let below = below_marks _ _ c.index-q.result.now c.calls.invariant.are_marked (stands c.calls.order.items c.calls.next c.index-q.result.now next c.index-q.ensures) in
    let marks = c.calls.invariant.sized in
    let procs = length-map c.args.typed.now.procs.items procedure_of in
    omega (arith, below, marks, procs)

pub calls-preserved : goal.calls-preserved
calls-preserved c =
    let ps = procedures_of c.args.typed.now in
    let next = subst (λ n. c.calls.next < n) (c.len-in-calls.ensures ∙ c.calls.order.ok.0) c.calls-test.true in
    elim c.if-q-p.branch [
      | then-q-p+in_ok-called+in_ok-add_new-2 w ↦ subst (λ v. OnTheWay ps c.args.p v.items c.if-q-p.order.items (c.calls.next + 1)) (sym w.marks-is) (subst (λ v. OnTheWay ps c.args.p w.add_new-then-q-p.new.marks.items v.items (c.calls.next + 1)) (sym w.order-is) (further_on _ _ c.calls.marks.items _ c.calls.order.items _ w.in_ok-called.called.items c.calls.next c.index-q.result.now c.calls.invariant next c.index-q.ensures w.in_ok-called.ensures w.in_ok-add_new-2.ensures.marked w.in_ok-add_new-2.ensures.length (rw w.deref-then-q-p.ensures.value at w.in_ok-add_new-2.ensures.grew)))
      | else-q-p w ↦ subst (λ v. OnTheWay ps c.args.p v.items c.if-q-p.order.items (c.calls.next + 1)) (sym w.marks-is) (subst (λ v. OnTheWay ps c.args.p c.calls.marks.items v.items (c.calls.next + 1)) (sym w.order-is) (past_itself _ _ _ c.calls.order.items c.calls.next c.index-q.result.now c.calls.invariant next c.index-q.ensures w.if-q-p.false))
    ]

pub returns : goal.returns
returns c = finished _ _ _ c.calls.order.items c.calls.next c.calls.invariant (subst (λ n. n ≤ c.calls.next) (c.len-in-calls.ensures ∙ c.calls.order.ok.0) c.calls-test.false)
