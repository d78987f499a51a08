use Rattle.std.proofs.Common.{ap, sym, ◌∙◌, ◌+◌, drop}
use Prim.Native.Nat.{suc}
use Rattle.std.specs.Prelude.{Some, None, pos}
use Rattle.heyvl_num.specs.Rational.{ratio}
use Rattle.run_machine.specs.Names.{turns_of as turns_in}
use Rattle.run_machine.specs.Replies.{stored_outcomes}
use Rattle.run_unroller.specs.Totals.{added_fractions, turns_of}
use Rattle.run_unroller.proofs.AddedSums.{fraction_next, fraction_one, fractions-none}
use Rattle.run_unroller.proofs.turns.turns_sum.Goals as goal

pub loop-run-init : goal.loop-run-init
loop-run-init c = ap (λ z. added_fractions (turns_of (suc c.args.index)) (Some z) (stored_outcomes c.args.runs.now)) (sym c.zero-sum.ensures)

pub returns-in_err-product : goal.returns-in_err-product
returns-in_err-product c =
    let f = turns_of (suc c.args.index) in
    let r = c.run-item.result in
    let none = fraction_one c.loop-run.sum r.0 (ratio (pos (turns_in r.1.turns.items (suc c.args.index))) 1) c.turns_at.result None c.turns_at.ensures c.in_err-product.ensures in
    c.from_residual.ensures
    ∙ sym (c.loop-run.invariant ∙ fraction_next f (Some c.loop-run.sum) None c.args.runs.now c.loop-run.run-index r c.loop-run-test.true c.run-item.is none ∙ fractions-none f (stored_outcomes (drop (c.loop-run.run-index + 1) c.args.runs.now)))

pub returns-in_err-sum : goal.returns-in_err-sum
returns-in_err-sum c =
    let f = turns_of (suc c.args.index) in
    let r = c.run-item.result in
    let none = c.in_err-sum.ensures ∙ fraction_one c.loop-run.sum r.0 (ratio (pos (turns_in r.1.turns.items (suc c.args.index))) 1) c.turns_at.result (Some c.in_ok-product.product) c.turns_at.ensures c.in_ok-product.ensures in
    c.from_residual-in_err-sum.ensures
    ∙ sym (c.loop-run.invariant ∙ fraction_next f (Some c.loop-run.sum) None c.args.runs.now c.loop-run.run-index r c.loop-run-test.true c.run-item.is none ∙ fractions-none f (stored_outcomes (drop (c.loop-run.run-index + 1) c.args.runs.now)))
