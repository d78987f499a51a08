use Rattle.std.proofs.Common.{◌∙◌, ap, refl, subst, sym}
use Rattle.heyvl_acts.specs.PlainActs.{procedures_of}
use Rattle.heyvl_num.specs.ExtendedNumbers.{value_of}
use Rattle.refute_runs.specs.SumsAfter.{unrolled_from}
use Rattle.refute_runs.specs.internal.Probes.{IsSeen}
use Rattle.refute_runs.proofs.ProbeResults.{stop_ends}
use Rattle.refute_runs.proofs.Stops.{steps_named}
use Rattle.refute_runs.proofs.probes.look_at.Goals as goal
use Rattle.run_machine.specs.Names.{stored}
use Rattle.run_unroller.specs.Unrolling.{unrolling_of}
use Rattle.run_unroller.specs.declared.answers.Unrolled.TheVariants as unrolled

pub returns-in-Sums : goal.returns-in-Sums
returns-in-Sums c =
    let us = unrolled_from (procedures_of c.args.typed.now) c.args.p (stored c.args.start.now) c.args.script.now in
    c.beside.ensures us (sym c.in_ok-sums.ensures ∙ ap unrolling_of c.in-Sums.is)

pub returns-in-Full : goal.returns-in-Full
returns-in-Full c =
    let us = unrolled_from (procedures_of c.args.typed.now) c.args.p (stored c.args.start.now) c.args.script.now in
    let given = sym (ap unrolling_of c.in-Full.is) ∙ c.in_ok-sums.ensures in
    let ends = stop_ends us (steps_named (procedures_of c.args.typed.now) c.args.p (stored c.args.start.now) c.args.script.now) (value_of c.args.pre.now) c.args.n c.in-Full.step (unrolled.Full c.in-Full.step) refl given in
    subst (IsSeen us (value_of c.args.pre.now) c.args.n) (sym c.stopped.ensures) ends

pub returns-in-Deep : goal.returns-in-Deep
returns-in-Deep c =
    let us = unrolled_from (procedures_of c.args.typed.now) c.args.p (stored c.args.start.now) c.args.script.now in
    let given = sym (ap unrolling_of c.in-Deep.is) ∙ c.in_ok-sums.ensures in
    let ends = stop_ends us (steps_named (procedures_of c.args.typed.now) c.args.p (stored c.args.start.now) c.args.script.now) (value_of c.args.pre.now) c.args.n c.in-Deep.step (unrolled.Deep c.in-Deep.step) refl given in
    subst (IsSeen us (value_of c.args.pre.now) c.args.n) (sym c.stopped-in-Deep.ensures) ends

pub returns-in-Bits : goal.returns-in-Bits
returns-in-Bits c =
    let us = unrolled_from (procedures_of c.args.typed.now) c.args.p (stored c.args.start.now) c.args.script.now in
    let given = sym (ap unrolling_of c.in-Bits.is) ∙ c.in_ok-sums.ensures in
    let ends = stop_ends us (steps_named (procedures_of c.args.typed.now) c.args.p (stored c.args.start.now) c.args.script.now) (value_of c.args.pre.now) c.args.n c.in-Bits.step (unrolled.Bits c.in-Bits.step) refl given in
    subst (IsSeen us (value_of c.args.pre.now) c.args.n) (sym c.stopped-in-Bits.ensures) ends
