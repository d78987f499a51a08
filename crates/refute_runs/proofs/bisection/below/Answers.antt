use Rattle.std.proofs.Common.{◌≡◌, ◌+◌, ◌-◌, ◌/◌, arith, subst}
use Prim.Native.Nat.{suc}
use Rattle.heyvl_acts.specs.PlainActs.{procedures_of}
use Rattle.heyvl_num.specs.ExtendedNumbers.{value_of}
use Rattle.refute_runs.specs.SumsAfter.{IsWithinBefore, unrolled_from}
use Rattle.refute_runs.specs.internal.Probes.{IsSeen}
use Rattle.refute_runs.proofs.ProbeResults.{middle_within}
use Rattle.refute_runs.proofs.bisection.below.Goals as goal
use Rattle.run_machine.specs.Names.{stored}

pub loop-low-preserved-in-Within : goal.loop-low-preserved-in-Within
loop-low-preserved-in-Within c =
    let us = unrolled_from (procedures_of c.args.typed.now) c.args.p (stored c.args.start.now) c.args.script.now in
    let middle = c.loop-low.low + (c.loop-low.high - c.loop-low.low) / 2 in
    let less = (middle_within c.loop-low.low c.loop-low.high c.loop-low-test.true).1 in
    let seen = subst (IsSeen us (value_of c.args.pre.now) middle) c.in-Within.is c.in_ok-look_at.ensures in
    record {
      order = omega (arith, less);
      few = c.loop-low.invariant.few;
      before = subst (IsWithinBefore us (value_of c.args.pre.now)) (let e : suc middle ≡ middle + 1 = omega arith in e) (value_of c.in-Within.field-0, seen);
      candidate = c.loop-low.invariant.candidate;
    }
