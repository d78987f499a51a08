use Rattle.std.proofs.Common.{arith, ◌≡◌, ◌+◌, ◌∙◌, subst, sym}
use Prim.Native.Nat.{suc}
use Rattle.heyvl_acts.specs.PlainActs.{procedures_of}
use Rattle.run_unroller.specs.internal.RunViews.{runs_of}
use Rattle.run_unroller.specs.internal.Extensions.{IsAfterStep}
use Rattle.run_unroller.specs.internal.Growth.{AllWithin}
use Rattle.run_unroller.proofs.StepGrowth.{list_within}
use Rattle.run_unroller.proofs.StoppedSteps.{goes_on, one_more, stops, within_configs, within_rooms}
use Rattle.run_unroller.proofs.unrolling.after.Goals as goal

pub after_step-requires-clause-configs : goal.after_step-requires-clause-configs
after_step-requires-clause-configs c = within_configs _ _ (runs_of c.loop-made.runs.entries.entries) c.loop-made.invariant.within

pub after_step-requires-clause-rooms : goal.after_step-requires-clause-rooms
after_step-requires-clause-rooms c = within_rooms _ _ (runs_of c.loop-made.runs.entries.entries) c.loop-made.invariant.within (let a = c.requires.steps in let b = c.loop-made-test.true in omega (arith, a, b))

pub returns-in-Stopped : goal.returns-in-Stopped
returns-in-Stopped c =
    let ps = procedures_of c.args.typed.now in
    let rs = runs_of c.loop-made.runs.entries.entries in
    let list = subst (IsAfterStep ps c.args.script.now rs) c.in-Stopped.is c.in_ok-cause.ensures in
    stops ps c.args.script.now _ rs c.in-Stopped.cause c.loop-made.made c.args.n c.loop-made.invariant.free c.loop-made.invariant.list list c.loop-made-test.true

pub loop-made-preserved : goal.loop-made-preserved
loop-made-preserved c =
    let ps = procedures_of c.args.typed.now in
    let rs = runs_of c.loop-made.runs.entries.entries in
    let list = subst (IsAfterStep ps c.args.script.now rs) c.in-Runs.is c.in_ok-cause.ensures in
    let within = subst (AllWithin ps (suc c.loop-made.made)) (sym list.1) (list_within ps c.requires.rules.each c.args.script.now c.loop-made.made rs c.loop-made.invariant.within) in
    record {
      free = goes_on ps c.args.script.now _ rs c.loop-made.made c.loop-made.invariant.free c.loop-made.invariant.list list.0;
      list = list.1 ∙ one_more ps c.args.script.now _ rs c.loop-made.made c.loop-made.invariant.list;
      within = subst (λ k. AllWithin ps k (runs_of c.in-Runs.next.entries.entries)) (let h : suc c.loop-made.made ≡ c.loop-made.made + 1 = omega arith in h) within;
    }
