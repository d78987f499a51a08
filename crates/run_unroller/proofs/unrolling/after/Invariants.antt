use Rattle.std.proofs.Common.{◌≡◌, None}
use Rattle.heyvl_acts.specs.PlainActs.{procedures_of}
use Rattle.run_unroller.specs.Causes.{first_stop}
use Rattle.run_unroller.specs.RunLists.{after}
use Rattle.run_unroller.specs.internal.RunViews.{runs_of}
use Rattle.run_unroller.specs.internal.Growth.{AllWithin}
use Rattle.run_unroller.proofs.unrolling.after.Given as goal

-- No step so far was stopped, and the list is the one after these steps.
abbrev pub invariant-loop-made : goal.invariant-loop-made
invariant-loop-made l = record {
  free : first_stop (procedures_of l.typed) l.script l.made (runs_of l.fn.start.entries.entries) ≡ None;
  list : runs_of l.runs.entries.entries ≡ after (procedures_of l.typed) l.script l.made (runs_of l.fn.start.entries.entries);
  within : AllWithin (procedures_of l.typed) l.made (runs_of l.runs.entries.entries);
}
