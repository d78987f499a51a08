use Rattle.std.proofs.Common.{◌≡◌}
use Rattle.heyvl_num.specs.WeightedSums.{joined}
use Rattle.heyvl_acts.specs.PlainActs.{procedures_of}
use Rattle.heyvl_acts.specs.Rules.{Each}
use Rattle.run_machine.specs.ConfigConditions.{HasRoom, IsConfig}
use Rattle.run_machine.specs.SameConfigurations.{same_stored}
use Rattle.run_unroller.specs.Causes.{all_brought, first_cause, step_cause}
use Rattle.run_unroller.specs.MergedLists.{merged_onto}
use Rattle.run_unroller.specs.RunLists.{after_step, follow}
use Rattle.run_unroller.specs.internal.RunViews.{runs_of}
use Rattle.run_unroller.proofs.lists.after_step.Given as goal

-- The runs that are left determine the cause, and their outcomes are added to the list.
abbrev pub invariant-loop-config : goal.invariant-loop-config
invariant-loop-config l = record {
  causes : step_cause (procedures_of l.typed) l.script (runs_of l.fn.runs.entries.entries) ≡ first_cause (runs_of l.next.entries.entries) (all_brought (procedures_of l.typed) l.script (runs_of l.config-iterator));
  list : after_step (procedures_of l.typed) l.script (runs_of l.fn.runs.entries.entries) ≡ merged_onto same_stored (runs_of l.next.entries.entries) (joined (follow (procedures_of l.typed) l.script) (runs_of l.config-iterator));
  configs : Each (λ x. IsConfig (procedures_of l.typed) x.1) (runs_of l.config-iterator);
  rooms : Each (λ x. HasRoom x.1) (runs_of l.config-iterator);
}
