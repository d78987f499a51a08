use Rattle.std.proofs.Common.{◌≡◌, List, ◌++◌, map}
use Rattle.std.specs.Vec.Iter.{into_iter_items}
use Rattle.heyvl_num.specs.WeightedSums.{scaled}
use Rattle.run_machine.specs.Replies.{stored_outcomes}
use Rattle.run_machine.specs.SameConfigurations.{same_stored}
use Rattle.run_unroller.specs.Causes.{Brought, first_cause}
use Rattle.run_unroller.specs.MergedLists.{merged_onto}
use Rattle.run_unroller.specs.internal.RunViews.{runs_of}
use Rattle.run_unroller.proofs.lists.join_all.Given as goal

-- The outcomes that are left determine the cause, and are added to the list.
abbrev pub invariant-loop-outcome : goal.invariant-loop-outcome
invariant-loop-outcome l = record {
  causes : (rest : List Brought) → first_cause (runs_of l.initial.next.entries.entries) (map (Brought.joins l.weight) (stored_outcomes l.fn.outcomes.items) ++ rest) ≡ first_cause (runs_of l.next.entries.entries) (map (Brought.joins l.weight) (stored_outcomes (into_iter_items l.outcome-iterator)) ++ rest);
  list : merged_onto same_stored (runs_of l.initial.next.entries.entries) (scaled l.weight (stored_outcomes l.fn.outcomes.items)) ≡ merged_onto same_stored (runs_of l.next.entries.entries) (scaled l.weight (stored_outcomes (into_iter_items l.outcome-iterator)));
}
