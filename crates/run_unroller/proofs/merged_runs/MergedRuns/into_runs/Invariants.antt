use Rattle.std.proofs.Common.{◌≡◌, ◌++◌}
use Rattle.run_machine.specs.Replies.{stored_outcomes}
use Rattle.run_unroller.specs.internal.RunViews.{runs_of}
use Rattle.run_unroller.proofs.merged_runs.MergedRuns.into_runs.Given as goal

-- The runs so far and those that are left make the list.
abbrev pub invariant-loop-config : goal.invariant-loop-config
invariant-loop-config l = stored_outcomes l.runs.items ++ runs_of l.config-iterator ≡ runs_of l.fn.self.entries.entries
