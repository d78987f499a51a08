use Rattle.std.proofs.Common.{◌≡◌, ◌++◌, drop}
use Rattle.heyvl_acts.specs.PlainActs.{parts_of}
use Rattle.run_machine.specs.BoundedStep.{parts_fit}
use Rattle.run_machine.specs.Names.{stored}
use Rattle.run_machine.specs.Replies.{stored_outcomes}
use Rattle.run_machine.specs.StoredMoves.{stored_branches}
use Rattle.run_machine.proofs.plain_steps.draw_step.Given as goal

-- The parts that are left determine whether all have values; their outcomes follow those so far.
abbrev pub invariant-loop-part : goal.invariant-loop-part
invariant-loop-part l = record {
  fits : parts_fit (parts_of l.parts) l.config.state.items ≡ parts_fit (parts_of (drop l.part-index l.parts)) l.config.state.items;
  outcomes : stored_branches (stored l.config) l.x (parts_of l.parts) ≡ stored_outcomes l.outcomes.items ++ stored_branches (stored l.config) l.x (parts_of (drop l.part-index l.parts));
}
