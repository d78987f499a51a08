use Rattle.std.proofs.Common.{vec_len, ◌≡◌}
use Rattle.goal_answers.specs.Trees.{tree_of}
use Rattle.cert_text.specs.internal.ReadStates.{fill, open_of}
use Rattle.cert_text.proofs.states.fill.Given as goal

abbrev pub decreases-loop-step : goal.decreases-loop-step
decreases-loop-step l = vec_len l.way

abbrev pub invariant-loop-step : goal.invariant-loop-step
invariant-loop-step l = fill (open_of l.way.items) (tree_of l.part) ≡ fill (open_of l.fn.way.items) (tree_of l.fn.tree)
