use Rattle.lower_goals.proofs.InputBounds.{Same}
use Rattle.lower_goals.proofs.input_bounds.same_types.Given as goal

-- The types from the index on agree exactly if all do.
abbrev pub invariant-loop-place : goal.invariant-loop-place
invariant-loop-place l = record {
  to : Same l.first l.second 0 → Same l.first l.second l.place;
  from : Same l.first l.second l.place → Same l.first l.second 0;
}
