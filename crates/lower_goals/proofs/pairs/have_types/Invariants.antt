use Rattle.std.proofs.Common.{drop}
use Rattle.lower_goals.proofs.PairShapes.{AreLeft}
use Rattle.lower_goals.proofs.pairs.have_types.Given as goal

-- The inputs that are left have the types required of them exactly if all inputs have theirs.
abbrev pub invariant-loop-x : goal.invariant-loop-x
invariant-loop-x l = AreLeft l.own l.inputs l.scope l.rest (drop l.x-index l.scope)
