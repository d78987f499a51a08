use Rattle.heyvl_places.proofs.names.Name.copy_all.Given as goal
use Rattle.std.proofs.Common.{take, ◌≡◌}

-- The copied names are equal to the visited ones.
abbrev pub invariant-loop-one : goal.invariant-loop-one
invariant-loop-one l = l.copied.items ≡ take l.one-index l.all
