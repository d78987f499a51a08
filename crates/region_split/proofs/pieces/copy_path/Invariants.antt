use Rattle.std.proofs.Common.{take, map, ◌≡◌}
use Rattle.linear_form.specs.PlainPaths.{taken_of}
use Rattle.region_split.proofs.pieces.copy_path.Given as goal

-- The copied answers are those visited.
abbrev pub invariant-loop-taken : goal.invariant-loop-taken
invariant-loop-taken l = map taken_of l.made.items ≡ map taken_of (take l.taken-index l.path)
