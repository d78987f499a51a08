use Rattle.guarded_commands.proofs.starts.outputs.Given as goal
use Rattle.guarded_commands.specs.Translation.{output}
use Rattle.std.proofs.Common.{map, take, ◌≡◌}

abbrev pub invariant-loop-one : goal.invariant-loop-one
invariant-loop-one l = l.made.items ≡ map output (take l.one-index l.declarations)
