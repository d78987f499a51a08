use Rattle.guarded_commands.proofs.starts.inputs.Given as goal
use Rattle.guarded_commands.specs.Translation.{input}
use Rattle.std.proofs.Common.{map, take, ◌≡◌}

abbrev pub invariant-loop-one : goal.invariant-loop-one
invariant-loop-one l = l.made.items ≡ map input (take l.one-index l.declarations)
