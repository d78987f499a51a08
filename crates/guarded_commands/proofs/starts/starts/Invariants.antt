use Rattle.heyvl_syntax.specs.Statements.{statement}
use Rattle.guarded_commands.proofs.starts.starts.Given as goal
use Rattle.guarded_commands.specs.Translation.{start}
use Rattle.std.proofs.Common.{map, take, ◌≡◌}

abbrev pub invariant-loop-one : goal.invariant-loop-one
invariant-loop-one l = map statement l.made.items ≡ map start (take l.one-index l.declarations)
