use Rattle.std.proofs.Common.{◌≡◌, replicate}
use Rattle.run_machine.proofs.starts.no_turns.Given as goal

abbrev pub invariant-loop : goal.invariant-loop
invariant-loop l = l.turns.items ≡ replicate l.counter 0
