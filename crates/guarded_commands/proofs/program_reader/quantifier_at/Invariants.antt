use Rattle.guarded_commands.proofs.program_reader.quantifier_at.Given as goal
use Rattle.guarded_commands.specs.Grammar.{quantifier_count}
use Rattle.std.proofs.Common.{take, ◌≡◌}

abbrev pub invariant-tokens : goal.invariant-tokens
invariant-tokens l = quantifier_count (take l.index l.tokens) ≡ 0
