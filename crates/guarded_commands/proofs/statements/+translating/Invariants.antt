use Rattle.heyvl_syntax.specs.Statements.{statement}
use Rattle.guarded_commands.proofs.statements.+translating.Given as goal
use Rattle.guarded_commands.specs.Programs.{block_tree}
use Rattle.guarded_commands.specs.Translation.{picks_in, statements}
use Rattle.std.proofs.Common.{drop, map, ◌++◌, ◌+◌, ◌≡◌}

-- The statements so far and those of the remaining commands are those of all commands.
abbrev pub invariant-statements-loop-command : goal.invariant-statements-loop-command
invariant-statements-loop-command l = record {
  lines : map statement l.made.items ++ statements l.next (block_tree (drop l.command-index l.commands)) ≡ statements l.fn.next (block_tree l.commands);
  picks : l.next + picks_in (block_tree (drop l.command-index l.commands)) ≡ l.fn.next + picks_in (block_tree l.commands);
}
