use Rattle.heyvl_parse.proofs.exported.Loops.{Rest}
use Rattle.heyvl_parse.specs.readers.Combinators.{each}
use Rattle.guarded_commands.proofs.commands.+commands.Given as goal
use Rattle.guarded_commands.specs.Programs.{command_tree}
use Rattle.guarded_commands.specs.internal.Commands.{braced, command, commands, is_opening}
use Rattle.std.proofs.Common.{length, map, suc, ◌*◌, ◌+◌, ◌≤◌, ℕ}

abbrev pub decreases-block : goal.decreases-block
decreases-block l = 8 * length l.tokens.now + 1

abbrev pub decreases-commands : goal.decreases-commands
decreases-commands l = 8 * length l.tokens.now + 6

abbrev pub decreases-command : goal.decreases-command
decreases-command l = 8 * length l.tokens.now + 5

abbrev pub decreases-branched : goal.decreases-branched
decreases-branched l = 8 * length l.tokens.now + 4

abbrev pub decreases-bracketed : goal.decreases-bracketed
decreases-bracketed l = 8 * length l.tokens.now + 3

abbrev pub decreases-forked : goal.decreases-forked
decreases-forked l = 8 * length l.tokens.now + 4

abbrev pub decreases-repeated : goal.decreases-repeated
decreases-repeated l = 8 * length l.tokens.now + 4

abbrev pub invariant-commands-items : goal.invariant-commands-items
invariant-commands-items l = record {
  shorter : length l.rest ≤ length l.tokens;
  same : (n : ℕ) → length l.tokens ≤ n → Rest is_opening (command (suc n) (braced (commands n))) (each is_opening (command (suc n) (braced (commands n))) (suc n) l.tokens) (map command_tree l.found.items) l.rest;
}

abbrev pub decreases-commands-items : goal.decreases-commands-items
decreases-commands-items l = length l.rest
