use Rattle.heyvl_parse.proofs.exported.Loops.{Rest}
use Rattle.heyvl_parse.specs.readers.Combinators.{each}
use Rattle.guarded_commands.proofs.declarations.declarations.Given as goal
use Rattle.guarded_commands.specs.internal.Programs.{declaration, is_type}
use Rattle.std.proofs.Common.{length, ◌<◌, ◌≤◌, ℕ}

abbrev pub invariant-items : goal.invariant-items
invariant-items l = record {
  shorter : length l.rest ≤ length l.tokens;
  same : (n : ℕ) → length l.tokens < n → Rest is_type declaration (each is_type declaration n l.tokens) l.found.items l.rest;
}

abbrev pub decreases-items : goal.decreases-items
decreases-items l = length l.rest
