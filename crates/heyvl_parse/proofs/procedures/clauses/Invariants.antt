use Rattle.heyvl_parse.proofs.ClauseLoop.{RestOfClauses}
use Rattle.heyvl_parse.proofs.procedures.clauses.Given as goal
use Rattle.heyvl_syntax.specs.Expressions.{expressions}
use Rattle.std.proofs.Common.{length, ◌<◌, ◌≤◌, ℕ}

abbrev pub invariant-items : goal.invariant-items
invariant-items l = record {
  shorter : length l.rest ≤ length l.tokens;
  same : (n : ℕ) → length l.tokens < n → RestOfClauses n l.tokens (expressions l.pres.items) (expressions l.posts.items) l.rest;
}

abbrev pub decreases-items : goal.decreases-items
decreases-items l = length l.rest
