use Rattle.heyvl_parse.proofs.ChainLoop.{Left}
use Rattle.heyvl_parse.proofs.EachLoop.{Rest}
use Rattle.heyvl_parse.proofs.statements.+statements.Given as goal
use Rattle.heyvl_parse.specs.readers.Combinators.{each}
use Rattle.heyvl_parse.specs.internal.Statements.{braced, branched, entry, is_opening, stmts}
use Rattle.heyvl_syntax.specs.Statements.{guarded, statement}
use Rattle.std.proofs.Common.{length, map, suc, ◌*◌, ◌+◌, ◌<◌, ◌≤◌, ℕ}

abbrev pub decreases-block : goal.decreases-block
decreases-block l = 8 * length l.tokens.now + 1

abbrev pub decreases-statements : goal.decreases-statements
decreases-statements l = 8 * length l.tokens.now + 6

abbrev pub decreases-stmt : goal.decreases-stmt
decreases-stmt l = 8 * length l.tokens.now + 5

abbrev pub decreases-if_at : goal.decreases-if_at
decreases-if_at l = 8 * length l.tokens.now + 4

abbrev pub decreases-picked : goal.decreases-picked
decreases-picked l = 8 * length l.tokens.now + 4

abbrev pub decreases-otherwise : goal.decreases-otherwise
decreases-otherwise l = 8 * length l.tokens.now + 3

abbrev pub decreases-arm : goal.decreases-arm
decreases-arm l = 8 * length l.tokens.now + 2

abbrev pub decreases-branched : goal.decreases-branched
decreases-branched l = 8 * length l.tokens.now + 4

abbrev pub decreases-link_at : goal.decreases-link_at
decreases-link_at l = 8 * length l.tokens.now + 3

abbrev pub decreases-looped : goal.decreases-looped
decreases-looped l = 8 * length l.tokens.now + 4

abbrev pub invariant-statements-items : goal.invariant-statements-items
invariant-statements-items l = record {
  shorter : length l.rest ≤ length l.tokens;
  same : (n : ℕ) → length l.tokens ≤ n → Rest is_opening (entry (suc n) (braced (stmts n))) (each is_opening (entry (suc n) (braced (stmts n))) (suc n) l.tokens) (map statement l.found.items) l.rest;
}

abbrev pub decreases-statements-items : goal.decreases-statements-items
decreases-statements-items l = length l.rest

abbrev pub invariant-branched-arms : goal.invariant-branched-arms
invariant-branched-arms l = record {
  shorter : length l.rest < length l.tokens;
  same : (n : ℕ) → length l.tokens ≤ n → Left (suc n) (braced (stmts n)) (branched (suc n) (braced (stmts n)) l.tokens) (map guarded l.found.items) l.rest;
}

abbrev pub decreases-branched-arms : goal.decreases-branched-arms
decreases-branched-arms l = length l.rest
