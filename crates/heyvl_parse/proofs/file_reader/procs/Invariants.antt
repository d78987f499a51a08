use Rattle.heyvl_parse.proofs.EachLoop.{Rest}
use Rattle.heyvl_parse.proofs.file_reader.procs.Given as goal
use Rattle.heyvl_parse.specs.internal.Statements.{braced, stmts}
use Rattle.heyvl_parse.specs.internal.FileReaders.{begins, procs}
use Rattle.heyvl_parse.specs.internal.Procedures.{procedure}
use Rattle.heyvl_syntax.specs.Procedures.{procedure as tree_of}
use Rattle.std.proofs.Common.{length, map, ◌<◌, ◌≤◌, ℕ}

abbrev pub invariant-items : goal.invariant-items
invariant-items l = record {
  shorter : length l.rest ≤ length l.tokens;
  same : (n : ℕ) → length l.tokens < n → Rest begins (procedure (braced (stmts n)) n) (procs (braced (stmts n)) n l.tokens) (map tree_of l.found.items) l.rest;
}

abbrev pub decreases-items : goal.decreases-items
decreases-items l = length l.rest
