use Rattle.heyvl_parse.proofs.EachLoop.{Rest}
use Rattle.heyvl_parse.proofs.procedures.some_params.Given as goal
use Rattle.heyvl_parse.specs.readers.Combinators.{lead, list}
use Rattle.heyvl_parse.specs.internal.Procedures.{param}
use Rattle.heyvl_parse.specs.readers.ReadParts.{is_mark}
use Rattle.heyvl_syntax.specs.declared.marks.Mark.TheVariants as marks
use Rattle.std.proofs.Common.{length, ◌<◌, ℕ}

abbrev pub invariant-items : goal.invariant-items
invariant-items l = record {
  shorter : length l.rest < length l.tokens;
  same : (n : ℕ) → length l.tokens < n → Rest (is_mark marks.Comma) (lead (is_mark marks.Comma) param) (list param n l.tokens) (l.found.items) l.rest;
}

abbrev pub decreases-items : goal.decreases-items
decreases-items l = length l.rest
