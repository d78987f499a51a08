use Rattle.heyvl_parse.proofs.EachLoop.{Rest}
use Rattle.heyvl_parse.proofs.loops.rules.Given as goal
use Rattle.heyvl_parse.specs.internal.Loops.{rule, rules}
use Rattle.heyvl_parse.specs.readers.ReadParts.{is_mark}
use Rattle.heyvl_syntax.specs.Statements.{loop_rules}
use Rattle.heyvl_syntax.specs.declared.marks.Mark.TheVariants as marks
use Rattle.std.proofs.Common.{length, ◌<◌, ◌≤◌, ℕ}

abbrev pub invariant-items : goal.invariant-items
invariant-items l = record {
  shorter : length l.rest ≤ length l.tokens;
  same : (n : ℕ) → length l.tokens < n → Rest (is_mark marks.AtSign) (rule n) (rules n l.tokens) (loop_rules l.found.items) l.rest;
}

abbrev pub decreases-items : goal.decreases-items
decreases-items l = length l.rest
