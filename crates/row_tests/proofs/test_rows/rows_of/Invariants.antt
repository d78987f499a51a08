use Rattle.std.specs.List.{All}
use Rattle.linear_rows.specs.Row.{IsRow}
use Rattle.row_tests.proofs.test_rows.rows_of.Given as goal

abbrev pub invariant-loop-word : goal.invariant-loop-word
invariant-loop-word l = All IsRow l.rows.items
