use Rattle.row_tests.proofs.TestRows.{IsPart}
use Rattle.row_tests.proofs.test_rows.row.Given as goal

abbrev pub invariant-loop-variable : goal.invariant-loop-variable
invariant-loop-variable l = IsPart l.least l.kept.items
