use Rattle.std.proofs.Common.{subst}
use Rattle.std.specs.List.{All}
use Rattle.std.proofs.lemmas.List.{take_all}
use Rattle.std.proofs.lemmas.List.Elements.{All-more}
use Rattle.linear_rows.specs.VariableTypes.{IsNumericRow}
use Rattle.row_tests.proofs.test_rows.are_over_numbers.Goals as goal

pub loop-row-preserved : goal.loop-row-preserved
loop-row-preserved c = All-more (IsNumericRow c.args.vars.now) c.args.rows.now c.loop-row.row-index c.row-item.result c.loop-row-test.true c.loop-row.invariant (subst (IsNumericRow c.args.vars.now) c.row-item.is (c.is_over_numbers.ensures c.if-not-is_over_numbers.false))

pub returns : goal.returns
returns c = λ _. subst (All (IsNumericRow c.args.vars.now)) (take_all c.loop-row.row-index c.args.rows.now c.loop-row-test.false) c.loop-row.invariant
