use Rattle.std.proofs.Common.{sym, subst, ◌<◌, ◌^◌}
use Rattle.std.specs.Prelude.{unsigned_abs}
use Rattle.linear_rows.specs.internal.Columns.{number_in}
use Rattle.linear_rows.proofs.PartialSums.{sums_next, sums_stop, sums_end, number_read, sum_read}
use Rattle.linear_rows.proofs.Coefficients.{row_read}
use Rattle.linear_rows.proofs.multipliers.total.Goals as goal

pub returns-in_default : goal.returns-in_default
returns-in_default c =
    let n = number_read (number_in c.args.column) c.args.rows.now _ _ _ (row_read _ _ _ c.index-rows-index.is (c.requires.multipliers.within _ (0, 0) c.loop-index-test.true)) c.number_of-number.ensures.value c.number_of-number.ensures.narrow in
    sums_stop _ _ _ _ _ (0, 0) c.loop-index-test.true c.loop-index.invariant (λ w. c.in_default.ensures (rw n w))

pub loop-index-preserved : goal.loop-index-preserved
loop-index-preserved c =
    let n = number_read (number_in c.args.column) c.args.rows.now _ _ _ (row_read _ _ _ c.index-rows-index.is (c.requires.multipliers.within _ (0, 0) c.loop-index-test.true)) c.number_of-number.ensures.value c.number_of-number.ensures.narrow in
    let e = rw n at c.in-Some.ensures in
    let s = sum_read _ _ e.1 e.0 in
    sums_next _ _ _ _ _ _ (0, 0) c.loop-index-test.true c.loop-index.invariant s (subst (λ z. unsigned_abs z < 2 ^ 126) (sym s) e.0)

pub returns : goal.returns
returns c = sums_end _ _ _ _ _ c.loop-index-test.false c.loop-index.invariant
