use Rattle.std.proofs.Common.{◌<◌, ◌^◌, ◌∙◌, ap, subst, ◌+◌, arith}
use Rattle.row_tests.proofs.TestRows.{part_more}
use Rattle.row_tests.proofs.test_rows.row.Goals as goal

pub loop-variable-preserved : goal.loop-variable-preserved
loop-variable-preserved c =
    let f = c.from.ensures in
    let l = c.if-from-least.false in
    part_more c.loop-variable.least _ _ _ _ _ c.loop-variable.invariant (omega (arith, f, l)) (λ e. c.if-size-eq0.false (c.unsigned_abs-size.ensures.value ∙ e)) (subst (λ n. n < 2 ^ 62) c.unsigned_abs-size.ensures.value c.if-size.false) (ap (λ n. n + 1) c.from-least.ensures) c.in_ok-push.ensures.items
