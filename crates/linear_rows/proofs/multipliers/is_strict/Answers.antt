use Rattle.std.proofs.Common.{◌∙◌, sym, ap}
use Rattle.linear_rows.specs.Row.{Row}
use Rattle.linear_rows.proofs.PartialSums.{strict_next, strict_found, strict_end}
use Rattle.linear_rows.proofs.Coefficients.{row_read}
use Rattle.linear_rows.proofs.multipliers.is_strict.Goals as goal

pub returns-then-row : goal.returns-then-row
returns-then-row c = strict_found _ _ _ (0, 0) c.loop-index-test.true c.loop-index.invariant (sym (ap (λ (r : Row). r.strict) (row_read _ _ _ c.index-rows-index.is (c.requires.multipliers.within _ (0, 0) c.loop-index-test.true))) ∙ sym (ap (λ (r : Row). r.strict) c.row.view_is) ∙ c.if-row.true)

pub loop-index-preserved : goal.loop-index-preserved
loop-index-preserved c = strict_next _ _ _ (0, 0) c.loop-index-test.true c.loop-index.invariant (sym (ap (λ (r : Row). r.strict) (row_read _ _ _ c.index-rows-index.is (c.requires.multipliers.within _ (0, 0) c.loop-index-test.true))) ∙ sym (ap (λ (r : Row). r.strict) c.row.view_is) ∙ c.if-row.false)

pub returns : goal.returns
returns c = strict_end _ _ _ c.loop-index-test.false c.loop-index.invariant
