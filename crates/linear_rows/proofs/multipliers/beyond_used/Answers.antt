use Rattle.std.proofs.Common.{subst, ap, ◌∙◌, ◌<◌}
use Rattle.std.proofs.lemmas.List.{take_all}
use Rattle.std.specs.List.{All}
use Rattle.linear_rows.specs.Row.{Row}
use Rattle.linear_rows.specs.internal.Columns.{IsBeyondAt}
use Rattle.linear_rows.proofs.Coefficients.{rows_step, row_read}
use Rattle.linear_rows.proofs.multipliers.beyond_used.Goals as goal

pub loop-index-preserved : goal.loop-index-preserved
loop-index-preserved c = let g = c.greater-least.ensures in let w = c.loop-index.invariant.within in let v = c.beyond.ensures.within in record {
  above = rows_step _ _ _ _ c.beyond.result _ (0, 0) c.loop-index-test.true c.loop-index.invariant.above g.first g.second (subst (All (λ t. t.0 < c.beyond.result)) (c.deref.ensures.value ∙ ap (λ (r : Row). r.terms) (c.row.view_is ∙ row_read _ _ _ c.index-rows-index.is (c.requires.multipliers.within _ (0, 0) c.loop-index-test.true))) c.beyond.ensures.above);
  within = g.within w v;
}

pub returns-clause-above : goal.returns-clause-above
returns-clause-above c = subst (All (IsBeyondAt c.loop-index.least c.args.rows.now)) (take_all _ c.args.multipliers.now c.loop-index-test.false) c.loop-index.invariant.above
