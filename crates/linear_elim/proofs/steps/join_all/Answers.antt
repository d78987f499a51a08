use Rattle.std.proofs.Common.{sym, ◌∙◌}
use Rattle.linear_elim.proofs.JoinSequences.{rest_item, all_fits_more, all_fits_stop, all_fits_end, all_found_more, all_rows_more, all_found_end, all_rows_end}
use Rattle.linear_elim.proofs.steps.join_all.Goals as goal

pub returns-then-not-branch-clause-fits : goal.returns-then-not-branch-clause-fits
returns-then-not-branch-clause-fits c =
    let e = rest_item c.args.lows.now c.loop-low.low-index c.low-item.result c.loop-low-test.true c.low-item.is in
    all_fits_stop _ c.args.lows.now c.args.ups.now c.loop-low.low-index _ _ e (sym c.if-not-branch.true ∙ c.in_ok-join_each.ensures.fits) c.loop-low.invariant.fits

pub loop-low-preserved : goal.loop-low-preserved
loop-low-preserved c =
    let e = rest_item c.args.lows.now c.loop-low.low-index c.low-item.result c.loop-low-test.true c.low-item.is in
    record { fits = all_fits_more _ c.args.lows.now c.args.ups.now c.loop-low.low-index _ _ e (sym c.if-not-branch.false ∙ c.in_ok-join_each.ensures.fits) c.loop-low.invariant.fits; found = all_found_more _ c.args.lows.now c.args.ups.now c.loop-low.low-index _ _ _ _ e (c.in_ok-join_each.ensures.found c.if-not-branch.false) c.loop-low.invariant.found; rows = all_rows_more _ c.args.lows.now c.args.ups.now c.loop-low.low-index _ _ _ _ e (c.in_ok-join_each.ensures.rows c.if-not-branch.false) c.loop-low.invariant.rows; places = c.in_ok-join_each.ensures.places }

pub returns-clause-fits : goal.returns-clause-fits
returns-clause-fits c = all_fits_end _ c.args.lows.now c.args.ups.now c.loop-low.low-index _ c.loop-low-test.false c.loop-low.invariant.fits

pub returns-clause-found : goal.returns-clause-found
returns-clause-found c = λ t. all_found_end _ c.args.lows.now c.args.ups.now c.loop-low.low-index _ _ c.loop-low-test.false c.loop-low.invariant.found

pub returns-clause-rows : goal.returns-clause-rows
returns-clause-rows c = λ t. all_rows_end _ c.args.lows.now c.args.ups.now c.loop-low.low-index _ _ c.loop-low-test.false c.loop-low.invariant.rows
