use Rattle.linear_elim.proofs.JoinSequences.{rest_item, each_fits_more, each_fits_stop, each_fits_end, each_found_more, each_rows_more, each_found_end, each_rows_end}
use Rattle.linear_elim.proofs.steps.join_each.Goals as goal

pub returns-in_default-clause-fits : goal.returns-in_default-clause-fits
returns-in_default-clause-fits c =
    let e = rest_item c.args.ups.now c.loop-up.up-index c.up-item.result c.loop-up-test.true c.up-item.is in
    each_fits_stop _ _ c.args.ups.now c.loop-up.up-index _ _ e (rw c.in_default.is at c.in_ok-derived.ensures.fits) c.loop-up.invariant.fits

pub loop-up-preserved : goal.loop-up-preserved
loop-up-preserved c =
    let e = rest_item c.args.ups.now c.loop-up.up-index c.up-item.result c.loop-up-test.true c.up-item.is in
    let d = rw c.in-Some.is at c.in_ok-derived.ensures.derived in
    record { fits = each_fits_more _ _ c.args.ups.now c.loop-up.up-index _ _ e (rw c.in-Some.is at c.in_ok-derived.ensures.fits) c.loop-up.invariant.fits; found = each_found_more _ _ c.args.ups.now c.loop-up.up-index _ _ _ _ _ e d c.in_ok-put.ensures.found c.loop-up.invariant.found; rows = each_rows_more _ _ c.args.ups.now c.loop-up.up-index _ _ _ _ _ e d c.in_ok-put.ensures.rows c.loop-up.invariant.rows; places = c.in_ok-put.ensures.places }

pub returns-clause-fits : goal.returns-clause-fits
returns-clause-fits c = each_fits_end _ _ c.args.ups.now c.loop-up.up-index _ c.loop-up-test.false c.loop-up.invariant.fits

pub returns-clause-found : goal.returns-clause-found
returns-clause-found c = λ t. each_found_end _ _ c.args.ups.now c.loop-up.up-index _ _ c.loop-up-test.false c.loop-up.invariant.found

pub returns-clause-rows : goal.returns-clause-rows
returns-clause-rows c = λ t. each_rows_end _ _ c.args.ups.now c.loop-up.up-index _ _ c.loop-up-test.false c.loop-up.invariant.rows
