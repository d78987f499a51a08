use Rattle.linear_elim.proofs.JoinSequences.{rest_item}
use Rattle.linear_elim.proofs.FirstRows.{start_found, start_rows, found_end, rows_end}
use Rattle.linear_elim.proofs.starts.first_rows.Goals as goal

pub loop-i-preserved : goal.loop-i-preserved
loop-i-preserved c =
    let e = rest_item c.args.rows.now c.loop-i.i c.index-rows-i.result c.loop-i-test.true c.index-rows-i.is in
    record { found = start_found c.args.rows.now c.loop-i.i c.index-rows-i.result _ _ _ _ e c.in_ok-derived.ensures c.in_ok-put.ensures.found c.loop-i.invariant.found; rows = start_rows c.args.rows.now c.loop-i.i c.index-rows-i.result _ _ _ _ e c.in_ok-derived.ensures c.in_ok-put.ensures.rows c.loop-i.invariant.rows; places = c.in_ok-put.ensures.places }

pub returns-clause-found : goal.returns-clause-found
returns-clause-found c = found_end c.args.rows.now c.loop-i.i _ c.loop-i-test.false c.loop-i.invariant.found

pub returns-clause-rows : goal.returns-clause-rows
returns-clause-rows c = rows_end c.args.rows.now c.loop-i.i _ c.loop-i-test.false c.loop-i.invariant.rows
