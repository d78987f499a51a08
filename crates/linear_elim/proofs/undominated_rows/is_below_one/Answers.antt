use Rattle.linear_elim.proofs.LeftRows.{above_end}
use Rattle.linear_elim.proofs.undominated_rows.is_below_one.Goals as goal

pub returns : goal.returns
returns c = above_end c.args.signed.now c.args.rows.now c.loop-i.i c.args.r.now _ c.loop-i-test.false c.loop-i.invariant
