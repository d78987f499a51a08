use Rattle.linear_elim.proofs.LeftRows.{signs_end}
use Rattle.linear_elim.proofs.undominated_rows.signs_among.Goals as goal

pub returns : goal.returns
returns c = signs_end c.args.rows.now c.loop-i.i _ _ c.loop-i-test.false c.loop-i.invariant
