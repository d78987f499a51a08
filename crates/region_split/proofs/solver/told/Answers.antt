use Rattle.region_split.proofs.PathAnswers.{has_break, has_point, great_rows, many_rows}
use Rattle.region_split.proofs.solver.told.Goals as goal

pub returns-in-Point : goal.returns-in-Point
returns-in-Point c g ps denied list e a = let h = rw c.in-Point.is at a in has_point g ps denied list c.in-Point.point.items e h.0 h.1

pub returns-in-Fraction : goal.returns-in-Fraction
returns-in-Fraction c g ps denied list e a = has_break g ps denied list c.in-Fraction.broken e (rw c.in-Fraction.is at a)

pub returns-in-Rows : goal.returns-in-Rows
returns-in-Rows c g ps denied list e a = many_rows g ps denied list c.in-Rows.steps c.in-Rows.count e (rw c.in-Rows.is at a)

pub returns-in-Bits : goal.returns-in-Bits
returns-in-Bits c g ps denied list e a = great_rows g ps denied list e (rw c.in-Bits.is at a)
