use Rattle.region_split.proofs.CellsFound.{first_break, later_break, point_longer}
use Rattle.region_split.proofs.findings.with_break.Goals as goal

pub returns-in-Nothing : goal.returns-in-Nothing
returns-in-Nothing c g cells ps h b = first_break g cells ps c.args.broken.value (rw c.in-Nothing.is at h) b

pub returns-in-Break : goal.returns-in-Break
returns-in-Break c g cells ps h b = later_break g cells ps c.in-Break.first.value c.args.broken.value (rw c.in-Break.is at h) b

pub returns-in-Point : goal.returns-in-Point
returns-in-Point c g cells ps h b = point_longer g cells ps c.in-Point.first.items (rw c.in-Point.is at h)
