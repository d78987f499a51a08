use Rattle.region_split.proofs.CellsFound.{first_point, point_after_break, point_longer}
use Rattle.region_split.proofs.findings.with_point.Goals as goal

pub returns-in-Nothing : goal.returns-in-Nothing
returns-in-Nothing c g cells ps h k p = first_point g cells ps c.args.point.items (rw c.in-Nothing.is at h) k p

pub returns-in-Break : goal.returns-in-Break
returns-in-Break c g cells ps h k p = point_after_break g cells ps c.in-Break.field-0.value c.args.point.items (rw c.in-Break.is at h) k p

pub returns : goal.returns
returns c g cells ps h k p = point_longer g cells ps c.in-Point.first.items (rw c.in-Point.is at h)
