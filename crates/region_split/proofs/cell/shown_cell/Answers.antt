use Rattle.region_split.proofs.Steps.{broken_cell, closed_cell, given_cell}
use Rattle.region_split.proofs.cell.shown_cell.Goals as goal

pub returns-in-Closed : goal.returns-in-Closed
returns-in-Closed c g ps o k n h = closed_cell g ps c.args.found c.in-Closed.tree k (rw c.in-Closed.is at h)

pub returns-in-Broke : goal.returns-in-Broke
returns-in-Broke c g ps o k n h = broken_cell g ps c.args.found c.with_break.result c.in-Broke.broken.value k n (rw c.in-Broke.is at h) (λ cells qs i b. c.with_break.ensures g cells qs i b)

pub returns-in-Given : goal.returns-in-Given
returns-in-Given c g ps o k n h = given_cell g ps c.args.found c.with_point.result c.in-Given.point.items k (rw c.in-Given.is at h) (λ cells qs i a p. c.with_point.ensures g cells qs i a p)

pub returns-in-Unknown : goal.returns-in-Unknown
returns-in-Unknown c g ps o k n h = rw c.in-Unknown.is at h
