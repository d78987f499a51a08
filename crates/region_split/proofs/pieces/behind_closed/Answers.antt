use Rattle.std.proofs.Common.{[]}
use Rattle.std.proofs.lemmas.List.Elements.{All-nil}
use Rattle.region_split.specs.PathPoints.{Breaks}
use Rattle.region_split.specs.Pieces.{AreEnds, HasFirstPoint}
use Rattle.region_split.proofs.PieceSteps.{broken_behind_closed, second_ends}
use Rattle.region_split.proofs.pieces.behind_closed.Goals as goal

pub returns-in_ok-joined_halves-in-Closed : goal.returns-in_ok-joined_halves-in-Closed
returns-in_ok-joined_halves-in-Closed c g n ps s a h =
    let b = rw c.in-Closed.is at h in
    record { ends = AreEnds.halves n ps c.args.at.now.variable c.args.at.now.bound [] [] s a.ends b.ends; grown = c.in_ok-joined_halves-in-Closed.ensures g n ps s a.grown b.grown }

pub returns-in-Broke : goal.returns-in-Broke
returns-in-Broke c g n ps s a h = broken_behind_closed g n ps c.args.at.now.variable c.args.at.now.bound c.in-Broke.broken.value s a.ends (rw c.in-Broke.is at h)

pub returns-in-Given : goal.returns-in-Given
returns-in-Given c g n ps s a h = HasFirstPoint.second n ps c.args.at.now.variable c.args.at.now.bound [] c.in-Given.point.items s a.ends (All-nil (Breaks g)) (rw c.in-Given.is at h)

pub returns-in-Unknown : goal.returns-in-Unknown
returns-in-Unknown c g n ps s a h = second_ends g n ps c.args.at.now.variable c.args.at.now.bound [] c.in-Unknown.cause s a.ends (All-nil (Breaks g)) (rw c.in-Unknown.is at h)
