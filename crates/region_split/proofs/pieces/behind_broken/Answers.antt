use Prim.Native.Nat.{suc}
use Rattle.std.proofs.Common.{[], ◌∷◌}
use Rattle.std.proofs.lemmas.List.Elements.{All-nil}
use Rattle.region_split.specs.PathPoints.{Breaks}
use Rattle.region_split.specs.Pieces.{HasFirstPoint, first_half, second_half}
use Rattle.region_split.proofs.PieceSteps.{all_broken, behind_broken, second_ends}
use Rattle.region_split.proofs.pieces.behind_broken.Goals as goal

pub returns-in-Closed : goal.returns-in-Closed
returns-in-Closed c g n ps s a h = behind_broken g n ps c.args.at.now.variable c.args.at.now.bound c.args.first.value [] s a (rw c.in-Closed.is at h).ends (All-nil (Breaks g))

pub returns-in-Broke : goal.returns-in-Broke
returns-in-Broke c g n ps s a h =
    let x = c.args.at.now.variable in
    let m = c.args.at.now.bound in
    let b = rw c.in-Broke.is at h in
    behind_broken g n ps x m c.args.first.value (b.path ∷ b.after) s a b.ends (all_broken g (suc n) (second_half ps x m) c.in-Broke.field-0.value b)

pub returns-in-Given : goal.returns-in-Given
returns-in-Given c g n ps s a h =
    let x = c.args.at.now.variable in
    let m = c.args.at.now.bound in
    HasFirstPoint.second n ps x m (a.path ∷ a.after) c.in-Given.point.items s a.ends (all_broken g (suc n) (first_half ps x m) c.args.first.value a) (rw c.in-Given.is at h)

pub returns-in-Unknown : goal.returns-in-Unknown
returns-in-Unknown c g n ps s a h =
    let x = c.args.at.now.variable in
    let m = c.args.at.now.bound in
    second_ends g n ps x m (a.path ∷ a.after) c.in-Unknown.cause s a.ends (all_broken g (suc n) (first_half ps x m) c.args.first.value a) (rw c.in-Unknown.is at h)
