use Rattle.std.proofs.Common.{◌≤◌, length, refl, sym, subst, arith}
use Rattle.region_split.specs.internal.Progress.{IsFound}
use Rattle.region_split.proofs.Steps.{next_walk}
use Rattle.region_split.proofs.walk.finish.Goals as goal

pub returns-in-Next : goal.returns-in-Next
returns-in-Next c g n h =
    let u = rw c.in-Next.is at (c.in_ok-climb.ensures g h.all h.stands h.after) in
    next_walk g c.args.walk.now _ c.args.tree h u.0 u.1 refl refl

pub returns-in-Whole : goal.returns-in-Whole
returns-in-Whole c g n h =
    let u = c.in_ok-climb.ensures g h.all h.stands h.after in
    let a = h.counted in
    let b = h.few in
    let l : length h.all ≤ 4096 = omega (arith, a, b) in
    c.decided.ensures g h.all n (subst (IsFound g h.all) (sym c.replace-found.ensures.value) h.found) l (rw c.in-Whole.is at u)
