use Rattle.std.proofs.lemmas.Int.{to_z-of_z}
use Rattle.linear_elim.proofs.Numbers.{wide_sum}
use Rattle.linear_elim.proofs.joins.mixed_rest.Goals as goal

pub returns : goal.returns
returns c =
    let p = c.ranges.p in
    let a = c.ranges.a in
    let q = c.ranges.q in
    let b = c.ranges.b in
    let e = simp to_z-of_z at c.side-left.ensures.value in
    let h = simp to_z-of_z at c.side-right.ensures.value in
    let k = simp to_z-of_z at c.side-left.ensures.small in
    let l = simp to_z-of_z at c.side-right.ensures.small in
    wide_sum _ _ _ _ e h k l
