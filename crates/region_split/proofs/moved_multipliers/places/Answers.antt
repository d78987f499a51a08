use Rattle.std.proofs.Common.{◌≡◌, ◌<◌, ◌∙◌, ap, arith, length}
use Rattle.region_split.proofs.MovedMultipliers.{next_place, place_taken, place_passed, places_start}
use Rattle.region_split.proofs.moved_multipliers.places.Goals as goal
use Rattle.region_split.proofs.moved_multipliers.places.Goals.{then-is_same_row+in_ok-push, else-is_same_row}

pub bounds-more-at : goal.bounds-more-at
bounds-more-at c =
    let t = c.others-test.true in
    let e = c.len.ensures in
    let o = c.others.places.ok.0 in
    let l : length c.others.places.items < length c.args.rows.now = omega (arith, t, e, o) in
    (next_place c.args.from c.args.rows.now c.args.more.now c.others.places.items c.others.at c.others.invariant l).inside

pub others-smaller : goal.others-smaller
others-smaller c =
    let t = c.others-test.true in
    let e = c.len.ensures in
    let o = c.others.places.ok.0 in
    let l : length c.others.places.items < length c.args.rows.now = omega (arith, t, e, o) in
    let n = (next_place c.args.from c.args.rows.now c.args.more.now c.others.places.items c.others.at c.others.invariant l).inside in
    omega (arith, n)

pub others-preserved : goal.others-preserved
others-preserved c =
    let t = c.others-test.true in
    let e = c.len.ensures in
    let o = c.others.places.ok.0 in
    let l : length c.others.places.items < length c.args.rows.now = omega (arith, t, e, o) in
    let f = c.len-in-others.ensures in
    let k : c.len-in-others.result ≡ length c.others.places.items = omega (arith, f, o) in
    elim c.if-is_same_row.branch [
      | then-is_same_row+in_ok-push w ↦ place_taken c.args.from c.args.rows.now c.args.more.now c.others.places.items c.if-is_same_row.places.items c.others.at c.len-in-others.result c.index-rows-len.result c.index-more-at.result c.others.invariant l k c.index-rows-len.is c.index-more-at.is (c.is_same_row.ensures.0 w.if-is_same_row.true) (ap (λ v. v.items) w.places-is ∙ w.in_ok-push.ensures.items)
      | else-is_same_row w ↦ place_passed c.args.from c.args.rows.now c.args.more.now c.others.places.items c.if-is_same_row.places.items c.others.at c.len-in-others.result c.index-rows-len.result c.index-more-at.result c.others.invariant l k c.index-rows-len.is c.index-more-at.is (λ q. let y = c.is_same_row.ensures.1 q in let z = w.if-is_same_row.false in absurd (cc)) (ap (λ v. v.items) w.places-is)
    ]

pub others-init : goal.others-init
others-init c = places_start c.args.from c.args.rows.now c.args.more.now _ c.new-places.ensures.items c.requires.inside c.requires.among
