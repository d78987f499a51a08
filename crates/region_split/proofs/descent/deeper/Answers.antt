use Rattle.std.proofs.Common.{refl, sym, ap, subst, arith, true}
use Rattle.heylo_formula.specs.Goals.{goal_of}
use Rattle.linear_form.specs.Cells.{IsKeptPath, GoesOn}
use Rattle.linear_form.specs.PlainPaths.{path_of, atom_of}
use Rattle.linear_form.specs.Places.{IsOn}
use Rattle.linear_form.proofs.exported.Places.{place_stays}
use Rattle.region_split.specs.internal.Progress.{left_of}
use Rattle.region_split.proofs.WalkMoves.{left_first, left_of_second}
use Rattle.region_split.proofs.Steps.{path_length, come_asked, come_path, walk_short, with_trail, standing, standing_first, standing_second, deeper_walk, step_below, front_ends}
use Rattle.region_split.proofs.Trails.{rises}
use Rattle.region_split.proofs.descent.deeper.Goals as goal

pub repeated-requires-clause-path : goal.repeated-requires-clause-path
repeated-requires-clause-path c = come_path (goal_of c.args.goal.now) (path_of c.args.walk.now.trail.path.items) c.args.walk.now c.requires.asking.stands.come

pub repeated-requires-clause-short : goal.repeated-requires-clause-short
repeated-requires-clause-short c = walk_short (goal_of c.args.goal.now) c.args.walk.now.trail.path.items c.requires.short (come_asked (goal_of c.args.goal.now) (path_of c.args.walk.now.trail.path.items) c.args.walk.now c.requires.asking.stands.come)

pub returns-in_ok-onward-in-New : goal.returns-in_ok-onward-in-New
returns-in_ok-onward-in-New c =
    let g = goal_of c.args.goal.now in
    let ps = path_of c.args.walk.now.trail.path.items in
    let a = c.requires.asking in
    let r = rw c.in-New.is at c.in_ok-question.ensures in
    let t = c.repeated.new.trail in
    let k = subst (λ qs. GoesOn g qs (atom_of c.in-New.question)) (sym r.1.path) (subst (GoesOn g ps) (sym r.0) a.goes_on) in
    let o = subst (λ qs. IsOn g qs c.args.place) (sym r.1.path) a.on in
    let d = deeper_walk g (with_trail c.args.walk.now t) _ (record { atom = c.in-New.question; held = true }) (standing g c.args.walk.now t a.stands.come r.1) k (c.in_ok-onward-in-New.ensures g (rises g t r.1.stands) o) refl refl refl refl in
    let e = ap (left_of g) r.1.path in
    (d.0, let l = d.1 in omega (arith, l, e))

pub past-requires-clause-stands : goal.past-requires-clause-stands
past-requires-clause-stands c =
    let g = goal_of c.args.goal.now in
    let a = c.requires.asking in
    let r = rw c.in-Yes.is at c.in_ok-question.ensures in
    standing_first g c.args.walk.now c.repeated.new.trail (atom_of c.args.atom) a.stands a.goes_on r.0

pub past-requires-clause-kept : goal.past-requires-clause-kept
past-requires-clause-kept c =
    let g = goal_of c.args.goal.now in
    let r = rw c.in-Yes.is at c.in_ok-question.ensures in
    subst (IsKeptPath g) (sym r.0.path) r.1

pub past-requires-clause-on : goal.past-requires-clause-on
past-requires-clause-on c =
    let g = goal_of c.args.goal.now in
    let ps = path_of c.args.walk.now.trail.path.items in
    let a = c.requires.asking in
    let r = rw c.in-Yes.is at c.in_ok-question.ensures in
    subst (λ qs. IsOn g qs c.args.place) (sym r.0.path) (place_stays g ps _ c.args.place a.on)

pub returns-in-Yes : goal.returns-in-Yes
returns-in-Yes c =
    let g = goal_of c.args.goal.now in
    let ps = path_of c.args.walk.now.trail.path.items in
    let r = rw c.in-Yes.is at c.in_ok-question.ensures in
    let l = left_first g ps (atom_of c.args.atom) c.requires.asking.goes_on in
    let e = ap (left_of g) r.0.path in
    step_below g _ (left_of g ps) c.past.new.walk c.past.result (omega (arith, l, e)) c.past.ensures

pub past-requires-in-No-clause-stands : goal.past-requires-in-No-clause-stands
past-requires-in-No-clause-stands c =
    let g = goal_of c.args.goal.now in
    let a = c.requires.asking in
    let r = rw c.in-No.is at c.in_ok-question.ensures in
    let m = c.len.ensures in
    let o = c.repeated.new.trail.path.ok.0 in
    standing_second g c.args.walk.now _ (atom_of c.args.atom) c.in-No.multipliers c.leaf-tree.result c.len.result a.stands a.goes_on r.0 r.1.1 (path_length c.repeated.new.trail.path.items c.len.result (omega (arith, m, o))) c.leaf-tree.ensures c.in_ok-push-in-No.ensures.items refl refl

pub past-requires-in-No-clause-kept : goal.past-requires-in-No-clause-kept
past-requires-in-No-clause-kept c =
    let g = goal_of c.args.goal.now in
    let r = rw c.in-No.is at c.in_ok-question.ensures in
    subst (IsKeptPath g) (sym r.0.path) r.1.0

pub past-requires-in-No-clause-on : goal.past-requires-in-No-clause-on
past-requires-in-No-clause-on c =
    let g = goal_of c.args.goal.now in
    let ps = path_of c.args.walk.now.trail.path.items in
    let a = c.requires.asking in
    let r = rw c.in-No.is at c.in_ok-question.ensures in
    subst (λ qs. IsOn g qs c.args.place) (sym r.0.path) (place_stays g ps _ c.args.place a.on)

pub returns-in_ok-push-in-No : goal.returns-in_ok-push-in-No
returns-in_ok-push-in-No c =
    let g = goal_of c.args.goal.now in
    let ps = path_of c.args.walk.now.trail.path.items in
    let r = rw c.in-No.is at c.in_ok-question.ensures in
    let l = left_of_second g ps (atom_of c.args.atom) c.requires.asking.goes_on in
    let e = ap (left_of g) r.0.path in
    step_below g _ (left_of g ps) c.past-in-No.new.walk c.past-in-No.result (omega (arith, l, e)) c.past-in-No.ensures

pub returns-in-Unknown : goal.returns-in-Unknown
returns-in-Unknown c =
    let g = goal_of c.args.goal.now in
    front_ends g (path_of c.args.walk.now.trail.path.items) c.args.walk.now c.in-Unknown.cause c.requires.linear c.requires.asking.stands.come (rw c.in-Unknown.is at c.in_ok-question.ensures)
