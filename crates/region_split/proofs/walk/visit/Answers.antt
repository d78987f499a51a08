use Rattle.std.proofs.Common.{arith, sym, subst}
use Rattle.heylo_formula.specs.Goals.{goal_of}
use Rattle.linear_form.specs.Cells.{GoesOn}
use Rattle.linear_form.specs.PlainPaths.{path_of, atom_of}
use Rattle.linear_form.specs.Places.{IsOn}
use Rattle.region_split.specs.internal.PathFindings.{IsEndOf}
use Rattle.region_split.specs.internal.Trails.{IsDroppedBy}
use Rattle.region_split.proofs.Steps.{path_length, come_asked, come_path, walk_short, standing, with_trail, step_from, dropped_walk, front_ends}
use Rattle.region_split.proofs.walk.visit.Goals as goal

pub look-requires-clause-path : goal.look-requires-clause-path
look-requires-clause-path c = come_path (goal_of c.args.goal.now) (path_of c.args.walk.now.trail.path.items) c.args.walk.now c.requires.comes.come

pub look-requires-clause-short : goal.look-requires-clause-short
look-requires-clause-short c = walk_short (goal_of c.args.goal.now) c.args.walk.now.trail.path.items c.requires.short (come_asked (goal_of c.args.goal.now) (path_of c.args.walk.now.trail.path.items) c.args.walk.now c.requires.comes.come)

pub look-requires-clause-comes : goal.look-requires-clause-comes
look-requires-clause-comes c = c.requires.comes.comes

pub returns-in-Dropped : goal.returns-in-Dropped
returns-in-Dropped c =
    let g = goal_of c.args.goal.now in
    let r = rw c.in-Dropped.is at c.in_ok-multipliers.ensures in
    let w = with_trail c.args.walk.now c.look.new.trail in
    let m = c.len.ensures in
    let o = c.look.new.trail.path.ok.0 in
    let l = path_length c.look.new.trail.path.items c.len.result (omega (arith, m, o)) in
    step_from g (path_of c.args.walk.now.trail.path.items) (path_of c.look.new.trail.path.items) c.finish.new.walk c.finish.result r.0.path (c.finish.ensures g c.requires.linear (dropped_walk g w c.in-Dropped.multipliers c.leaf-tree.result c.len.result l c.leaf-tree.ensures (standing g c.args.walk.now c.look.new.trail c.requires.comes.come r.0) (subst (λ ps. IsDroppedBy g ps c.in-Dropped.multipliers.items) (sym r.0.path) r.1)))

pub deeper-requires-clause-asking : goal.deeper-requires-clause-asking
deeper-requires-clause-asking c =
    let g = goal_of c.args.goal.now in
    let r = rw c.in-Question.is at c.in_ok-multipliers.ensures in
    record {
      stands = standing g c.args.walk.now c.look.new.trail c.requires.comes.come r.0;
      goes_on = subst (λ ps. GoesOn g ps (atom_of c.in-Question.atom)) (sym r.0.path) r.1.0;
      on = subst (λ ps. IsOn g ps c.in-Question.place) (sym r.0.path) r.1.1;
    }

pub returns-in-Question : goal.returns-in-Question
returns-in-Question c =
    let g = goal_of c.args.goal.now in
    let r = rw c.in-Question.is at c.in_ok-multipliers.ensures in
    step_from g (path_of c.args.walk.now.trail.path.items) (path_of c.look.new.trail.path.items) c.deeper.new.walk c.deeper.result r.0.path c.deeper.ensures

pub end-requires-clause-stands : goal.end-requires-clause-stands
end-requires-clause-stands c =
    let g = goal_of c.args.goal.now in
    let r = rw c.in-End.is at c.in_ok-multipliers.ensures in
    standing g c.args.walk.now c.look.new.trail c.requires.comes.come r.0

pub end-requires-clause-at_end : goal.end-requires-clause-at_end
end-requires-clause-at_end c =
    let g = goal_of c.args.goal.now in
    let r = rw c.in-End.is at c.in_ok-multipliers.ensures in
    subst (λ ps. IsEndOf g ps c.in-End.ends) (sym r.0.path) r.1

pub returns-in-End : goal.returns-in-End
returns-in-End c =
    let g = goal_of c.args.goal.now in
    let r = rw c.in-End.is at c.in_ok-multipliers.ensures in
    step_from g (path_of c.args.walk.now.trail.path.items) (path_of c.look.new.trail.path.items) c.end.new.walk c.end.result r.0.path c.end.ensures

pub returns-in-Unknown : goal.returns-in-Unknown
returns-in-Unknown c =
    let g = goal_of c.args.goal.now in
    let r = rw c.in-Unknown.is at c.in_ok-multipliers.ensures in
    front_ends g (path_of c.args.walk.now.trail.path.items) c.args.walk.now c.in-Unknown.cause c.requires.linear c.requires.comes.come r
