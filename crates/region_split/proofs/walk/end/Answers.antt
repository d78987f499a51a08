use Rattle.std.proofs.Common.{◌≡◌, refl, sym, arith, Bool, true, false, not}
use Rattle.heylo_formula.specs.Goals.{goal_of}
use Rattle.linear_form.specs.PlainPaths.{path_of}
use Rattle.region_split.proofs.Steps.{path_length, all_counted, cell_walk, plain_cell, here}
use Rattle.region_split.proofs.walk.end.Goals as goal

undone : (b : Bool) → not b ≡ false → b ≡ true
undone true h = refl
undone false h = sym h

pub returns-then-walk-ge-MOST_CELLS : goal.returns-then-walk-ge-MOST_CELLS
returns-then-walk-ge-MOST_CELLS c = (c.requires.linear, (refl, all_counted (goal_of c.args.goal.now) (path_of c.args.walk.now.trail.path.items) c.args.walk.now c.args.ends.plain c.requires.stands.come c.requires.at_end.is_end c.if-walk-ge-MOST_CELLS.true))

pub returns : goal.returns
returns c =
    let g = goal_of c.args.goal.now in
    let ps = path_of c.args.walk.now.trail.path.items in
    let e = c.if-not-ends.false in
    let p : c.args.ends.plain ≡ true = undone c.args.ends.plain e in
    let m = c.len.ensures in
    let o = c.args.walk.now.trail.path.ok.0 in
    let l = path_length c.args.walk.now.trail.path.items c.len.result (omega (arith, m, o)) in
    c.finish.ensures g c.requires.linear (cell_walk g c.args.walk.now _ c.args.walk.now.found c.leaf-tree.result c.requires.stands c.if-walk-ge-MOST_CELLS.false (here g c.args.walk.now.trail c.requires.stands.stands) refl refl refl (plain_cell g ps c.args.walk.now.found c.args.ends.plain c.leaf-tree.result c.len.result l c.leaf-tree.ensures c.requires.at_end.is_end p))
