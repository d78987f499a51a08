use Rattle.std.proofs.Common.{length, take, arith, refl, sym, ap, ◌∙◌, subst, true}
use Rattle.std.specs.List.{All}
use Rattle.heylo_formula.specs.Goals.{goal_of}
use Rattle.linear_form.specs.PlainPaths.{path_of}
use Rattle.linear_rows.specs.VariableTypes.{IsNumericRow}
use Rattle.region_split.specs.PathPoints.{with_truths}
use Rattle.region_split.proofs.PieceSteps.{first_piece, piece_closed, piece_ends, piece_given}
use Rattle.region_split.proofs.Steps.{path_length, point_length}
use Rattle.region_split.proofs.cell.open_cell.Goals as goal

pub solve-requires-clause-rows : goal.solve-requires-clause-rows
solve-requires-clause-rows c = c.requires.stands.rows.normal

pub solve-requires-clause-numeric : goal.solve-requires-clause-numeric
solve-requires-clause-numeric c = subst (λ ts. All (IsNumericRow ts) c.args.list.now) (sym c.deref.ensures.value) c.requires.stands.rows.numeric

pub solve-requires-clause-few : goal.solve-requires-clause-few
solve-requires-clause-few c = c.requires.stands.rows.few

pub solve-requires-clause-few_variables : goal.solve-requires-clause-few_variables
solve-requires-clause-few_variables c =
    let v = ap length c.deref.ensures.value in
    let s = c.requires.stands.short in
    omega (arith, v, s)

pub returns-in-Refuted-clause-shown : goal.returns-in-Refuted-clause-shown
returns-in-Refuted-clause-shown c =
    let g = goal_of c.args.goal.now in
    let ps = path_of c.args.path.now in
    let first = take c.args.kept c.args.list.now in
    let h = c.in_ok-multipliers.ensures.solved g ps true c.requires.stands.rows.are_rows (sym c.deref.ensures.value) in
    piece_closed g 0 ps first c.args.end.now c.in-Refuted.multipliers c.leaf.result (length c.args.path.now) (first_piece g ps c.args.list.now first c.args.kept c.args.end.now c.requires.stands refl) (path_length c.args.path.now (length c.args.path.now) refl) c.leaf.ensures (rw c.in-Refuted.is at h)

pub with_path-requires : goal.with_path-requires
with_path-requires c =
    let g = goal_of c.args.goal.now in
    let ps = path_of c.args.path.now in
    let h = c.in_ok-multipliers.ensures.solved g ps true c.requires.stands.rows.are_rows (sym c.deref.ensures.value) in
    let p = point_length g ps true c.in-Point.point.items (rw c.in-Point.is at h) in
    let s = c.requires.stands.short in
    omega (arith, p, s)

pub returns-in_ok-with_path-in-Point-clause-shown : goal.returns-in_ok-with_path-in-Point-clause-shown
returns-in_ok-with_path-in-Point-clause-shown c =
    let g = goal_of c.args.goal.now in
    let ps = path_of c.args.path.now in
    let first = take c.args.kept c.args.list.now in
    let h = c.in_ok-multipliers.ensures.solved g ps true c.requires.stands.rows.are_rows (sym c.deref.ensures.value) in
    piece_given g 0 ps first c.args.end.now c.in-Point.point.items _ (first_piece g ps c.args.list.now first c.args.kept c.args.end.now c.requires.stands refl) (rw c.in-Point.is at h) (c.in_ok-with_path-in-Point.ensures ∙ ap (with_truths ps 0) c.deref-in-Point.ensures.value)

pub broken_piece-requires-clause-typed : goal.broken_piece-requires-clause-typed
broken_piece-requires-clause-typed c = c.requires.stands.typed

pub broken_piece-requires-clause-stands : goal.broken_piece-requires-clause-stands
broken_piece-requires-clause-stands c = first_piece (goal_of c.args.goal.now) (path_of c.args.path.now) c.args.list.now _ c.args.kept c.args.end.now c.requires.stands refl

pub broken_piece-requires-clause-breaks : goal.broken_piece-requires-clause-breaks
broken_piece-requires-clause-breaks c = rw c.in-Break.is at (c.in_ok-multipliers.ensures.solved (goal_of c.args.goal.now) (path_of c.args.path.now) true c.requires.stands.rows.are_rows (sym c.deref.ensures.value))

pub returns-in-Unknown-clause-shown : goal.returns-in-Unknown-clause-shown
returns-in-Unknown-clause-shown c =
    let g = goal_of c.args.goal.now in
    let ps = path_of c.args.path.now in
    piece_ends g 0 ps c.in-Unknown.cause (rw c.in-Unknown.is at (c.in_ok-multipliers.ensures.solved g ps true c.requires.stands.rows.are_rows (sym c.deref.ensures.value)))
