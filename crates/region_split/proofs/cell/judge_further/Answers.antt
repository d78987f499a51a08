use Rattle.std.proofs.Common.{length, arith, sym, ap, subst, refl, true}
use Rattle.std.specs.List.{All}
use Rattle.heylo_formula.specs.Goals.{goal_of}
use Rattle.linear_form.specs.PlainPaths.{path_of}
use Rattle.linear_rows.specs.VariableTypes.{IsNumericRow}
use Rattle.region_split.proofs.PieceSteps.{cell_at, piece_ends, unplain_at}
use Rattle.region_split.proofs.Steps.{path_length, refuted_cell, further_cell}
use Rattle.region_split.proofs.cell.judge_further.Goals as goal

pub settle-requires-clause-rows : goal.settle-requires-clause-rows
settle-requires-clause-rows c = c.requires.stands.rows.normal

pub settle-requires-clause-numeric : goal.settle-requires-clause-numeric
settle-requires-clause-numeric c = subst (λ ts. All (IsNumericRow ts) c.args.list.now) (sym c.deref.ensures.value) c.requires.stands.rows.numeric

pub settle-requires-clause-few : goal.settle-requires-clause-few
settle-requires-clause-few c = c.requires.stands.rows.few

pub settle-requires-clause-few_variables : goal.settle-requires-clause-few_variables
settle-requires-clause-few_variables c =
    let v = ap length c.deref.ensures.value in
    let s = c.requires.stands.short in
    omega (arith, v, s)

pub returns-in-Refuted-clause-judged : goal.returns-in-Refuted-clause-judged
returns-in-Refuted-clause-judged c =
    let g = goal_of c.args.goal.now in
    let ps = path_of c.args.path.now in
    let s = c.requires.stands in
    let h = c.in_ok-multipliers.ensures.settled g ps true s.rows.are_rows (sym c.deref.ensures.value) in
    refuted_cell g ps c.args.point s.end.is_end.ends c.in-Refuted.multipliers c.leaf.result (length c.args.path.now) (path_length c.args.path.now (length c.args.path.now) refl) c.leaf.ensures (cell_at g ps c.args.list.now c.args.kept c.args.end.now s) s.end.is_end.at_end (unplain_at g ps c.args.list.now c.args.kept c.args.end.now s) (rw c.in-Refuted.is at h)

pub returns-in-Met-clause-judged : goal.returns-in-Met-clause-judged
returns-in-Met-clause-judged c =
    let g = goal_of c.args.goal.now in
    let ps = path_of c.args.path.now in
    let s = c.requires.stands in
    let h = c.in_ok-multipliers.ensures.settled g ps true s.rows.are_rows (sym c.deref.ensures.value) in
    further_cell g ps c.args.point (cell_at g ps c.args.list.now c.args.kept c.args.end.now s) (unplain_at g ps c.args.list.now c.args.kept c.args.end.now s) (rw c.in-Met.is at h)

pub returns-in-Unknown-clause-judged : goal.returns-in-Unknown-clause-judged
returns-in-Unknown-clause-judged c =
    let g = goal_of c.args.goal.now in
    let ps = path_of c.args.path.now in
    piece_ends g 0 ps c.in-Unknown.cause (rw c.in-Unknown.is at (c.in_ok-multipliers.ensures.settled g ps true c.requires.stands.rows.are_rows (sym c.deref.ensures.value)))
