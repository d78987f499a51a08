use Rattle.std.proofs.Common.{◌∙◌}
use Rattle.std.proofs.lemmas.List.{length-map}
use Rattle.heylo_formula.specs.Goals.{goal_of}
use Rattle.linear_form.specs.PlainPaths.{path_of, taken_of, atom_of}
use Rattle.region_split.proofs.KnownTrails.{last_row_known}
use Rattle.region_split.proofs.Trails.{path_split, rows_before_last, rows_without_answers}
use Rattle.region_split.proofs.front.with_last_row.Goals as goal

pub returns-in_default : goal.returns-in_default
returns-in_default c = (rows_without_answers (goal_of c.args.goal.now) (path_of c.args.path.now) c.args.rows.items c.requires.rows (length-map c.args.path.now taken_of ∙ c.in_default.ensures.cases)).are_rows

pub next_row-requires-clause-rows : goal.next_row-requires-clause-rows
next_row-requires-clause-rows c =
    let before = c.in-Some.field-0-1.now in
    let answer = c.in-Some.answer.now in
    rows_before_last (goal_of c.args.goal.now) (path_of c.args.path.now) (path_of before) (taken_of answer) c.args.rows.items c.requires.rows (path_split c.args.path.now before answer c.in-Some.ensures.cases.0)

pub returns-in_ok-push-in-Some-row_of : goal.returns-in_ok-push-in-Some-row_of
returns-in_ok-push-in-Some-row_of c =
    let g = goal_of c.args.goal.now in
    let before = c.in-Some.field-0-1.now in
    let answer = c.in-Some.answer.now in
    let e = path_split c.args.path.now before answer c.in-Some.ensures.cases.0 in
    let k = rw c.in-Some-row_of.is at (c.row_of.ensures g.types c.requires.known) in
    (last_row_known g (path_of c.args.path.now) (path_of before) (atom_of answer.atom) answer.held c.args.rows.items c.push.new.self.items c.in-Some-row_of.row.now _ c.requires.rows e k c.in_ok-copy_row-in-Some-row_of.ensures c.in_ok-push-in-Some-row_of.ensures.items).are_rows
