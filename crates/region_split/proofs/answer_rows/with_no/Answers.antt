use Rattle.std.proofs.Common.{◌≡◌, refl, ap, ◌∙◌, subst, arith, length, take, false}
use Rattle.std.specs.Prelude.{Some}
use Rattle.heylo_formula.specs.Goals.{goal_of}
use Rattle.linear_form.specs.PathRows.{rows_of}
use Rattle.linear_form.specs.PlainPaths.{path_of, atom_of}
use Rattle.region_split.proofs.AnsweredBefore.{question_path}
use Rattle.region_split.proofs.Trails.{stands_still, rows_first}
use Rattle.region_split.proofs.answer_rows.with_no.Goals as goal

pub row_of_answer-requires-clause-path : goal.row_of_answer-requires-clause-path
row_of_answer-requires-clause-path c = question_path (goal_of c.args.goal.now) (path_of c.args.trail.now.path.items) (atom_of c.args.atom) false c.requires.path c.requires.goes_on

pub returns-in-Rows : goal.returns-in-Rows
returns-in-Rows c =
    let g = goal_of c.args.goal.now in
    let ps = path_of c.args.trail.now.path.items in
    let a = rw c.in-Bits.is at c.in_ok-question.ensures in
    let m = c.len-count.ensures in
    let o = c.args.trail.now.rows.ok.0 in
    let n : c.len-count.result ≡ length c.args.trail.now.rows.items = omega (arith, m, o) in
    let e = subst (λ xs. rows_of g (path_of xs) false ≡ Some c.in-Rows.list.items) (c.deref.ensures.value ∙ a.1.same_path) (rw c.in-Rows.is at c.in_ok-list-in-Bits.ensures.rows) in
    let r = c.truncate.ensures.items ∙ ap (λ k. take k c.in-Rows.list.items) n ∙ rows_first g ps c.args.trail.now.rows.items c.in-Rows.list.items c.requires.stands.rows e in
    (ap atom_of a.0, stands_still g c.args.trail.now _ c.requires.stands a.1.same_path refl r refl refl c.requires.stands.known)
