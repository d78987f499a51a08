use Rattle.std.proofs.Common.{◌≡◌, refl, sym, subst, true, [], ◌∷◌, ◌++◌, length}
use Rattle.std.specs.Prelude.{IfOk}
use Rattle.heylo_formula.specs.Goals.{goal_of}
use Rattle.linear_form.specs.Cells.{GoesOn}
use Rattle.linear_form.specs.Paths.{IsPath}
use Rattle.linear_form.specs.PathRows.{answer_claims}
use Rattle.linear_form.specs.PlainPaths.{path_of, atom_of}
use Rattle.linear_form.specs.Query.{onto}
use Rattle.linear_form.specs.RowLists.{ArePathRows}
use Rattle.region_split.specs.internal.Repeats.{IsBoth}
use Rattle.region_split.proofs.AnsweredBefore.{question_path, unstated_yes}
use Rattle.region_split.proofs.Trails.{stands_still}
use Rattle.region_split.proofs.answer_rows.rows_of_answers.Goals as goal

pub row_of_answer-requires-clause-path : goal.row_of_answer-requires-clause-path
row_of_answer-requires-clause-path c = question_path (goal_of c.args.goal.now) (path_of c.args.trail.now.path.items) (atom_of c.args.atom) true c.requires.path c.requires.goes_on

pub returns-in-Bits : goal.returns-in-Bits
returns-in-Bits c =
    let a = rw c.in-Bits.is at c.in_ok-row_of_answer.ensures in
    unstated_yes (goal_of c.args.goal.now) (path_of c.args.trail.now.path.items) (atom_of c.args.atom) c.requires.goes_on a.1.no_rows

pub with_no-requires-clause-path : goal.with_no-requires-clause-path
with_no-requires-clause-path c =
    let a = rw c.in-Row.is at c.in_ok-row_of_answer.ensures in
    subst (λ xs. IsPath (goal_of c.args.goal.now) (path_of xs)) (sym a.1.same_path) c.requires.path

pub with_no-requires-clause-stands : goal.with_no-requires-clause-stands
with_no-requires-clause-stands c =
    let a = rw c.in-Row.is at c.in_ok-row_of_answer.ensures in
    (stands_still (goal_of c.args.goal.now) c.args.trail.now _ c.requires.stands a.1.same_path refl a.1.same_rows refl refl c.requires.stands.known).stands

pub with_no-requires-clause-goes_on : goal.with_no-requires-clause-goes_on
with_no-requires-clause-goes_on c =
    let g = goal_of c.args.goal.now in
    let a = rw c.in-Row.is at c.in_ok-row_of_answer.ensures in
    subst (λ xs. GoesOn g (path_of xs) (atom_of c.in-Row.question)) (sym a.1.same_path) (subst (λ q. GoesOn g (path_of c.args.trail.now.path.items) (atom_of q)) (sym a.0) c.requires.goes_on)

pub with_no-requires-clause-comparison : goal.with_no-requires-clause-comparison
with_no-requires-clause-comparison c =
    let a = rw c.in-Row.is at c.in_ok-row_of_answer.ensures in
    λ held. subst (λ q. length (answer_claims (atom_of q) held) ≡ 1) (sym a.0) (c.requires.comparison held)

pub with_no-requires-clause-yes : goal.with_no-requires-clause-yes
with_no-requires-clause-yes c =
    let g = goal_of c.args.goal.now in
    let a = rw c.in-Row.is at c.in_ok-row_of_answer.ensures in
    let r = c.in-Row.row in
    let b = subst (λ rows. ArePathRows g (onto (path_of c.args.trail.now.path.items) (atom_of c.args.atom) true) (rows ++ (r ∷ []))) (sym a.1.same_rows) a.1.are_rows in
    let d = subst (λ q. ArePathRows g (onto (path_of c.args.trail.now.path.items) (atom_of q) true) (c.row_of_answer.new.rows.items ++ (r ∷ []))) (sym a.0) b in
    subst (λ xs. ArePathRows g (onto (path_of xs) (atom_of c.in-Row.question) true) (c.row_of_answer.new.rows.items ++ (r ∷ []))) (sym a.1.same_path) d

pub returns : goal.returns
returns c =
    let g = goal_of c.args.goal.now in
    let a = rw c.in-Row.is at c.in_ok-row_of_answer.ensures in
    let b = subst (λ q. IfOk c.with_no.result (λ b. IsBoth g (path_of c.row_of_answer.new.path.items) (atom_of q) c.with_no.new.trail b)) a.0 c.with_no.ensures in
    subst (λ xs. IfOk c.with_no.result (λ b. IsBoth g (path_of xs) (atom_of c.args.atom) c.with_no.new.trail b)) a.1.same_path b
