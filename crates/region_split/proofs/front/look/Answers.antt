use Rattle.std.proofs.Common.{◌≡◌, ◌∙◌, ap, arith, length, refl, sym, subst, take, false}
use Rattle.std.specs.Prelude.{Some, None}
use Rattle.heylo_formula.specs.Goals.{goal_of}
use Rattle.heylo_formula.specs.Typing.{types_in}
use Rattle.linear_form.specs.Paths.{IsPath}
use Rattle.linear_values.specs.Tightening.{all_tightened}
use Rattle.linear_form.specs.PathRows.{path_claims}
use Rattle.linear_form.specs.PlainPaths.{path_of}
use Rattle.region_split.specs.internal.Trails.{AreRowsSoFar}
use Rattle.linear_rows.specs.Occurrences.{AreOccurrences}
use Rattle.linear_form.specs.RowLists.{ArePathRows}
use Rattle.region_split.proofs.Trails.{rows_so_far, stands_with, unstated_path}
use Rattle.region_split.proofs.PathAnswers.{no_rows}
use Rattle.region_split.proofs.front.look.Goals as goal

pub with_last_row-requires-clause-path : goal.with_last_row-requires-clause-path
with_last_row-requires-clause-path c = subst (λ xs. IsPath (goal_of c.args.goal.now) (path_of xs)) (sym c.deref.ensures.value) c.requires.path

pub with_last_row-requires-clause-rows : goal.with_last_row-requires-clause-rows
with_last_row-requires-clause-rows c = rw c.replace-before.ensures.value (subst (λ xs. AreRowsSoFar (goal_of c.args.goal.now) (path_of xs) c.args.trail.now.rows.items) (sym c.deref.ensures.value) c.requires.comes.rows)

pub look_there-requires-clause-stands : goal.look_there-requires-clause-stands
look_there-requires-clause-stands c =
    let g = goal_of c.args.goal.now in
    let n = c.len-noted.ensures in
    let l = c.args.trail.now.rows.ok.0 in
    let k : ArePathRows g (path_of c.args.trail.now.path.items) c.in-Rows.rows.items = record { are_rows = subst (λ xs. all_tightened (types_in g.types) (path_claims (path_of xs)) ≡ Some c.in-Rows.rows.items) c.deref.ensures.value (rw c.in-Rows.is at c.in_ok-rows.ensures) } in
    let e = rows_so_far g (path_of c.args.trail.now.path.items) c.args.trail.now.rows.items c.in-Rows.rows.items c.len-noted.result c.requires.comes.rows k (omega (arith, n, l)) in
    let d = c.deref-in-Rows.ensures.value in
    let before = subst (λ rows. AreOccurrences (length g.types) rows c.args.trail.now.occurrences) (sym (ap (take c.len-noted.result) d ∙ e)) c.requires.comes.occurrences in
    stands_with g c.args.trail.now _ c.requires.comes k refl refl (subst (λ rows. AreOccurrences (length g.types) rows c.note.new.self) d (c.note.ensures (length g.types) before)) refl c.requires.comes.known

pub returns-in-Bits : goal.returns-in-Bits
returns-in-Bits c =
    let g = goal_of c.args.goal.now in
    let ps = path_of c.args.trail.now.path.items in
    no_rows g ps false (unstated_path g ps (subst (λ xs. all_tightened (types_in g.types) (path_claims (path_of xs)) ≡ None) c.deref.ensures.value (rw c.in-Bits.is at c.in_ok-rows.ensures)))
