use Rattle.std.proofs.Common.{◌≡◌, length, refl, sym, ap, subst, arith, true}
use Rattle.std.specs.Prelude.{None, Some}
use Rattle.heylo_formula.specs.Goals.{goal_of}
use Rattle.linear_form.specs.AskAnswers.{Answers}
use Rattle.linear_form.specs.Paths.{IsPath, end_at}
use Rattle.linear_form.specs.PathRows.{rows_of}
use Rattle.linear_form.specs.PlainPaths.{path_of}
use Rattle.linear_form.specs.declared.questions.Ask as K
use Rattle.goal_answers.specs.declared.causes.Cause.TheVariants.{Bits}
use Rattle.linear_form.specs.RowLists.{ArePathRows}
use Rattle.linear_guess.specs.Searches.{Remembers}
use Rattle.region_split.specs.internal.PathFindings.{AreRowsAt}
use Rattle.region_split.specs.internal.Progress.{EndsPiece, IsCellStand, IsJudgedCell}
use Rattle.region_split.proofs.PathAnswers.{no_rows}
use Rattle.region_split.proofs.Trails.{looked, remembers_list}
use Rattle.region_split.proofs.Steps.{cell_walk, cell_ends, cell_stands, come_asked, come_path, not_plain_there, walk_short}
use Rattle.region_split.proofs.PieceSteps.{piece_ends}
use Rattle.region_split.proofs.walk.denied_end.Goals as goal

pub with_denied_goal-requires-clause-path : goal.with_denied_goal-requires-clause-path
with_denied_goal-requires-clause-path c = subst (λ xs. IsPath (goal_of c.args.goal.now) (path_of xs)) (sym c.deref.ensures.value) (come_path (goal_of c.args.goal.now) (path_of c.args.walk.now.trail.path.items) c.args.walk.now c.requires.stands.come)

pub with_denied_goal-requires-clause-ends : goal.with_denied_goal-requires-clause-ends
with_denied_goal-requires-clause-ends c = subst (λ xs. Answers (K.TheVariants.End c.args.ends.stated c.args.ends.found) (end_at (goal_of c.args.goal.now) (path_of xs))) (sym c.deref.ensures.value) c.requires.at_end.values

pub with_denied_goal-requires-clause-rows : goal.with_denied_goal-requires-clause-rows
with_denied_goal-requires-clause-rows c = rw c.replace-rows.ensures.value (subst (λ xs. ArePathRows (goal_of c.args.goal.now) (path_of xs) c.args.walk.now.trail.rows.items) (sym c.deref.ensures.value) c.requires.stands.stands.rows)

pub returns-in_default : goal.returns-in_default
returns-in_default c =
    let g = goal_of c.args.goal.now in
    let ps = path_of c.args.walk.now.trail.path.items in
    cell_ends g ps c.args.walk.now c.args.ends.plain Bits c.requires.linear c.requires.stands.come c.requires.at_end.is_end c.requires.few (not_plain_there g ps c.args.ends.plain c.requires.at_end.is_end c.requires.not_plain) (piece_ends g 0 ps Bits (no_rows g ps true (subst (λ xs. rows_of g (path_of xs) true ≡ None) c.deref.ensures.value (rw c.in_default.is at c.in_ok-list.ensures.rows))))

pub judge-requires-clause-stands : goal.judge-requires-clause-stands
judge-requires-clause-stands c =
    let g = goal_of c.args.goal.now in
    let w = c.args.walk.now in
    let a = rw c.in-Rows.is at c.in_ok-list.ensures.few in
    let d = ap length c.deref.ensures.value in
    let s = walk_short g w.trail.path.items c.requires.short (come_asked g (path_of w.trail.path.items) w c.requires.stands.come) in
    let n = c.len-kept.ensures in
    let o = w.trail.rows.ok.0 in
    let r : AreRowsAt g (path_of w.trail.path.items) true c.in-Rows.list.items = record {
      are_rows = subst (λ xs. rows_of g (path_of xs) true ≡ Some c.in-Rows.list.items) c.deref.ensures.value (rw c.in-Rows.is at c.in_ok-list.ensures.rows);
      normal = rw c.in-Rows.is at c.in_ok-list.ensures.normal;
      numeric = rw c.in-Rows.is at (c.in_ok-list.ensures.numeric c.requires.typed);
      few = omega (arith, a, d, s);
    } in
    subst (λ rs. IsCellStand g (path_of c.deref-2.result.now) rs c.len-kept.result c.args.ends) (sym c.deref-3.ensures.value) (cell_stands g w c.deref-2.result.now c.in-Rows.list.items c.len-kept.result c.args.ends c.requires.typed c.requires.short c.requires.stands c.requires.at_end c.requires.not_plain c.deref-2.ensures.value r (omega (arith, n, o)) (rw c.replace-rows.ensures.value at (rw c.in-Rows.is at c.in_ok-list.ensures.first)))

pub judge-requires-clause-remembered : goal.judge-requires-clause-remembered
judge-requires-clause-remembered c = subst (λ s. Remembers s c.deref-3.result.now) (sym c.deref_mut.ensures.value) (subst (Remembers c.args.walk.now.trail.search.value) (sym c.deref-3.ensures.value) (remembers_list c.args.walk.now.trail.search.value c.args.walk.now.trail.rows.items c.in-Rows.list.items c.requires.stands.stands.remembers (rw c.replace-rows.ensures.value at (rw c.in-Rows.is at c.in_ok-list.ensures.first))))

pub returns-in-Judged : goal.returns-in-Judged
returns-in-Judged c =
    let g = goal_of c.args.goal.now in
    let ps = path_of c.args.walk.now.trail.path.items in
    let n = c.len-kept.ensures in
    let o = c.args.walk.now.trail.rows.ok.0 in
    let t = looked g c.args.walk.now.trail _ c.in-Rows.list.items c.deref-3.result.now c.len-kept.result c.requires.stands.stands (omega (arith, n, o)) (rw c.replace-rows.ensures.value at (rw c.in-Rows.is at c.in_ok-list.ensures.first)) c.deref-3.ensures.value refl refl c.truncate.ensures.items refl c.in_ok-cell.ensures.remembered c.requires.stands.stands.known in
    let j = subst (λ xs. IsJudgedCell g (path_of xs) c.args.walk.now.found c.in-Judged.found c.in-Judged.tree) c.deref-2.ensures.value (rw c.replace-found.ensures.value at (rw c.in-Judged.is at c.in_ok-cell.ensures.judged)) in
    c.finish.ensures g c.requires.linear (cell_walk g c.args.walk.now _ c.in-Judged.found c.in-Judged.tree c.requires.stands c.requires.few t refl refl refl j)

pub returns : goal.returns
returns c =
    let g = goal_of c.args.goal.now in
    let ps = path_of c.args.walk.now.trail.path.items in
    cell_ends g ps c.args.walk.now c.args.ends.plain c.in-Unknown.cause c.requires.linear c.requires.stands.come c.requires.at_end.is_end c.requires.few (not_plain_there g ps c.args.ends.plain c.requires.at_end.is_end c.requires.not_plain) (subst (λ xs. EndsPiece g 0 (path_of xs) c.in-Unknown.cause) c.deref-2.ensures.value (rw c.in-Unknown.is at c.in_ok-cell.ensures.judged))
