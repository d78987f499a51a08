use Rattle.std.proofs.Common.{◌≡◌, refl, sym, ap, subst, length, arith, true}
use Rattle.std.specs.Prelude.{Some, None}
use Rattle.heylo_formula.specs.Goals.{goal_of}
use Rattle.linear_form.specs.AskAnswers.{Answers}
use Rattle.linear_form.specs.Paths.{IsPath, end_at}
use Rattle.linear_form.specs.PathRows.{rows_of}
use Rattle.linear_form.specs.PlainPaths.{path_of}
use Rattle.linear_form.specs.declared.questions.Ask as K
use Rattle.linear_form.specs.RowLists.{ArePathRows}
use Rattle.linear_form.proofs.exported.Places.{rows_counted}
use Rattle.region_split.proofs.PathAnswers.{unstated, dropped_by}
use Rattle.region_split.proofs.Trails.{again}
use Rattle.region_split.proofs.MovedMultipliers.{signs_stand, stand_held, within_held, moved_held}
use Rattle.region_split.proofs.front.dropped_end.Goals as goal

pub with_denied_goal-requires-clause-path : goal.with_denied_goal-requires-clause-path
with_denied_goal-requires-clause-path c = subst (λ xs. IsPath (goal_of c.args.goal.now) (path_of xs)) (sym c.deref.ensures.value) c.requires.path

pub with_denied_goal-requires-clause-ends : goal.with_denied_goal-requires-clause-ends
with_denied_goal-requires-clause-ends c = subst (λ xs. Answers (K.TheVariants.End c.args.stated.now c.args.found.now) (end_at (goal_of c.args.goal.now) (path_of xs))) (sym c.deref.ensures.value) c.requires.ends

pub with_denied_goal-requires-clause-rows : goal.with_denied_goal-requires-clause-rows
with_denied_goal-requires-clause-rows c = rw c.replace-rows.ensures.value (subst (λ xs. ArePathRows (goal_of c.args.goal.now) (path_of xs) c.args.trail.now.rows.items) (sym c.deref.ensures.value) c.requires.stands.rows)

pub returns-in_default : goal.returns-in_default
returns-in_default c = unstated (goal_of c.args.goal.now) (path_of c.args.trail.now.path.items) c.args.multipliers.now c.requires.refuted (subst (λ xs. rows_of (goal_of c.args.goal.now) (path_of xs) true ≡ None) c.deref.ensures.value (rw c.in_default.is at c.in_ok-more.ensures.rows))

pub places-requires-clause-inside : goal.places-requires-clause-inside
places-requires-clause-inside c =
    let g = goal_of c.args.goal.now in
    let ps = path_of c.args.trail.now.path.items in
    let n = c.len-kept_rows.ensures in
    let o = c.args.trail.now.rows.ok.0 in
    let e = subst (λ xs. rows_of g (path_of xs) true ≡ Some c.in-Rows.more.items) c.deref.ensures.value (rw c.in-Rows.is at c.in_ok-more.ensures.rows) in
    let s = signs_stand c.args.trail.now.rows.items c.args.signs.now _ c.in-Rows.more.items _ (c.denied_rows_are_more.ensures.places g ps _ c.in-Rows.more.items c.requires.denied c.requires.rows e) refl (rows_counted g ps c.args.trail.now.rows.items c.requires.stands.rows) in
    (stand_held c.args.trail.now.rows.items c.args.signs.now c.in-Rows.more.items c.deref-2.result.now c.len-kept_rows.result (omega (arith, n, o)) c.deref-2.ensures.value s).0

pub places-requires-clause-among : goal.places-requires-clause-among
places-requires-clause-among c =
    let g = goal_of c.args.goal.now in
    let ps = path_of c.args.trail.now.path.items in
    let n = c.len-kept_rows.ensures in
    let o = c.args.trail.now.rows.ok.0 in
    let e = subst (λ xs. rows_of g (path_of xs) true ≡ Some c.in-Rows.more.items) c.deref.ensures.value (rw c.in-Rows.is at c.in_ok-more.ensures.rows) in
    let s = signs_stand c.args.trail.now.rows.items c.args.signs.now _ c.in-Rows.more.items _ (c.denied_rows_are_more.ensures.places g ps _ c.in-Rows.more.items c.requires.denied c.requires.rows e) refl (rows_counted g ps c.args.trail.now.rows.items c.requires.stands.rows) in
    (stand_held c.args.trail.now.rows.items c.args.signs.now c.in-Rows.more.items c.deref-2.result.now c.len-kept_rows.result (omega (arith, n, o)) c.deref-2.ensures.value s).1

pub places-requires-clause-few : goal.places-requires-clause-few
places-requires-clause-few c =
    let a = rw c.in-Rows.is at c.in_ok-more.ensures.few in
    let b = ap length c.deref.ensures.value in
    let d = ap length c.deref-2.ensures.value in
    let s = c.requires.short in
    omega (arith, a, b, d, s)

pub moved-requires : goal.moved-requires
moved-requires c =
    let g = goal_of c.args.goal.now in
    let ps = path_of c.args.trail.now.path.items in
    let n = c.len-kept_rows.ensures in
    let o = c.args.trail.now.rows.ok.0 in
    within_held g ps c.args.multipliers.now c.args.trail.now.rows.items c.args.signs.now c.deref-2.result.now c.len-kept_rows.result _ c.deref-3.result.now (omega (arith, n, o)) c.deref-3.ensures.value c.requires.refuted c.requires.rows c.in_ok-moved_signs.ensures

pub returns : goal.returns
returns c =
    let g = goal_of c.args.goal.now in
    let ps = path_of c.args.trail.now.path.items in
    let n = c.len-kept_rows.ensures in
    let o = c.args.trail.now.rows.ok.0 in
    let k : c.len-kept_rows.result ≡ length c.args.trail.now.rows.items = omega (arith, n, o) in
    let e = subst (λ xs. rows_of g (path_of xs) true ≡ Some c.in-Rows.more.items) c.deref.ensures.value (rw c.in-Rows.is at c.in_ok-more.ensures.rows) in
    let s = signs_stand c.args.trail.now.rows.items c.args.signs.now _ c.in-Rows.more.items _ (c.denied_rows_are_more.ensures.places g ps _ c.in-Rows.more.items c.requires.denied c.requires.rows e) refl (rows_counted g ps c.args.trail.now.rows.items c.requires.stands.rows) in
    let f = rw c.replace-rows.ensures.value at (rw c.in-Rows.is at c.in_ok-more.ensures.first) in
    (again g c.args.trail.now _ c.in-Rows.more.items c.len-kept_rows.result c.requires.stands k f refl refl c.truncate.ensures.items refl refl c.requires.stands.known, dropped_by g ps true c.args.multipliers.now _ c.requires.denied c.requires.refuted (moved_held g ps c.args.multipliers.now _ c.args.trail.now.rows.items c.args.signs.now c.in-Rows.more.items c.deref-2.result.now c.len-kept_rows.result _ c.deref-3.result.now k c.deref-2.ensures.value c.deref-3.ensures.value c.requires.refuted c.requires.rows e s c.in_ok-moved_signs.ensures c.in_ok-moved_all.ensures))
