use Rattle.std.proofs.Common.{◌≡◌, length, refl, sym, ap, ◌∙◌, subst, arith, false}
use Rattle.std.specs.Prelude.{Some, None}
use Rattle.std.specs.List.{All}
use Rattle.heylo_formula.specs.Goals.{goal_of}
use Rattle.linear_form.specs.Paths.{IsPath}
use Rattle.linear_form.specs.PathRows.{rows_of}
use Rattle.linear_rows.specs.Row.{IsRow}
use Rattle.linear_rows.specs.VariableTypes.{IsNumericRow}
use Rattle.linear_form.specs.PlainPaths.{path_of}
use Rattle.linear_form.specs.RowLists.{ArePathRows}
use Rattle.linear_guess.specs.Searches.{Remembers}
use Rattle.region_split.proofs.Trails.{looked, two_parts, starts_length, remembers_list}
use Rattle.region_split.proofs.PathAnswers.{no_rows, kept_where_met}
use Rattle.region_split.proofs.front.look_there.Goals as goal

pub with_signs_of_path-requires-clause-path : goal.with_signs_of_path-requires-clause-path
with_signs_of_path-requires-clause-path c = subst (λ xs. IsPath (goal_of c.args.goal.now) (path_of xs)) (sym c.deref.ensures.value) c.requires.path

pub with_signs_of_path-requires-clause-rows : goal.with_signs_of_path-requires-clause-rows
with_signs_of_path-requires-clause-rows c = rw c.replace-rows.ensures.value (subst (λ xs. ArePathRows (goal_of c.args.goal.now) (path_of xs) c.args.trail.now.rows.items) (sym c.deref.ensures.value) c.requires.stands.rows)

pub with_signs_of_path-requires-clause-occurrences : goal.with_signs_of_path-requires-clause-occurrences
with_signs_of_path-requires-clause-occurrences c = rw c.replace-rows.ensures.value c.requires.stands.occurrences

pub returns-in_default : goal.returns-in_default
returns-in_default c = no_rows (goal_of c.args.goal.now) (path_of c.args.trail.now.path.items) false (subst (λ xs. rows_of (goal_of c.args.goal.now) (path_of xs) false ≡ None) c.deref.ensures.value (rw c.in_default.is at c.in_ok-list.ensures.rows))

pub settle-requires-clause-rows : goal.settle-requires-clause-rows
settle-requires-clause-rows c = subst (All IsRow) (sym c.deref-2.ensures.value) (rw c.in-Rows.is at c.in_ok-list.ensures.normal)

pub settle-requires-clause-numeric : goal.settle-requires-clause-numeric
settle-requires-clause-numeric c = subst (λ ts. All (IsNumericRow ts) c.deref-2.result.now) (sym c.deref-3.ensures.value) (subst (λ rs. All (IsNumericRow c.args.goal.now.vars.items) rs) (sym c.deref-2.ensures.value) (rw c.in-Rows.is at (c.in_ok-list.ensures.numeric c.requires.typed)))

pub settle-requires-clause-few : goal.settle-requires-clause-few
settle-requires-clause-few c =
    let a = rw c.in-Rows.is at c.in_ok-list.ensures.few in
    let b = ap length c.deref.ensures.value in
    let d = ap length c.deref-2.ensures.value in
    let s = c.requires.short in
    omega (arith, a, b, d, s)

pub settle-requires-clause-remembered : goal.settle-requires-clause-remembered
settle-requires-clause-remembered c = subst (λ s. Remembers s c.deref-2.result.now) (sym c.deref_mut.ensures.value) (subst (Remembers c.args.trail.now.search.value) (sym c.deref-2.ensures.value) (remembers_list c.args.trail.now.search.value c.args.trail.now.rows.items c.in-Rows.list.items c.requires.stands.remembers (rw c.replace-rows.ensures.value at (rw c.in-Rows.is at c.in_ok-list.ensures.first))))

pub split_off-requires : goal.split_off-requires
split_off-requires c =
    let n = c.len-kept_rows.ensures in
    let o = c.args.trail.now.rows.ok.0 in
    let p = c.in-Rows.list.ok.0 in
    let k = starts_length c.args.trail.now.rows.items c.in-Rows.list.items c.len-kept_rows.result (rw c.replace-rows.ensures.value at (rw c.in-Rows.is at c.in_ok-list.ensures.first)) (omega (arith, n, o)) in
    omega (arith, k, p)

pub dropped-requires-clause-stands : goal.dropped-requires-clause-stands
dropped-requires-clause-stands c =
    let n = c.len-kept_rows.ensures in
    let o = c.args.trail.now.rows.ok.0 in
    (looked (goal_of c.args.goal.now) c.args.trail.now _ c.in-Rows.list.items c.deref-2.result.now c.len-kept_rows.result c.requires.stands (omega (arith, n, o)) (rw c.replace-rows.ensures.value at (rw c.in-Rows.is at c.in_ok-list.ensures.first)) c.deref-2.ensures.value refl refl c.in_ok-signs.ensures.items refl c.in_ok-settled.ensures.remembered c.requires.stands.known).stands

pub dropped-requires-clause-rows : goal.dropped-requires-clause-rows
dropped-requires-clause-rows c =
    let g = goal_of c.args.goal.now in
    let e = subst (λ xs. rows_of g (path_of xs) false ≡ Some c.in-Rows.list.items) c.deref.ensures.value (rw c.in-Rows.is at c.in_ok-list.ensures.rows) in
    e ∙ ap Some (two_parts c.in-Rows.list.items _ _ c.len-kept_rows.result c.in_ok-signs.ensures.items (c.deref-in-Refuted.ensures.value ∙ c.in_ok-signs.ensures.tail))

pub dropped-requires-clause-refuted : goal.dropped-requires-clause-refuted
dropped-requires-clause-refuted c =
    let g = goal_of c.args.goal.now in
    let e = subst (λ xs. rows_of g (path_of xs) false ≡ Some c.in-Rows.list.items) c.deref.ensures.value (rw c.in-Rows.is at c.in_ok-list.ensures.rows) in
    rw c.in-Refuted.is at (c.in_ok-settled.ensures.settled g (path_of c.args.trail.now.path.items) false (e ∙ ap Some (sym c.deref-2.ensures.value)) (sym c.deref-3.ensures.value))

pub kept-requires-clause-stands : goal.kept-requires-clause-stands
kept-requires-clause-stands c =
    let n = c.len-kept_rows.ensures in
    let o = c.args.trail.now.rows.ok.0 in
    (looked (goal_of c.args.goal.now) c.args.trail.now _ c.in-Rows.list.items c.deref-2.result.now c.len-kept_rows.result c.requires.stands (omega (arith, n, o)) (rw c.replace-rows.ensures.value at (rw c.in-Rows.is at c.in_ok-list.ensures.first)) c.deref-2.ensures.value refl refl c.in_ok-signs.ensures.items refl c.in_ok-settled.ensures.remembered c.requires.stands.known).stands

pub returns-in-Met : goal.returns-in-Met
returns-in-Met c =
    let g = goal_of c.args.goal.now in
    let e = subst (λ xs. rows_of g (path_of xs) false ≡ Some c.in-Rows.list.items) c.deref.ensures.value (rw c.in-Rows.is at c.in_ok-list.ensures.rows) in
    c.kept.ensures (kept_where_met g (path_of c.args.trail.now.path.items) (rw c.in-Met.is at (c.in_ok-settled.ensures.settled g (path_of c.args.trail.now.path.items) false (e ∙ ap Some (sym c.deref-2.ensures.value)) (sym c.deref-3.ensures.value))))

pub returns : goal.returns
returns c =
    let g = goal_of c.args.goal.now in
    let e = subst (λ xs. rows_of g (path_of xs) false ≡ Some c.in-Rows.list.items) c.deref.ensures.value (rw c.in-Rows.is at c.in_ok-list.ensures.rows) in
    rw c.in-Unknown.is at (c.in_ok-settled.ensures.settled g (path_of c.args.trail.now.path.items) false (e ∙ ap Some (sym c.deref-2.ensures.value)) (sym c.deref-3.ensures.value))
