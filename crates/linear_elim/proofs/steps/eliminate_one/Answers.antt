use Rattle.std.proofs.Common.{◌≡◌, refl, sym, subst, ◌∙◌, true}
use Rattle.std.specs.List.{All}
use Rattle.linear_rows.specs.Terms.{coefficient}
use Rattle.linear_elim.specs.Joins.{is_below_zero, is_above_zero}
use Rattle.linear_elim.specs.Steps.{kept}
use Rattle.linear_elim.specs.internal.DerivedRows.{IsDerived}
use Rattle.linear_elim.proofs.CountedTerms.{split_is, tidy_differ}
use Rattle.linear_elim.specs.internal.Signless.{AreSignless}
use Rattle.linear_elim.proofs.JoinSequences.{step_kept, step_counted, step_rows}
use Rattle.linear_elim.proofs.steps.eliminate_one.Goals as goal

pub count_rows-requires-clause-split : goal.count_rows-requires-clause-split
count_rows-requires-clause-split c = split_is c.args.x c.args.rows.items _ _ c.in_ok-lows.ensures.lows c.in_ok-lows.ensures.ups c.requires

pub count_rows-requires-clause-different : goal.count_rows-requires-clause-different
count_rows-requires-clause-different c = tidy_differ (kept c.args.x c.args.rows.items) _ (c.deref.ensures.value ∙ c.in_ok-lows.ensures.rest)

pub returns-then-not-drops-clause-signless : goal.returns-then-not-drops-clause-signless
returns-then-not-drops-clause-signless c =
    let h = rw c.in-Rows.is at c.in_ok-count_rows.ensures.signless in
    λ e. subst (AreSignless c.args.later.now) (step_rows c.args.x c.args.rows.items _ _ _ _ c.in_ok-lows.ensures.lows c.in_ok-lows.ensures.ups (c.deref.ensures.value ∙ c.in_ok-lows.ensures.rest) refl) (h e)

pub returns-then-not-drops-clause-after : goal.returns-then-not-drops-clause-after
returns-then-not-drops-clause-after c =
    let h = rw c.in-Rows.is at c.in_ok-count_rows.ensures.counted in
    step_counted c.args.x c.args.rows.items _ _ _ _ _ _ _ c.in_ok-lows.ensures.lows c.in_ok-lows.ensures.ups c.in_ok-lows.ensures.found (c.deref.ensures.value ∙ c.in_ok-lows.ensures.rest) c.is_none.ensures c.if-is_none.true h c.if-count-gt4096.true

pub join_all-requires-clause-lows_derived : goal.join_all-requires-clause-lows_derived
join_all-requires-clause-lows_derived c =
    let s = split_is c.args.x c.args.rows.items _ _ c.in_ok-lows.ensures.lows c.in_ok-lows.ensures.ups c.requires in
    subst (All IsDerived) (sym c.deref-2.ensures.value) s.lows_derived

pub join_all-requires-clause-ups_derived : goal.join_all-requires-clause-ups_derived
join_all-requires-clause-ups_derived c =
    let s = split_is c.args.x c.args.rows.items _ _ c.in_ok-lows.ensures.lows c.in_ok-lows.ensures.ups c.requires in
    subst (All IsDerived) (sym c.deref-3.ensures.value) s.ups_derived

pub join_all-requires-clause-lower : goal.join_all-requires-clause-lower
join_all-requires-clause-lower c =
    let s = split_is c.args.x c.args.rows.items _ _ c.in_ok-lows.ensures.lows c.in_ok-lows.ensures.ups c.requires in
    subst (All (λ r. is_below_zero (coefficient c.args.x r.row.terms) ≡ true)) (sym c.deref-2.ensures.value) s.lower

pub join_all-requires-clause-upper : goal.join_all-requires-clause-upper
join_all-requires-clause-upper c =
    let s = split_is c.args.x c.args.rows.items _ _ c.in_ok-lows.ensures.lows c.in_ok-lows.ensures.ups c.requires in
    subst (All (λ r. is_above_zero (coefficient c.args.x r.row.terms) ≡ true)) (sym c.deref-3.ensures.value) s.upper

pub returns-then-branch-clause-after : goal.returns-then-branch-clause-after
returns-then-branch-clause-after c = step_kept c.args.x c.args.rows.items _ _ _ _ _ _ _ _ _ (c.deref-2.ensures.value ∙ c.in_ok-lows.ensures.lows) (c.deref-3.ensures.value ∙ c.in_ok-lows.ensures.ups) c.in_ok-lows.ensures.lows c.in_ok-lows.ensures.ups c.in_ok-lows.ensures.found c.in_ok-lows.ensures.rest c.in_ok-join_all.ensures.fits c.if-branch.true (c.in_ok-join_all.ensures.found c.if-branch.true) (c.in_ok-join_all.ensures.rows c.if-branch.true)
