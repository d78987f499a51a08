use Rattle.std.proofs.Common.{sym, ap, ◌∙◌}
use Rattle.std.specs.Prelude.{Some}
use Rattle.linear_elim.specs.Steps.{pairs}
use Rattle.linear_elim.specs.internal.CountedRows.{terms_at}
use Rattle.linear_elim.proofs.CountedTerms.{counted_all, rows_lack}
use Rattle.linear_elim.proofs.join_counts.count_rows.Goals as goal

pub returns-in-Some-true-clause-counted : goal.returns-in-Some-true-clause-counted
returns-in-Some-true-clause-counted c =
    let f = rw c.in-Some-true.is at c.in_ok-count_all.ensures.fits in
    let t = c.in-Some-true.is ∙ ap Some c.in-Some-true.field-0-test in
    (sym f ∙ c.in-Some-true.field-0-test, c.in_ok-count_all.ensures.found t, counted_all (terms_at c.args.step.now c.args.kept.now) _ _ (pairs c.args.step.now.var c.args.step.now.lows c.args.step.now.ups) c.args.kept.now c.requires.different (c.in_ok-count_kept.ensures c.if-not-branch.false) (c.in_ok-count_all.ensures.table t))

pub returns-in-Some-true-clause-signless : goal.returns-in-Some-true-clause-signless
returns-in-Some-true-clause-signless c =
    let t = c.in-Some-true.is ∙ ap Some c.in-Some-true.field-0-test in
    λ e. rows_lack (terms_at c.args.step.now c.args.kept.now) _ _ (pairs c.args.step.now.var c.args.step.now.lows c.args.step.now.ups) c.args.kept.now c.args.later.now c.requires.different (c.in_ok-count_kept.ensures c.if-not-branch.false) (c.in_ok-count_all.ensures.table t) (c.lacks_signs-signless.ensures e (terms_at c.args.step.now c.args.kept.now))
