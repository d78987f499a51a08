use Rattle.std.proofs.Common.{sym, ap, subst, ◌∙◌, arith, length, ◌≤◌}
use Rattle.linear_rows.specs.Row.{Row}
use Rattle.linear_elim.specs.Elimination.{Step}
use Rattle.linear_elim.specs.Joins.{Derived}
use Rattle.linear_elim.specs.internal.CountedRows.{terms_at, puts, IsTable}
use Rattle.linear_elim.specs.internal.Fingerprints.{fingerprint}
use Rattle.linear_elim.proofs.CountedTerms.{kept_read, kept_named, kept_more}
use Rattle.linear_elim.proofs.join_counts.count_kept.Goals as goal

pub loop-k-init : goal.loop-k-init
unfolding puts
loop-k-init c = c.requires.empty

pub put-requires-clause-number : goal.put-requires-clause-number
put-requires-clause-number c =
    let l = c.deref-lows.ensures.value ∙ ap (λ (s : Step). s.lows) c.step.view_is in
    let p : length c.deref-lows.result.now ≤ length c.deref-lows.result.now = omega arith in
    c.fingerprint-number.ensures ∙ ap fingerprint (c.deref-terms.ensures.value ∙ ap (λ (x : Row). x.terms) c.row.view_is ∙ ap (λ (x : Derived). x.row.terms) c.derived.view_is ∙ kept_read c.args.kept.now c.loop-k.k _ c.loop-k-test.true c.index-kept-k.is ∙ kept_named c.args.step.now c.args.kept.now c.in-Some.name (length c.deref-lows.result.now) c.loop-k.k c.in-Some.ensures.low c.in-Some.ensures.up (subst (λ xs. length xs ≤ length c.deref-lows.result.now) l p))

pub put-requires-clause-terms : goal.put-requires-clause-terms
put-requires-clause-terms c =
    let l = c.deref-lows.ensures.value ∙ ap (λ (s : Step). s.lows) c.step.view_is in
    let p : length c.deref-lows.result.now ≤ length c.deref-lows.result.now = omega arith in
    c.deref-terms.ensures.value ∙ ap (λ (x : Row). x.terms) c.row.view_is ∙ ap (λ (x : Derived). x.row.terms) c.derived.view_is ∙ kept_read c.args.kept.now c.loop-k.k _ c.loop-k-test.true c.index-kept-k.is ∙ kept_named c.args.step.now c.args.kept.now c.in-Some.name (length c.deref-lows.result.now) c.loop-k.k c.in-Some.ensures.low c.in-Some.ensures.up (subst (λ xs. length xs ≤ length c.deref-lows.result.now) l p)

pub loop-k-preserved : goal.loop-k-preserved
loop-k-preserved c =
    let l = c.deref-lows.ensures.value ∙ ap (λ (s : Step). s.lows) c.step.view_is in
    let p : length c.deref-lows.result.now ≤ length c.deref-lows.result.now = omega arith in
    let n = kept_named c.args.step.now c.args.kept.now c.in-Some.name (length c.deref-lows.result.now) c.loop-k.k c.in-Some.ensures.low c.in-Some.ensures.up (subst (λ xs. length xs ≤ length c.deref-lows.result.now) l p) in
    subst (λ seen. IsTable (terms_at c.args.step.now c.args.kept.now) c.put.new.table seen) (kept_more c.args.kept.now c.loop-k.k _ _ c.loop-k-test.true c.index-kept-k.is (sym (kept_read c.args.kept.now c.loop-k.k _ c.loop-k-test.true c.index-kept-k.is ∙ n))) (c.in_ok-put.ensures c.if-not-branch.false _ c.loop-k.invariant)
