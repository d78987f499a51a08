use Rattle.std.proofs.Common.{◌<◌, ◌≤◌, ◌+◌, ◌++◌, length, sym, ap, subst, ◌∙◌, drop}
use Rattle.std.specs.Prelude.{Some}
use Rattle.std.proofs.lemmas.List.{drop_more}
use Rattle.linear_elim.specs.Elimination.{Step}
use Rattle.linear_elim.specs.Steps.{pairs}
use Rattle.linear_elim.specs.internal.CountedRows.{no_row, terms_at}
use Rattle.linear_elim.proofs.JoinSequences.{all_fits_more, all_fits_stop, all_fits_end, all_found_more, all_found_end}
use Rattle.linear_elim.proofs.CountedTerms.{pairs_more, pairs_end}
use Rattle.linear_elim.proofs.join_counts.count_all.Goals as goal

pub returns-in-Some-false-clause-fits : goal.returns-in-Some-false-clause-fits
returns-in-Some-false-clause-fits c =
    let l = c.deref-lows.ensures.value ∙ ap (λ (s : Step). s.lows) c.step.view_is in
    let p = subst (λ xs. c.loop-i.i < length xs) l c.loop-i-test.true in
    let e = drop_more c.args.step.now.lows c.loop-i.i no_row p in
    let f = rw c.in-Some-false.is at c.in_ok-count_low.ensures.fits in
    all_fits_stop c.args.step.now.var c.args.step.now.lows c.args.step.now.ups c.loop-i.i _ _ e (sym c.in-Some-false.field-0-test ∙ f) c.loop-i.invariant.fits

pub loop-i-preserved : goal.loop-i-preserved
loop-i-preserved c =
    let l = c.deref-lows.ensures.value ∙ ap (λ (s : Step). s.lows) c.step.view_is in
    let p = subst (λ xs. c.loop-i.i < length xs) l c.loop-i-test.true in
    let e = drop_more c.args.step.now.lows c.loop-i.i no_row p in
    let f = rw c.in-Some-true.is at c.in_ok-count_low.ensures.fits in
    let t = c.in-Some-true.is ∙ ap Some c.in-Some-true.field-0-test in
    record {
      fits = all_fits_more c.args.step.now.var c.args.step.now.lows c.args.step.now.ups c.loop-i.i _ _ e (sym c.in-Some-true.field-0-test ∙ f) c.loop-i.invariant.fits;
      found = all_found_more c.args.step.now.var c.args.step.now.lows c.args.step.now.ups c.loop-i.i _ _ _ _ e (c.in_ok-count_low.ensures.found t) c.loop-i.invariant.found;
      table = λ more all h. c.in_ok-count_low.ensures.table t (pairs c.args.step.now.var (drop (c.loop-i.i + 1) c.args.step.now.lows) c.args.step.now.ups ++ more) all (pairs_more (terms_at c.args.step.now c.args.kept.now) c.loop-i.out.table c.args.step.now c.loop-i.i more all p (c.loop-i.invariant.table more all h));
    }

pub returns-clause-fits : goal.returns-clause-fits
returns-clause-fits c =
    let l = c.deref-lows.ensures.value ∙ ap (λ (s : Step). s.lows) c.step.view_is in
    all_fits_end c.args.step.now.var c.args.step.now.lows c.args.step.now.ups c.loop-i.i _ (subst (λ xs. length xs ≤ c.loop-i.i) l c.loop-i-test.false) c.loop-i.invariant.fits

pub returns-clause-found : goal.returns-clause-found
returns-clause-found c =
    let l = c.deref-lows.ensures.value ∙ ap (λ (s : Step). s.lows) c.step.view_is in
    λ t. all_found_end c.args.step.now.var c.args.step.now.lows c.args.step.now.ups c.loop-i.i _ _ (subst (λ xs. length xs ≤ c.loop-i.i) l c.loop-i-test.false) c.loop-i.invariant.found

pub returns-clause-table : goal.returns-clause-table
returns-clause-table c =
    let l = c.deref-lows.ensures.value ∙ ap (λ (s : Step). s.lows) c.step.view_is in
    λ t more all h. pairs_end (terms_at c.args.step.now c.args.kept.now) c.loop-i.out.table c.args.step.now c.loop-i.i more all (subst (λ xs. length xs ≤ c.loop-i.i) l c.loop-i-test.false) (c.loop-i.invariant.table more all h)
