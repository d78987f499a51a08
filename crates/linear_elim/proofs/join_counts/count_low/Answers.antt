use Rattle.std.proofs.Common.{◌<◌, ◌≤◌, ◌+◌, ◌++◌, sym, ap, subst, ◌∙◌, drop, refl}
use Rattle.std.specs.Prelude.{Some}
use Rattle.std.proofs.lemmas.List.{drop_more}
use Rattle.linear_elim.specs.Steps.{joins}
use Rattle.linear_elim.specs.internal.CountedRows.{no_row, nth, terms_at}
use Rattle.linear_elim.proofs.CountedTerms.{joins_more, joins_end}
use Rattle.linear_elim.proofs.JoinSequences.{each_fits_more, each_fits_stop, each_fits_end, each_found_more, each_found_end}
use Rattle.linear_elim.proofs.join_counts.count_low.Goals as goal

pub returns-in-Some-false-clause-fits : goal.returns-in-Some-false-clause-fits
returns-in-Some-false-clause-fits c =
    let p = subst (λ n. c.loop-j.j < n) c.requires.numbers.as_many c.loop-j-test.true in
    let e = drop_more c.args.step.now.ups c.loop-j.j no_row p in
    let f = rw c.in-Some-false.is at c.in_ok-count_pair.ensures.fits in
    each_fits_stop c.args.step.now.var (nth c.args.step.now.lows c.args.i) c.args.step.now.ups c.loop-j.j _ _ e (sym c.in-Some-false.field-0-test ∙ f) c.loop-j.invariant.fits

pub loop-j-preserved : goal.loop-j-preserved
loop-j-preserved c =
    let p = subst (λ n. c.loop-j.j < n) c.requires.numbers.as_many c.loop-j-test.true in
    let e = drop_more c.args.step.now.ups c.loop-j.j no_row p in
    let f = rw c.in-Some-true.is at c.in_ok-count_pair.ensures.fits in
    let t = c.in-Some-true.is ∙ ap Some c.in-Some-true.field-0-test in
    record {
      fits = each_fits_more c.args.step.now.var (nth c.args.step.now.lows c.args.i) c.args.step.now.ups c.loop-j.j _ _ e (sym c.in-Some-true.field-0-test ∙ f) c.loop-j.invariant.fits;
      found = each_found_more c.args.step.now.var (nth c.args.step.now.lows c.args.i) c.args.step.now.ups c.loop-j.j _ _ _ _ _ e refl (c.in_ok-count_pair.ensures.found t) c.loop-j.invariant.found;
      table = λ more all h. c.in_ok-count_pair.ensures.table t (joins c.args.step.now.var (nth c.args.step.now.lows c.args.i) (drop (c.loop-j.j + 1) c.args.step.now.ups) ++ more) all (joins_more (terms_at c.args.step.now c.args.kept.now) c.loop-j.out.table c.args.step.now c.args.i c.loop-j.j more all p (c.loop-j.invariant.table more all h));
    }

pub returns-clause-fits : goal.returns-clause-fits
returns-clause-fits c =
    let p = subst (λ n. n ≤ c.loop-j.j) c.requires.numbers.as_many c.loop-j-test.false in
    each_fits_end c.args.step.now.var (nth c.args.step.now.lows c.args.i) c.args.step.now.ups c.loop-j.j _ p c.loop-j.invariant.fits

pub returns-clause-found : goal.returns-clause-found
returns-clause-found c =
    let p = subst (λ n. n ≤ c.loop-j.j) c.requires.numbers.as_many c.loop-j-test.false in
    λ t. each_found_end c.args.step.now.var (nth c.args.step.now.lows c.args.i) c.args.step.now.ups c.loop-j.j _ _ p c.loop-j.invariant.found

pub returns-clause-table : goal.returns-clause-table
returns-clause-table c =
    let p = subst (λ n. n ≤ c.loop-j.j) c.requires.numbers.as_many c.loop-j-test.false in
    λ t more all h. joins_end (terms_at c.args.step.now c.args.kept.now) c.loop-j.out.table c.args.step.now c.args.i c.loop-j.j more all p (c.loop-j.invariant.table more all h)
