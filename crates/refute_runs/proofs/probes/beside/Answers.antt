use Rattle.std.proofs.Common.{◌∙◌, ap, refl, subst, sym}
use Rattle.heyvl_num.specs.ExtendedNumbers.{value_of}
use Rattle.refute_runs.specs.internal.Probes.{IsSeen}
use Rattle.refute_runs.specs.Shortages.IsShort.{no_order, no_sum}
use Rattle.refute_runs.proofs.ProbeResults.{above_ends, above_less, short_ends, sum_given, within_equal, within_greater}
use Rattle.refute_runs.proofs.probes.beside.Goals as goal
use Rattle.run_unroller.specs.Unrolling.{totals_of}
use Rattle.run_unroller.specs.declared.answers.Unrolled.TheVariants as unrolled
use Rattle.std.specs.Prelude.{◌+◌, option_map}

pub returns-in_default : goal.returns-in_default
returns-in_default c = λ us given.
    let none = sym c.add.ensures ∙ ap (option_map value_of) c.in_default.is in
    subst (IsSeen us (value_of c.args.pre.now) c.args.n) (sym c.until.ensures) (short_ends us (value_of c.args.pre.now) c.args.n (unrolled.Bits (c.args.n + 1)) (no_sum (totals_of c.args.sums.now) given none) refl)

pub returns-in-Some-Less : goal.returns-in-Some-Less
returns-in-Some-Less c = λ us given.
    let sum = sym (ap (option_map value_of) c.in-Some.is) ∙ c.add.ensures in
    let order = sym c.in-Some-Less.is ∙ c.compare.ensures in
    above_ends us c.args.pre.now c.in-Some.sum c.args.n (sum_given us c.args.n (totals_of c.args.sums.now) (value_of c.in-Some.sum) given sum) (above_less (value_of c.args.pre.now) (value_of c.in-Some.sum) c.in-Some-Less.field-0 order c.in-Some-Less.field-0-is)

pub returns-in-Some-Equal : goal.returns-in-Some-Equal
returns-in-Some-Equal c = λ us given.
    let sum = sym (ap (option_map value_of) c.in-Some.is) ∙ c.add.ensures in
    let order = sym c.in-Some-Equal.is ∙ c.compare.ensures in
    (sum_given us c.args.n (totals_of c.args.sums.now) (value_of c.in-Some.sum) given sum, within_equal (value_of c.args.pre.now) (value_of c.in-Some.sum) c.in-Some-Equal.field-0 order c.in-Some-Equal.field-0-is)

pub returns-in-Some-Greater : goal.returns-in-Some-Greater
returns-in-Some-Greater c = λ us given.
    let sum = sym (ap (option_map value_of) c.in-Some.is) ∙ c.add.ensures in
    let order = sym c.in-Some-Greater.is ∙ c.compare.ensures in
    (sum_given us c.args.n (totals_of c.args.sums.now) (value_of c.in-Some.sum) given sum, within_greater (value_of c.args.pre.now) (value_of c.in-Some.sum) c.in-Some-Greater.field-0 order c.in-Some-Greater.field-0-is)

pub returns-in-None : goal.returns-in-None
returns-in-None c = λ us given.
    let sum = sym (ap (option_map value_of) c.in-Some.is) ∙ c.add.ensures in
    let order = sym c.compare.ensures ∙ c.in-None.is in
    subst (IsSeen us (value_of c.args.pre.now) c.args.n) (sym c.until-in-None.ensures) (short_ends us (value_of c.args.pre.now) c.args.n (unrolled.Bits (c.args.n + 1)) (no_order (value_of c.in-Some.sum) (value_of c.args.pre.now) (sum_given us c.args.n (totals_of c.args.sums.now) (value_of c.in-Some.sum) given sum) refl order) refl)
