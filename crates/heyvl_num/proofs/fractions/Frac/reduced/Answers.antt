use Rattle.heyvl_num.proofs.Quotients.{divisor, parts, whole_parts}
use Rattle.heyvl_num.proofs.fractions.Frac.reduced.Goals as goal

pub overflow_cast-divisor : goal.overflow_cast-divisor
overflow_cast-divisor c = (divisor c.args.num c.args.den _ _ _ c.requires.positive c.ranges.num c.ranges.den c.unsigned_abs.ensures.value c.unsigned_abs-2.ensures.value c.gcd-divisor.ensures.value).1

pub quotient-num-requires : goal.quotient-num-requires
quotient-num-requires c = (divisor c.args.num c.args.den _ _ _ c.requires.positive c.ranges.num c.ranges.den c.unsigned_abs.ensures.value c.unsigned_abs-2.ensures.value c.gcd-divisor.ensures.value).2

pub quotient-den-requires : goal.quotient-den-requires
quotient-den-requires c = (divisor c.args.num c.args.den _ _ _ c.requires.positive c.ranges.num c.ranges.den c.unsigned_abs.ensures.value c.unsigned_abs-2.ensures.value c.gcd-divisor.ensures.value).2

pub invariant_of-result : goal.invariant_of-result
invariant_of-result c =
    let d = divisor c.args.num c.args.den _ _ _ c.requires.positive c.ranges.num c.ranges.den c.unsigned_abs.ensures.value c.unsigned_abs-2.ensures.value c.gcd-divisor.ensures.value in
    let p = parts c.args.num c.args.den _ _ _ c.requires.positive c.ranges.den c.requires.small d.0 c.quotient-num.ensures c.quotient-den.ensures in
    (rw p.bottom p.positive, rw p.top p.small, rw (p.top, p.bottom) p.lowest)

pub returns : goal.returns
returns c =
    let d = divisor c.args.num c.args.den _ _ _ c.requires.positive c.ranges.num c.ranges.den c.unsigned_abs.ensures.value c.unsigned_abs-2.ensures.value c.gcd-divisor.ensures.value in
    let p = parts c.args.num c.args.den _ _ _ c.requires.positive c.ranges.den c.requires.small d.0 c.quotient-num.ensures c.quotient-den.ensures in
    whole_parts _ _ _ _ p
