use Rattle.std.proofs.Common.{sym}
use Rattle.heyvl_num.proofs.ExactParts.{given, quotient_refused, positive_den, negative_den, negated_fits, negated_small, quotient_made, quotient_turned}
use Rattle.heyvl_num.proofs.fractions.Frac.new.Goals as goal

pub overflow_sub-num : goal.overflow_sub-num
overflow_sub-num c =
    let g = given c.args.num c.args.den _ c.ranges.num c.ranges.den c.is_quotient.ensures c.if-not-is_quotient.false in
    negated_fits c.args.num g.num g.num_seen

pub overflow_sub-den : goal.overflow_sub-den
overflow_sub-den c =
    let g = given c.args.num c.args.den _ c.ranges.num c.ranges.den c.is_quotient.ensures c.if-not-is_quotient.false in
    negated_fits c.args.den g.den g.den_seen

pub reduced-requires-clause-positive : goal.reduced-requires-clause-positive
reduced-requires-clause-positive c =
    let g = given c.args.num c.args.den _ c.ranges.num c.ranges.den c.is_quotient.ensures c.if-not-is_quotient.false in
    negative_den c.args.num c.args.den g c.if-den-lt0.true

pub reduced-requires-clause-small : goal.reduced-requires-clause-small
reduced-requires-clause-small c =
    let g = given c.args.num c.args.den _ c.ranges.num c.ranges.den c.is_quotient.ensures c.if-not-is_quotient.false in
    negated_small c.args.num g.num g.num_seen

pub reduced-requires-else-den-lt0-clause-positive : goal.reduced-requires-else-den-lt0-clause-positive
reduced-requires-else-den-lt0-clause-positive c =
    let g = given c.args.num c.args.den _ c.ranges.num c.ranges.den c.is_quotient.ensures c.if-not-is_quotient.false in
    positive_den c.args.num c.args.den g c.if-den-lt0.false

pub reduced-requires-else-den-lt0-clause-small : goal.reduced-requires-else-den-lt0-clause-small
reduced-requires-else-den-lt0-clause-small c =
    let g = given c.args.num c.args.den _ c.ranges.num c.ranges.den c.is_quotient.ensures c.if-not-is_quotient.false in
    rw g.num_seen g.num

pub returns-then-not-is_quotient : goal.returns-then-not-is_quotient
returns-then-not-is_quotient c = sym (quotient_refused c.args.num c.args.den _ c.ranges.num c.ranges.den c.is_quotient.ensures c.if-not-is_quotient.true)

pub returns-then-den-lt0 : goal.returns-then-den-lt0
returns-then-den-lt0 c =
    let g = given c.args.num c.args.den _ c.ranges.num c.ranges.den c.is_quotient.ensures c.if-not-is_quotient.false in
    quotient_turned c.args.num c.args.den _ g c.if-den-lt0.true c.reduced.ensures

pub returns-else-den-lt0 : goal.returns-else-den-lt0
returns-else-den-lt0 c =
    let g = given c.args.num c.args.den _ c.ranges.num c.ranges.den c.is_quotient.ensures c.if-not-is_quotient.false in
    quotient_made c.args.num c.args.den _ g c.if-den-lt0.false c.reduced-else-den-lt0.ensures
