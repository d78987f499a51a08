use Rattle.std.proofs.Common.{arith, FitsSigned, rules}
use Rattle.std.specs.Int.{w128}
use Rattle.std.proofs.lemmas.Int.{ints}
use Rattle.heyvl_num.proofs.Values.{infinite_times_zero, infinite_times_other}
use Rattle.heyvl_num.proofs.extended_numbers.infinite_times.Goals as goal

pub returns-then-num-eq0 : goal.returns-then-num-eq0
returns-then-num-eq0 c =
    let f : FitsSigned w128 c.num.result = search rules in
    infinite_times_zero c.args.x.now (omega (arith, ints, c.num.ensures))

pub returns-else-num-eq0 : goal.returns-else-num-eq0
returns-else-num-eq0 c =
    let f : FitsSigned w128 c.num.result = search rules in
    infinite_times_other c.args.x.now (λ e. omega (arith, ints, c.num.ensures))
