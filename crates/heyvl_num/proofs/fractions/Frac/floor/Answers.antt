use Rattle.std.proofs.Common.{sym, subst, FitsSigned, rules, ℤ}
use Rattle.std.specs.Int.{w128}
use Rattle.heyvl_num.specs.Rounding.{IsFloor}
use Rattle.heyvl_num.proofs.Roundings.{floor-is, floor_made}
use Rattle.heyvl_num.proofs.fractions.Frac.floor.Goals as goal

pub returns : goal.returns
returns c =
    let n : FitsSigned w128 c.num.result = search rules in
    let d : FitsSigned w128 c.den.result = search rules in
    let r : FitsSigned w128 c.div_euclid.result = search rules in
    let e = floor_made c.args.self.now c.num.result c.den.result c.div_euclid.result c.num.ensures c.den.ensures n d r c.div_euclid.ensures in
    record {
      value = e;
      greatest = subst (λ (z : ℤ). IsFloor c.args.self.now z) (sym e) (floor-is c.args.self.now);
    }
