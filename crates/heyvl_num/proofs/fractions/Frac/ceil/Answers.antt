use Rattle.std.proofs.Common.{◌∙◌, sym, subst, FitsSigned, rules, ℤ}
use Rattle.std.specs.Int.{w128}
use Rattle.heyvl_num.specs.Rounding.{IsCeiling}
use Rattle.heyvl_num.proofs.Roundings.{ceil-is, ceil_made, turned}
use Rattle.heyvl_num.proofs.fractions.Frac.ceil.Goals as goal

pub overflow_sub-result : goal.overflow_sub-result
overflow_sub-result c =
    let d : FitsSigned w128 c.den.result = search rules in
    let q = ceil_made c.args.self.now c.negated_num.result c.den.result c.div_euclid.result c.negated_num.ensures.value c.negated_num.ensures.small c.den.ensures d c.div_euclid.ensures in
    (turned c.div_euclid.result q.small).fits

pub returns : goal.returns
returns c =
    let d : FitsSigned w128 c.den.result = search rules in
    let q = ceil_made c.args.self.now c.negated_num.result c.den.result c.div_euclid.result c.negated_num.ensures.value c.negated_num.ensures.small c.den.ensures d c.div_euclid.ensures in
    let e = (turned c.div_euclid.result q.small).is ∙ q.is in
    record {
      value = e;
      least = subst (λ (z : ℤ). IsCeiling c.args.self.now z) (sym e) (ceil-is c.args.self.now);
    }
