use Rattle.std.proofs.Common.{◌∙◌, sym, ap, unsigned_abs, ◌<◌, ◌^◌, subst, ℤ}
use Rattle.std.proofs.Math.IntN.{neg_ℤ}
use Rattle.heyvl_num.specs.Rational.{Rational}
use Rattle.heyvl_num.specs.RationalParts.{ratio_num-lowest, abs-pos}
use Rattle.heyvl_num.proofs.Roundings.{turned, neg_small}
use Rattle.heyvl_num.proofs.fractions.Frac.negated_num.Goals as goal

pub overflow_sub-result : goal.overflow_sub-result
overflow_sub-result c = (turned c.self.inside.num c.self.invariant.1).fits

pub returns : goal.returns
returns c =
    let f = c.self.inside in
    let h = c.self.invariant in
    let e = (turned f.num h.1).is in
    record {
      value = e ∙ ap neg_ℤ (sym (ratio_num-lowest f.num (unsigned_abs f.den) (abs-pos f.den h.0) h.2) ∙ ap (λ (r : Rational). r.num) c.self.view_is);
      small = subst (λ (z : ℤ). unsigned_abs z < 2 ^ 127) (sym e) (neg_small f.num h.1);
    }
