use Rattle.std.proofs.Common.{◌∙◌, sym, ap, rules, FitsSigned, unsigned_abs, pos}
use Rattle.std.specs.Int.{w128}
use Rattle.std.proofs.lemmas.Int.{to_z-of_z}
use Rattle.heyvl_num.specs.Rational.{Rational}
use Rattle.heyvl_num.specs.RationalParts.{ratio_den-lowest, abs-pos, pos-abs}
use Rattle.heyvl_num.proofs.fractions.Frac.den.Goals as goal

pub returns : goal.returns
returns c =
    let f = c.self.inside in
    let h = c.self.invariant in
    let fits : FitsSigned w128 f.den = search rules in
    to_z-of_z w128 f.den fits ∙ sym (pos-abs f.den h.0) ∙ sym (ap pos (ratio_den-lowest f.num (unsigned_abs f.den) (abs-pos f.den h.0) h.2)) ∙ ap (λ (r : Rational). pos r.den) c.self.view_is
