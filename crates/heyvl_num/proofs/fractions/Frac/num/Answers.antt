use Rattle.std.proofs.Common.{◌∙◌, sym, ap, unsigned_abs}
use Rattle.std.specs.Int.{w128}
use Rattle.std.proofs.lemmas.Int.{to_z-of_z, fits_signed_from_abs}
use Rattle.heyvl_num.specs.Rational.{Rational}
use Rattle.heyvl_num.specs.RationalParts.{ratio_num-lowest, abs-pos}
use Rattle.heyvl_num.proofs.fractions.Frac.num.Goals as goal

pub returns : goal.returns
returns c =
    let f = c.self.inside in
    let h = c.self.invariant in
    to_z-of_z w128 f.num (fits_signed_from_abs w128 f.num h.1) ∙ sym (ratio_num-lowest f.num (unsigned_abs f.den) (abs-pos f.den h.0) h.2) ∙ ap (λ (r : Rational). r.num) c.self.view_is
