use Rattle.std.proofs.Common.{◌∷◌, ap₂, sym, ◌∙◌}
use Rattle.region_split.proofs.KnownFractions.{same_unless}
use Rattle.region_split.proofs.known_comparisons.are_same_value_terms.Goals as goal

pub terms-preserved : goal.terms-preserved
terms-preserved c e =
    let x = c.in-Some.ensures.cases in
    let y = c.in-Some-split_first.ensures.cases in
    let f = same_unless c.in-Some.term.now.1 c.in-Some-split_first.other.now.1 (sym c.ne.ensures ∙ c.if-ne.false) in
    let t = ap₂ (λ n d. (n, d)) c.if-term-other.false f in
    c.terms.invariant (x.0 ∙ ap₂ (λ a b. a ∷ b) t e ∙ sym y.0)
