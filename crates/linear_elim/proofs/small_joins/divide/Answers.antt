use Rattle.std.proofs.Common.{rules, FitsSigned, refl, subst, ◌∙◌, ◌<◌, length}
use mir.Syntax.{w64}
use Rattle.std.proofs.lemmas.Int.{to_z-of_z}
use Rattle.linear_elim.proofs.MixedTerms.{quotient_value, divided_read}
use Rattle.linear_elim.proofs.small_joins.divide.Goals as goal

pub loop-i-preserved : goal.loop-i-preserved
loop-i-preserved c =
    let x : FitsSigned w64 c.index.result.now.1 = search rules in
    let q = quotient_value c.index.result.now.1 c.args.divisor x c.requires.positive c.requires.small in
    let l : c.loop-i.i < length c.args.terms.now.items = subst (λ n. c.loop-i.i < n) (c.len-i-end.ensures ∙ c.args.terms.now.ok.0) c.loop-i-test.true in
    simp to_z-of_z (divided_read c.args.divisor c.args.terms.now.items c.loop-i.terms.items _ c.loop-i.i c.index.result.now _ l c.loop-i.invariant c.index.ensures q refl)
