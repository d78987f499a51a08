use Rattle.std.proofs.Common.{rules, FitsSigned, to_z, of_z, sym, ap, ◌∙◌}
use mir.Syntax.{w64}
use Rattle.std.proofs.lemmas.Int.{to_z-of_z}
use Rattle.linear_elim.specs.internal.Fingerprints.{hashed}
use Rattle.linear_elim.proofs.MixedTerms.{quotient_value}
use Rattle.linear_elim.proofs.JoinNumbers.{quotient_none, quotient_hashed}
use Rattle.linear_elim.proofs.join_numbers.with_quotient.Goals as goal

pub returns-then-c-eq0 : goal.returns-then-c-eq0
returns-then-c-eq0 c =
    let x : FitsSigned w64 c.args.c = search rules in
    quotient_none c.args.divisor c.args.number c.args.v c.args.c (sym (to_z-of_z w64 _ x) ∙ ap (to_z w64) c.if-c-eq0.true)

pub returns : goal.returns
returns c =
    let x : FitsSigned w64 c.args.c = search rules in
    let k = simp to_z-of_z at c.cast_unsigned.ensures in
    let q = quotient_value c.args.c c.args.divisor x c.requires.positive c.requires.small in
    quotient_hashed c.args.divisor c.args.number c.args.v c.args.c _ _ _ (λ z. c.if-c-eq0.false (ap (of_z w64) z)) q (c.hashed-half.ensures ∙ ap (hashed c.args.number) c.from.ensures) (c.hashed.ensures ∙ ap (hashed c.hashed-half.result) k)
