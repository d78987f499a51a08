use Rattle.std.proofs.Common.{rules, FitsSigned, to_z, of_z, sym, ap, ◌∙◌}
use mir.Syntax.{w64}
use Rattle.std.proofs.lemmas.Int.{to_z-of_z}
use Rattle.linear_elim.specs.internal.Fingerprints.{hashed}
use Rattle.linear_elim.proofs.JoinNumbers.{hashed_none, hashed_one}
use Rattle.linear_elim.proofs.join_numbers.with_term.Goals as goal

pub returns-then-c-eq0 : goal.returns-then-c-eq0
returns-then-c-eq0 c =
    let x : FitsSigned w64 c.args.c = search rules in
    hashed_none c.args.number c.args.v c.args.c (sym (to_z-of_z w64 _ x) ∙ ap (to_z w64) c.if-c-eq0.true)

pub returns : goal.returns
returns c =
    let x : FitsSigned w64 c.args.c = search rules in
    let e = simp to_z-of_z at c.cast_unsigned.ensures in
    hashed_one c.args.number c.args.v c.args.c _ _ (λ z. c.if-c-eq0.false (ap (of_z w64) z)) (c.hashed-half.ensures ∙ ap (hashed c.args.number) c.from.ensures) (c.hashed.ensures ∙ ap (hashed c.hashed-half.result) e)
