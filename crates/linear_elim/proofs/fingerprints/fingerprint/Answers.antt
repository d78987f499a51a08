use mir.Syntax.{w64}
use Rattle.std.proofs.lemmas.Int.{to_z-of_z}
use Rattle.std.proofs.Common.{rules, FitsSigned, get_or, ap, sym, ◌∙◌}
use Rattle.std.proofs.lemmas.List.{get_or_default}
use Rattle.std.specs.Prelude.{pos}
use Rattle.linear_elim.specs.internal.Fingerprints.{hashed}
use Rattle.linear_elim.proofs.JoinSequences.{rest_item}
use Rattle.linear_elim.proofs.FingerprintSearch.{all_hashed, one_more}
use Rattle.linear_elim.proofs.fingerprints.fingerprint.Goals as goal

pub loop-i-preserved : goal.loop-i-preserved
loop-i-preserved c =
    let x : FitsSigned w64 (get_or c.args.terms.now c.loop-i.i (0, pos 0)).1 = search rules in
    let b = simp to_z-of_z at c.cast_unsigned.ensures in
    one_more c.args.terms.now c.loop-i.i c.loop-i.number _ _ _ _ (rest_item c.args.terms.now c.loop-i.i (get_or c.args.terms.now c.loop-i.i (0, pos 0)) c.loop-i-test.true (sym (get_or_default c.args.terms.now c.loop-i.i _ _ c.loop-i-test.true))) (c.hashed-half.ensures ∙ ap (hashed c.loop-i.number) c.from.ensures) (c.hashed-number.ensures ∙ ap (hashed c.hashed-half.result) b) c.loop-i.invariant

pub returns : goal.returns
returns c = all_hashed c.args.terms.now c.loop-i.i c.loop-i.number c.loop-i-test.false c.loop-i.invariant
