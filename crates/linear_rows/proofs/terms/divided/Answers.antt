use Rattle.std.proofs.Common.{rules, FitsSigned, get_or}
use Rattle.std.proofs.lemmas.Int.{to_z-of_z}
use mir.Syntax.{w64, w128}
use Rattle.std.specs.Prelude.{pos}
use Rattle.linear_rows.proofs.TermWalks.{divided_more, narrow_more, narrow_fails, narrow_all}
use Rattle.linear_rows.proofs.terms.divided.Goals as goal

pub loop-v-preserved : goal.loop-v-preserved
loop-v-preserved c =
    let x : FitsSigned w128 (get_or c.args.terms.now c.loop-v.v-index (0, pos 0)).1 = search rules in
    let y : FitsSigned w64 c.in-Some.quotient = search rules in
    let e = simp to_z-of_z at c.in-Some.ensures in
    let i = simp to_z-of_z at c.in_ok-push.ensures.items in
    record { so_far = divided_more _ c.args.terms.now c.loop-v.v-index (0, pos 0) _ _ _ c.in-Some.quotient c.loop-v-test.true i e.1 c.loop-v.invariant.so_far; fits = narrow_more _ c.args.terms.now c.loop-v.v-index (0, pos 0) _ c.loop-v-test.true e.0 c.loop-v.invariant.fits }

pub returns-clause-fits : goal.returns-clause-fits
returns-clause-fits c = narrow_all _ _ _ _ c.loop-v-test.false c.loop-v.invariant.fits

pub returns-in_default-clause-fits : goal.returns-in_default-clause-fits
returns-in_default-clause-fits c =
    let x : FitsSigned w128 (get_or c.args.terms.now c.loop-v.v-index (0, pos 0)).1 = search rules in
    let e = simp to_z-of_z at c.in_default.ensures in
    narrow_fails _ c.args.terms.now c.loop-v.v-index (0, pos 0) _ c.loop-v-test.true e c.loop-v.invariant.fits
