use Rattle.std.proofs.Common.{rules, FitsSigned, get_or}
use Rattle.std.proofs.lemmas.Int.{to_z-of_z}
use mir.Syntax.{w64, w128}
use Rattle.std.specs.Prelude.{pos}
use Rattle.linear_rows.proofs.TermWalks.{scaled_more, scaled_all, wide_more, wide_fails, wide_all, wide_push}
use Rattle.linear_rows.proofs.terms.scaled.Goals as goal

pub loop-v-preserved : goal.loop-v-preserved
loop-v-preserved c =
    let x : FitsSigned w64 (get_or c.args.terms.now c.loop-v.v-index (0, pos 0)).1 = search rules in
    let y : FitsSigned w128 c.in-Some.product = search rules in
    let e = simp to_z-of_z at c.in-Some.ensures in
    let i = simp to_z-of_z at c.in_ok-push.ensures.items in
    record { so_far = scaled_more _ c.args.terms.now c.loop-v.v-index (0, pos 0) _ _ _ c.in-Some.product c.loop-v-test.true i e.1 c.loop-v.invariant.so_far; wide = wide_push _ c.loop-v.out.items _ c.in-Some.product _ i e.1 e.0 c.loop-v.invariant.wide; fits = wide_more _ c.args.terms.now c.loop-v.v-index (0, pos 0) _ c.loop-v-test.true e.0 c.loop-v.invariant.fits }

pub returns-clause-terms : goal.returns-clause-terms
returns-clause-terms c = let p = c.ranges.p in simp to_z-of_z at (scaled_all _ _ _ _ _ c.loop-v-test.false c.loop-v.invariant.so_far)

pub returns-clause-fits : goal.returns-clause-fits
returns-clause-fits c = let p = c.ranges.p in simp to_z-of_z at (wide_all _ _ _ _ c.loop-v-test.false c.loop-v.invariant.fits)

pub returns-in_default-clause-fits : goal.returns-in_default-clause-fits
returns-in_default-clause-fits c =
    let p = c.ranges.p in
    let x : FitsSigned w64 (get_or c.args.terms.now c.loop-v.v-index (0, pos 0)).1 = search rules in
    let e = simp to_z-of_z at c.in_default.ensures in
    let f = simp to_z-of_z at c.loop-v.invariant.fits in
    wide_fails _ c.args.terms.now c.loop-v.v-index (0, pos 0) _ c.loop-v-test.true e f
