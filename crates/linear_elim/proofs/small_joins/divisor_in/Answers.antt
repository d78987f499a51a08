use Rattle.std.proofs.Common.{rules, arith, FitsSigned, get_or, ◌-◌}
use Rattle.std.proofs.lemmas.Int.{to_z-of_z}
use mir.Syntax.{w64}
use Rattle.std.specs.Prelude.{pos}
use Rattle.linear_elim.proofs.MixedTerms.{common_end, common_more}
use Rattle.linear_elim.proofs.small_joins.divisor_in.Goals as goal

pub loop-i-init : goal.loop-i-init
loop-i-init c = record { within = omega arith; so_far = common_end c.args.terms.now c.args.n }

pub loop-i-preserved : goal.loop-i-preserved
loop-i-preserved c =
    let x : FitsSigned w64 (get_or c.args.terms.now (c.loop-i.i - 1) (0, pos 0)).1 = search rules in
    let e = simp to_z-of_z at c.unsigned_abs.ensures.value in
    record { within = omega arith; so_far = common_more c.args.terms.now c.loop-i.i c.args.n c.loop-i.common _ _ (0, pos 0) (omega arith) c.loop-i.invariant.within c.loop-i.invariant.so_far e c.greatest-common.ensures }
