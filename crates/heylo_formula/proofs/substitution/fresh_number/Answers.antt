use Rattle.std.proofs.Common.{arith, sym, ◌∙◌}
use Rattle.heylo_formula.proofs.FreshNumbers.{search_begun, search_step, search_room, search_over}
use Rattle.heylo_formula.proofs.substitution.fresh_number.Goals as goal

pub loop-number-init : goal.loop-number-init
loop-number-init c = search_begun _ _

pub loop-number-preserved : goal.loop-number-preserved
loop-number-preserved c = search_step _ _ _ c.loop-number.invariant (sym c.is_taken.ensures ∙ c.loop-number-test.true)

pub loop-number-smaller : goal.loop-number-smaller
loop-number-smaller c = let h = search_room _ _ _ (search_step _ _ _ c.loop-number.invariant (sym c.is_taken.ensures ∙ c.loop-number-test.true)) in omega (arith, h)

pub returns : goal.returns
returns c = search_over _ _ _ c.loop-number.invariant (sym c.is_taken.ensures ∙ c.loop-number-test.false)
