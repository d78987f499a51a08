use Rattle.std.proofs.Common.{arith}
use Rattle.run_machine.proofs.BlockSizes.{if_size, pick_size}
use Rattle.run_machine.proofs.blocks.+counting.Goals as goal

pub inside_size-loop-arm-init : goal.inside_size-loop-arm-init
inside_size-loop-arm-init t c = λ h. let e = if_size _ c.in-If.arms c.in-If.other c.in-If.field-2 c.in-If.is in let s = rw c.deref.ensures.value at c.size-total.ensures in rw c.deref-arm-items.ensures.value (let k = s (omega (arith, e, h)) in omega (arith, e, k))

pub inside_size-returns-in-Pick : goal.inside_size-returns-in-Pick
inside_size-returns-in-Pick t c = λ h. let e = pick_size _ c.in-Pick.field-0 c.in-Pick.left c.in-Pick.right c.in-Pick.field-3 c.in-Pick.is in let a = rw c.deref-in-Pick.ensures.value at c.size-in-Pick.ensures in let b = rw c.deref-in-Pick-2.ensures.value at c.size-in-Pick-2.ensures in let k = a (omega (arith, e, h)) in let m = b (omega (arith, e, h)) in grind (arith, e, k, m, h)
