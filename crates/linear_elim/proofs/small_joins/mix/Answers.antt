use Rattle.linear_elim.proofs.MixedTerms.{all_mixed}
use Rattle.linear_elim.proofs.small_joins.mix.Goals as goal

pub returns : goal.returns
returns c = all_mixed _ _ _ _ _ _ _ _ c.if-i-a.false c.if-j-b.false c.loop-i.invariant.so_far
