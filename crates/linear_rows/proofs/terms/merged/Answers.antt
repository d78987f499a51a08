use Rattle.linear_rows.proofs.TermWalks.{all_merged}
use Rattle.linear_rows.proofs.terms.merged.Goals as goal

pub returns : goal.returns
returns c = all_merged _ _ _ _ _ _ c.if-i-a.false c.if-j-b.false c.loop-i.invariant.so_far
