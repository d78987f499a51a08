use Rattle.linear_elim.proofs.CountedTerms.{numbers_more, one_longer}
use Rattle.linear_elim.proofs.join_counts.write_numbers.Goals as goal

pub loop-j-preserved : goal.loop-j-preserved
loop-j-preserved c = record {
  as_many = one_longer _ _ _ _ c.in_ok-push.ensures.items c.loop-j.invariant.as_many;
  each = numbers_more c.args.step.now c.args.i c.loop-j.numbers.items _ c.loop-j.j _ c.in_ok-push.ensures.items c.loop-j.invariant.as_many c.number_at-number.ensures c.loop-j.invariant.each;
}
