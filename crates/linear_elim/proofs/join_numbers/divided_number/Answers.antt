use Rattle.std.proofs.Common.{rules, FitsSigned}
use mir.Syntax.{w64}
use Rattle.std.proofs.lemmas.Int.{to_z-of_z}
use Rattle.linear_elim.proofs.JoinNumbers.{quotient_more, none_left, quotient_end}
use Rattle.linear_elim.proofs.join_numbers.divided_number.Goals as goal

pub loop-i-preserved : goal.loop-i-preserved
loop-i-preserved c =
    let x : FitsSigned w64 c.next_mixed-next.result.coef = search rules in
    let h = simp to_z-of_z at c.with_quotient-number.ensures in
    let n = c.next_mixed-next.ensures.next in
    record {
      left_within = n.left_within;
      right_within = n.right_within;
      left_rest = n.left_normal;
      right_rest = n.right_normal;
      number = quotient_more c.args.divisor _ _ _ _ c.loop-i.number _ _ n.split h c.loop-i.invariant.number;
    }

pub returns : goal.returns
returns c = quotient_end c.args.divisor _ c.loop-i.number _ (none_left c.args.p c.args.a.now c.loop-i.i c.args.q c.args.b.now c.loop-i.j c.if-i-a.false c.if-j-b.false) c.loop-i.invariant.number
