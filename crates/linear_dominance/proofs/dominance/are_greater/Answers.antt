use Rattle.linear_dominance.proofs.DifferenceWalk.{walk_ends, stops_negative, stops_unsigned, goes_signed}
use Rattle.std.proofs.Common.{◌≡◌, subst, rules, FitsSigned, true}
use Rattle.std.specs.Prelude.{pos}
use Rattle.std.specs.Int.Signed.{lt_z}
use Rattle.std.proofs.lemmas.Int.{to_z-of_z}
use mir.Syntax.{w64}
use Rattle.linear_dominance.proofs.dominance.are_greater.Goals as goal

pub returns-then-next-lt0 : goal.returns-then-next-lt0
returns-then-next-lt0 c =
    let y : FitsSigned w64 c.next_less-next.result.coef = search rules in
    stops_negative c.loop-i.differs c.args.signed.now _ _ _ _ _ _ _ _ _ c.next_less-next.ensures.next (subst (λ z. lt_z z (pos 0) ≡ true) (to_z-of_z w64 _ y) c.if-next-lt0.true) c.loop-i.invariant.so_far

pub returns-then-not-contains : goal.returns-then-not-contains
returns-then-not-contains c =
    let y : FitsSigned w64 c.next_less-next.result.coef = search rules in
    stops_unsigned c.loop-i.differs c.args.signed.now _ _ _ _ _ _ _ _ _ c.next_less-next.ensures.next (subst (λ z. lt_z (pos 0) z ≡ true) (to_z-of_z w64 _ y) c.if-next-gt0.true) c.if-not-contains.ensures c.loop-i.invariant.so_far

pub loop-i-preserved-else-not-contains : goal.loop-i-preserved-else-not-contains
loop-i-preserved-else-not-contains c =
    let y : FitsSigned w64 c.next_less-next.result.coef = search rules in
    record {
      left_within = c.next_less-next.ensures.next.left_within;
      right_within = c.next_less-next.ensures.next.right_within;
      left_rest = c.next_less-next.ensures.next.left_normal;
      right_rest = c.next_less-next.ensures.next.right_normal;
      so_far = goes_signed c.loop-i.differs c.args.signed.now _ _ _ _ _ _ _ _ _ c.next_less-next.ensures.next (subst (λ z. lt_z (pos 0) z ≡ true) (to_z-of_z w64 _ y) c.if-next-gt0.true) c.if-not-contains.ensures c.loop-i.invariant.so_far;
    }

pub returns : goal.returns
returns c = walk_ends c.loop-i.differs c.args.signed.now c.args.a.now c.loop-i.i c.args.b.now c.loop-i.j _ c.if-i-a.false c.if-j-b.false c.loop-i.invariant.so_far
