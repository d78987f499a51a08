use Rattle.std.proofs.Common.{◌<◌, ◌^◌, subst, sym, unsigned_abs}
use Rattle.heyvl_num.specs.Rational.{zeroʳ}
use Rattle.interval_choice.proofs.BoundedFractions.{short_num, short_den}
use Rattle.interval_choice.proofs.Pasts.{zero_fits}
use Rattle.interval_choice.proofs.PickLaws.{taken_out}
use Rattle.interval_choice.proofs.picks.taken_near.Goals as goal

pub keeps-requires-clause-num : goal.keeps-requires-clause-num
keeps-requires-clause-num c = subst (λ x. unsigned_abs x.num < 2 ^ 63) (sym c.zero.ensures) (short_num zeroʳ zero_fits)

pub keeps-requires-clause-den : goal.keeps-requires-clause-den
keeps-requires-clause-den c = subst (λ x. x.den < 2 ^ 63) (sym c.zero.ensures) (short_den zeroʳ zero_fits)

pub returns-else-keeps : goal.returns-else-keeps
returns-else-keeps c = taken_out c.args.side c.args.end.now c.args.far.now _ c.args.ty _ _ _ c.in-Some.is c.near_pick.ensures c.keeps.ensures c.zero.ensures c.if-keeps.false
