use Rattle.std.proofs.Common.{subst, sym}
use Rattle.interval_choice.specs.Picks.{IsPicked, sided}
use Rattle.interval_choice.proofs.picks.near_pick.Goals as goal

pub returns-in-UReal : goal.returns-in-UReal
returns-in-UReal c = λ n o w h. subst (λ t. IsPicked (sided c.args.side c.args.near c.args.far) t c.real_pick.result) (sym c.in-UReal.is) (c.real_pick.ensures o w h)
