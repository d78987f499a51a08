use Rattle.std.proofs.Common.{◌<◌, ◌^◌, subst, sym, ap, unsigned_abs}
use Rattle.linear_rows.specs.GreedyPoint.{End}
use Rattle.interval_choice.proofs.BoundedFractions.{short_num, short_den, ranks_less, ranks_equal, ranks_greater}
use Rattle.interval_choice.proofs.PickLaws.{keeps_equal, keeps_less_low, keeps_less_high, keeps_greater_low, keeps_greater_high}
use Rattle.interval_choice.proofs.picks.keeps.Goals as goal

pub order-requires-clause-left : goal.order-requires-clause-left
order-requires-clause-left c = subst (λ (e : End). unsigned_abs e.place.num < 2 ^ 63) (sym c.e.view_is) (short_num c.args.e.place c.requires.place)

pub order-requires-clause-left_den : goal.order-requires-clause-left_den
order-requires-clause-left_den c = subst (λ (e : End). e.place.den < 2 ^ 63) (sym c.e.view_is) (short_den c.args.e.place c.requires.place)

pub returns-in-Equal-default : goal.returns-in-Equal-default
returns-in-Equal-default c = keeps_equal c.args.side c.args.e c.args.v.now _ _ (ap (λ e. e.place) c.e.view_is) (ap (λ e. e.inside) c.e.view_is) (ranks_equal _ _ _ c.order.ensures c.in-Equal-default.is-0)

pub returns-in-Less-Low : goal.returns-in-Less-Low
returns-in-Less-Low c = keeps_less_low c.args.side c.args.e c.args.v.now _ c.in-Less-Low.is-1 (ap (λ e. e.place) c.e.view_is) (ranks_less _ _ _ c.order.ensures c.in-Less-Low.is-0)

pub returns-in-Less-High : goal.returns-in-Less-High
returns-in-Less-High c = keeps_less_high c.args.side c.args.e c.args.v.now _ c.in-Less-High.is-1 (ap (λ e. e.place) c.e.view_is) (ranks_less _ _ _ c.order.ensures c.in-Less-High.is-0)

pub returns-in-Greater-Low : goal.returns-in-Greater-Low
returns-in-Greater-Low c = keeps_greater_low c.args.side c.args.e c.args.v.now _ c.in-Greater-Low.is-1 (ap (λ e. e.place) c.e.view_is) (ranks_greater _ _ _ c.order.ensures c.in-Greater-Low.is-0)

pub returns-in-Greater-High : goal.returns-in-Greater-High
returns-in-Greater-High c = keeps_greater_high c.args.side c.args.e c.args.v.now _ c.in-Greater-High.is-1 (ap (λ e. e.place) c.e.view_is) (ranks_greater _ _ _ c.order.ensures c.in-Greater-High.is-0)
