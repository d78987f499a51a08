use Rattle.std.proofs.Common.{◌<◌, ◌^◌, subst, sym, ap, ap₂, ◌∙◌, ◌&&◌, unsigned_abs}
use Rattle.linear_rows.specs.GreedyPoint.{End}
use Rattle.interval_choice.proofs.exported.BoundedFractions.{short_num, short_den}
use Rattle.linear_elim.proofs.EndRuns.{Tighter, less_low, less_high, greater_low, greater_high, equal_made, places_less, places_equal, places_greater}
use Rattle.linear_elim.proofs.ends.tighter.Goals as goal

pub order-requires-clause-left : goal.order-requires-clause-left
order-requires-clause-left c = subst (λ (e : End). unsigned_abs e.place.num < 2 ^ 63) (sym c.a.view_is) (short_num c.args.a.place c.requires.first)

pub order-requires-clause-left_den : goal.order-requires-clause-left_den
order-requires-clause-left_den c = subst (λ (e : End). e.place.den < 2 ^ 63) (sym c.a.view_is) (short_den c.args.a.place c.requires.first)

pub order-requires-clause-right : goal.order-requires-clause-right
order-requires-clause-right c = subst (λ (e : End). unsigned_abs e.place.num < 2 ^ 63) (sym c.b.view_is) (short_num c.args.b.place c.requires.second)

pub order-requires-clause-right_den : goal.order-requires-clause-right_den
order-requires-clause-right_den c = subst (λ (e : End). e.place.den < 2 ^ 63) (sym c.b.view_is) (short_den c.args.b.place c.requires.second)

pub returns-in-Equal-default-clause-values : goal.returns-in-Equal-default-clause-values
returns-in-Equal-default-clause-values c = equal_made c.args.side c.args.a c.args.b _ _ (ap (λ e. e.place) c.a.view_is) (c.both.ensures ∙ ap₂ (λ x y. x && y) (ap (λ e. e.inside) c.a.view_is) (ap (λ e. e.inside) c.b.view_is)) (places_equal c.args.a c.args.b _ _ _ (ap (λ e. e.place) c.a.view_is) (ap (λ e. e.place) c.b.view_is) c.order.ensures c.in-Equal-default.is-0)

pub returns-in-Less-Low-clause-values : goal.returns-in-Less-Low-clause-values
returns-in-Less-Low-clause-values c = subst (Tighter c.args.side c.args.a c.args.b) (sym c.b.view_is) (less_low c.args.side c.args.a c.args.b c.in-Less-Low.is-1 (places_less c.args.a c.args.b _ _ _ (ap (λ e. e.place) c.a.view_is) (ap (λ e. e.place) c.b.view_is) c.order.ensures c.in-Less-Low.is-0))

pub returns-in-Less-High-clause-values : goal.returns-in-Less-High-clause-values
returns-in-Less-High-clause-values c = subst (Tighter c.args.side c.args.a c.args.b) (sym c.a.view_is) (less_high c.args.side c.args.a c.args.b c.in-Less-High.is-1 (places_less c.args.a c.args.b _ _ _ (ap (λ e. e.place) c.a.view_is) (ap (λ e. e.place) c.b.view_is) c.order.ensures c.in-Less-High.is-0))

pub returns-in-Greater-Low-clause-values : goal.returns-in-Greater-Low-clause-values
returns-in-Greater-Low-clause-values c = subst (Tighter c.args.side c.args.a c.args.b) (sym c.a.view_is) (greater_low c.args.side c.args.a c.args.b c.in-Greater-Low.is-1 (places_greater c.args.a c.args.b _ _ _ (ap (λ e. e.place) c.a.view_is) (ap (λ e. e.place) c.b.view_is) c.order.ensures c.in-Greater-Low.is-0))

pub returns-in-Greater-High-clause-values : goal.returns-in-Greater-High-clause-values
returns-in-Greater-High-clause-values c = subst (Tighter c.args.side c.args.a c.args.b) (sym c.b.view_is) (greater_high c.args.side c.args.a c.args.b c.in-Greater-High.is-1 (places_greater c.args.a c.args.b _ _ _ (ap (λ e. e.place) c.a.view_is) (ap (λ e. e.place) c.b.view_is) c.order.ensures c.in-Greater-High.is-0))
