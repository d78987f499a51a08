use Rattle.std.proofs.Common.{subst, sym, ap, ap₂, ◌∙◌}
use Rattle.heyvl_num.specs.Rational.{middleʳ}
use Rattle.heylo_formula.specs.declared.types.Ty.{Ty}
use Rattle.linear_rows.specs.GreedyPoint.{End}
use Rattle.interval_choice.specs.Picks.{IsPicked, sided, past_place}
use Rattle.interval_choice.specs.declared.picks.Pick.TheVariants.{Value}
use Rattle.interval_choice.proofs.PickLaws.{real_inside, picked_middle, picked_past}
use Rattle.interval_choice.proofs.picks.real_pick.Goals as goal

pub returns-then-near : goal.returns-then-near
returns-then-near c = λ n w h. subst (λ (e : End). IsPicked (sided c.args.side c.args.near c.args.far) Ty.UReal (Value e.place)) (sym c.near.view_is) (let p = real_inside c.args.side c.args.near c.args.far w (ap (λ e. e.inside) (sym c.near.view_is) ∙ c.if-near.true) n h in (p.0, p.1, c.requires.near))

pub returns-in-Some : goal.returns-in-Some
returns-in-Some c = picked_middle c.args.side c.args.near c.args.far c.in-Some.end _ _ c.in-Some.is (c.middle.ensures ∙ ap₂ middleʳ (ap (λ e. e.place) c.near.view_is) (ap (λ e. e.place) c.end.view_is)) (ap (λ e. e.inside) (sym c.near.view_is) ∙ c.if-near.false) c.narrowed.ensures

pub returns-in-None : goal.returns-in-None
returns-in-None c = λ n w h. picked_past c.args.side c.args.near c.args.far _ _ c.in-None.is (c.past.ensures ∙ ap (λ e. past_place c.args.side e.place) c.near.view_is) (ap (λ e. e.inside) (sym c.near.view_is) ∙ c.if-near.false) c.narrowed-in-None.ensures n
