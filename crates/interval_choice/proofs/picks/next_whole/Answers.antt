use Rattle.std.proofs.Common.{◌<◌, ◌^◌, subst, sym, ap, ◌∙◌, rules, unsigned_abs, FitsSigned}
use Rattle.std.specs.Prelude.{pos, ◌+ℤ◌, ◌-ℤ◌}
use Rattle.std.proofs.lemmas.Int.{to_z-of_z}
use mir.Syntax.{w128}
use Rattle.heyvl_num.specs.Rounding.{IsFloor, IsCeiling}
use Rattle.interval_choice.specs.Picks.{IsNextWhole}
use Rattle.interval_choice.proofs.Middles.{floor_small, ceil_small}
use Rattle.interval_choice.proofs.PickLaws.{less_of, next_low_closed, next_low_open, next_high_closed, next_high_open}
use Rattle.interval_choice.proofs.picks.next_whole.Goals as goal

pub one_more-requires : goal.one_more-requires
one_more-requires c =
    let f : FitsSigned w128 c.floor.result = search rules in
    subst (λ n. unsigned_abs n < 2 ^ 63) (sym (to_z-of_z w128 c.floor.result f)) (less_of _ (floor_small c.args.near.place c.floor.result c.requires (subst (λ e. IsFloor e.place c.floor.result) c.near.view_is c.floor.ensures.greatest)))

pub one_less-requires : goal.one_less-requires
one_less-requires c =
    let f : FitsSigned w128 c.ceil-in-High-false.result = search rules in
    subst (λ n. unsigned_abs n < 2 ^ 63) (sym (to_z-of_z w128 c.ceil-in-High-false.result f)) (less_of _ (ceil_small c.args.near.place c.ceil-in-High-false.result c.requires (subst (λ e. IsCeiling e.place c.ceil-in-High-false.result) c.near.view_is c.ceil-in-High-false.ensures.least)))

pub returns-in-Low-true : goal.returns-in-Low-true
returns-in-Low-true c =
    let f : FitsSigned w128 c.ceil.result = search rules in
    subst (IsNextWhole c.args.side c.args.near) (sym (to_z-of_z w128 c.ceil.result f)) (next_low_closed c.args.side c.args.near c.ceil.result c.in-Low-true.is-0 (ap (λ e. e.inside) (sym c.near.view_is) ∙ c.in-Low-true.is-1) c.requires (subst (λ e. IsCeiling e.place c.ceil.result) c.near.view_is c.ceil.ensures.least))

pub returns-in-Low-false : goal.returns-in-Low-false
returns-in-Low-false c =
    let f : FitsSigned w128 c.floor.result = search rules in
    let g : FitsSigned w128 c.one_more.result = search rules in
    subst (IsNextWhole c.args.side c.args.near) (sym (to_z-of_z w128 c.one_more.result g ∙ c.one_more.ensures ∙ ap (λ n. n +ℤ pos 1) (to_z-of_z w128 c.floor.result f))) (next_low_open c.args.side c.args.near c.floor.result c.in-Low-false.is-0 (ap (λ e. e.inside) (sym c.near.view_is) ∙ c.in-Low-false.is-1) c.requires (subst (λ e. IsFloor e.place c.floor.result) c.near.view_is c.floor.ensures.greatest))

pub returns-in-High-true : goal.returns-in-High-true
returns-in-High-true c =
    let f : FitsSigned w128 c.floor-in-High-true.result = search rules in
    subst (IsNextWhole c.args.side c.args.near) (sym (to_z-of_z w128 c.floor-in-High-true.result f)) (next_high_closed c.args.side c.args.near c.floor-in-High-true.result c.in-High-true.is-0 (ap (λ e. e.inside) (sym c.near.view_is) ∙ c.in-High-true.is-1) c.requires (subst (λ e. IsFloor e.place c.floor-in-High-true.result) c.near.view_is c.floor-in-High-true.ensures.greatest))

pub returns-in-High-false : goal.returns-in-High-false
returns-in-High-false c =
    let f : FitsSigned w128 c.ceil-in-High-false.result = search rules in
    let g : FitsSigned w128 c.one_less.result = search rules in
    subst (IsNextWhole c.args.side c.args.near) (sym (to_z-of_z w128 c.one_less.result g ∙ c.one_less.ensures ∙ ap (λ n. n -ℤ pos 1) (to_z-of_z w128 c.ceil-in-High-false.result f))) (next_high_open c.args.side c.args.near c.ceil-in-High-false.result c.in-High-false.is-0 (ap (λ e. e.inside) (sym c.near.view_is) ∙ c.in-High-false.is-1) c.requires (subst (λ e. IsCeiling e.place c.ceil-in-High-false.result) c.near.view_is c.ceil-in-High-false.ensures.least))
