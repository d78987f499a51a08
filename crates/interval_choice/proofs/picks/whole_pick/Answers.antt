use Rattle.std.proofs.Common.{◌<◌, ◌^◌, subst, sym, ap, ◌∙◌, unsigned_abs, FitsSigned, rules, arith}
use Rattle.std.proofs.lemmas.Int.{to_z-of_z}
use mir.Syntax.{w128}
use Rattle.heyvl_num.specs.Rounding.{whole}
use Rattle.interval_choice.proofs.PickLaws.{whole_num, whole_den, picked_broken, past_some, past_none, picked_whole}
use Rattle.interval_choice.proofs.picks.whole_pick.Goals as goal
use Rattle.interval_choice.proofs.picks.whole_pick.Goals.{in-Some+else-not-keeps, in_default}

pub keeps-requires-clause-num : goal.keeps-requires-clause-num
keeps-requires-clause-num c =
    let f : FitsSigned w128 c.next_whole.result = search rules in
    subst (λ x. unsigned_abs x.num < 2 ^ 63) (sym (c.whole_number-v.ensures ∙ ap whole (to_z-of_z w128 c.next_whole.result f))) (subst (λ n. unsigned_abs n < 2 ^ 63) (sym (whole_num c.next_whole.result)) c.next_whole.ensures.small)

pub keeps-requires-clause-den : goal.keeps-requires-clause-den
keeps-requires-clause-den c = subst (λ x. x.den < 2 ^ 63) (sym c.whole_number-v.ensures) (subst (λ n. n < 2 ^ 63) (sym (whole_den _)) (omega arith))

pub returns-then-not-keeps : goal.returns-then-not-keeps
returns-then-not-keeps c =
    let f : FitsSigned w128 c.next_whole.result = search rules in
    λ ty t o. picked_broken c.args.side c.args.near c.args.far c.in-Some.end c.next_whole.result _ _ _ _ c.in-Some.is (c.whole_number-v.ensures ∙ ap whole (to_z-of_z w128 c.next_whole.result f)) c.opposite.ensures c.keeps.ensures c.if-not-keeps.true c.breaks.ensures c.next_whole.ensures ty t

pub returns : goal.returns
returns c =
    let f : FitsSigned w128 c.next_whole.result = search rules in
    λ ty t o. picked_whole c.args.side c.args.near c.args.far c.next_whole.result _ _ (c.whole_number-v.ensures ∙ ap whole (to_z-of_z w128 c.next_whole.result f))
    (elim c.match-far.branch [
      | in-Some+else-not-keeps w ↦ past_some c.args.side c.args.far w.in-Some.end _ _ _ w.in-Some.is w.opposite.ensures w.keeps.ensures w.if-not-keeps.false
      | in_default w ↦ past_none c.args.side c.args.far _ w.in_default.is
    ])
    c.narrowed.ensures c.next_whole.ensures ty t o
