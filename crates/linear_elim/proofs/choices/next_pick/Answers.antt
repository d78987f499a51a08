use Rattle.std.proofs.Common.{ap, ◌∙◌}
use Rattle.linear_elim.proofs.ChoiceRuns.{great_low, great_up, next_between}
use Rattle.linear_elim.proofs.choices.next_pick.Goals as goal

pub returns-in_default : goal.returns-in_default
returns-in_default c = great_low c.args.step.now _ _ c.args.chosen.now c.args.ty (ap (λ s. s.var) c.step.view_is) (c.deref.ensures.value ∙ ap (λ s. s.lows) c.step.view_is) c.in_default.ensures

pub returns-in_default-tightest : goal.returns-in_default-tightest
returns-in_default-tightest c = great_up c.args.step.now _ _ c.args.chosen.now c.args.ty (ap (λ s. s.var) c.step.view_is) (c.deref-2.ensures.value ∙ ap (λ s. s.ups) c.step.view_is) c.in_default-tightest.ensures

pub returns : goal.returns
returns c = next_between c.args.step.now c.step.inside.var c.deref.result.now c.deref-2.result.now c.args.chosen.now c.args.ty c.in-Ok.low c.in-Ok-tightest.high c.taken_between.result (ap (λ s. s.var) c.step.view_is) (c.deref.ensures.value ∙ ap (λ s. s.lows) c.step.view_is) (c.deref-2.ensures.value ∙ ap (λ s. s.ups) c.step.view_is) c.in-Ok.ensures c.in-Ok-tightest.ensures c.taken_between.ensures
