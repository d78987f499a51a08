use Rattle.std.proofs.Common.{subst, sym, ap, ◌∙◌, arith}
use Rattle.heylo_formula.specs.Typing.{types_in}
use Rattle.linear_elim.proofs.Greedily.{IsSofar, sofar_start, point_answer}
use Rattle.linear_elim.proofs.ChoiceRuns.{all_before, last_derived, sofar_next, break_found, great_found, no_steps}
use Rattle.linear_elim.proofs.choices.greedy.Goals as goal

pub loop-step-init : goal.loop-step-init
loop-step-init c = record { derived = c.requires.derived; so_far = λ rows h. subst (IsSofar rows c.args.vars.now c.args.steps.now c.args.steps.now) (sym c.new-chosen.ensures.items) (sofar_start rows c.args.vars.now c.args.steps.now h) }

pub next_pick-requires : goal.next_pick-requires
next_pick-requires c = last_derived c.loop-step.rest.now c.in-Some.before.now c.in-Some.step.now c.in-Some.ensures.cases.0 c.loop-step.invariant.derived

pub returns-in-Breaks : goal.returns-in-Breaks
returns-in-Breaks c = λ rows h. break_found rows c.args.vars.now c.args.steps.now c.loop-step.rest.now c.in-Some.before.now c.in-Some.step.now c.loop-step.chosen.items c.deref.result.now c.deref-in-Breaks.result.now c.type_of.result c.in-Breaks.low c.in-Breaks.high c.next_pick.result _ h c.in-Some.ensures.cases.0 (c.loop-step.invariant.so_far rows h) c.next_pick.ensures c.deref.ensures.value (c.type_of.ensures ∙ ap (λ s. types_in c.args.vars.now s.var) c.step.view_is) c.in-Breaks.is (c.in_ok-found-in-Breaks.ensures.var ∙ ap (λ s. s.var) c.step.view_is) c.in_ok-found-in-Breaks.ensures.earlier c.deref-in-Breaks.ensures.value c.in_ok-found-in-Breaks.ensures.low c.in_ok-found-in-Breaks.ensures.low_in c.in_ok-found-in-Breaks.ensures.high c.in_ok-found-in-Breaks.ensures.high_in

pub returns-in-Great : goal.returns-in-Great
returns-in-Great c = λ rows h. great_found rows c.args.vars.now c.args.steps.now c.loop-step.rest.now c.in-Some.before.now c.in-Some.step.now c.loop-step.chosen.items c.deref.result.now c.type_of.result c.next_pick.result h c.in-Some.ensures.cases.0 (c.loop-step.invariant.so_far rows h) c.next_pick.ensures c.deref.ensures.value (c.type_of.ensures ∙ ap (λ s. types_in c.args.vars.now s.var) c.step.view_is) c.in-Great.is

pub loop-step-smaller : goal.loop-step-smaller
loop-step-smaller c = let l = c.in-Some.ensures.cases.1 in omega (arith, l)

pub loop-step-preserved : goal.loop-step-preserved
loop-step-preserved c = record { derived = all_before c.loop-step.rest.now c.in-Some.before.now c.in-Some.step.now c.in-Some.ensures.cases.0 c.loop-step.invariant.derived; so_far = λ rows h. sofar_next rows c.args.vars.now c.args.steps.now c.loop-step.rest.now c.in-Some.before.now c.in-Some.step.now c.loop-step.chosen.items c.deref.result.now c.push.new.self.items c.type_of.result c.step.inside.var c.in-Value.value c.next_pick.result h c.in-Some.ensures.cases.0 (c.loop-step.invariant.so_far rows h) c.next_pick.ensures c.deref.ensures.value (c.type_of.ensures ∙ ap (λ s. types_in c.args.vars.now s.var) c.step.view_is) c.in-Value.is c.in_ok-push-in-Value.ensures.items (ap (λ s. s.var) c.step.view_is) }

pub returns : goal.returns
returns c = λ rows h. point_answer rows c.args.vars.now c.args.steps.now h c.deref-2.result.now (subst (IsSofar rows c.args.vars.now c.args.steps.now _) (sym c.deref-2.ensures.value) (subst (λ r. IsSofar rows c.args.vars.now c.args.steps.now r c.loop-step.chosen.items) (no_steps c.loop-step.rest.now c.in_default.ensures.cases) (c.loop-step.invariant.so_far rows h))) c.in_ok-state.field-0.items c.in_ok-state.ensures
