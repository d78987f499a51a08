use Rattle.std.proofs.Common.{sym, ap, subst, arith}
use Rattle.heylo_formula.specs.Formula.{Form}
use Rattle.heylo_formula.specs.PlainTrees.{cond_of}
use Rattle.heylo_graph.specs.Trees.{Tree}
use Rattle.heyvl_acts.specs.PlainActs.{acts_of}
use Rattle.vp_generator.specs.GeneratedForms.{vp, vp_act}
use Rattle.vp_generator.specs.GraphAnswers.{HasNoAny}
use Rattle.vp_generator.specs.internal.FittingActs.{IsFit}
use Rattle.vp_generator.specs.internal.GraphSteps.{IsMade, IsReady}
use Rattle.heylo_graph.proofs.exported.LongerLists.{stands_longer}
use Rattle.vp_generator.proofs.Weights.{weight}
use Rattle.vp_generator.proofs.BuiltForms.{stop_of_part, stop_of_first, stop_of_second, stop_of_arms}
use Rattle.vp_generator.proofs.GraphForms.{begins_on, ready_longer, placed_longer, formula_longer, made_placed, made_form, placed_form}
use Rattle.vp_generator.proofs.GeneratorSteps.{none_left, if_here, pick_here, if_ready, pick_ready, rest_weighs, act_ready, act_calm, kept_first, kept_next, kept_stop, kept_last, other_arms_weigh, arm_ready, arm_calm, arms_first, arms_next, arms_stop, arms_last}
use Rattle.vp_generator.proofs.generation.+generating.Goals as goal

pub over_act-over_if-requires : goal.over_act-over_if-requires
over_act-over_if-requires t c =
    let e = if_here c.args.act.now c.in-If.arms c.in-If.otherwise _ c.deref-in-If.result.now c.deref-in-If-2.result.now c.in-If.is c.deref-in-If.ensures.value c.deref-in-If-2.ensures.value in
    let r = if_ready c.args.most _ _ c.in-If.field-2 c.args.graph.now c.args.form (subst (λ a. IsReady c.args.most (IsFit a) c.args.graph.now c.args.form) e c.requires.ready) in
    let w = ap weight e in let d = c.decreases in
    (omega (arith, w, d), (c.requires.most, (r.0, (r.1, λ l. subst HasNoAny e (c.requires.calm l)))))

pub over_act-over_pick-requires : goal.over_act-over_pick-requires
over_act-over_pick-requires t c =
    let e = pick_here c.args.act.now c.in-Pick.up c.in-Pick.a c.in-Pick.b _ c.deref-in-Pick.result.now c.deref-in-Pick-2.result.now c.in-Pick.is c.deref-in-Pick.ensures.value c.deref-in-Pick-2.ensures.value in
    let r = pick_ready c.args.most c.in-Pick.up _ _ c.in-Pick.field-3 c.args.graph.now c.args.form (subst (λ a. IsReady c.args.most (IsFit a) c.args.graph.now c.args.form) e c.requires.ready) in
    let w = ap weight e in let d = c.decreases in
    (omega (arith, w, d), (c.requires.most, (r.0, (r.1, λ l. subst HasNoAny e (c.requires.calm l)))))

pub over_act-returns-in-If-clause-made : goal.over_act-returns-in-If-clause-made
over_act-returns-in-If-clause-made t c = λ k s.
    let e = if_here c.args.act.now c.in-If.arms c.in-If.otherwise _ c.deref-in-If.result.now c.deref-in-If-2.result.now c.in-If.is c.deref-in-If.ensures.value c.deref-in-If-2.ensures.value in
    subst (λ a. IsMade c.args.most (vp_act a k) c.over_if.result c.over_if.new.graph) (sym e) (c.over_if.ensures.made k s)

pub over_act-returns-in-Pick-clause-made : goal.over_act-returns-in-Pick-clause-made
over_act-returns-in-Pick-clause-made t c = λ k s.
    let e = pick_here c.args.act.now c.in-Pick.up c.in-Pick.a c.in-Pick.b _ c.deref-in-Pick.result.now c.deref-in-Pick-2.result.now c.in-Pick.is c.deref-in-Pick.ensures.value c.deref-in-Pick-2.ensures.value in
    subst (λ a. IsMade c.args.most (vp_act a k) c.over_pick.result c.over_pick.new.graph) (sym e) (c.over_pick.ensures.made k s)

pub over_acts-over_act-requires : goal.over_acts-over_act-requires
over_acts-over_act-requires t c =
    let i = c.acts.invariant in let h = c.in-Some.ensures.cases.0 in
    let w = rest_weighs c.acts.rest.now c.in-Some.before.now c.in-Some.act.now h in
    let v = i.weighs in let d = c.decreases in
    (omega (arith, w, v, d), (c.requires.most, (act_ready c.args.most c.acts.graph c.acts.rest.now c.in-Some.before.now c.in-Some.act.now c.acts.form h i.ready, act_calm c.args.most c.acts.rest.now c.in-Some.before.now c.in-Some.act.now h i.calm)))

pub over_acts-acts-init : goal.over_acts-acts-init
over_acts-acts-init t c = kept_first c.args.most c.args.graph.now c.args.post c.args.acts.now c.requires.ready c.requires.calm

pub over_acts-acts-preserved : goal.over_acts-acts-preserved
over_acts-acts-preserved t c = kept_next c.args.most c.args.graph.now c.args.post c.args.acts.now c.acts.graph c.over_act.new.graph c.acts.rest.now c.in-Some.before.now c.in-Some.act.now c.acts.form c.in-Ok.next c.acts.invariant c.in-Some.ensures.cases.0 c.over_act.ensures.begins (c.in-Ok.ensures.made c.acts.invariant.ready.form c.acts.invariant.ready.stands)

pub over_acts-returns-in-Err-clause-begins : goal.over_acts-returns-in-Err-clause-begins
over_acts-returns-in-Err-clause-begins t c = begins_on c.args.graph.now c.acts.graph c.over_act.new.graph c.acts.invariant.begins c.over_act.ensures.begins

pub over_acts-returns-in-Err-clause-made : goal.over_acts-returns-in-Err-clause-made
over_acts-returns-in-Err-clause-made t c = λ k s. kept_stop c.args.most c.args.graph.now c.args.post c.args.acts.now c.acts.graph c.acts.rest.now c.in-Some.before.now c.in-Some.act.now c.acts.form c.in-Err.stop k c.acts.invariant c.in-Some.ensures.cases.0 (c.in-Err.ensures.made c.acts.invariant.ready.form c.acts.invariant.ready.stands) s

pub over_acts-returns-clause-made : goal.over_acts-returns-clause-made
over_acts-returns-clause-made t c = λ k s. kept_last c.args.most c.args.graph.now c.args.post c.args.acts.now c.acts.graph c.acts.rest.now c.acts.form k c.acts.invariant (none_left c.acts.rest.now c.in_default.ensures.cases) s

pub over_pick-over_acts-requires-in-Ok : goal.over_pick-over_acts-requires-in-Ok
over_pick-over_acts-requires-in-Ok t c = let d = c.decreases in (omega (arith, d), (c.requires.most, (ready_longer c.args.most _ c.args.graph.now c.over_acts.new.graph c.args.form c.in-Ok.ensures.begins c.requires.second, λ l. (c.requires.calm l).1)))

pub over_if-over_arms-requires : goal.over_if-over_arms-requires
over_if-over_arms-requires t c = let d = c.decreases in (omega (arith, d), (c.requires.most, (ready_longer c.args.most _ c.args.graph.now c.over_acts.new.graph c.args.form c.in-Ok.ensures.begins c.requires.arms, (made_placed c.args.most _ c.over_acts.new.graph c.in-Ok.start (c.in-Ok.ensures.made c.requires.otherwise.form c.requires.otherwise.stands), λ l. (c.requires.calm l).0))))

pub over_if-returns-in-Err-clause-made : goal.over_if-returns-in-Err-clause-made
over_if-returns-in-Err-clause-made t c = λ k s. stop_of_arms c.args.most c.args.arms.now k _ c.in-Err.stop (c.in-Err.ensures.made k s)

pub over_arms-over_arm-requires : goal.over_arms-over_arm-requires
over_arms-over_arm-requires t c =
    let i = c.arms.invariant in let h = c.in-Some.ensures.cases.0 in
    let w = other_arms_weigh c.arms.rest.now c.in-Some.before.now c.in-Some.arm.now h in
    let v = i.weighs in let d = c.decreases in
    (omega (arith, w, v, d), (c.requires.most, (arm_ready c.args.most c.arms.graph c.arms.rest.now c.in-Some.before.now c.in-Some.arm.now c.args.form h i.ready, (placed_form c.args.most c.arms.graph c.arms.chosen i.chosen, arm_calm c.args.most c.arms.rest.now c.in-Some.before.now c.in-Some.arm.now h i.calm))))

pub over_arms-arms-init : goal.over_arms-arms-init
over_arms-arms-init t c = arms_first c.args.most c.args.graph.now c.args.form c.args.start c.args.arms.now c.requires.ready c.requires.start c.requires.calm

pub over_arms-arms-preserved : goal.over_arms-arms-preserved
over_arms-arms-preserved t c = let i = c.arms.invariant in arms_next c.args.most c.args.graph.now c.args.form c.args.start c.args.arms.now c.arms.graph c.over_arm.new.graph c.arms.rest.now c.in-Some.before.now c.in-Some.arm.now c.arms.chosen c.in-Ok.next i c.in-Some.ensures.cases.0 c.in-Ok.ensures.begins (c.in-Ok.ensures.made i.ready.form i.chosen.form i.ready.stands i.chosen.stands)

pub over_arms-returns-in-Err-clause-begins : goal.over_arms-returns-in-Err-clause-begins
over_arms-returns-in-Err-clause-begins t c = begins_on c.args.graph.now c.arms.graph c.over_arm.new.graph c.arms.invariant.begins c.in-Err.ensures.begins

pub over_arms-returns-in-Err-clause-made : goal.over_arms-returns-in-Err-clause-made
over_arms-returns-in-Err-clause-made t c = λ k l s u. let i = c.arms.invariant in arms_stop c.args.most c.args.graph.now c.args.form c.args.start c.args.arms.now c.arms.graph c.arms.rest.now c.in-Some.before.now c.in-Some.arm.now c.arms.chosen c.in-Err.stop k l i c.in-Some.ensures.cases.0 (c.in-Err.ensures.made i.ready.form i.chosen.form i.ready.stands i.chosen.stands) s u

pub over_arms-returns-clause-made : goal.over_arms-returns-clause-made
over_arms-returns-clause-made t c = λ k l s u. arms_last c.args.most c.args.graph.now c.args.form c.args.start c.args.arms.now c.arms.graph c.arms.rest.now c.arms.chosen k l c.arms.invariant (none_left c.arms.rest.now c.in_default.ensures.cases) s u

pub over_if-returns-in-Ok-clause-made : goal.over_if-returns-in-Ok-clause-made
over_if-returns-in-Ok-clause-made t c = λ k s. c.over_arms.ensures.made k _ (stands_longer c.args.graph.now c.over_acts.new.graph c.args.form _ c.in-Ok.ensures.begins s) (c.in-Ok.ensures.made k s).0

pub over_pick-picked-requires-clause-first : goal.over_pick-picked-requires-clause-first
over_pick-picked-requires-clause-first t c = formula_longer c.over_acts.new.graph c.over_acts-in-Ok.new.graph c.in-Ok.first c.in-Ok-over_acts.ensures.begins (made_form c.args.most _ c.over_acts.new.graph c.in-Ok.first (c.in-Ok.ensures.made c.requires.first.form c.requires.first.stands))

pub over_pick-picked-requires-clause-second : goal.over_pick-picked-requires-clause-second
over_pick-picked-requires-clause-second t c = made_form c.args.most _ c.over_acts-in-Ok.new.graph c.in-Ok-over_acts.second (c.in-Ok-over_acts.ensures.made c.requires.second.form (stands_longer c.args.graph.now c.over_acts.new.graph c.args.form (Tree.formula c.requires.second.form) c.in-Ok.ensures.begins c.requires.second.stands))

pub over_pick-returns-in-Ok-over_acts-clause-made : goal.over_pick-returns-in-Ok-over_acts-clause-made
over_pick-returns-in-Ok-over_acts-clause-made t c = λ k s. c.picked.ensures.made _ _ (stands_longer c.over_acts.new.graph c.over_acts-in-Ok.new.graph c.in-Ok.first _ c.in-Ok-over_acts.ensures.begins (c.in-Ok.ensures.made k s).0) (c.in-Ok-over_acts.ensures.made k (stands_longer c.args.graph.now c.over_acts.new.graph c.args.form (Tree.formula k) c.in-Ok.ensures.begins s)).0

pub over_pick-returns-in-Err-over_acts-clause-made : goal.over_pick-returns-in-Err-over_acts-clause-made
over_pick-returns-in-Err-over_acts-clause-made t c = λ k s. stop_of_second c.args.most c.args.up (vp (acts_of c.args.a.now) k) (vp (acts_of c.args.b.now) k) c.in-Err-over_acts.stop (c.in-Err-over_acts.ensures.made k (stands_longer c.args.graph.now c.over_acts.new.graph c.args.form (Tree.formula k) c.in-Ok.ensures.begins s))

pub over_arm-selected-requires-clause-first : goal.over_arm-selected-requires-clause-first
over_arm-selected-requires-clause-first t c = made_form c.args.most _ c.over_acts.new.graph c.in-Ok.branch (c.in-Ok.ensures.made c.requires.ready.form c.requires.ready.stands)

pub over_arm-selected-requires-clause-second : goal.over_arm-selected-requires-clause-second
over_arm-selected-requires-clause-second t c = formula_longer c.args.graph.now c.over_acts.new.graph c.args.others c.in-Ok.ensures.begins c.requires.others

pub over_arm-returns-in-Ok-clause-made : goal.over_arm-returns-in-Ok-clause-made
over_arm-returns-in-Ok-clause-made t c = λ k l s u. subst (λ a. IsMade c.args.most (Form.select (cond_of c.args.arm.now.0) (vp (acts_of a) k) l) c.selected.result c.selected.new.graph) c.deref.ensures.value (c.selected.ensures.made _ l (c.in-Ok.ensures.made k s).0 (stands_longer c.args.graph.now c.over_acts.new.graph c.args.others (Tree.formula l) c.in-Ok.ensures.begins u))
