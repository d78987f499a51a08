use Rattle.std.proofs.Common.{ap, refl, length, map, subst, ◌∙◌}
use Rattle.heylo_formula.specs.BinderNames.{binders}
use Rattle.heylo_formula.specs.PlainTrees.{form_of}
use Rattle.heyvl_acts.specs.Acts.{TypedProcedure, procedure_at, variables}
use Rattle.heyvl_acts.specs.PlainActs.{procedures_of}
use Rattle.heyvl_acts.specs.Rules.{AreNamed, Each}
use Rattle.verify_core.specs.internal.BoundQuestions.{IsAsked, plain}
use Rattle.verify_core.proofs.ListedGoals.{pushed_goal}
use Rattle.verify_core.proofs.MainGoals.{few_own, here}
use Rattle.loop_encodings.proofs.exported.OwnVariables.{own_length}
use Rattle.verify_core.proofs.procedure_goals.add_bounds.Goals as goal

pub bound_goal-requires-clause-few : goal.bound_goal-requires-clause-few
bound_goal-requires-clause-few c = few_own c.args.typed.now c.args.p c.index.result.now c.requires.rules c.requires.there c.index.ensures

pub bound_goal-requires-clause-named : goal.bound_goal-requires-clause-named
bound_goal-requires-clause-named c =
    let asked = subst (λ l. Each (IsAsked (procedures_of c.args.typed.now) (procedure_at (procedures_of c.args.typed.now) c.args.p)) (map plain l)) c.in-Some.ensures.steps.0 c.loop-one.invariant.asked in
    subst (λ n. AreNamed n (binders (form_of c.in-Some.one.form))) (ap (λ (y : TypedProcedure). length (variables y)) (here c.args.typed.now c.args.p c.index.result.now c.requires.rules c.requires.there c.index.ensures) ∙ own_length c.index.result.now) asked.0.named

pub loop-one-preserved : goal.loop-one-preserved
loop-one-preserved c =
    let asked = subst (λ l. Each (IsAsked (procedures_of c.args.typed.now) (procedure_at (procedures_of c.args.typed.now) c.args.p)) (map plain l)) c.in-Some.ensures.steps.0 c.loop-one.invariant.asked in
    record {
      goals = λ questions h. pushed_goal (procedure_at (procedures_of c.args.typed.now) c.args.p) c.args.p c.index.result.now _ _ _ questions c.loop-one.yielded c.in-Some.one (here c.args.typed.now c.args.p c.index.result.now c.requires.rules c.requires.there c.index.ensures) refl refl c.in_ok-made.ensures c.in_ok-push.ensures.items (c.loop-one.invariant.goals questions h);
      asked = asked.1;
    }
