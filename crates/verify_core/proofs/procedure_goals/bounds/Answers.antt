use Rattle.std.proofs.Common.{ap, map, not, refl, ◌++◌, ◌∙◌, ◌∷◌, []}
use Rattle.std.proofs.lemmas.Result.{IfOk-weaker}
use Rattle.heyvl_acts.specs.Acts.{procedure_at}
use Rattle.heyvl_acts.specs.PlainActs.{procedures_of}
use Rattle.heyvl_acts.specs.Rules.{HasNamedBinders}
use Rattle.loop_encodings.specs.BoundGoals.{BoundGoal, bound_goals}
use Rattle.verify_core.specs.Questions.{AreGoals}
use Rattle.verify_core.specs.internal.BoundQuestions.{AreMadeFor, asked_question, own_question, plain}
use Rattle.loop_encodings.proofs.exported.FromRules.{each_at, is_there, rules_at}
use Rattle.verify_core.proofs.ListedGoals.{each_asked, main_first, not_weak, with_bounds, without_body}
use Rattle.verify_core.proofs.MainGoals.{here}
use Rattle.verify_core.proofs.procedure_goals.bounds.Goals as goal

pub returns-then-is_none : goal.returns-then-is_none
returns-then-is_none c = without_body (procedures_of c.args.typed.now) c.args.p c.index-procedure.result.now (here c.args.typed.now c.args.p c.index-procedure.result.now c.requires.rules c.requires.there c.index-procedure.ensures) (c.is_none.ensures ∙ ap not c.if-is_none.true) c.new-all.result.items c.new-all.ensures.items

pub returns-then-not-procedure : goal.returns-then-not-procedure
returns-then-not-procedure c = not_weak (procedures_of c.args.typed.now) c.args.p c.index-procedure.result.now (here c.args.typed.now c.args.p c.index-procedure.result.now c.requires.rules c.requires.there c.index-procedure.ensures) (c.is_none.ensures ∙ ap not c.if-is_none.false) c.if-not-procedure.true _ (main_first (procedures_of c.args.typed.now) c.args.p c.index-procedure.result.now (here c.args.typed.now c.args.p c.index-procedure.result.now c.requires.rules c.requires.there c.index-procedure.ensures) _ _ _ c.in_ok-push.ensures.items c.new-all.ensures.items refl refl c.in_ok-made.ensures)

pub add_bounds-requires-clause-asked : goal.add_bounds-requires-clause-asked
add_bounds-requires-clause-asked c =
    let l = is_there c.args.typed.now c.args.p c.requires.there in
    let h = here c.args.typed.now c.args.p c.index-procedure.result.now c.requires.rules c.requires.there c.index-procedure.ensures in
    each_asked (procedures_of c.args.typed.now) c.args.p c.index-procedure.result.now h c.what_substitution_gives.ensures.no_names (rules_at c.args.typed.now c.args.p c.requires.rules l) (each_at HasNamedBinders (procedures_of c.args.typed.now) c.args.p c.requires.rules.named l) _ c.in_ok-asked.ensures

pub returns : goal.returns
returns c =
    let ps = procedures_of c.args.typed.now in
    let q = procedure_at ps c.args.p in
    let l = is_there c.args.typed.now c.args.p c.requires.there in
    let h = here c.args.typed.now c.args.p c.index-procedure.result.now c.requires.rules c.requires.there c.index-procedure.ensures in
    let each = each_asked ps c.args.p c.index-procedure.result.now h c.what_substitution_gives.ensures.no_names (rules_at c.args.typed.now c.args.p c.requires.rules l) (each_at HasNamedBinders ps c.args.p c.requires.rules.named l) _ c.in_ok-asked.ensures in
    IfOk-weaker _ (λ all. AreMadeFor c.args.p ((own_question ps q BoundGoal.main ∷ []) ++ map (asked_question q) (map plain c.in_ok-asked.asked.items)) all.items) (λ all. AreGoals ps c.args.p (bound_goals q) all.items) (λ all k. with_bounds ps c.args.p c.index-procedure.result.now h (c.is_none.ensures ∙ ap not c.if-is_none.false) c.if-not-procedure.false c.in_ok-asked.asked.items c.in_ok-asked.ensures each all.items k) (c.add_bounds.ensures (own_question ps q BoundGoal.main ∷ []) (main_first ps c.args.p c.index-procedure.result.now h _ _ _ c.in_ok-push.ensures.items c.new-all.ensures.items refl refl c.in_ok-made.ensures))
