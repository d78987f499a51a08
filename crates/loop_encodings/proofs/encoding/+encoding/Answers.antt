use Rattle.std.proofs.Common.{refl, sym, ap, subst, ◌∙◌, ◌<◌, ◌++◌, arith, ℕ, List, [], length}
use Rattle.std.proofs.lemmas.List.{length-map}
use Rattle.heylo_formula.specs.PlainTrees.{term_of}
use Rattle.heyvl_acts.proofs.exported.PlainActsAre.{any_act, call_act, check_act, draw_act, head_of, if_act, loop_act, pick_act, reward_act, set_act, toss_act, validate_act}
use Rattle.heyvl_acts.specs.Acts.{Act, TypedProcedure}
use Rattle.heyvl_acts.specs.PlainActs.{act_of, acts_of, arms_of, procedure_of, procedures_of, terms_of, variable_of}
use Rattle.heyvl_acts.specs.Rules.{GrowBelow}
use Rattle.heyvl_acts.specs.declared.acts.LoopAct.{LoopAct}
use Rattle.loop_encodings.specs.Encoding.{encoded}
use Rattle.loop_encodings.specs.Fresh.{fresh}
use Rattle.loop_encodings.specs.internal.Ready.{plain_variables}
use Rattle.loop_encodings.proofs.ActSteps.{call_made, call_ready, if_made, if_ready, if_room, last_room, loop_made, loop_ready, loop_room, pick_made, pick_ready, pick_room, right_room, stay_made}
use Rattle.loop_encodings.proofs.FromRules.{callee_at, procedure_is, procedure_there}
use Rattle.loop_encodings.proofs.OwnVariables.{own_length}
use Rattle.loop_encodings.proofs.Steps.{arm_more, arm_ready, arm_room, arms_end, arms_start, turn_more, turn_ready, turn_room, turns_end, turns_start}
use Rattle.heyvl_acts.proofs.exported.Weights.{act_within, arm_within, weight, weight_of}
use Rattle.loop_encodings.proofs.encoding.+encoding.Goals as goal

pub encoded_acts-loop-act-init : goal.encoded_acts-loop-act-init
encoded_acts-loop-act-init t c = turns_start (procedures_of c.args.typed.now) (procedure_of c.args.procedure.now) (plain_variables c.args.vars.now.items) c.args.acts.now _ c.new-made.ensures.items c.requires.ready

pub encoded_acts-add_act-requires : goal.encoded_acts-add_act-requires
encoded_acts-add_act-requires t c = (
  (let w = act_within c.args.acts.now c.loop-act.act-index c.act-item.result c.loop-act-test.true c.act-item.is in let d = c.decreases in omega (arith, w, d)),
  (
    c.requires.rules,
    (
      turn_ready (procedures_of c.args.typed.now) (procedure_of c.args.procedure.now) (plain_variables c.args.vars.now.items) (plain_variables c.loop-act.vars.items) [] c.loop-act.act-index c.args.acts.now c.loop-act.made.items c.act-item.result c.loop-act-test.true c.act-item.is c.loop-act.invariant,
      turn_room (procedures_of c.args.typed.now) (procedure_of c.args.procedure.now) (plain_variables c.args.vars.now.items) (plain_variables c.loop-act.vars.items) [] c.loop-act.act-index c.args.acts.now c.loop-act.made.items c.act-item.result _ c.loop-act-test.true c.act-item.is c.loop-act.invariant c.requires.room,
    ),
  ),
)

pub encoded_acts-loop-act-preserved : goal.encoded_acts-loop-act-preserved
encoded_acts-loop-act-preserved t c = turn_more (procedures_of c.args.typed.now) (procedure_of c.args.procedure.now) (plain_variables c.args.vars.now.items) (plain_variables c.loop-act.vars.items) _ c.loop-act.act-index c.args.acts.now c.loop-act.made.items _ c.act-item.result c.loop-act-test.true c.act-item.is c.loop-act.invariant c.in_ok-add_act.ensures.acts c.in_ok-add_act.ensures.vars

pub encoded_acts-returns-clause-acts : goal.encoded_acts-returns-clause-acts
encoded_acts-returns-clause-acts t c = (turns_end (procedures_of c.args.typed.now) (procedure_of c.args.procedure.now) (plain_variables c.args.vars.now.items) (plain_variables c.loop-act.vars.items) [] c.loop-act.act-index c.args.acts.now c.loop-act.made.items c.loop-act-test.false c.loop-act.invariant).0

pub encoded_acts-returns-clause-vars : goal.encoded_acts-returns-clause-vars
encoded_acts-returns-clause-vars t c = (turns_end (procedures_of c.args.typed.now) (procedure_of c.args.procedure.now) (plain_variables c.args.vars.now.items) (plain_variables c.loop-act.vars.items) [] c.loop-act.act-index c.args.acts.now c.loop-act.made.items c.loop-act-test.false c.loop-act.invariant).1

pub add_act-loop-arm-init : goal.add_act-loop-arm-init
add_act-loop-arm-init t c = (arms_start (procedures_of c.args.typed.now) (procedure_of c.args.procedure.now) (plain_variables c.args.vars.now.items) c.deref-arm-items.result.now _ c.new-encoded.ensures.items (if_ready (procedures_of c.args.typed.now) (procedure_of c.args.procedure.now) (plain_variables c.args.vars.now.items) (act_of c.args.act.now) [] [] (arms_of c.deref-arm-items.result.now) (acts_of c.in-If.other.items) c.in-If.span (ap act_of c.in-If.is ∙ (if_act _ _ _ ∙ ap (λ xs. Act.ifs (arms_of xs) (acts_of c.in-If.other.items) c.in-If.span) (sym c.deref-arm-items.ensures.value))) c.requires.ready).0, (ap act_of c.in-If.is ∙ (if_act _ _ _ ∙ ap (λ xs. Act.ifs (arms_of xs) (acts_of c.in-If.other.items) c.in-If.span) (sym c.deref-arm-items.ensures.value))))

pub add_act-encoded_acts-requires : goal.add_act-encoded_acts-requires
add_act-encoded_acts-requires t c = (
  (
      let w = arm_within c.deref-arm-items.result.now c.loop-arm.arm-index c.arm-item.result c.loop-arm-test.true c.arm-item.is in
      let e = ap (λ l. weight_of (acts_of l)) c.deref.ensures.value in
      let k = ap weight c.loop-arm.invariant.1 in
      let d = c.decreases in
      omega (arith, w, e, k, d)
      ),
  (
    c.requires.rules,
    (
      rw c.deref.ensures.value (arm_ready (procedures_of c.args.typed.now) (procedure_of c.args.procedure.now) (plain_variables c.args.vars.now.items) (plain_variables c.loop-arm.vars.items) [] c.loop-arm.arm-index c.deref-arm-items.result.now c.loop-arm.encoded.items c.arm-item.result c.loop-arm-test.true c.arm-item.is c.loop-arm.invariant.0),
      rw c.deref.ensures.value (arm_room (procedures_of c.args.typed.now) (procedure_of c.args.procedure.now) (plain_variables c.args.vars.now.items) (plain_variables c.loop-arm.vars.items) [] c.loop-arm.arm-index c.deref-arm-items.result.now c.loop-arm.encoded.items c.arm-item.result _ c.loop-arm-test.true c.arm-item.is c.loop-arm.invariant.0 (if_room (procedures_of c.args.typed.now) (procedure_of c.args.procedure.now) (plain_variables c.args.vars.now.items) (act_of c.args.act.now) [] [] (arms_of c.deref-arm-items.result.now) (acts_of c.in-If.other.items) c.in-If.span c.loop-arm.invariant.1 _ c.requires.room)),
    ),
  ),
)

pub add_act-loop-arm-preserved : goal.add_act-loop-arm-preserved
add_act-loop-arm-preserved t c = (arm_more (procedures_of c.args.typed.now) (procedure_of c.args.procedure.now) (plain_variables c.args.vars.now.items) (plain_variables c.loop-arm.vars.items) (plain_variables c.encoded_acts.new.vars.items) c.loop-arm.arm-index c.deref-arm-items.result.now c.loop-arm.encoded.items c.push.new.self.items c.arm-item.result _ c.loop-arm-test.true c.arm-item.is c.loop-arm.invariant.0 c.in_ok-push-in-If.ensures.items c.in_ok-guard-in-If.ensures (rw c.deref.ensures.value at c.in_ok-block-in-If.ensures.acts) (rw c.deref.ensures.value at c.in_ok-block-in-If.ensures.vars), c.loop-arm.invariant.1)

pub add_act-encoded_acts-requires-in-If : goal.add_act-encoded_acts-requires-in-If
add_act-encoded_acts-requires-in-If t c = (
  (
      let e = ap (λ l. weight_of (acts_of l)) c.deref-in-If.ensures.value in
      let k = ap weight c.loop-arm.invariant.1 in
      let d = c.decreases in
      omega (arith, e, k, d)
      ),
  (
    c.requires.rules,
    (
      rw c.deref-in-If.ensures.value (if_ready (procedures_of c.args.typed.now) (procedure_of c.args.procedure.now) (plain_variables c.args.vars.now.items) (act_of c.args.act.now) [] [] (arms_of c.deref-arm-items.result.now) (acts_of c.in-If.other.items) c.in-If.span c.loop-arm.invariant.1 c.requires.ready).1,
      rw c.deref-in-If.ensures.value (last_room (procedures_of c.args.typed.now) (procedure_of c.args.procedure.now) (plain_variables c.args.vars.now.items) (act_of c.args.act.now) [] [] (arms_of c.deref-arm-items.result.now) (acts_of c.in-If.other.items) c.in-If.span c.loop-arm.invariant.1 _ (plain_variables c.loop-arm.vars.items) c.requires.room (arms_end (procedures_of c.args.typed.now) (procedure_of c.args.procedure.now) (plain_variables c.args.vars.now.items) (plain_variables c.loop-arm.vars.items) [] c.loop-arm.arm-index c.deref-arm-items.result.now c.loop-arm.encoded.items c.loop-arm-test.false c.loop-arm.invariant.0).1),
    ),
  ),
)

pub add_act-returns-in_ok-push-in-If-2-clause-acts : goal.add_act-returns-in_ok-push-in-If-2-clause-acts
add_act-returns-in_ok-push-in-If-2-clause-acts t c = (if_made (procedures_of c.args.typed.now) (procedure_of c.args.procedure.now) (plain_variables c.args.vars.now.items) (act_of c.args.act.now) c.args.made.now.items _ (arms_of c.deref-arm-items.result.now) (acts_of c.in-If.other.items) c.in-If.span c.loop-arm.invariant.1 (plain_variables c.loop-arm.vars.items) _ c.loop-arm.encoded c.in_ok-last-in-If.last c.in_ok-push-in-If-2.ensures.items (arms_end (procedures_of c.args.typed.now) (procedure_of c.args.procedure.now) (plain_variables c.args.vars.now.items) (plain_variables c.loop-arm.vars.items) [] c.loop-arm.arm-index c.deref-arm-items.result.now c.loop-arm.encoded.items c.loop-arm-test.false c.loop-arm.invariant.0).0 (arms_end (procedures_of c.args.typed.now) (procedure_of c.args.procedure.now) (plain_variables c.args.vars.now.items) (plain_variables c.loop-arm.vars.items) [] c.loop-arm.arm-index c.deref-arm-items.result.now c.loop-arm.encoded.items c.loop-arm-test.false c.loop-arm.invariant.0).1 (rw c.deref-in-If.ensures.value at c.in_ok-last-in-If.ensures.acts) (rw c.deref-in-If.ensures.value at c.in_ok-last-in-If.ensures.vars)).0

pub add_act-returns-in_ok-push-in-If-2-clause-vars : goal.add_act-returns-in_ok-push-in-If-2-clause-vars
add_act-returns-in_ok-push-in-If-2-clause-vars t c = (if_made (procedures_of c.args.typed.now) (procedure_of c.args.procedure.now) (plain_variables c.args.vars.now.items) (act_of c.args.act.now) c.args.made.now.items _ (arms_of c.deref-arm-items.result.now) (acts_of c.in-If.other.items) c.in-If.span c.loop-arm.invariant.1 (plain_variables c.loop-arm.vars.items) _ c.loop-arm.encoded c.in_ok-last-in-If.last c.in_ok-push-in-If-2.ensures.items (arms_end (procedures_of c.args.typed.now) (procedure_of c.args.procedure.now) (plain_variables c.args.vars.now.items) (plain_variables c.loop-arm.vars.items) [] c.loop-arm.arm-index c.deref-arm-items.result.now c.loop-arm.encoded.items c.loop-arm-test.false c.loop-arm.invariant.0).0 (arms_end (procedures_of c.args.typed.now) (procedure_of c.args.procedure.now) (plain_variables c.args.vars.now.items) (plain_variables c.loop-arm.vars.items) [] c.loop-arm.arm-index c.deref-arm-items.result.now c.loop-arm.encoded.items c.loop-arm-test.false c.loop-arm.invariant.0).1 (rw c.deref-in-If.ensures.value at c.in_ok-last-in-If.ensures.acts) (rw c.deref-in-If.ensures.value at c.in_ok-last-in-If.ensures.vars)).1

pub add_act-encoded_acts-requires-in-Pick : goal.add_act-encoded_acts-requires-in-Pick
add_act-encoded_acts-requires-in-Pick t c = (
  (
      let e = ap (λ l. weight_of (acts_of l)) c.deref-in-Pick.ensures.value in
      let k = ap weight (ap act_of c.in-Pick.is ∙ pick_act _ _ _ _) in
      let d = c.decreases in
      omega (arith, e, k, d)
      ),
  (
    c.requires.rules,
    (
      rw c.deref-in-Pick.ensures.value (pick_ready (procedures_of c.args.typed.now) (procedure_of c.args.procedure.now) (plain_variables c.args.vars.now.items) (act_of c.args.act.now) [] [] c.in-Pick.up (acts_of c.in-Pick.left.items) (acts_of c.in-Pick.right.items) c.in-Pick.span (ap act_of c.in-Pick.is ∙ pick_act _ _ _ _) c.requires.ready).0,
      rw c.deref-in-Pick.ensures.value (pick_room (procedures_of c.args.typed.now) (procedure_of c.args.procedure.now) (plain_variables c.args.vars.now.items) (act_of c.args.act.now) [] [] c.in-Pick.up (acts_of c.in-Pick.left.items) (acts_of c.in-Pick.right.items) c.in-Pick.span (ap act_of c.in-Pick.is ∙ pick_act _ _ _ _) _ c.requires.room),
    ),
  ),
)

pub add_act-encoded_acts-requires-in-Pick-2 : goal.add_act-encoded_acts-requires-in-Pick-2
add_act-encoded_acts-requires-in-Pick-2 t c = (
  (
      let e = ap (λ l. weight_of (acts_of l)) c.deref-in-Pick-2.ensures.value in
      let k = ap weight (ap act_of c.in-Pick.is ∙ pick_act _ _ _ _) in
      let d = c.decreases in
      omega (arith, e, k, d)
      ),
  (
    c.requires.rules,
    (
      rw c.deref-in-Pick-2.ensures.value (pick_ready (procedures_of c.args.typed.now) (procedure_of c.args.procedure.now) (plain_variables c.args.vars.now.items) (act_of c.args.act.now) [] [] c.in-Pick.up (acts_of c.in-Pick.left.items) (acts_of c.in-Pick.right.items) c.in-Pick.span (ap act_of c.in-Pick.is ∙ pick_act _ _ _ _) c.requires.ready).1,
      rw c.deref-in-Pick-2.ensures.value (right_room (procedures_of c.args.typed.now) (procedure_of c.args.procedure.now) (plain_variables c.args.vars.now.items) (act_of c.args.act.now) [] [] c.in-Pick.up (acts_of c.in-Pick.left.items) (acts_of c.in-Pick.right.items) c.in-Pick.span (ap act_of c.in-Pick.is ∙ pick_act _ _ _ _) _ _ c.requires.room (rw c.deref-in-Pick.ensures.value at c.in_ok-first-in-Pick.ensures.vars)),
    ),
  ),
)

pub add_act-returns-in_ok-push-in-Pick-clause-acts : goal.add_act-returns-in_ok-push-in-Pick-clause-acts
add_act-returns-in_ok-push-in-Pick-clause-acts t c = (pick_made (procedures_of c.args.typed.now) (procedure_of c.args.procedure.now) (plain_variables c.args.vars.now.items) (act_of c.args.act.now) c.args.made.now.items _ c.in-Pick.up (acts_of c.in-Pick.left.items) (acts_of c.in-Pick.right.items) c.in-Pick.span (ap act_of c.in-Pick.is ∙ pick_act _ _ _ _) _ _ c.in_ok-first-in-Pick.first c.in_ok-second-in-Pick.second c.in_ok-push-in-Pick.ensures.items (rw c.deref-in-Pick.ensures.value at c.in_ok-first-in-Pick.ensures.acts) (rw c.deref-in-Pick.ensures.value at c.in_ok-first-in-Pick.ensures.vars) (rw c.deref-in-Pick-2.ensures.value at c.in_ok-second-in-Pick.ensures.acts) (rw c.deref-in-Pick-2.ensures.value at c.in_ok-second-in-Pick.ensures.vars)).0

pub add_act-returns-in_ok-push-in-Pick-clause-vars : goal.add_act-returns-in_ok-push-in-Pick-clause-vars
add_act-returns-in_ok-push-in-Pick-clause-vars t c = (pick_made (procedures_of c.args.typed.now) (procedure_of c.args.procedure.now) (plain_variables c.args.vars.now.items) (act_of c.args.act.now) c.args.made.now.items _ c.in-Pick.up (acts_of c.in-Pick.left.items) (acts_of c.in-Pick.right.items) c.in-Pick.span (ap act_of c.in-Pick.is ∙ pick_act _ _ _ _) _ _ c.in_ok-first-in-Pick.first c.in_ok-second-in-Pick.second c.in_ok-push-in-Pick.ensures.items (rw c.deref-in-Pick.ensures.value at c.in_ok-first-in-Pick.ensures.acts) (rw c.deref-in-Pick.ensures.value at c.in_ok-first-in-Pick.ensures.vars) (rw c.deref-in-Pick-2.ensures.value at c.in_ok-second-in-Pick.ensures.acts) (rw c.deref-in-Pick-2.ensures.value at c.in_ok-second-in-Pick.ensures.vars)).1

pub add_act-encoded_acts-requires-in-Loop : goal.add_act-encoded_acts-requires-in-Loop
add_act-encoded_acts-requires-in-Loop t c = (
  (
      let e = ap (λ l. weight_of (acts_of l)) c.deref-in-Loop-2.ensures.value in
      let k = ap weight (ap act_of c.in-Loop.is ∙ (loop_act _ ∙ ap (λ (l : LoopAct). Act.loop (head_of l) (acts_of l.body.items)) (sym c.deref-in-Loop.ensures))) in
      let d = c.decreases in
      omega (arith, e, k, d)
      ),
  (
    c.requires.rules,
    (
      rw c.deref-in-Loop-2.ensures.value (loop_ready (procedures_of c.args.typed.now) (procedure_of c.args.procedure.now) (plain_variables c.args.vars.now.items) (act_of c.args.act.now) [] [] (head_of c.deref-in-Loop.result.now) (acts_of c.deref-in-Loop.result.now.body.items) (ap act_of c.in-Loop.is ∙ (loop_act _ ∙ ap (λ (l : LoopAct). Act.loop (head_of l) (acts_of l.body.items)) (sym c.deref-in-Loop.ensures))) c.requires.ready).1,
      rw c.deref-in-Loop-2.ensures.value (loop_room (procedures_of c.args.typed.now) (procedure_of c.args.procedure.now) (plain_variables c.args.vars.now.items) (act_of c.args.act.now) [] [] (head_of c.deref-in-Loop.result.now) (acts_of c.deref-in-Loop.result.now.body.items) (ap act_of c.in-Loop.is ∙ (loop_act _ ∙ ap (λ (l : LoopAct). Act.loop (head_of l) (acts_of l.body.items)) (sym c.deref-in-Loop.ensures))) _ c.requires.room),
    ),
  ),
)

pub add_act-add_loop-requires-clause-some : goal.add_act-add_loop-requires-clause-some
add_act-add_loop-requires-clause-some t c = (loop_ready (procedures_of c.args.typed.now) (procedure_of c.args.procedure.now) (plain_variables c.args.vars.now.items) (act_of c.args.act.now) [] [] (head_of c.deref-in-Loop-3.result.now) (acts_of c.deref-in-Loop-3.result.now.body.items) (ap act_of c.in-Loop.is ∙ (loop_act _ ∙ ap (λ (l : LoopAct). Act.loop (head_of l) (acts_of l.body.items)) (sym c.deref-in-Loop-3.ensures))) c.requires.ready).0.0

pub add_act-add_loop-requires-clause-scope : goal.add_act-add_loop-requires-clause-scope
add_act-add_loop-requires-clause-scope t c = subst (λ n. GrowBelow 0 n c.deref-in-Loop-3.result.now.scope.items) (own_length c.args.procedure.now) (loop_ready (procedures_of c.args.typed.now) (procedure_of c.args.procedure.now) (plain_variables c.args.vars.now.items) (act_of c.args.act.now) [] [] (head_of c.deref-in-Loop-3.result.now) (acts_of c.deref-in-Loop-3.result.now.body.items) (ap act_of c.in-Loop.is ∙ (loop_act _ ∙ ap (λ (l : LoopAct). Act.loop (head_of l) (acts_of l.body.items)) (sym c.deref-in-Loop-3.ensures))) c.requires.ready).0.1

pub add_act-returns-in_ok-add_loop-in-Loop-clause-acts : goal.add_act-returns-in_ok-add_loop-in-Loop-clause-acts
add_act-returns-in_ok-add_loop-in-Loop-clause-acts t c = (loop_made (procedures_of c.args.typed.now) (procedure_of c.args.procedure.now) (plain_variables c.args.vars.now.items) (act_of c.args.act.now) c.args.made.now.items _ (head_of c.deref-in-Loop-3.result.now) (acts_of c.deref-in-Loop-3.result.now.body.items) (ap act_of c.in-Loop.is ∙ (loop_act _ ∙ ap (λ (l : LoopAct). Act.loop (head_of l) (acts_of l.body.items)) (sym c.deref-in-Loop-3.ensures))) _ (acts_of c.deref-in-Loop-4.result.now) (ap acts_of c.deref-in-Loop-4.ensures.value ∙ (c.in_ok-body-in-Loop.ensures.acts ∙ ap (λ l. encoded (procedures_of c.args.typed.now) (procedure_of c.args.procedure.now) (length (plain_variables c.args.vars.now.items)) (acts_of l)) (c.deref-in-Loop-2.ensures.value ∙ ap (λ (l : LoopAct). l.body.items) (c.deref-in-Loop.ensures ∙ sym c.deref-in-Loop-3.ensures)))) (c.in_ok-body-in-Loop.ensures.vars ∙ ap (λ l. (plain_variables c.args.vars.now.items) ++ fresh (procedures_of c.args.typed.now) (acts_of l)) (c.deref-in-Loop-2.ensures.value ∙ ap (λ (l : LoopAct). l.body.items) (c.deref-in-Loop.ensures ∙ sym c.deref-in-Loop-3.ensures))) c.in_ok-add_loop-in-Loop.ensures).0

pub add_act-returns-in_ok-add_loop-in-Loop-clause-vars : goal.add_act-returns-in_ok-add_loop-in-Loop-clause-vars
add_act-returns-in_ok-add_loop-in-Loop-clause-vars t c = (loop_made (procedures_of c.args.typed.now) (procedure_of c.args.procedure.now) (plain_variables c.args.vars.now.items) (act_of c.args.act.now) c.args.made.now.items _ (head_of c.deref-in-Loop-3.result.now) (acts_of c.deref-in-Loop-3.result.now.body.items) (ap act_of c.in-Loop.is ∙ (loop_act _ ∙ ap (λ (l : LoopAct). Act.loop (head_of l) (acts_of l.body.items)) (sym c.deref-in-Loop-3.ensures))) _ (acts_of c.deref-in-Loop-4.result.now) (ap acts_of c.deref-in-Loop-4.ensures.value ∙ (c.in_ok-body-in-Loop.ensures.acts ∙ ap (λ l. encoded (procedures_of c.args.typed.now) (procedure_of c.args.procedure.now) (length (plain_variables c.args.vars.now.items)) (acts_of l)) (c.deref-in-Loop-2.ensures.value ∙ ap (λ (l : LoopAct). l.body.items) (c.deref-in-Loop.ensures ∙ sym c.deref-in-Loop-3.ensures)))) (c.in_ok-body-in-Loop.ensures.vars ∙ ap (λ l. (plain_variables c.args.vars.now.items) ++ fresh (procedures_of c.args.typed.now) (acts_of l)) (c.deref-in-Loop-2.ensures.value ∙ ap (λ (l : LoopAct). l.body.items) (c.deref-in-Loop.ensures ∙ sym c.deref-in-Loop-3.ensures))) c.in_ok-add_loop-in-Loop.ensures).1

pub add_act-index-callee-requires : goal.add_act-index-callee-requires
add_act-index-callee-requires t c = subst (λ n. c.in-Call.q < n) (sym c.args.typed.now.procs.ok.0) (procedure_there c.args.typed.now c.in-Call.q (call_ready (procedures_of c.args.typed.now) (procedure_of c.args.procedure.now) (plain_variables c.args.vars.now.items) (act_of c.args.act.now) [] [] c.in-Call.targets.items c.in-Call.q (terms_of c.in-Call.arguments.items) c.in-Call.span (ap act_of c.in-Call.is ∙ call_act _ _ _ _) c.requires.ready).there)

pub add_act-overflow_cast-first : goal.add_act-overflow_cast-first
add_act-overflow_cast-first t c = let l = length-map c.args.vars.now.items variable_of in let r = c.requires.room in let o = c.args.vars.now.ok.0 in omega (arith, l, r, o)

pub add_act-interface_of-requires : goal.add_act-interface_of-requires
add_act-interface_of-requires t c = (callee_at c.args.typed.now c.in-Call.targets.items c.in-Call.q (terms_of c.in-Call.arguments.items) c.index-callee.result.now c.requires.rules (call_ready (procedures_of c.args.typed.now) (procedure_of c.args.procedure.now) (plain_variables c.args.vars.now.items) (act_of c.args.act.now) [] [] c.in-Call.targets.items c.in-Call.q (terms_of c.in-Call.arguments.items) c.in-Call.span (ap act_of c.in-Call.is ∙ call_act _ _ _ _) c.requires.ready) (procedure_there c.args.typed.now c.in-Call.q (call_ready (procedures_of c.args.typed.now) (procedure_of c.args.procedure.now) (plain_variables c.args.vars.now.items) (act_of c.args.act.now) [] [] c.in-Call.targets.items c.in-Call.q (terms_of c.in-Call.arguments.items) c.in-Call.span (ap act_of c.in-Call.is ∙ call_act _ _ _ _) c.requires.ready).there) c.index-callee.ensures)

pub add_act-add_entry-requires-clause-callee : goal.add_act-add_entry-requires-clause-callee
add_act-add_entry-requires-clause-callee t c = (callee_at c.args.typed.now c.in-Call.targets.items c.in-Call.q (terms_of c.in-Call.arguments.items) c.index-callee.result.now c.requires.rules (call_ready (procedures_of c.args.typed.now) (procedure_of c.args.procedure.now) (plain_variables c.args.vars.now.items) (act_of c.args.act.now) [] [] c.in-Call.targets.items c.in-Call.q (terms_of c.in-Call.arguments.items) c.in-Call.span (ap act_of c.in-Call.is ∙ call_act _ _ _ _) c.requires.ready) (procedure_there c.args.typed.now c.in-Call.q (call_ready (procedures_of c.args.typed.now) (procedure_of c.args.procedure.now) (plain_variables c.args.vars.now.items) (act_of c.args.act.now) [] [] c.in-Call.targets.items c.in-Call.q (terms_of c.in-Call.arguments.items) c.in-Call.span (ap act_of c.in-Call.is ∙ call_act _ _ _ _) c.requires.ready).there) c.index-callee.ensures)

pub add_act-add_entry-requires-clause-room : goal.add_act-add_entry-requires-clause-room
add_act-add_entry-requires-clause-room t c = let l = length-map c.args.vars.now.items variable_of in let m = length-map c.in-Call.arguments.items term_of in let r = c.requires.room in let a = (call_ready (procedures_of c.args.typed.now) (procedure_of c.args.procedure.now) (plain_variables c.args.vars.now.items) (act_of c.args.act.now) [] [] c.in-Call.targets.items c.in-Call.q (terms_of c.in-Call.arguments.items) c.in-Call.span (ap act_of c.in-Call.is ∙ call_act _ _ _ _) c.requires.ready).arguments in let f = (call_ready (procedures_of c.args.typed.now) (procedure_of c.args.procedure.now) (plain_variables c.args.vars.now.items) (act_of c.args.act.now) [] [] c.in-Call.targets.items c.in-Call.q (terms_of c.in-Call.arguments.items) c.in-Call.span (ap act_of c.in-Call.is ∙ call_act _ _ _ _) c.requires.ready).few in let o = c.args.vars.now.ok.0 in omega (arith, l, m, r, a, f, o)

pub add_act-add_return-requires-clause-callee : goal.add_act-add_return-requires-clause-callee
add_act-add_return-requires-clause-callee t c = (callee_at c.args.typed.now c.in-Call.targets.items c.in-Call.q (terms_of c.in-Call.arguments.items) c.index-callee.result.now c.requires.rules (call_ready (procedures_of c.args.typed.now) (procedure_of c.args.procedure.now) (plain_variables c.args.vars.now.items) (act_of c.args.act.now) [] [] c.in-Call.targets.items c.in-Call.q (terms_of c.in-Call.arguments.items) c.in-Call.span (ap act_of c.in-Call.is ∙ call_act _ _ _ _) c.requires.ready) (procedure_there c.args.typed.now c.in-Call.q (call_ready (procedures_of c.args.typed.now) (procedure_of c.args.procedure.now) (plain_variables c.args.vars.now.items) (act_of c.args.act.now) [] [] c.in-Call.targets.items c.in-Call.q (terms_of c.in-Call.arguments.items) c.in-Call.span (ap act_of c.in-Call.is ∙ call_act _ _ _ _) c.requires.ready).there) c.index-callee.ensures)

pub add_act-add_return-requires-clause-room : goal.add_act-add_return-requires-clause-room
add_act-add_return-requires-clause-room t c = let l = length-map c.args.vars.now.items variable_of in let r = c.requires.room in let o = c.args.vars.now.ok.0 in omega (arith, l, r, o)

pub add_act-add_return-requires-clause-targets : goal.add_act-add_return-requires-clause-targets
add_act-add_return-requires-clause-targets t c = ap (λ (l : List ℕ). length l) c.deref-in-Call-2.ensures.value ∙ ((call_ready (procedures_of c.args.typed.now) (procedure_of c.args.procedure.now) (plain_variables c.args.vars.now.items) (act_of c.args.act.now) [] [] c.in-Call.targets.items c.in-Call.q (terms_of c.in-Call.arguments.items) c.in-Call.span (ap act_of c.in-Call.is ∙ call_act _ _ _ _) c.requires.ready).targets ∙ ap (λ (y : TypedProcedure). length y.outputs) (procedure_is c.args.typed.now.procs.items c.in-Call.q c.index-callee.result.now (procedure_there c.args.typed.now c.in-Call.q (call_ready (procedures_of c.args.typed.now) (procedure_of c.args.procedure.now) (plain_variables c.args.vars.now.items) (act_of c.args.act.now) [] [] c.in-Call.targets.items c.in-Call.q (terms_of c.in-Call.arguments.items) c.in-Call.span (ap act_of c.in-Call.is ∙ call_act _ _ _ _) c.requires.ready).there) c.index-callee.ensures))

pub add_act-returns-in_ok-add_return-in-Call-clause-acts : goal.add_act-returns-in_ok-add_return-in-Call-clause-acts
add_act-returns-in_ok-add_return-in-Call-clause-acts t c = (call_made (procedures_of c.args.typed.now) (procedure_of c.args.procedure.now) (plain_variables c.args.vars.now.items) (act_of c.args.act.now) c.args.made.now.items _ c.in-Call.targets.items c.in-Call.q (terms_of c.in-Call.arguments.items) c.in-Call.span (ap act_of c.in-Call.is ∙ call_act _ _ _ _) _ (procedure_of c.index-callee.result.now) c.len-first.result _ (procedure_is c.args.typed.now.procs.items c.in-Call.q c.index-callee.result.now (procedure_there c.args.typed.now c.in-Call.q (call_ready (procedures_of c.args.typed.now) (procedure_of c.args.procedure.now) (plain_variables c.args.vars.now.items) (act_of c.args.act.now) [] [] c.in-Call.targets.items c.in-Call.q (terms_of c.in-Call.arguments.items) c.in-Call.span (ap act_of c.in-Call.is ∙ call_act _ _ _ _) c.requires.ready).there) c.index-callee.ensures) (c.len-first.ensures ∙ (c.args.vars.now.ok.0 ∙ sym (length-map c.args.vars.now.items variable_of))) (c.in_ok-add_variables-in-Call.ensures ∙ ap (λ l. (plain_variables c.args.vars.now.items) ++ l) c.interface_of.ensures) (λ rest. rw c.deref-in-Call.ensures.value at (c.in_ok-add_entry-in-Call.ensures rest)) (rw c.deref-in-Call-2.ensures.value at c.in_ok-add_return-in-Call.ensures)).0

pub add_act-returns-in_ok-add_return-in-Call-clause-vars : goal.add_act-returns-in_ok-add_return-in-Call-clause-vars
add_act-returns-in_ok-add_return-in-Call-clause-vars t c = (call_made (procedures_of c.args.typed.now) (procedure_of c.args.procedure.now) (plain_variables c.args.vars.now.items) (act_of c.args.act.now) c.args.made.now.items _ c.in-Call.targets.items c.in-Call.q (terms_of c.in-Call.arguments.items) c.in-Call.span (ap act_of c.in-Call.is ∙ call_act _ _ _ _) _ (procedure_of c.index-callee.result.now) c.len-first.result _ (procedure_is c.args.typed.now.procs.items c.in-Call.q c.index-callee.result.now (procedure_there c.args.typed.now c.in-Call.q (call_ready (procedures_of c.args.typed.now) (procedure_of c.args.procedure.now) (plain_variables c.args.vars.now.items) (act_of c.args.act.now) [] [] c.in-Call.targets.items c.in-Call.q (terms_of c.in-Call.arguments.items) c.in-Call.span (ap act_of c.in-Call.is ∙ call_act _ _ _ _) c.requires.ready).there) c.index-callee.ensures) (c.len-first.ensures ∙ (c.args.vars.now.ok.0 ∙ sym (length-map c.args.vars.now.items variable_of))) (c.in_ok-add_variables-in-Call.ensures ∙ ap (λ l. (plain_variables c.args.vars.now.items) ++ l) c.interface_of.ensures) (λ rest. rw c.deref-in-Call.ensures.value at (c.in_ok-add_entry-in-Call.ensures rest)) (rw c.deref-in-Call-2.ensures.value at c.in_ok-add_return-in-Call.ensures)).1

pub add_act-returns-in_ok-add_copy-in-Set-clause-acts : goal.add_act-returns-in_ok-add_copy-in-Set-clause-acts
add_act-returns-in_ok-add_copy-in-Set-clause-acts t c = (stay_made (procedures_of c.args.typed.now) (procedure_of c.args.procedure.now) (plain_variables c.args.vars.now.items) (act_of c.args.act.now) c.args.made.now.items _ _ (ap act_of c.in-Set.is ∙ set_act _ _ _) (refl, refl) c.in_ok-add_copy-in-Set.ensures).0

pub add_act-returns-in_ok-add_copy-in-Set-clause-vars : goal.add_act-returns-in_ok-add_copy-in-Set-clause-vars
add_act-returns-in_ok-add_copy-in-Set-clause-vars t c = (stay_made (procedures_of c.args.typed.now) (procedure_of c.args.procedure.now) (plain_variables c.args.vars.now.items) (act_of c.args.act.now) c.args.made.now.items _ _ (ap act_of c.in-Set.is ∙ set_act _ _ _) (refl, refl) c.in_ok-add_copy-in-Set.ensures).1

pub add_act-returns-in_ok-add_copy-in-Draw-clause-acts : goal.add_act-returns-in_ok-add_copy-in-Draw-clause-acts
add_act-returns-in_ok-add_copy-in-Draw-clause-acts t c = (stay_made (procedures_of c.args.typed.now) (procedure_of c.args.procedure.now) (plain_variables c.args.vars.now.items) (act_of c.args.act.now) c.args.made.now.items _ _ (ap act_of c.in-Draw.is ∙ draw_act _ _ _) (refl, refl) c.in_ok-add_copy-in-Draw.ensures).0

pub add_act-returns-in_ok-add_copy-in-Draw-clause-vars : goal.add_act-returns-in_ok-add_copy-in-Draw-clause-vars
add_act-returns-in_ok-add_copy-in-Draw-clause-vars t c = (stay_made (procedures_of c.args.typed.now) (procedure_of c.args.procedure.now) (plain_variables c.args.vars.now.items) (act_of c.args.act.now) c.args.made.now.items _ _ (ap act_of c.in-Draw.is ∙ draw_act _ _ _) (refl, refl) c.in_ok-add_copy-in-Draw.ensures).1

pub add_act-returns-in_ok-add_copy-in-Toss-clause-acts : goal.add_act-returns-in_ok-add_copy-in-Toss-clause-acts
add_act-returns-in_ok-add_copy-in-Toss-clause-acts t c = (stay_made (procedures_of c.args.typed.now) (procedure_of c.args.procedure.now) (plain_variables c.args.vars.now.items) (act_of c.args.act.now) c.args.made.now.items _ _ (ap act_of c.in-Toss.is ∙ toss_act _ _ _) (refl, refl) c.in_ok-add_copy-in-Toss.ensures).0

pub add_act-returns-in_ok-add_copy-in-Toss-clause-vars : goal.add_act-returns-in_ok-add_copy-in-Toss-clause-vars
add_act-returns-in_ok-add_copy-in-Toss-clause-vars t c = (stay_made (procedures_of c.args.typed.now) (procedure_of c.args.procedure.now) (plain_variables c.args.vars.now.items) (act_of c.args.act.now) c.args.made.now.items _ _ (ap act_of c.in-Toss.is ∙ toss_act _ _ _) (refl, refl) c.in_ok-add_copy-in-Toss.ensures).1

pub add_act-returns-in_ok-add_copy-in-Any-clause-acts : goal.add_act-returns-in_ok-add_copy-in-Any-clause-acts
add_act-returns-in_ok-add_copy-in-Any-clause-acts t c = (stay_made (procedures_of c.args.typed.now) (procedure_of c.args.procedure.now) (plain_variables c.args.vars.now.items) (act_of c.args.act.now) c.args.made.now.items _ _ (ap act_of c.in-Any.is ∙ any_act _ _ _ _) (refl, refl) c.in_ok-add_copy-in-Any.ensures).0

pub add_act-returns-in_ok-add_copy-in-Any-clause-vars : goal.add_act-returns-in_ok-add_copy-in-Any-clause-vars
add_act-returns-in_ok-add_copy-in-Any-clause-vars t c = (stay_made (procedures_of c.args.typed.now) (procedure_of c.args.procedure.now) (plain_variables c.args.vars.now.items) (act_of c.args.act.now) c.args.made.now.items _ _ (ap act_of c.in-Any.is ∙ any_act _ _ _ _) (refl, refl) c.in_ok-add_copy-in-Any.ensures).1

pub add_act-returns-in_ok-add_copy-in-Reward-clause-acts : goal.add_act-returns-in_ok-add_copy-in-Reward-clause-acts
add_act-returns-in_ok-add_copy-in-Reward-clause-acts t c = (stay_made (procedures_of c.args.typed.now) (procedure_of c.args.procedure.now) (plain_variables c.args.vars.now.items) (act_of c.args.act.now) c.args.made.now.items _ _ (ap act_of c.in-Reward.is ∙ reward_act _ _) (refl, refl) c.in_ok-add_copy-in-Reward.ensures).0

pub add_act-returns-in_ok-add_copy-in-Reward-clause-vars : goal.add_act-returns-in_ok-add_copy-in-Reward-clause-vars
add_act-returns-in_ok-add_copy-in-Reward-clause-vars t c = (stay_made (procedures_of c.args.typed.now) (procedure_of c.args.procedure.now) (plain_variables c.args.vars.now.items) (act_of c.args.act.now) c.args.made.now.items _ _ (ap act_of c.in-Reward.is ∙ reward_act _ _) (refl, refl) c.in_ok-add_copy-in-Reward.ensures).1

pub add_act-returns-in_ok-add_copy-in-Check-clause-acts : goal.add_act-returns-in_ok-add_copy-in-Check-clause-acts
add_act-returns-in_ok-add_copy-in-Check-clause-acts t c = (stay_made (procedures_of c.args.typed.now) (procedure_of c.args.procedure.now) (plain_variables c.args.vars.now.items) (act_of c.args.act.now) c.args.made.now.items _ _ (ap act_of c.in-Check.is ∙ check_act _ _ _) (refl, refl) c.in_ok-add_copy-in-Check.ensures).0

pub add_act-returns-in_ok-add_copy-in-Check-clause-vars : goal.add_act-returns-in_ok-add_copy-in-Check-clause-vars
add_act-returns-in_ok-add_copy-in-Check-clause-vars t c = (stay_made (procedures_of c.args.typed.now) (procedure_of c.args.procedure.now) (plain_variables c.args.vars.now.items) (act_of c.args.act.now) c.args.made.now.items _ _ (ap act_of c.in-Check.is ∙ check_act _ _ _) (refl, refl) c.in_ok-add_copy-in-Check.ensures).1

pub add_act-returns-in_ok-add_copy-in-Validate-clause-acts : goal.add_act-returns-in_ok-add_copy-in-Validate-clause-acts
add_act-returns-in_ok-add_copy-in-Validate-clause-acts t c = (stay_made (procedures_of c.args.typed.now) (procedure_of c.args.procedure.now) (plain_variables c.args.vars.now.items) (act_of c.args.act.now) c.args.made.now.items _ _ (ap act_of c.in-Validate.is ∙ validate_act _ _) (refl, refl) c.in_ok-add_copy-in-Validate.ensures).0

pub add_act-returns-in_ok-add_copy-in-Validate-clause-vars : goal.add_act-returns-in_ok-add_copy-in-Validate-clause-vars
add_act-returns-in_ok-add_copy-in-Validate-clause-vars t c = (stay_made (procedures_of c.args.typed.now) (procedure_of c.args.procedure.now) (plain_variables c.args.vars.now.items) (act_of c.args.act.now) c.args.made.now.items _ _ (ap act_of c.in-Validate.is ∙ validate_act _ _) (refl, refl) c.in_ok-add_copy-in-Validate.ensures).1
