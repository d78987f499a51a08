use Rattle.std.proofs.Common.{[], ap, arith, length, length-append, map, subst, sym, ◌∙◌, ◌∷◌, ◌≡◌}
use Rattle.std.proofs.lemmas.List.{length-map}
use Rattle.std.specs.Vec.Iter.{into_iter_items}
use Rattle.heyvl_acts.specs.PlainActs.{procedure_of, procedures_of}
use Rattle.verify_core.specs.Verdicts.{IsAnswer}
use Rattle.verify_core.specs.internal.Marks.{is_unverified}
use Rattle.verify_core.specs.internal.Own.{EachNumbered, IsOwnBy}
use Rattle.verify_core.proofs.GoalOutcomes.{nothing_left}
use Rattle.verify_core.proofs.OwnAnswers.{are_marks, next_answer}
use Rattle.verify_core.proofs.SideBySide.{numbered_beside}
use Rattle.verify_core.proofs.reached_answers.answers.Goals as goal

pub loop-one-init : goal.loop-one-init
loop-one-init c =
    let ps = procedures_of c.args.typed.now in
    let given = c.into_iter-one-iterator.ensures.into_iter_gives.0 in
    let sized : length (into_iter_items c.into_iter-one-iterator.result) ≡ length c.args.own.items = ap length given in
    record {
      done = sym (ap length c.new-all.ensures.items);
      count = omega (arith, sized);
      answers = λ table ranks h. (subst (EachNumbered (IsAnswer ps table ranks) 0) (sym c.new-all.ensures.items) tt, subst (EachNumbered (IsOwnBy ps table ranks) 0) (sym given) h);
    }

pub answer-requires-clause-there : goal.answer-requires-clause-there
answer-requires-clause-there c =
    let one : length (into_iter_items c.loop-one.one-iterator) ≡ length (c.in-Some.one ∷ into_iter_items c.next.new.self) = ap length c.in-Some.ensures.steps.0 in
    let count = c.loop-one.invariant.count in
    let each = c.requires.each in
    omega (arith, one, count, each)

pub answer-requires-clause-each : goal.answer-requires-clause-each
answer-requires-clause-each c = ap length (c.deref-in-loop-one.ensures.value ∙ c.in_ok-marks.ensures) ∙ (length-map c.deref.result.now is_unverified ∙ (ap length c.deref.ensures.value ∙ c.requires.each))

pub loop-one-preserved : goal.loop-one-preserved
loop-one-preserved c =
    let ps = procedures_of c.args.typed.now in
    let ys = into_iter_items c.next.new.self in
    let more = c.in-Some.ensures.steps.0 in
    let one : length (into_iter_items c.loop-one.one-iterator) ≡ length (c.in-Some.one ∷ ys) = ap length more in
    let count = c.loop-one.invariant.count in
    let done = c.loop-one.invariant.done in
    let sized : length c.args.own.items ≡ length ps = c.requires.each ∙ sym (length-map c.args.typed.now.procs.items procedure_of) in
    let marked = c.deref-in-loop-one.ensures.value ∙ (c.in_ok-marks.ensures ∙ ap (λ l. map is_unverified l) c.deref.ensures.value) in
    let pushed = ap length c.in_ok-push.ensures.items ∙ length-append c.loop-one.all.items (c.in_ok-answer.field-0 ∷ []) in
    record {
      done = omega (arith, pushed, done);
      count = omega (arith, one, count);
      answers = λ table ranks h. next_answer ps table ranks c.loop-one.p c.loop-one.all.items c.push.new.self.items _ ys c.in-Some.one c.in_ok-answer.field-0 done c.in_ok-push.ensures.items more (c.loop-one.invariant.answers table ranks h) (λ o. c.in_ok-answer.ensures table ranks o (are_marks ps table ranks c.args.own.items _ h sized marked));
    }

pub returns : goal.returns
returns c =
    let ps = procedures_of c.args.typed.now in
    let none = ap length (nothing_left _ (into_iter_items c.loop-one.one-iterator) c.loop-one.one-iterator.rest.ok.0 c.in-None.ensures.steps.0) in
    let count = c.loop-one.invariant.count in
    let done = c.loop-one.invariant.done in
    let sized : length c.args.own.items ≡ length ps = c.requires.each ∙ sym (length-map c.args.typed.now.procs.items procedure_of) in
    λ table ranks h. numbered_beside (IsAnswer ps table ranks) 0 ps c.loop-one.all.items (omega (arith, none, count, done, sized)) (c.loop-one.invariant.answers table ranks h).0
