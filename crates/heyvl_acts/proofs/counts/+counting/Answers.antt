use Rattle.heylo_formula.specs.PlainTrees.{term_of}
use Rattle.heyvl_acts.proofs.CountsLeft.{acts_left, arms_left, capped_self, if_count, loop_counted, loop_full, loop_plain, next_act, next_arm, start_behind, step}
use Rattle.heyvl_acts.proofs.counts.+counting.Goals as goal
use Rattle.heyvl_acts.proofs.exported.PlainActsAre.{call_act}
use Rattle.heyvl_acts.specs.Count.{count_of, count_of_act, count_of_copies}
use Rattle.heyvl_acts.specs.ModifiedVariables.{modified}
use Rattle.heyvl_acts.specs.PlainActs.{act_of, acts_of}
use Rattle.std.proofs.Common.{ap, arith, length, refl, rules, sym, ◌+◌, ◌∙◌, ◌≡◌}
use Rattle.std.proofs.lemmas.List.{length-map}
use Rattle.std.specs.Prelude.{min}

pub count-loop-act-preserved : goal.count-loop-act-preserved
count-loop-act-preserved t c =
    let x = count_of_act (act_of c.act-item.result) in
    let b : c.both-total.result ≡ min 1025 (c.loop-act.total + x) = c.both-total.ensures c.loop-act.total x (capped_self c.loop-act.total c.loop-act.invariant.below) c.count_of_act.ensures in
    step _ c.loop-act.total x (acts_left c.args.acts.now (c.loop-act.act-index + 1)) (acts_left c.args.acts.now c.loop-act.act-index) c.both-total.result c.loop-act.invariant (next_act c.args.acts.now c.loop-act.act-index c.act-item.result c.loop-act-test.true c.act-item.is) b

pub count_of_act-loop-arm-init : goal.count_of_act-loop-arm-init
count_of_act-loop-arm-init t c =
    let e = count_of (acts_of c.in-If.other.items) in
    start_behind _ c.count-total.result (arms_left c.deref-arm-items.result.now 0) e
    (ap (λ l. arms_left l 0 + e) c.deref-arm-items.ensures.value ∙ if_count _ c.in-If.arms c.in-If.other c.in-If.field-2 c.in-If.is)
    (c.count-total.ensures ∙ ap (λ l. min 1025 (count_of (acts_of l))) c.deref.ensures.value)

pub count_of_act-loop-arm-preserved : goal.count_of_act-loop-arm-preserved
count_of_act-loop-arm-preserved t c =
    let n = count_of (acts_of c.arm-item.result.1.items) in
    let a : c.both.result ≡ min 1025 (1 + n) = c.both.ensures 1 n refl (c.count.ensures ∙ ap (λ l. min 1025 (count_of (acts_of l))) c.deref-in-loop-arm.ensures.value) in
    let b : c.both-total.result ≡ min 1025 (c.loop-arm.total + (1 + n)) = c.both-total.ensures c.loop-arm.total (1 + n) (capped_self c.loop-arm.total c.loop-arm.invariant.below) a in
    let h = next_arm c.deref-arm-items.result.now c.loop-arm.arm-index c.arm-item.result c.loop-arm-test.true c.arm-item.is in
    step _ c.loop-arm.total (1 + n) (arms_left c.deref-arm-items.result.now (c.loop-arm.arm-index + 1)) (arms_left c.deref-arm-items.result.now c.loop-arm.arm-index) c.both-total.result c.loop-arm.invariant (omega (arith, h)) b

pub count_of_act-returns-in-Call : goal.count_of_act-returns-in-Call
count_of_act-returns-in-Call t c =
    let xs = length c.in-Call.targets.items in
    let es = length c.in-Call.arguments.items in
    let x : c.capped-targets.result ≡ min 1025 xs = search rules in
    let e : c.capped.result ≡ min 1025 es = search rules in
    let p : c.both-in-Call-3.result ≡ min 1025 (3 + (es + (xs + xs))) = c.both-in-Call-3.ensures 3 (es + (xs + xs)) refl (c.both-in-Call-2.ensures es (xs + xs) e (c.both-in-Call.ensures xs xs x x)) in
    p ∙ ap (λ n. min 1025 (3 + (n + (xs + xs)))) (sym (length-map c.in-Call.arguments.items term_of))
    ∙ ap (λ a. min 1025 (count_of_act a)) (sym (call_act c.in-Call.targets c.in-Call.field-1 c.in-Call.arguments c.in-Call.field-3)) ∙ ap (λ y. min 1025 (count_of_act (act_of y))) (sym c.in-Call.is)

pub count_of_loop-returns-then-copies-ge-CEILING : goal.count_of_loop-returns-then-copies-ge-CEILING
count_of_loop-returns-then-copies-ge-CEILING t c =
    let l = c.args.one.now in
    let n = count_of (acts_of l.body.items) in
    let m = length (modified l.scope.items (acts_of l.body.items)) in
    let p : c.both-copies.result ≡ min 1025 (4 + count_of_copies l.k n) = c.both-copies.ensures 4 (count_of_copies l.k n) refl (c.copies.ensures n (c.count.ensures ∙ ap (λ b. min 1025 (count_of (acts_of b))) c.deref.ensures.value)) in
    loop_full c.both-copies.result m (count_of_copies l.k n) p c.if-copies-ge-CEILING.true ∙ ap (λ a. min 1025 (count_of_act a)) (sym (loop_plain l))

pub count_of_loop-returns : goal.count_of_loop-returns
count_of_loop-returns t c =
    let l = c.args.one.now in
    let n = count_of (acts_of l.body.items) in
    let m = length (modified l.scope.items (acts_of l.body.items)) in
    let p : c.both-copies.result ≡ min 1025 (4 + count_of_copies l.k n) = c.both-copies.ensures 4 (count_of_copies l.k n) refl (c.copies.ensures n (c.count.ensures ∙ ap (λ b. min 1025 (count_of (acts_of b))) c.deref.ensures.value)) in
    let q : c.capped.result ≡ min 1025 m =
    c.capped.ensures ∙ ap (min 1025) (c.modified.ensures ∙ ap (λ s. length (modified s (acts_of c.deref-3.result.now))) c.deref-2.ensures.value ∙ ap (λ b. length (modified l.scope.items (acts_of b))) c.deref-3.ensures.value) in
    c.both.ensures (4 + count_of_copies l.k n) m p q ∙ loop_counted m (count_of_copies l.k n) ∙ ap (λ a. min 1025 (count_of_act a)) (sym (loop_plain l))
