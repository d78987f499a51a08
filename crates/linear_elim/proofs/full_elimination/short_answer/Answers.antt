use Rattle.std.proofs.Common.{sym, subst, refl, length}
use Rattle.std.specs.List.{All}
use Rattle.linear_rows.specs.VariableOrder.{order_of}
use Rattle.linear_rows.specs.Terms.{IsOver}
use Rattle.linear_elim.proofs.OrderedRows.{rows_over}
use Rattle.linear_elim.specs.Answers.{IsShortLimited}
use Rattle.linear_elim.specs.Elimination.{elimination_by}
use Rattle.linear_elim.specs.Elimination.Rule.{drops}
use Rattle.linear_elim.specs.internal.Picks.{IsDerivedStep}
use Rattle.linear_elim.proofs.StepRows.{standing_derived}
use Rattle.linear_elim.proofs.EndAnswers.{sum_too_great, in_order_of, chosen_of, great_choice, short_limited}
use Rattle.linear_elim.proofs.full_elimination.short_answer.Goals as goal

pub returns-in-Refuted-clause-none : goal.returns-in-Refuted-clause-none
returns-in-Refuted-clause-none c =
    let e = rw c.in-Refuted.is at c.in_ok-contradiction.ensures in
    λ n. IsShortLimited.great (sum_too_great drops c.args.rows.now c.args.vars.now c.in-Refuted.contradiction (in_order_of drops c.args.rows.now c.args.vars.now _ _ c.requires.order e) (c.in_ok-multipliers-in-Refuted.ensures.none c.in-None.is))

pub greedy-requires-clause-derived : goal.greedy-requires-clause-derived
greedy-requires-clause-derived c =
    let e = rw c.in-Standing.is at c.in_ok-contradiction.ensures in
    subst (All IsDerivedStep) (sym c.deref.ensures.value) (standing_derived drops (order_of c.args.rows.now (length c.args.vars.now)) c.args.rows.now _ c.requires.rows (sym (in_order_of drops c.args.rows.now c.args.vars.now _ _ c.requires.order e)))

pub returns-in-Point-clause-some : goal.returns-in-Point-clause-some
returns-in-Point-clause-some c =
    let e = rw c.in-Standing.is at c.in_ok-contradiction.ensures in
    let k = chosen_of drops c.args.rows.now c.args.vars.now c.deref.result.now _ _ c.deref.ensures.value c.requires.rows c.requires.numeric (in_order_of drops c.args.rows.now c.args.vars.now _ _ c.requires.order e) c.in_ok-point-in-Standing.ensures in
    rw c.in-Point.is at k

pub returns-in-Break-clause-some : goal.returns-in-Break-clause-some
returns-in-Break-clause-some c =
    let e = rw c.in-Standing.is at c.in_ok-contradiction.ensures in
    let k = chosen_of drops c.args.rows.now c.args.vars.now c.deref.result.now _ _ c.deref.ensures.value c.requires.rows c.requires.numeric (in_order_of drops c.args.rows.now c.args.vars.now _ _ c.requires.order e) c.in_ok-point-in-Standing.ensures in
    rw c.in-Break.is at k

pub returns-in-Standing-clause-none : goal.returns-in-Standing-clause-none
returns-in-Standing-clause-none c =
    let e = rw c.in-Standing.is at c.in_ok-contradiction.ensures in
    let s = in_order_of drops c.args.rows.now c.args.vars.now _ _ c.requires.order e in
    let k = chosen_of drops c.args.rows.now c.args.vars.now c.deref.result.now _ _ c.deref.ensures.value c.requires.rows c.requires.numeric s c.in_ok-point-in-Standing.ensures in
    λ n. IsShortLimited.great (great_choice drops c.args.rows.now c.args.vars.now c.deref.result.now _ c.deref.ensures.value s (rw c.in-Great.is at k))

pub returns-clause-none : goal.returns-clause-none
returns-clause-none c =
    let l = rw c.in-Limited.is at c.in_ok-contradiction.ensures in
    λ n. short_limited c.args.rows.now c.args.vars.now (elimination_by drops c.args.order.now c.args.rows.now) (in_order_of drops c.args.rows.now c.args.vars.now _ _ c.requires.order refl) l

pub short_steps-requires-clause-over : goal.short_steps-requires-clause-over
short_steps-requires-clause-over c = subst (λ o. All (λ r. IsOver o r.terms) c.args.rows.now) (sym c.requires.order) (rows_over c.args.rows.now c.args.vars.now c.requires.numeric)
