use Rattle.std.proofs.Common.{sym, subst, arith, length}
use Rattle.linear_rows.specs.VariableOrder.{order_of}
use Rattle.std.specs.List.{All}
use Rattle.linear_elim.specs.Elimination.Rule.{keeps}
use Rattle.linear_elim.specs.internal.Picks.{IsDerivedStep}
use Rattle.linear_elim.proofs.StepRows.{standing_derived}
use Rattle.linear_elim.proofs.EndAnswers.{sum_too_great, counted, chosen_of, great_choice}
use Rattle.linear_elim.proofs.full_elimination.plain_answer.Goals as goal

pub returns-in-Refuted : goal.returns-in-Refuted
returns-in-Refuted c =
    let e = rw c.in-Refuted.is at c.requires.end in
    sum_too_great keeps c.args.rows.now c.args.vars.now c.in-Refuted.contradiction e (c.in_ok-multipliers-in-Refuted.ensures.none c.in-None.is)

pub overflow_cast-result : goal.overflow_cast-result
overflow_cast-result c =
    let e = rw c.in-TooMany.is at c.requires.end in
    let h = counted c.args.rows.now c.args.vars.now _ _ e c.requires.few c.requires.few_variables in
    let l = h.0 in
    omega (arith, l)

pub overflow_cast-result-in-TooMany : goal.overflow_cast-result-in-TooMany
overflow_cast-result-in-TooMany c =
    let e = rw c.in-TooMany.is at c.requires.end in
    let h = counted c.args.rows.now c.args.vars.now _ _ e c.requires.few c.requires.few_variables in
    let l = h.1 in
    omega (arith, l)

pub greedy-requires-clause-derived : goal.greedy-requires-clause-derived
greedy-requires-clause-derived c =
    let e = rw c.in-Standing.is at c.requires.end in
    subst (All IsDerivedStep) (sym c.deref.ensures.value) (standing_derived keeps (order_of c.args.rows.now (length c.args.vars.now)) c.args.rows.now _ c.requires.rows (sym e))

pub returns-in-Point : goal.returns-in-Point
returns-in-Point c =
    let e = rw c.in-Standing.is at c.requires.end in
    let k = chosen_of keeps c.args.rows.now c.args.vars.now c.deref.result.now _ _ c.deref.ensures.value c.requires.rows c.requires.numeric e c.in_ok-point-in-Standing.ensures in
    rw c.in-Point.is at k

pub returns-in-Break : goal.returns-in-Break
returns-in-Break c =
    let e = rw c.in-Standing.is at c.requires.end in
    let k = chosen_of keeps c.args.rows.now c.args.vars.now c.deref.result.now _ _ c.deref.ensures.value c.requires.rows c.requires.numeric e c.in_ok-point-in-Standing.ensures in
    rw c.in-Break.is at k

pub returns-in-Standing : goal.returns-in-Standing
returns-in-Standing c =
    let e = rw c.in-Standing.is at c.requires.end in
    let k = chosen_of keeps c.args.rows.now c.args.vars.now c.deref.result.now _ _ c.deref.ensures.value c.requires.rows c.requires.numeric e c.in_ok-point-in-Standing.ensures in
    great_choice keeps c.args.rows.now c.args.vars.now c.deref.result.now _ c.deref.ensures.value e (rw c.in-Great.is at k)
