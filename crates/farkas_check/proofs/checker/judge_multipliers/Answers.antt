use Rattle.std.proofs.Common.{refl, sym, ap, subst, take, ◌∙◌}
use Rattle.heylo_formula.specs.Goals.{goal_of}
use Rattle.linear_rows.specs.Combination.{IsContradiction}
use Rattle.farkas_check.proofs.TrailSteps.{rows_of_trail, rows_back}
use Rattle.farkas_check.proofs.Judgements.{unstated_here, no_rows_here, unrefuted_here, refuted_here}
use Rattle.farkas_check.proofs.checker.judge_multipliers.Goals as goal

pub returns-then-not-trail : goal.returns-then-not-trail
returns-then-not-trail c = unstated_here c.refused_at.result (goal_of c.args.goal.now) c.deref.result.now c.args.trail c.args.multipliers.now c.requires.trail c.if-not-trail.true c.deref.ensures.value c.refused_at.ensures

pub rows_there-requires-clause-rows : goal.rows_there-requires-clause-rows
rows_there-requires-clause-rows c = rows_of_trail (goal_of c.args.goal.now) c.deref-2.result.now c.args.trail c.requires.trail c.if-not-trail.false c.deref-2.ensures.value

pub returns-in-Bits : goal.returns-in-Bits
returns-in-Bits c = no_rows_here c.refused_at-in-Bits.result (goal_of c.args.goal.now) c.deref-in-Bits.result.now c.args.trail c.args.multipliers.now (rows_back (goal_of c.args.goal.now) c.deref-2.result.now c.args.trail _ c.deref-2.ensures.value (rw c.in-Bits.is at c.in_ok-rows_there.ensures.rows)) c.deref-in-Bits.ensures.value c.refused_at-in-Bits.ensures

pub returns-then-contradicts : goal.returns-then-contradicts
returns-then-contradicts c = refuted_here (goal_of c.args.goal.now) c.args.trail _ c.in-Rows.list.items c.args.multipliers.now (rows_back (goal_of c.args.goal.now) c.deref-2.result.now c.args.trail _ c.deref-2.ensures.value (rw c.in-Rows.is at c.in_ok-rows_there.ensures.rows)) (subst (IsContradiction c.args.multipliers.now) c.deref-in-Rows.ensures.value (c.contradicts.ensures.0 c.if-contradicts.true)) (record { path = refl; rows = c.truncate.ensures.items ∙ ap (λ n. take n c.in-Rows.list.items) (c.len-count.ensures ∙ c.args.trail.rows.ok.0) ∙ rw c.in-Rows.is at c.in_ok-rows_there.ensures.first; stated = sym c.if-not-trail.false })

pub returns-else-contradicts : goal.returns-else-contradicts
returns-else-contradicts c = unrefuted_here c.refused_at-else-contradicts.result (goal_of c.args.goal.now) c.deref-else-contradicts.result.now c.args.trail c.in-Rows.list.items c.args.multipliers.now (rows_back (goal_of c.args.goal.now) c.deref-2.result.now c.args.trail _ c.deref-2.ensures.value (rw c.in-Rows.is at c.in_ok-rows_there.ensures.rows)) (λ k. let e = c.contradicts.ensures.1 (subst (IsContradiction c.args.multipliers.now) (sym c.deref-in-Rows.ensures.value) k) in let f = c.if-contradicts.false in absurd (cc)) c.deref-else-contradicts.ensures.value c.refused_at-else-contradicts.ensures
