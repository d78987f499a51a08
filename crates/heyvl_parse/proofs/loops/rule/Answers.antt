use Rattle.heyvl_parse.proofs.loops.rule.Goals as goal
use Rattle.std.proofs.Common.{arith, refl}
use Rattle.std.proofs.lemmas.Grind.{common_steps}

pub returns-in_err-parts-in-KInduction-clause-value : goal.returns-in_err-parts-in-KInduction-clause-value
returns-in_err-parts-in-KInduction-clause-value c = λ n h. rw (c.in_ok-start.ensures.value, ← c.in-KInduction.ensures, c.in_ok-rest-in-KInduction.ensures.value) (grind (arith, common_steps, c.in_err-parts-in-KInduction.ensures.value n (omega (arith, c.in_ok-start.ensures.shorter, c.in_ok-rest-in-KInduction.ensures.shorter))))

pub returns-in_ok-parts-in-KInduction-clause-value : goal.returns-in_ok-parts-in-KInduction-clause-value
returns-in_ok-parts-in-KInduction-clause-value c = λ n h. rw (c.in_ok-start.ensures.value, ← c.in-KInduction.ensures, c.in_ok-rest-in-KInduction.ensures.value, c.in_ok-parts-in-KInduction.ensures.value n (omega (arith, c.in_ok-start.ensures.shorter, c.in_ok-rest-in-KInduction.ensures.shorter))) (rw c.span_between-in-KInduction.ensures refl)

pub returns-in_err-parts-in-Ranking-clause-value : goal.returns-in_err-parts-in-Ranking-clause-value
returns-in_err-parts-in-Ranking-clause-value c = λ n h. rw (c.in_ok-start.ensures.value, ← c.in-Ranking.ensures, c.in_ok-rest-in-Ranking.ensures.value) (grind (arith, common_steps, c.in_err-parts-in-Ranking.ensures.value n (omega (arith, c.in_ok-start.ensures.shorter, c.in_ok-rest-in-Ranking.ensures.shorter))))

pub returns-in_ok-parts-in-Ranking-clause-value : goal.returns-in_ok-parts-in-Ranking-clause-value
returns-in_ok-parts-in-Ranking-clause-value c = λ n h. rw (c.in_ok-start.ensures.value, ← c.in-Ranking.ensures, c.in_ok-rest-in-Ranking.ensures.value, c.in_ok-parts-in-Ranking.ensures.value n (omega (arith, c.in_ok-start.ensures.shorter, c.in_ok-rest-in-Ranking.ensures.shorter))) (rw c.span_between-in-Ranking.ensures refl)

pub returns-in_err-rest-in-Invariant-clause-value : goal.returns-in_err-rest-in-Invariant-clause-value
returns-in_err-rest-in-Invariant-clause-value c = λ n h. rw (c.in_ok-start.ensures.value, ← c.in-Invariant.ensures) (grind (arith, common_steps, c.in_err-rest-in-Invariant.ensures.value))

pub returns-in_err-rest-in-KInduction-clause-value : goal.returns-in_err-rest-in-KInduction-clause-value
returns-in_err-rest-in-KInduction-clause-value c = λ n h. rw (c.in_ok-start.ensures.value, ← c.in-KInduction.ensures) (grind (arith, common_steps, c.in_err-rest-in-KInduction.ensures.value))

pub returns-in_err-rest-in-Ranking-clause-value : goal.returns-in_err-rest-in-Ranking-clause-value
returns-in_err-rest-in-Ranking-clause-value c = λ n h. rw (c.in_ok-start.ensures.value, ← c.in-Ranking.ensures) (grind (arith, common_steps, c.in_err-rest-in-Ranking.ensures.value))

pub returns-in_err-invariant-in-Invariant-clause-value : goal.returns-in_err-invariant-in-Invariant-clause-value
returns-in_err-invariant-in-Invariant-clause-value c = λ n h. rw (c.in_ok-start.ensures.value, ← c.in-Invariant.ensures, c.in_ok-rest-in-Invariant.ensures.value) (grind (arith, common_steps, c.in_err-invariant-in-Invariant.ensures.value n (omega (arith, c.in_ok-start.ensures.shorter, c.in_ok-rest-in-Invariant.ensures.shorter))))

pub returns-in_ok-invariant-in-Invariant-clause-value : goal.returns-in_ok-invariant-in-Invariant-clause-value
returns-in_ok-invariant-in-Invariant-clause-value c = λ n h. rw (c.in_ok-start.ensures.value, ← c.in-Invariant.ensures, c.in_ok-rest-in-Invariant.ensures.value, c.in_ok-invariant-in-Invariant.ensures.value n (omega (arith, c.in_ok-start.ensures.shorter, c.in_ok-rest-in-Invariant.ensures.shorter))) (rw c.span_between.ensures refl)

pub returns-in_ok-invariant-in-Invariant-clause-shorter : goal.returns-in_ok-invariant-in-Invariant-clause-shorter
returns-in_ok-invariant-in-Invariant-clause-shorter c = omega (arith, c.in_ok-start.ensures.shorter, c.in_ok-rest-in-Invariant.ensures.shorter, c.in_ok-invariant-in-Invariant.ensures.shorter)

pub returns-in_ok-parts-in-KInduction-clause-shorter : goal.returns-in_ok-parts-in-KInduction-clause-shorter
returns-in_ok-parts-in-KInduction-clause-shorter c = omega (arith, c.in_ok-start.ensures.shorter, c.in_ok-rest-in-KInduction.ensures.shorter, c.in_ok-parts-in-KInduction.ensures.shorter)

pub returns-in_ok-parts-in-Ranking-clause-shorter : goal.returns-in_ok-parts-in-Ranking-clause-shorter
returns-in_ok-parts-in-Ranking-clause-shorter c = omega (arith, c.in_ok-start.ensures.shorter, c.in_ok-rest-in-Ranking.ensures.shorter, c.in_ok-parts-in-Ranking.ensures.shorter)
