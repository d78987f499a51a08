use Rattle.std.proofs.Common.{arith, rules}
use Rattle.linear_rows.proofs.PartialSums.{checks_at, checks_end, are_multipliers, are_from, from_any}
use Rattle.linear_rows.proofs.multipliers.are_multipliers.Goals as goal
use Rattle.linear_rows.proofs.multipliers.are_multipliers.Goals.{then-place-least-via-then-place-least, then-place-least-via-else-place-least+then-count-place, then-place-least-via-else-place-least+else-count-place+then-multiplier-eq0, then-place-least-via-else-place-least+else-count-place+else-multiplier-eq0+then-multiplier}

pub returns-then-place-least : goal.returns-then-place-least
returns-then-place-least c = (
  search rules,
  λ h.
      let w = checks_at _ _ _ _ (0, 0) c.loop-index-test.true c.loop-index.invariant (are_from 0 _ _ (from_any _) h) in
      absurd (elim c.then-place-least.branch [
        | then-place-least-via-then-place-least v ↦ omega (arith, w.grows, v.if-place-least.true)
        | then-place-least-via-else-place-least+then-count-place v ↦ omega (arith, w.within, v.if-count-place.true)
        | then-place-least-via-else-place-least+else-count-place+then-multiplier-eq0 v ↦ omega (arith, w.positive, v.if-multiplier-eq0.true)
        | then-place-least-via-else-place-least+else-count-place+else-multiplier-eq0+then-multiplier v ↦ omega (arith, w.narrow, v.if-multiplier.true)
      ]),
)

pub returns : goal.returns
returns c = (λ h. are_multipliers 0 _ _ (checks_end _ _ _ _ c.loop-index-test.false c.loop-index.invariant), search rules)
