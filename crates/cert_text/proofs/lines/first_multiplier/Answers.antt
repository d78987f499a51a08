use Rattle.std.proofs.Common.{arith, ◌≡◌, ◌++◌, ◌∷◌, Some, decimal}
use Rattle.std.proofs.lemmas.Grind.{common_steps}
use Rattle.cert_text.specs.Lines.{multipliers_text}
use Rattle.cert_text.proofs.TextCuts.{cut_after_multiplier}
use Rattle.cert_text.proofs.lines.first_multiplier.Goals as goal
use Rattle.cert_text.proofs.lines.first_multiplier.Goals.{else-space-eq32-via-then-space-eq32+else-least-from, else-space-eq32-via-else-space-eq32}

pub returns-in_err-found-clause-only : goal.returns-in_err-found-clause-only
returns-in_err-found-clause-only c = λ m ms k l e.
    let b : c.in_ok-space.behind.now ≡ (decimal m.0 ++ 58 ∷ decimal m.1) ++ multipliers_text ms = grind (arith, common_steps) in
    let p = cut_after_multiplier c.in_ok-space.behind.now c.cut.result.0.now c.cut.result.1.now m ms k c.cut.ensures.parts c.cut.ensures.before c.cut.ensures.from_mark b in
    let r : c.multiplier.result ≡ Some m = c.multiplier.ensures.only m k p.0 in
    grind (arith, common_steps)

pub returns-then-least-from-clause-only : goal.returns-then-least-from-clause-only
returns-then-least-from-clause-only c = λ m ms k l e.
    let b : c.in_ok-space.behind.now ≡ (decimal m.0 ++ 58 ∷ decimal m.1) ++ multipliers_text ms = grind (arith, common_steps) in
    let p = cut_after_multiplier c.in_ok-space.behind.now c.cut.result.0.now c.cut.result.1.now m ms k c.cut.ensures.parts c.cut.ensures.before c.cut.ensures.from_mark b in
    let r : c.multiplier.result ≡ Some m = c.multiplier.ensures.only m k p.0 in
    let f : c.in_ok-found.found ≡ m = grind (arith, common_steps) in
    (f, p.1)

pub returns-else-space-eq32-clause-only : goal.returns-else-space-eq32-clause-only
returns-else-space-eq32-clause-only c = λ m ms k l e.
    let b : c.in_ok-space.behind.now ≡ (decimal m.0 ++ 58 ∷ decimal m.1) ++ multipliers_text ms = grind (arith, common_steps) in
    let s : c.in_ok-space.space.now ≡ 32 = grind (arith, common_steps) in
    let p = cut_after_multiplier c.in_ok-space.behind.now c.cut.result.0.now c.cut.result.1.now m ms k c.cut.ensures.parts c.cut.ensures.before c.cut.ensures.from_mark b in
    let r : c.multiplier.result ≡ Some m = c.multiplier.ensures.only m k p.0 in
    let f : c.in_ok-found.found ≡ m = grind (arith, common_steps) in
    elim c.else-space-eq32.branch [ else-space-eq32-via-then-space-eq32+else-least-from w ↦ grind (arith, common_steps) | else-space-eq32-via-else-space-eq32 w ↦ grind (arith, common_steps) ]
