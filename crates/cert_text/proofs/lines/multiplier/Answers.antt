use Rattle.std.proofs.Common.{arith, ◌≡◌, ◌<◌, ◌^◌, Some, decimal}
use Rattle.std.proofs.lemmas.Grind.{common_steps}
use Rattle.cert_text.proofs.TextCuts.{cut_after_number, colon_is_no_digit, same_pair}
use Rattle.cert_text.proofs.lines.multiplier.Goals as goal
use Rattle.cert_text.proofs.lines.multiplier.Goals.{else-multiplier-gt0-via-then-multiplier-gt0+else-multiplier-lt4611686018427387904, else-multiplier-gt0-via-else-multiplier-gt0}

pub returns-in_err-digits-clause-only : goal.returns-in_err-digits-clause-only
returns-in_err-digits-clause-only c = λ m k e.
    let small : m.0 < 2 ^ 64 = omega (arith, k.within) in
    let p = cut_after_number 58 c.args.text.now c.cut.result.0.now c.cut.result.1.now m.0 (decimal m.1) colon_is_no_digit c.cut.ensures.parts c.cut.ensures.before c.cut.ensures.from_mark small e in
    grind (arith, common_steps, p.1)

pub returns-in_err-index-clause-only : goal.returns-in_err-index-clause-only
returns-in_err-index-clause-only c = λ m k e.
    let small : m.0 < 2 ^ 64 = omega (arith, k.within) in
    let p = cut_after_number 58 c.args.text.now c.cut.result.0.now c.cut.result.1.now m.0 (decimal m.1) colon_is_no_digit c.cut.ensures.parts c.cut.ensures.before c.cut.ensures.from_mark small e in
    let r : c.short_number.result ≡ Some m.0 = c.short_number.ensures.only m.0 k.within p.0 in
    grind (arith, common_steps)

pub returns-in_err-multiplier-clause-only : goal.returns-in_err-multiplier-clause-only
returns-in_err-multiplier-clause-only c = λ m k e.
    let small : m.0 < 2 ^ 64 = omega (arith, k.within) in
    let short : m.1 < 2 ^ 64 = omega (arith, k.narrow) in
    let p = cut_after_number 58 c.args.text.now c.cut.result.0.now c.cut.result.1.now m.0 (decimal m.1) colon_is_no_digit c.cut.ensures.parts c.cut.ensures.before c.cut.ensures.from_mark small e in
    let i : c.in_ok-digits.digits.now ≡ decimal m.1 = grind (arith, common_steps, p.1) in
    let r : c.number.result ≡ Some m.1 = c.number.ensures.only m.1 short i in
    grind (arith, common_steps)

pub returns-then-multiplier-lt4611686018427387904-clause-only : goal.returns-then-multiplier-lt4611686018427387904-clause-only
returns-then-multiplier-lt4611686018427387904-clause-only c = λ m k e.
    let small : m.0 < 2 ^ 64 = omega (arith, k.within) in
    let short : m.1 < 2 ^ 64 = omega (arith, k.narrow) in
    let p = cut_after_number 58 c.args.text.now c.cut.result.0.now c.cut.result.1.now m.0 (decimal m.1) colon_is_no_digit c.cut.ensures.parts c.cut.ensures.before c.cut.ensures.from_mark small e in
    let i : c.in_ok-digits.digits.now ≡ decimal m.1 = grind (arith, common_steps, p.1) in
    let r : c.number.result ≡ Some m.1 = c.number.ensures.only m.1 short i in
    let q : c.short_number.result ≡ Some m.0 = c.short_number.ensures.only m.0 k.within p.0 in
    let a : c.in_ok-index.index ≡ m.0 = grind (arith, common_steps) in
    let b : c.in_ok-multiplier.multiplier ≡ m.1 = grind (arith, common_steps) in
    same_pair _ _ _ _ a b

pub returns-else-multiplier-gt0-clause-only : goal.returns-else-multiplier-gt0-clause-only
returns-else-multiplier-gt0-clause-only c = λ m k e.
    let small : m.0 < 2 ^ 64 = omega (arith, k.within) in
    let short : m.1 < 2 ^ 64 = omega (arith, k.narrow) in
    let p = cut_after_number 58 c.args.text.now c.cut.result.0.now c.cut.result.1.now m.0 (decimal m.1) colon_is_no_digit c.cut.ensures.parts c.cut.ensures.before c.cut.ensures.from_mark small e in
    let i : c.in_ok-digits.digits.now ≡ decimal m.1 = grind (arith, common_steps, p.1) in
    let r : c.number.result ≡ Some m.1 = c.number.ensures.only m.1 short i in
    let b : c.in_ok-multiplier.multiplier ≡ m.1 = grind (arith, common_steps) in
    let h = k.positive in
    let g = k.narrow in
    elim c.else-multiplier-gt0.branch [ else-multiplier-gt0-via-then-multiplier-gt0+else-multiplier-lt4611686018427387904 w ↦ absurd (omega arith) | else-multiplier-gt0-via-else-multiplier-gt0 w ↦ absurd (omega arith) ]
