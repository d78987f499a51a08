use Rattle.std.proofs.Common.{arith, ap, ◌∙◌, ◌≡◌, ◌<◌, ◌^◌, Some}
use Rattle.std.proofs.lemmas.Grind.{common_steps}
use Rattle.std.specs.Fmt.{signed_decimal}
use Rattle.std.specs.Prelude.{unsigned_abs}
use Rattle.cert_text.proofs.TextCuts.{cut_after_number, space_is_no_digit, same_split}
use Rattle.cert_text.proofs.Decimals.{bits_stand}
use Rattle.cert_text.proofs.lines.whole_split.Goals as goal

pub returns-in_err-digits-clause-only : goal.returns-in_err-digits-clause-only
returns-in_err-digits-clause-only c = λ x m k e.
    let small : x < 2 ^ 64 = omega (arith, k.variable) in
    let p = cut_after_number 32 c.args.text.now c.cut.result.0.now c.cut.result.1.now x (signed_decimal m) space_is_no_digit c.cut.ensures.parts c.cut.ensures.before c.cut.ensures.from_mark small e in
    grind (arith, common_steps, p.1)

pub returns-in_err-variable-clause-only : goal.returns-in_err-variable-clause-only
returns-in_err-variable-clause-only c = λ x m k e.
    let small : x < 2 ^ 64 = omega (arith, k.variable) in
    let p = cut_after_number 32 c.args.text.now c.cut.result.0.now c.cut.result.1.now x (signed_decimal m) space_is_no_digit c.cut.ensures.parts c.cut.ensures.before c.cut.ensures.from_mark small e in
    let r : c.short_number.result ≡ Some x = c.short_number.ensures.only x k.variable p.0 in
    grind (arith, common_steps)

pub returns-in_err-bound-clause-only : goal.returns-in_err-bound-clause-only
returns-in_err-bound-clause-only c = λ x m k e.
    let small : x < 2 ^ 64 = omega (arith, k.variable) in
    let short : unsigned_abs m < 2 ^ 63 = omega (arith, k.number) in
    let p = cut_after_number 32 c.args.text.now c.cut.result.0.now c.cut.result.1.now x (signed_decimal m) space_is_no_digit c.cut.ensures.parts c.cut.ensures.before c.cut.ensures.from_mark small e in
    let i : c.in_ok-digits.digits.now ≡ signed_decimal m = grind (arith, common_steps, p.1) in
    let r : c.signed_number.result ≡ Some m = c.signed_number.ensures.only m short i in
    grind (arith, common_steps)

pub returns-then-unsigned_abs-lt4611686018427387904-clause-only : goal.returns-then-unsigned_abs-lt4611686018427387904-clause-only
returns-then-unsigned_abs-lt4611686018427387904-clause-only c = λ x m k e.
    let small : x < 2 ^ 64 = omega (arith, k.variable) in
    let short : unsigned_abs m < 2 ^ 63 = omega (arith, k.number) in
    let p = cut_after_number 32 c.args.text.now c.cut.result.0.now c.cut.result.1.now x (signed_decimal m) space_is_no_digit c.cut.ensures.parts c.cut.ensures.before c.cut.ensures.from_mark small e in
    let i : c.in_ok-digits.digits.now ≡ signed_decimal m = grind (arith, common_steps, p.1) in
    let r : c.signed_number.result ≡ Some m = c.signed_number.ensures.only m short i in
    let q : c.short_number.result ≡ Some x = c.short_number.ensures.only x k.variable p.0 in
    let a : c.in_ok-variable.variable ≡ x = grind (arith, common_steps) in
    let b : c.in_ok-bound.bound ≡ m = grind (arith, common_steps) in
    same_split _ _ _ _ a (bits_stand _ m b short)

pub returns-else-unsigned_abs-lt4611686018427387904-clause-only : goal.returns-else-unsigned_abs-lt4611686018427387904-clause-only
returns-else-unsigned_abs-lt4611686018427387904-clause-only c = λ x m k e.
    let small : x < 2 ^ 64 = omega (arith, k.variable) in
    let short : unsigned_abs m < 2 ^ 63 = omega (arith, k.number) in
    let p = cut_after_number 32 c.args.text.now c.cut.result.0.now c.cut.result.1.now x (signed_decimal m) space_is_no_digit c.cut.ensures.parts c.cut.ensures.before c.cut.ensures.from_mark small e in
    let i : c.in_ok-digits.digits.now ≡ signed_decimal m = grind (arith, common_steps, p.1) in
    let r : c.signed_number.result ≡ Some m = c.signed_number.ensures.only m short i in
    let b : c.in_ok-bound.bound ≡ m = grind (arith, common_steps) in
    let u : c.unsigned_abs.result ≡ unsigned_abs m = c.unsigned_abs.ensures.value ∙ ap unsigned_abs (bits_stand _ m b short) in
    let h = k.number in
    absurd (omega arith)
