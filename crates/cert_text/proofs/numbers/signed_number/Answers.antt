use Rattle.std.proofs.Common.{arith, sym, ◌∙◌, ◌≡◌, ◌∷◌, ◌<◌, ◌^◌, ℕ, ℤ, pos, neg_ℤ, Some, ap, length, unsigned_abs}
use Rattle.std.proofs.lemmas.Grind.{common_steps}
use Rattle.std.specs.Fmt.{signed_decimal}
use Rattle.cert_text.proofs.Decimals.{signed_has_one, negative_is}
use Rattle.cert_text.proofs.numbers.signed_number.Goals as goal

pub returns-in_err-first-clause-only : goal.returns-in_err-first-clause-only
returns-in_err-first-clause-only c = λ z small e.
    let none : length c.args.digits.now ≡ 0 = grind (arith, common_steps) in
    let some = signed_has_one z small in
    let same : length c.args.digits.now ≡ length (signed_decimal z) = ap length e in
    absurd (omega arith)

pub returns-in_err-number-clause-only : goal.returns-in_err-number-clause-only
returns-in_err-number-clause-only c = λ z small e.
    let q : c.args.digits.now ≡ c.in_ok-first.first.now ∷ c.in_ok-first.behind.now = grind (arith, common_steps) in
    let f : c.in_ok-first.first.now ≡ 45 = grind (arith, common_steps) in
    let j = negative_is z c.in_ok-first.first.now c.in_ok-first.behind.now f small (sym q ∙ e) in
    let short : unsigned_abs z < 2 ^ 64 = omega arith in
    let r : c.number.result ≡ Some (unsigned_abs z) = c.number.ensures.only (unsigned_abs z) short j.1 in
    grind (arith, common_steps)

pub returns-in_ok-number-clause-only : goal.returns-in_ok-number-clause-only
returns-in_ok-number-clause-only c = λ z small e.
    let q : c.args.digits.now ≡ c.in_ok-first.first.now ∷ c.in_ok-first.behind.now = grind (arith, common_steps) in
    let f : c.in_ok-first.first.now ≡ 45 = grind (arith, common_steps) in
    let j = negative_is z c.in_ok-first.first.now c.in_ok-first.behind.now f small (sym q ∙ e) in
    let short : unsigned_abs z < 2 ^ 64 = omega arith in
    let r : c.number.result ≡ Some (unsigned_abs z) = c.number.ensures.only (unsigned_abs z) short j.1 in
    let n : c.in_ok-number.field-0 ≡ unsigned_abs z = grind (arith, common_steps) in
    let some = j.0 in
    let above : 0 < c.in_ok-number.field-0 = omega arith in
    let below : c.in_ok-number.field-0 < 2 ^ 63 = omega arith in
    c.negative.ensures.only above below ∙ ap (λ (k : ℕ). Some (neg_ℤ (pos k))) n ∙ ap (λ (m : ℤ). Some m) j.2
