use Rattle.std.proofs.Common.{arith, ◌≡◌, ◌∷◌, ◌++◌, ◌-◌, decimal}
use Rattle.std.proofs.lemmas.Grind.{common_steps}
use Rattle.std.specs.Int.{IsInRange}
use Rattle.cert_text.proofs.FrontDigits.{zero_first, digit_first}
use Rattle.cert_text.proofs.fronts.front_number.Goals as goal

pub returns-then-first-eq48 : goal.returns-then-first-eq48
returns-then-first-eq48 c =
    let q : c.args.text.now ≡ c.in_ok-first.first.now ∷ c.in_ok-first.behind.now = grind (arith, common_steps) in
    let f : c.in_ok-first.first.now ≡ 48 = grind (arith, common_steps) in
    zero_first c.in_ok-first.first.now c.args.text.now c.in_ok-first.behind.now q f

pub returns-then-is_ascii_digit : goal.returns-then-is_ascii_digit
returns-then-is_ascii_digit c =
    let q : c.args.text.now ≡ c.in_ok-first.first.now ∷ c.in_ok-first.behind.now = grind (arith, common_steps) in
    let r : IsInRange 48 57 c.in_ok-first.first.now = c.if-is_ascii_digit.ensures.cases in
    let d : c.from.result ≡ c.in_ok-first.first.now - 48 = c.from.ensures in
    let e : c.args.text.now ≡ decimal c.from.result ++ c.in_ok-first.behind.now = digit_first c.in_ok-first.first.now c.from.result c.args.text.now c.in_ok-first.behind.now q r d in
    grind (arith, common_steps)
