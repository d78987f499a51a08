use Rattle.std.proofs.Common.{arith, sym, ◌∙◌, ◌≡◌, ◌≢◌, ◌∷◌, ◌<◌, Some, Ok, ℕ, ap, decimal, length}
use Rattle.std.proofs.lemmas.Fmt.{parse-decimal}
use Rattle.std.proofs.lemmas.Grind.{common_steps}
use Rattle.cert_text.proofs.Decimals.{decimal_is_text, decimal_has_one, zero_alone, zero_text, begins_with_digit, read_back}
use Rattle.cert_text.proofs.numbers.number.Goals as goal

pub returns-in_err-first-clause-only : goal.returns-in_err-first-clause-only
returns-in_err-first-clause-only c = λ n small e.
    let none : length c.args.digits.now ≡ 0 = grind (arith, common_steps) in
    let some = decimal_has_one n small in
    let same : length c.args.digits.now ≡ length (decimal n) = ap length e in
    absurd (omega arith)

pub returns-in_err-text-clause-only : goal.returns-in_err-text-clause-only
returns-in_err-text-clause-only c = λ n small e. let text = decimal_is_text n c.args.digits.now small e in grind (arith, common_steps)

pub returns-then-is_empty-clause-found : goal.returns-then-is_empty-clause-found
returns-then-is_empty-clause-found c =
    let q : c.args.digits.now ≡ c.in_ok-first.first.now ∷ c.in_ok-first.behind.now = grind (arith, common_steps) in
    let f : c.in_ok-first.first.now ≡ 48 = grind (arith, common_steps) in
    let none : length c.in_ok-first.behind.now ≡ 0 = grind (arith, common_steps) in
    zero_text c.in_ok-first.first.now c.args.digits.now c.in_ok-first.behind.now q f none

pub returns-then-is_empty-clause-only : goal.returns-then-is_empty-clause-only
returns-then-is_empty-clause-only c = λ n small e.
    let q : c.args.digits.now ≡ c.in_ok-first.first.now ∷ c.in_ok-first.behind.now = grind (arith, common_steps) in
    let f : c.in_ok-first.first.now ≡ 48 = grind (arith, common_steps) in
    let z = zero_alone n c.in_ok-first.first.now c.in_ok-first.behind.now f small (sym q ∙ e) in
    ap (λ (k : ℕ). Some k) (sym z.0)

pub returns-else-is_empty-clause-only : goal.returns-else-is_empty-clause-only
returns-else-is_empty-clause-only c = λ n small e.
    let q : c.args.digits.now ≡ c.in_ok-first.first.now ∷ c.in_ok-first.behind.now = grind (arith, common_steps) in
    let f : c.in_ok-first.first.now ≡ 48 = grind (arith, common_steps) in
    let z = zero_alone n c.in_ok-first.first.now c.in_ok-first.behind.now f small (sym q ∙ e) in
    let none : length c.in_ok-first.behind.now ≡ 0 = ap length z.1 in
    let some : 0 < length c.in_ok-first.behind.now = grind (arith, common_steps) in
    absurd (omega arith)

pub returns-then-first-eq43-clause-only : goal.returns-then-first-eq43-clause-only
returns-then-first-eq43-clause-only c = λ n small e.
    let q : c.args.digits.now ≡ c.in_ok-first.first.now ∷ c.in_ok-first.behind.now = grind (arith, common_steps) in
    let f : c.in_ok-first.first.now ≡ 43 = grind (arith, common_steps) in
    absurd (begins_with_digit 43 n c.in_ok-first.first.now c.in_ok-first.behind.now (λ a b. omega arith) small (sym q ∙ e) f)

pub returns-in_ok-text-clause-found : goal.returns-in_ok-text-clause-found
returns-in_ok-text-clause-found c =
    let q : c.args.digits.now ≡ c.in_ok-first.first.now ∷ c.in_ok-first.behind.now = grind (arith, common_steps) in
    let z : c.in_ok-first.first.now ≢ 48 = λ h. grind (arith, common_steps) in
    let p : c.in_ok-first.first.now ≢ 43 = λ h. grind (arith, common_steps) in
    let t : c.in_ok-text.text.now ≡ c.args.digits.now = grind (arith, common_steps) in
    let back : (n : ℕ) → c.parse.result ≡ Ok n → c.args.digits.now ≡ decimal n = λ n is. sym t ∙ read_back n c.in_ok-text.text.now c.in_ok-first.first.now c.in_ok-first.behind.now c.parse.result (t ∙ q) z p is c.parse.ensures.value.0 in
    grind (arith, common_steps)

pub returns-in_ok-text-clause-only : goal.returns-in_ok-text-clause-only
returns-in_ok-text-clause-only c = λ n small e.
    let t : c.in_ok-text.text.now ≡ c.args.digits.now = grind (arith, common_steps) in
    let r : c.parse.result ≡ Ok n = parse-decimal 64 n c.in_ok-text.text.now c.parse.result small small (t ∙ e) c.parse.ensures.value.0 in
    grind (arith, common_steps)
