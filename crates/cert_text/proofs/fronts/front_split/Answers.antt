use Rattle.std.proofs.Common.{arith, ◌≡◌, ◌∷◌, ◌++◌, decimal, to_z, of_z}
use Rattle.std.proofs.lemmas.Grind.{common_steps}
use Rattle.std.proofs.lemmas.Int.{to_z-of_z}
use Rattle.std.specs.Fmt.{signed_decimal}
use Rattle.std.specs.Int.{w64}
use Rattle.cert_text.proofs.FrontDigits.{split_text}
use Rattle.cert_text.proofs.fronts.front_split.Goals as goal

pub returns-then-unsigned_abs-lt4611686018427387904-clause-text : goal.returns-then-unsigned_abs-lt4611686018427387904-clause-text
returns-then-unsigned_abs-lt4611686018427387904-clause-text c =
    let a : c.args.text.now ≡ 105 ∷ 32 ∷ c.in_ok-text.text.now = grind (arith, common_steps) in
    let b : c.in_ok-text.text.now ≡ decimal c.in_ok-variable.variable ++ c.in_ok-variable.text.now = c.in_ok-variable.ensures in
    let x : c.in_ok-variable-2.variable ≡ c.in_ok-variable.variable = grind (arith, common_steps) in
    let d : c.in_ok-variable.text.now ≡ 32 ∷ c.in_ok-text-2.text.now = grind (arith, common_steps) in
    let e : c.in_ok-text-2.text.now ≡ signed_decimal c.in_ok-bound.bound ++ c.in_ok-bound.text.now = c.in_ok-bound.ensures.text in
    let z : to_z w64 (of_z w64 c.in_ok-bound.bound) ≡ c.in_ok-bound.bound = to_z-of_z w64 c.in_ok-bound.bound c.in_ok-bound.ensures.fits in
    let f : c.in_ok-bound.text.now ≡ 10 ∷ c.in_ok-behind.behind.now = grind (arith, common_steps) in
    split_text _ _ _ _ c.args.text.now c.in_ok-text.text.now c.in_ok-variable.text.now c.in_ok-text-2.text.now c.in_ok-bound.text.now c.in_ok-behind.behind.now x z a b d e f
