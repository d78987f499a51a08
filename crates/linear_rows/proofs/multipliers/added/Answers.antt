use Rattle.std.proofs.Common.{◌≡◌, ◌∙◌, ◌<◌, ◌^◌, ap, sym, subst, arith, rules, to_z, FitsSigned}
use Rattle.std.proofs.lemmas.Int.{to_z-of_z}
use Rattle.std.specs.Int.{w64, w128}
use Rattle.std.specs.Prelude.{ℤ, pos, ◌+ℤ◌, ◌*ℤ◌, unsigned_abs}
use Rattle.std.proofs.Math.IntN.{*ℤ-zero}
use borrow.Author.Differences.{ints}
use Rattle.linear_rows.proofs.multipliers.added.Goals as goal

zero_right : (z : ℤ) → z +ℤ pos 0 ≡ z
zero_right z = omega (arith, ints)

same_sum : (s m n : ℤ) → n ≡ pos 0 → s ≡ s +ℤ (m *ℤ n)
same_sum s m n e = sym (ap (λ y. s +ℤ (m *ℤ y)) e ∙ ap (λ y. s +ℤ y) (*ℤ-zero m) ∙ zero_right s)

pub returns-then-number-eq0 : goal.returns-then-number-eq0
returns-then-number-eq0 c =
    let f : FitsSigned w64 c.args.number = search rules in
    let g : FitsSigned w128 c.args.sum = search rules in
    let n : c.args.number ≡ pos 0 = sym (to_z-of_z w64 c.args.number f) ∙ ap (to_z w64) c.if-number-eq0.true in
    let e = same_sum c.args.sum (pos c.args.multiplier) c.args.number n in
    (subst (λ z. unsigned_abs z < 2 ^ 126) e c.requires.sum_wide, to_z-of_z w128 c.args.sum g ∙ e)
