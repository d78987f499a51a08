use Rattle.std.proofs.Common.{◌≡◌, sym, ap, ◌∙◌, refl, false, cond, arith, FitsSigned, rules}
use Rattle.std.specs.Int.{w128}
use Rattle.std.proofs.lemmas.Int.{ints}
use Rattle.std.specs.Prelude.{ℤ, pos, negsuc}
use Prim.Native.Nat.{zero, suc}
use Rattle.heyvl_num.specs.Rational.{Rational}
use Rattle.heyvl_num.specs.Value.{zeroᵛ, is_zero_num, is_zeroʳ}
use Rattle.heyvl_num.specs.Value.Value.{finite, infinite}
use Rattle.heylo_formula.specs.Operators.{covalidateᵛ}
use Rattle.quant_algebra.proofs.operators.covalidate.Goals as goal

other_number : (n : ℤ) → (n ≡ pos 0 → ⊥) → is_zero_num n ≡ false
other_number (pos zero) h = absurd (h refl)
other_number (pos (suc n)) h = refl
other_number (negsuc n) h = refl

of_zero : (x : Rational) → x.num ≡ pos 0 → zeroᵛ ≡ covalidateᵛ (finite x)
unfolding covalidateᵛ is_zeroʳ
of_zero x e = sym (ap (λ n. cond (is_zero_num n) zeroᵛ infinite) e)

of_another : (x : Rational) → (x.num ≡ pos 0 → ⊥) → infinite ≡ covalidateᵛ (finite x)
unfolding covalidateᵛ is_zeroʳ
of_another x h = sym (ap (λ b. cond b zeroᵛ infinite) (other_number x.num h))

pub returns-then-num-eq0 : goal.returns-then-num-eq0
returns-then-num-eq0 c =
    let f : FitsSigned w128 c.num.result = search rules in
    let e : c.in-Fin.a.num ≡ pos 0 = omega (arith, ints, c.num.ensures) in rw c.in-Fin.is (c.zero.ensures.value ∙ of_zero c.in-Fin.a e)

pub returns-else-num-eq0 : goal.returns-else-num-eq0
returns-else-num-eq0 c =
    let f : FitsSigned w128 c.num.result = search rules in rw c.in-Fin.is (of_another c.in-Fin.a (λ e. omega (arith, ints, c.num.ensures)))

pub returns-in-Inf : goal.returns-in-Inf
unfolding covalidateᵛ
returns-in-Inf c = rw c.in-Inf.is refl
