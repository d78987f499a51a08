use Rattle.std.proofs.Common.{◌≡◌, ℕ, arith, sym, ap, ◌∙◌, subst}
use Rattle.std.specs.Int.{IsGcd}
use Rattle.heyvl_num.specs.Gcd.{gcd, gcd_steps}
use Rattle.heyvl_num.specs.GcdLaws.{gcd-is, gcd-mod, gcd-zero}
use Rattle.heyvl_num.proofs.divisors.gcd.Goals as goal

-- The result of `gcd` is the greatest number that divides both arguments.
greatest : (a b n : ℕ) → n ≡ gcd a b → IsGcd a b n
greatest a b n e = subst (λ (g : ℕ). IsGcd a b g) (sym e) (gcd-is a b)

pub loop-y-preserved : goal.loop-y-preserved
loop-y-preserved c = sym (gcd-mod c.loop-y.x c.loop-y.y) ∙ c.loop-y.invariant

pub returns-then-y-eq1 : goal.returns-then-y-eq1
unfolding gcd gcd_steps
returns-then-y-eq1 c =
    let e : c.loop-y.y ≡ 1 = omega arith in
    let value : 1 ≡ gcd c.args.a c.args.b = ap (gcd c.loop-y.x) (sym e) ∙ c.loop-y.invariant in
    record {
      value = value;
      greatest = greatest c.args.a c.args.b 1 value;
    }

pub returns-else-y-eq1 : goal.returns-else-y-eq1
returns-else-y-eq1 c =
    let e : c.loop-y.y ≡ 0 = omega arith in
    let value : c.loop-y.x ≡ gcd c.args.a c.args.b = sym (gcd-zero c.loop-y.x) ∙ ap (gcd c.loop-y.x) (sym e) ∙ c.loop-y.invariant in
    record {
      value = value;
      greatest = greatest c.args.a c.args.b c.loop-y.x value;
    }
