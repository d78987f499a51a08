use Rattle.std.proofs.Common.{◌≡◌, arith, sym, ap, ◌∙◌}
use Rattle.heyvl_num.specs.Gcd.{gcd, gcd_steps}
use Rattle.heyvl_num.specs.GcdLaws.{gcd-mod, gcd-zero}
use Rattle.linear_elim.proofs.JoinNumbers.{gcd_none}
use Rattle.linear_elim.proofs.small_joins.greatest.Goals as goal

pub returns-then-a-eq0 : goal.returns-then-a-eq0
returns-then-a-eq0 c = sym (ap (λ n. gcd n c.args.b) c.if-a-eq0.true ∙ gcd_none c.args.b)

pub loop-y-preserved : goal.loop-y-preserved
loop-y-preserved c = sym (gcd-mod c.loop-y.x c.loop-y.y) ∙ c.loop-y.invariant

pub returns-then-y-eq1 : goal.returns-then-y-eq1
unfolding gcd gcd_steps
returns-then-y-eq1 c =
    let e : c.loop-y.y ≡ 1 = omega arith in
    ap (gcd c.loop-y.x) (sym e) ∙ c.loop-y.invariant

pub returns-else-y-eq1 : goal.returns-else-y-eq1
returns-else-y-eq1 c =
    let e : c.loop-y.y ≡ 0 = omega arith in
    sym (gcd-zero c.loop-y.x) ∙ ap (gcd c.loop-y.x) (sym e) ∙ c.loop-y.invariant
