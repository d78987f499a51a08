use Rattle.heyvl_syntax.proofs.Digits.{other_stays, zero_falls}
use Rattle.heyvl_syntax.proofs.literals.without_last_zeros.Goals as goal
use Rattle.heyvl_syntax.specs.Literals.{without_last_zeros}
use Rattle.std.proofs.Common.{arith, false, nat_eq, sym, ◌∙◌, ◌≡◌}
use Rattle.std.proofs.lemmas.Bool.Decides.{nat_tests}

pub zeros-preserved : goal.zeros-preserved
zeros-preserved c =
    let falls : without_last_zeros c.zeros.kept.now ≡ without_last_zeros c.in-Some.front.now = rw (c.in-Some.ensures.cases.0, c.if-last-ne48.false) (zero_falls c.in-Some.front.now) in
    record {
      shorter = omega (arith, c.zeros.invariant.shorter, c.in-Some.ensures.cases.1);
      same = c.zeros.invariant.same ∙ falls;
    }

pub returns-then-last-ne48-clause-value : goal.returns-then-last-ne48-clause-value
returns-then-last-ne48-clause-value c =
    let other : nat_eq 48 c.in-Some.last.now ≡ false = grind (arith, nat_tests) in
    let stays : without_last_zeros c.zeros.kept.now ≡ c.zeros.kept.now = rw c.in-Some.ensures.cases.0 (other_stays c.in-Some.front.now c.in-Some.last.now other) in
    sym (c.zeros.invariant.same ∙ stays)
