use Rattle.std.proofs.Common.{◌≡◌, ℕ, ◌<◌, ◌^◌, ◌∙◌, ap, sym, rules, arith, to_z, true}
use Rattle.std.specs.Prelude.{Some, pos, nat_lt}
use Rattle.std.proofs.lemmas.Int.{to_z_pos}
use Rattle.std.specs.Int.{w128}
use Rattle.std.proofs.lemmas.Bool.{lt-ltb}
use Rattle.heyvl_num.specs.Rational.{ratio}
use Rattle.heyvl_num.specs.Exact.{exact_quotient}
use Rattle.run_unroller.proofs.FoundProcedures.{same_some, whole_quotient}
use Rattle.run_unroller.proofs.numbers.whole.Goals as goal

quotient_is : (n : ℕ) → n < 2 ^ 64 → exact_quotient (to_z w128 n) (pos 1) ≡ Some (ratio (pos n) 1)
quotient_is n l =
    let e : to_z w128 n ≡ pos n = to_z_pos w128 n (omega (arith, l)) in
    let s : nat_lt n (2 ^ 127) ≡ true = lt-ltb n (2 ^ 127) (omega (arith, l)) in
    ap (λ z. exact_quotient z (pos 1)) e ∙ whole_quotient n s

pub unwrap-requires : goal.unwrap-requires
unwrap-requires c = let e : c.new.result ≡ Some (ratio (pos c.args.n) 1) = c.new.ensures ∙ quotient_is c.args.n c.ranges.n.fits in rw e (search rules)

pub returns : goal.returns
returns c = same_some c.unwrap.result (ratio (pos c.args.n) 1) (sym c.unwrap.ensures ∙ c.new.ensures ∙ quotient_is c.args.n c.ranges.n.fits)
