-- The test whether a numerator is 0.
use Rattle.std.proofs.Common.{◌≡◌, refl, sym, ap, ◌∙◌, arith, Bool, true, false, nat_eq, of_z, FitsSigned}
use Rattle.std.proofs.Math.IntN.{ℤ, pos, negsuc}
use Rattle.std.specs.Int.{w128}
use Prim.Native.Nat.{zero, suc}
use borrow.Author.Differences.{ints}
use Rattle.heyvl_num.specs.Rational.{Rational}
use Rattle.heyvl_num.specs.Value.{is_zeroʳ, is_zero_num}

other_number : (n : ℤ) → (n ≡ pos 0 → ⊥) → is_zero_num n ≡ false
other_number (pos zero) h = absurd (h refl)
other_number (pos (suc n)) h = refl
other_number (negsuc n) h = refl

pub zero_test : (x : Rational) (n : ℤ) → n ≡ x.num → FitsSigned w128 n → nat_eq (of_z w128 n) 0 ≡ is_zeroʳ x
unfolding is_zeroʳ
zero_test x n e h = go (nat_eq (of_z w128 n) 0) refl
  where
    go : (b : Bool) → nat_eq (of_z w128 n) 0 ≡ b → b ≡ is_zero_num x.num
    go true f = let g : of_z w128 n ≡ 0 = grind arith in let k : n ≡ pos 0 = omega (arith, ints) in sym (ap is_zero_num (sym e ∙ k))
    go false f = sym (other_number x.num (λ k. let m : n ≡ pos 0 = e ∙ k in absurd (let g : nat_eq (of_z w128 n) 0 ≡ true = rw m in cc)))
