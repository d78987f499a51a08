-- For the proofs of other crates: integers are closed under sums, products, negatives and the other
-- operators.
use Rattle.std.proofs.Common.{◌≡◌, ℕ, ◌<◌, ◌≤◌, sym, subst, arith, Bool, true, false, cond}
use Rattle.std.specs.Prelude.{ℤ}
use Rattle.std.proofs.Math.Nat.{zero-lt-suc, div-le_self}
use Rattle.heyvl_num.specs.Rational.{Rational, ratio, zeroʳ, oneʳ, leqʳ, ◌+ʳ◌, ◌-ʳ◌, ◌*ʳ◌, negʳ}
use Rattle.heyvl_num.specs.Value.{Value, zeroᵛ, oneᵛ, leqᵛ, ◌+ᵛ◌, ◌*ᵛ◌}
use Rattle.heyvl_num.specs.Value.Value.{finite, infinite}
use Rattle.heyvl_num.specs.ValueOperators.{minᵛ, maxᵛ, monusᵛ}
use Rattle.heyvl_num.specs.WholeNumbers.{IsWhole}
use Rattle.heyvl_num.proofs.Rationals.{ratio_den}

whole_den : (a : ℤ) → (ratio a 1).den ≡ 1
whole_den a = at (ratio a 1).den (ratio a 1).positive (subst (λ n. n ≤ 1) (sym (ratio_den a 1 (zero-lt-suc 0))) (div-le_self 1 _))
  where
    at : (n : ℕ) → 0 < n → n ≤ 1 → n ≡ 1
    at n p h = omega arith

pub sum_whole : (x y : Rational) → x.den ≡ 1 → y.den ≡ 1 → (x +ʳ y).den ≡ 1
unfolding ◌+ʳ◌
sum_whole x y h k = rw (h, k) (whole_den _)

pub product_whole : (x y : Rational) → x.den ≡ 1 → y.den ≡ 1 → (x *ʳ y).den ≡ 1
unfolding ◌*ʳ◌
product_whole x y h k = rw (h, k) (whole_den _)

pub negative_whole : (x : Rational) → x.den ≡ 1 → (negʳ x).den ≡ 1
unfolding negʳ
negative_whole x h = rw h (whole_den _)

pub difference_whole : (x y : Rational) → x.den ≡ 1 → y.den ≡ 1 → (x -ʳ y).den ≡ 1
unfolding ◌-ʳ◌
difference_whole x y h k = sum_whole x (negʳ y) h (negative_whole y k)

pub zero_whole : zeroʳ.den ≡ 1
unfolding zeroʳ
zero_whole = whole_den _

pub one_whole : oneʳ.den ≡ 1
unfolding oneʳ
one_whole = whole_den _

-- ---- Values

pub whole_zero : IsWhole zeroᵛ
unfolding zeroᵛ
whole_zero = zero_whole

pub whole_one : IsWhole oneᵛ
unfolding oneᵛ
whole_one = one_whole

pub whole_sum : (x y : Value) → IsWhole x → IsWhole y → IsWhole (x +ᵛ y)
unfolding ◌+ᵛ◌
whole_sum (finite x) (finite y) h k = sum_whole x y h k
whole_sum (finite x) infinite h k = absurd k
whole_sum infinite y h k = absurd h

pub whole_product : (x y : Value) → IsWhole x → IsWhole y → IsWhole (x *ᵛ y)
unfolding ◌*ᵛ◌
whole_product (finite x) (finite y) h k = product_whole x y h k
whole_product (finite x) infinite h k = absurd k
whole_product infinite y h k = absurd h

pub whole_either : (b : Bool) (x y : Value) → IsWhole x → IsWhole y → IsWhole (cond b x y)
whole_either true x y h k = h
whole_either false x y h k = k

pub whole_cut : (x y : Value) → IsWhole x → IsWhole y → IsWhole (monusᵛ x y)
unfolding monusᵛ
whole_cut (finite x) (finite y) h k = whole_either (leqʳ y x) (finite (x -ʳ y)) zeroᵛ (difference_whole x y h k) whole_zero
whole_cut (finite x) infinite h k = absurd k
whole_cut infinite y h k = absurd h

pub whole_min : (x y : Value) → IsWhole x → IsWhole y → IsWhole (minᵛ x y)
unfolding minᵛ
whole_min x y h k = whole_either (leqᵛ x y) x y h k

pub whole_max : (x y : Value) → IsWhole x → IsWhole y → IsWhole (maxᵛ x y)
unfolding maxᵛ
whole_max x y h k = whole_either (leqᵛ x y) y x k h
