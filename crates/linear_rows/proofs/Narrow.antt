-- Sums and products of fractions below 2^62 are exact.
use Rattle.std.proofs.Common.{◌≡◌, ℕ, ◌<◌, ◌≤◌, ◌+◌, ◌^◌, refl, sym, ap, ap₂, ◌∙◌, arith, lit<, Bool, true, false, ◌&&◌, not, nat_lt, nat_eq, unsigned_abs, to_z, of_z, FitsSigned}
use Rattle.std.specs.Prelude.{Some}
use Rattle.std.proofs.Math.IntN.{ℤ, pos, negsuc, ◌+ℤ◌, ◌*ℤ◌, neg_ℤ}
use Rattle.std.specs.Int.Signed.{le_z, lt_z}
use Rattle.std.specs.Int.{w128}
use Rattle.std.proofs.lemmas.Int.{unsigned_abs-mul, to_z-of_z}
use Rattle.std.proofs.lemmas.Nat.{mul-lt}
use Prim.Native.Nat.{zero, suc}
use borrow.Author.Differences.{ints}
use Rattle.heyvl_num.specs.Gcd.{gcd, gcd_steps}
use Rattle.heyvl_num.specs.Rational.{Rational, ratio, zeroʳ, oneʳ, ◌+ʳ◌, ◌*ʳ◌, negʳ, leqʳ}
use Rattle.heyvl_num.specs.RationalParts.{ratio_num-lowest, ratio_den-lowest}
use Rattle.heyvl_num.specs.Exact.{is_small, quotient, quotient_fits, exact_quotient, sum_fits, exact_sum, product_fits, exact_product}
use Rattle.heyvl_num.specs.Value.{is_zeroʳ, is_zero_num}
use Rattle.heyvl_num.proofs.exported.Integers.{*ℤ-one, zero_times}
use Rattle.heyvl_num.proofs.exported.Rationals.{ratio_parts, leq_ratio, one-*ʳ, ratio-neg}
use Rattle.linear_rows.specs.Terms.{is_narrow}
use Rattle.linear_rows.specs.Numbers.{fits, minus_oneʳ, is_negative}
use Rattle.heyvl_num.proofs.exported.Signs.{negʳ-*ʳ}

minus_one_is : minus_oneʳ ≡ negʳ oneʳ
unfolding minus_oneʳ oneʳ
minus_one_is = sym (ratio-neg (pos 1) 1 (lit< tt))

pub minus_one_times : (x : Rational) → minus_oneʳ *ʳ x ≡ negʳ x
minus_one_times x = ap (λ w. w *ʳ x) minus_one_is ∙ negʳ-*ʳ oneʳ x ∙ ap negʳ (one-*ʳ x)

pub the_zero : exact_quotient (pos 0) (pos 1) ≡ Some zeroʳ
unfolding exact_quotient quotient_fits quotient zeroʳ
the_zero = refl

pub the_one : exact_quotient (pos 1) (pos 1) ≡ Some oneʳ
unfolding exact_quotient quotient_fits quotient oneʳ
the_one = refl

pub the_minus_one : exact_quotient (negsuc 0) (pos 1) ≡ Some minus_oneʳ
unfolding exact_quotient quotient_fits quotient minus_oneʳ
the_minus_one = refl

pub same : (x y : Rational) → Some x ≡ Some y → x ≡ y
same x y e = cc

-- ---- Bounds

abs_sum : (a b : ℤ) → unsigned_abs (a +ℤ b) ≤ unsigned_abs a + unsigned_abs b
abs_sum a b = omega (arith, ints)

pub small : (z : ℤ) → unsigned_abs z < 2 ^ 127 → is_small z ≡ true
small z h = grind arith

narrow_less : (z : ℤ) → is_narrow z ≡ true → unsigned_abs z < 2 ^ 62
narrow_less z h = grind arith

and_left : (a b : Bool) → (a && b) ≡ true → a ≡ true
and_left true b e = refl
and_left false b e = absurd (cc)

and_right : (a b : Bool) → (a && b) ≡ true → b ≡ true
and_right true b e = e
and_right false b e = absurd (cc)

pub num_less : (x : Rational) → fits x ≡ true → unsigned_abs x.num < 2 ^ 62
unfolding fits
num_less x h = narrow_less x.num (and_left _ _ h)

pub den_less : (x : Rational) → fits x ≡ true → x.den < 2 ^ 62
unfolding fits
den_less x h = narrow_less (pos x.den) (and_right (is_narrow x.num) _ h)

pub product_less : (a b : ℤ) → unsigned_abs a < 2 ^ 62 → unsigned_abs b < 2 ^ 62 → unsigned_abs (a *ℤ b) < 2 ^ 124
product_less a b p q = rw (unsigned_abs-mul a b) (mul-lt (unsigned_abs a) (unsigned_abs b) (2 ^ 62) (2 ^ 62) p q)

small_product : (a b : ℤ) → unsigned_abs a < 2 ^ 62 → unsigned_abs b < 2 ^ 62 → is_small (a *ℤ b) ≡ true
small_product a b p q = small (a *ℤ b) (below_more _ (product_less a b p q))
  where
    below_more : (n : ℕ) → n < 2 ^ 124 → n < 2 ^ 127
    below_more n h = omega arith

small_sum : (a b : ℤ) → unsigned_abs a < 2 ^ 124 → unsigned_abs b < 2 ^ 124 → is_small (a +ℤ b) ≡ true
small_sum a b p q = small (a +ℤ b) (let h = abs_sum a b in omega arith)

all_four : (a b c d : Bool) → a ≡ true → b ≡ true → c ≡ true → d ≡ true → (a && b && c && d) ≡ true
all_four a b c d h k l m = rw (h, k, l, m)

both_true : (a b : Bool) → a ≡ true → b ≡ true → (a && b) ≡ true
both_true a b h k = rw (h, k)

sum_fits_narrow : (x y : Rational) → fits x ≡ true → fits y ≡ true → sum_fits x y ≡ true
unfolding sum_fits
sum_fits_narrow x y p q = all_four _ _ _ _ (small_product x.num (pos y.den) (num_less x p) (den_less y q)) (small_product y.num (pos x.den) (num_less y q) (den_less x p)) (small_product (pos x.den) (pos y.den) (den_less x p) (den_less y q)) (small_sum (x.num *ℤ pos y.den) (y.num *ℤ pos x.den) (product_less x.num (pos y.den) (num_less x p) (den_less y q)) (product_less y.num (pos x.den) (num_less y q) (den_less x p)))

pub product_fits_narrow : (x y : Rational) → fits x ≡ true → fits y ≡ true → product_fits x y ≡ true
unfolding product_fits
product_fits_narrow x y p q = both_true _ _ (small_product x.num y.num (num_less x p) (num_less y q)) (small_product (pos x.den) (pos y.den) (den_less x p) (den_less y q))

pub the_sum : (x y : Rational) → fits x ≡ true → fits y ≡ true → exact_sum x y ≡ Some (x +ʳ y)
unfolding exact_sum
the_sum x y p q = rw (sum_fits_narrow x y p q)

pub the_product : (x y : Rational) → fits x ≡ true → fits y ≡ true → exact_product x y ≡ Some (x *ʳ y)
unfolding exact_product
the_product x y p q = rw (product_fits_narrow x y p q)

-- ---- Signs

at_most_zero : (x : Rational) → leqʳ x zeroʳ ≡ le_z x.num (pos 0)
unfolding zeroʳ
at_most_zero x = ap (λ z. leqʳ z (ratio (pos 0) 1)) (sym (ratio_parts x)) ∙ leq_ratio x.num x.den (pos 0) 1 x.positive (lit< tt) ∙ ap₂ (λ a b. le_z a b) (*ℤ-one x.num) (zero_times (pos x.den))

at_least_zero : (x : Rational) → leqʳ zeroʳ x ≡ le_z (pos 0) x.num
unfolding zeroʳ
at_least_zero x = ap (λ z. leqʳ (ratio (pos 0) 1) z) (sym (ratio_parts x)) ∙ leq_ratio (pos 0) 1 x.num x.den (lit< tt) x.positive ∙ ap₂ (λ a b. le_z a b) (zero_times (pos x.den)) (*ℤ-one x.num)

less_is : (n : ℤ) → lt_z n (pos 0) ≡ not (le_z (pos 0) n)
less_is n = go (lt_z n (pos 0)) (le_z (pos 0) n) refl refl
  where
    go : (a b : Bool) → lt_z n (pos 0) ≡ a → le_z (pos 0) n ≡ b → a ≡ not b
    go true true e f = absurd (omega (arith, ints))
    go true false e f = refl
    go false true e f = refl
    go false false e f = absurd (omega (arith, ints))

pub seen : (n m : ℤ) → n ≡ m → FitsSigned w128 n → to_z w128 (of_z w128 n) ≡ m
seen n m e h = to_z-of_z w128 n h ∙ e

pub negative_plain : (x : Rational) (n : ℤ) → n ≡ x.num → FitsSigned w128 n → le_z (to_z w128 (of_z w128 n)) (pos 0) ≡ is_negative x false
negative_plain x n e h = ap (λ z. le_z z (pos 0)) (seen n x.num e h) ∙ sym (at_most_zero x)

pub negative_strict : (x : Rational) (n : ℤ) → n ≡ x.num → FitsSigned w128 n → lt_z (to_z w128 (of_z w128 n)) (pos 0) ≡ is_negative x true
negative_strict x n e h = ap (λ z. lt_z z (pos 0)) (seen n x.num e h) ∙ less_is x.num ∙ ap not (sym (at_least_zero x))

other_number : (n : ℤ) → (n ≡ pos 0 → ⊥) → is_zero_num n ≡ false
other_number (pos zero) h = absurd (h refl)
other_number (pos (suc n)) h = refl
other_number (negsuc n) h = refl

pub zero_test : (x : Rational) (n : ℤ) → n ≡ x.num → FitsSigned w128 n → nat_eq (of_z w128 n) 0 ≡ is_zeroʳ x
unfolding is_zeroʳ
zero_test x n e h = go (nat_eq (of_z w128 n) 0) refl
  where
    go : (b : Bool) → nat_eq (of_z w128 n) 0 ≡ b → b ≡ is_zero_num x.num
    go true f = let g : of_z w128 n ≡ 0 = grind arith in let k : n ≡ pos 0 = omega (arith, ints) in sym (ap is_zero_num (sym e ∙ k))
    go false f = sym (other_number x.num (λ k. let m : n ≡ pos 0 = e ∙ k in absurd (let g : nat_eq (of_z w128 n) 0 ≡ true = rw m in cc)))

-- ---- Sizes

pub fits_test : (x : Rational) (n m : ℤ) → n ≡ x.num → m ≡ pos x.den → FitsSigned w128 n → FitsSigned w128 m → (nat_lt (unsigned_abs (to_z w128 (of_z w128 n))) (2 ^ 62) && nat_lt (unsigned_abs (to_z w128 (of_z w128 m))) (2 ^ 62)) ≡ fits x
unfolding fits
fits_test x n m e f h k = ap₂ (λ a b. nat_lt (unsigned_abs a) (2 ^ 62) && nat_lt (unsigned_abs b) (2 ^ 62)) (seen n x.num e h) (seen m (pos x.den) f k)

-- ---- Negation

neg_abs : (n : ℤ) → unsigned_abs (neg_ℤ n) ≡ unsigned_abs n
neg_abs n = omega (arith, ints)

neg_lowest : (x : Rational) → gcd (unsigned_abs (neg_ℤ x.num)) x.den ≡ 1
neg_lowest x = ap (λ n. gcd n x.den) (neg_abs x.num) ∙ x.lowest

neg_num : (x : Rational) → (negʳ x).num ≡ neg_ℤ x.num
unfolding negʳ
neg_num x = ratio_num-lowest (neg_ℤ x.num) x.den x.positive (neg_lowest x)

neg_den : (x : Rational) → (negʳ x).den ≡ x.den
unfolding negʳ
neg_den x = ratio_den-lowest (neg_ℤ x.num) x.den x.positive (neg_lowest x)

pub fits_negated : (x : Rational) → fits (minus_oneʳ *ʳ x) ≡ fits x
unfolding fits
fits_negated x = ap fits_of (minus_one_times x) ∙ ap₂ (λ a d. nat_lt a (2 ^ 62) && nat_lt d (2 ^ 62)) (ap unsigned_abs (neg_num x) ∙ neg_abs x.num) (neg_den x)
  where
    fits_of : Rational → Bool
    fits_of y = is_narrow y.num && is_narrow (pos y.den)

pub minus_one_fits : fits minus_oneʳ ≡ true
unfolding minus_oneʳ fits ratio gcd gcd_steps
minus_one_fits = refl
