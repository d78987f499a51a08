-- Sums and products of integers as fractions.
use Rattle.std.proofs.Common.{◌≡◌, ◌==◌, ◌<◌, ◌^◌, refl, sym, subst, ap, ap₂, ◌∙◌, arith, Bool, true, false, cond, ◌&&◌, nat_eq, unsigned_abs, to_z, of_z, FitsSigned, ℕ}
use Rattle.std.specs.Prelude.{Option, Some, None, MatchOption}
use Rattle.std.proofs.Math.IntN.{ℤ, pos, ◌+ℤ◌, ◌*ℤ◌}
use Rattle.std.specs.Int.{w128}
use mir.Syntax.{w64}
use borrow.Author.Differences.{ints}
use Rattle.heyvl_num.specs.Rational.{Rational, ratio, oneʳ, ◌+ʳ◌, ◌*ʳ◌}
use Rattle.heyvl_num.specs.Rounding.{whole}
use Rattle.heyvl_num.specs.Exact.{is_small, quotient, quotient_fits, exact_quotient}
use Rattle.heyvl_num.specs.Value.{is_zeroʳ}
use Rattle.heyvl_num.proofs.exported.Values.{is_zero-is}
use Rattle.heyvl_num.proofs.exported.Rationals.{ratio_parts, one-*ʳ, *ʳ-one, zero-+ʳ, +ʳ-zero, *ʳ-zero}
use Rattle.linear_rows.specs.Numbers.{fits}
use Rattle.linear_rows.specs.Terms.{is_narrow}
use Rattle.linear_values.specs.Operator.{small_product, narrow_value}
use Rattle.linear_rows.proofs.exported.Narrow.{seen, small, num_less, den_less, product_less}
use Rattle.linear_values.proofs.TightRows.{whole_back, whole-*, whole-+}

-- ---- Tests

pub whole_test : (x : Rational) (n : ℤ) → n ≡ pos x.den → FitsSigned w128 n → nat_eq (of_z w128 n) 1 ≡ (x.den == 1)
whole_test x n e h = let k : of_z w128 n ≡ x.den = omega (arith, ints) in ap (λ m. m == 1) k

pub one_found : (x : Rational) (n : ℤ) → n ≡ x.num → FitsSigned w128 n → (x.den == 1) ≡ true → nat_eq (of_z w128 n) 1 ≡ true → x ≡ oneʳ
unfolding oneʳ
one_found x n e h d f = let g : of_z w128 n ≡ 1 = grind arith in let k : n ≡ pos 1 = omega (arith, ints) in sym (ratio_parts x) ∙ ap₂ (λ n d. ratio n d) (sym e ∙ k) (one x.den d)
  where
    one : (n : ℕ) → (n == 1) ≡ true → n ≡ 1
    one n e = grind arith

both_one : (a b : ℕ) → ((a == 1) && (b == 1)) ≡ true → (a ≡ 1) × (b ≡ 1)
both_one a b e = go (a == 1) (b == 1) refl refl e
  where
    one : (n : ℕ) → (n == 1) ≡ true → n ≡ 1
    one n e = grind arith

    go : (p q : Bool) → (a == 1) ≡ p → (b == 1) ≡ q → (p && q) ≡ true → (a ≡ 1) × (b ≡ 1)
    go true true f g e = (one a f, one b g)
    go true false f g e = absurd (cc)
    go false q f g e = absurd (cc)

pub narrow_found : (x : Rational) (z : ℤ) (o : Option ℤ) → (x.den == 1) ≡ true → z ≡ x.num → o ≡ narrow_value z → MatchOption o (Unit {0}) (λ n. (x ≡ whole n) × (is_narrow n ≡ true))
narrow_found x z o d e h = subst (λ o. MatchOption o (Unit {0}) (λ n. (x ≡ whole n) × (is_narrow n ≡ true))) (sym h) (go (is_narrow z) refl)
  where
    one : (n : ℕ) → (n == 1) ≡ true → n ≡ 1
    one n e = grind arith

    go : (b : Bool) → is_narrow z ≡ b → MatchOption (cond b (Some z) None) (Unit {0}) (λ n. (x ≡ whole n) × (is_narrow n ≡ true))
    go true f = (sym (whole_back x (one x.den d)) ∙ ap whole (sym e), f)
    go false f = tt

-- ---- One of the two is zero

pub zero_right : (x y : Rational) → is_zeroʳ y ≡ true → x ≡ x +ʳ y
zero_right x y e = sym (ap (λ z. x +ʳ z) (is_zero-is y e) ∙ +ʳ-zero x)

pub zero_left : (x y : Rational) → is_zeroʳ x ≡ true → y ≡ x +ʳ y
zero_left x y e = sym (ap (λ z. z +ʳ y) (is_zero-is x e) ∙ zero-+ʳ y)

pub zero_factor : (x y : Rational) → is_zeroʳ y ≡ true → y ≡ x *ʳ y
zero_factor x y e = is_zero-is y e ∙ sym (ap (λ z. x *ʳ z) (is_zero-is y e) ∙ *ʳ-zero x)

-- ---- The first is one

pub one_product : (w c : Rational) → w ≡ oneʳ → fits c ≡ true → Some c ≡ small_product w c
one_product w c e h = sym (ap (λ w. small_product w c) e ∙ ap (λ x. cond (fits x) (Some x) None) (one-*ʳ c) ∙ rw h)

pub product_one : (w c : Rational) → c ≡ oneʳ → fits w ≡ true → Some w ≡ small_product w c
product_one w c e h = sym (ap (λ c. small_product w c) e ∙ ap (λ x. cond (fits x) (Some x) None) (*ʳ-one w) ∙ rw h)

-- ---- Both are integers

the_whole : (z : ℤ) → is_small z ≡ true → exact_quotient z (pos 1) ≡ Some (whole z)
unfolding exact_quotient quotient_fits quotient whole
the_whole z h = rw h

word_small : (z : ℤ) → FitsSigned w64 z → is_small z ≡ true
word_small z h = small z (omega (arith, ints, h))

pub word_found : (z n : ℤ) → n ≡ z → FitsSigned w64 z → FitsSigned w128 n → exact_quotient (to_z w128 (of_z w128 n)) (pos 1) ≡ Some (whole z)
word_found z n e h f = ap (λ z. exact_quotient z (pos 1)) (seen n z e f) ∙ the_whole z (word_small z h)

pub den_found : (x : Rational) (n : ℤ) → n ≡ pos x.den → FitsSigned w128 n → fits x ≡ true → exact_quotient (to_z w128 (of_z w128 n)) (pos 1) ≡ Some (whole (pos x.den))
den_found x n e f h = ap (λ z. exact_quotient z (pos 1)) (seen n (pos x.den) e f) ∙ the_whole (pos x.den) (small (pos x.den) (let k = den_less x h in omega arith))

sum_of_wholes : (x y : Rational) → x.den ≡ 1 → y.den ≡ 1 → whole (x.num +ℤ y.num) ≡ x +ʳ y
sum_of_wholes x y e f = sym (whole-+ x.num y.num) ∙ ap₂ (λ a b. a +ʳ b) (whole_back x e) (whole_back y f)

product_of_wholes : (x y : Rational) → x.den ≡ 1 → y.den ≡ 1 → whole (x.num *ℤ y.num) ≡ x *ʳ y
product_of_wholes x y e f = sym (whole-* x.num y.num) ∙ ap₂ (λ a b. a *ʳ b) (whole_back x e) (whole_back y f)

sum_less : (a b : ℤ) → unsigned_abs a < 2 ^ 62 → unsigned_abs b < 2 ^ 62 → unsigned_abs (a +ℤ b) < 2 ^ 124
sum_less a b p q = omega (arith, ints)

in_range : (a : ℤ) → unsigned_abs a < 2 ^ 124 → FitsSigned w128 a
in_range a h = omega (arith, ints)

stays_small : (a : ℤ) → unsigned_abs a < 2 ^ 124 → is_small a ≡ true
stays_small a h = small a (omega arith)

module _ (x y : Rational) (n m : ℤ) (p : n ≡ x.num) (q : m ≡ y.num) (f : FitsSigned w128 n) (g : FitsSigned w128 m) (h : fits x ≡ true) (k : fits y ≡ true) where
  sum_seen : to_z w128 (of_z w128 n) +ℤ to_z w128 (of_z w128 m) ≡ x.num +ℤ y.num
  sum_seen = ap₂ (λ a b. a +ℤ b) (seen n x.num p f) (seen m y.num q g)

  product_seen : to_z w128 (of_z w128 n) *ℤ to_z w128 (of_z w128 m) ≡ x.num *ℤ y.num
  product_seen = ap₂ (λ a b. a *ℤ b) (seen n x.num p f) (seen m y.num q g)

  pub sum_in_range : FitsSigned w128 (to_z w128 (of_z w128 n) +ℤ to_z w128 (of_z w128 m))
  sum_in_range = rw sum_seen (in_range (x.num +ℤ y.num) (sum_less x.num y.num (num_less x h) (num_less y k)))

  pub product_in_range : FitsSigned w128 (to_z w128 (of_z w128 n) *ℤ to_z w128 (of_z w128 m))
  product_in_range = rw product_seen (in_range (x.num *ℤ y.num) (product_less x.num y.num (num_less x h) (num_less y k)))

  pub whole_sum_found : ((x.den == 1) && (y.den == 1)) ≡ true → exact_quotient (to_z w128 (of_z w128 (to_z w128 (of_z w128 n) +ℤ to_z w128 (of_z w128 m)))) (pos 1) ≡ Some (x +ʳ y)
  whole_sum_found e = let d = both_one x.den y.den e in ap (λ z. exact_quotient z (pos 1)) (seen _ _ sum_seen sum_in_range) ∙ the_whole (x.num +ℤ y.num) (stays_small (x.num +ℤ y.num) (sum_less x.num y.num (num_less x h) (num_less y k))) ∙ ap Some (sum_of_wholes x y d.0 d.1)

  pub whole_product_found : ((x.den == 1) && (y.den == 1)) ≡ true → exact_quotient (to_z w128 (of_z w128 (to_z w128 (of_z w128 n) *ℤ to_z w128 (of_z w128 m)))) (pos 1) ≡ Some (x *ʳ y)
  whole_product_found e = let d = both_one x.den y.den e in ap (λ z. exact_quotient z (pos 1)) (seen _ _ product_seen product_in_range) ∙ the_whole (x.num *ℤ y.num) (stays_small (x.num *ℤ y.num) (product_less x.num y.num (num_less x h) (num_less y k))) ∙ ap Some (product_of_wholes x y d.0 d.1)
