-- The product of two fractions in lowest terms, whose factors are reduced crosswise first.
use Rattle.std.proofs.Common.{◌≡◌, ℕ, ◌<◌, ◌*◌, ◌/◌, ◌^◌, refl, sym, ap, ap₂, ◌∙◌, subst, arith, Bool, true, false, cond, ◌&&◌, nat_lt, unsigned_abs, ◌≤◌, ◌+◌, FitsSigned}
use Rattle.std.specs.Prelude.{Some, None}
use Rattle.std.proofs.Math.IntN.{ℤ, pos, negsuc, ◌*ℤ◌}
use Prim.Native.Nat.{suc, zero, ◌∣◌}
use Rattle.std.proofs.lemmas.Int.{unsigned_abs-mul}
use Rattle.std.proofs.lemmas.Nat.Gcd.{dvd_trans, le_of_dvd}
use Rattle.std.proofs.Math.Nat.{dvd-mul_right, dvd-mul_right_of_dvd, eq-one_of_dvd-one, pos_of_dvd_of_pos, mul-pos, mul_comm, one-mul}
use Rattle.heyvl_num.specs.Gcd.{gcd, gcd_steps}
use Rattle.heyvl_num.specs.GcdLaws.{gcd-is, gcd-mul, quotient_num, quotient_den}
use Rattle.heyvl_num.specs.Rational.{Rational, ratio, zeroʳ, ◌*ʳ◌, abs_div}
use Rattle.heyvl_num.specs.RationalParts.{ratio_num-lowest, ratio_den-lowest}
use Rattle.heyvl_num.specs.Exact.{is_small, quotient, quotient_fits, exact_quotient, exact_product, product_fits}
use Rattle.heyvl_num.specs.Value.{is_zero_num, is_zeroʳ}
use Rattle.heyvl_num.proofs.exported.Exactness.{exact_product_some, exact_quotient_some}
use Rattle.heyvl_num.proofs.exported.Values.{is_zero-is}
use Rattle.heyvl_num.proofs.exported.Rationals.{*ʳ-zero, ratio_num, ratio_den, ratio-*}
use Rattle.std.specs.Int.{w128}
use Rattle.std.proofs.lemmas.Nat.{mul-lt}
use borrow.Author.Differences.{ints}
use Rattle.linear_values.specs.Operator.{small_product}
use Rattle.linear_values.specs.Lin.{Lin, Terms, constant, times, scaled, all_fit, is_sized}
use Rattle.linear_rows.specs.Numbers.{fits}
use Rattle.linear_rows.proofs.exported.Narrow.{small, num_less, den_less}

abbrev Coprime : ℕ → ℕ → Type 0
Coprime a b = gcd a b ≡ 1

from_divisors : (a b : ℕ) → ((d : ℕ) → d ∣ a → d ∣ b → d ∣ 1) → Coprime a b
from_divisors a b h = eq-one_of_dvd-one (h (gcd a b) (gcd-is a b).0 (gcd-is a b).1)

divisors : (a b d : ℕ) → Coprime a b → d ∣ a → d ∣ b → d ∣ 1
divisors a b d h p q = subst (λ (g : ℕ). d ∣ g) h ((gcd-is a b).2 d p q)

coprime_swap : (a b : ℕ) → Coprime a b → Coprime b a
coprime_swap a b h = from_divisors b a (λ d p q. divisors a b d h q p)

coprime_parts : (a b a' b' : ℕ) → Coprime a b → a' ∣ a → b' ∣ b → Coprime a' b'
coprime_parts a b a' b' h p q = from_divisors a' b' (λ d m n. divisors a b d h (dvd_trans d m p) (dvd_trans d n q))

coprime_product : (a b c : ℕ) → Coprime a c → Coprime b c → Coprime (a * b) c
coprime_product a zero c h k = ap (λ (n : ℕ). gcd n c) (omega arith) ∙ k
coprime_product a (suc b) c h k = from_divisors (a * suc b) c (λ d p q. divisors (suc b) c d k (subst (λ (g : ℕ). d ∣ g) (gcd-mul a c (suc b) (omega arith) ∙ ap (λ (g : ℕ). g * suc b) h ∙ one-mul (suc b)) ((gcd-is (a * suc b) (c * suc b)).2 d p (dvd-mul_right_of_dvd d q (suc b)))) q)

coprime_products : (a b c d : ℕ) → Coprime a c → Coprime b c → Coprime a d → Coprime b d → Coprime (a * b) (c * d)
coprime_products a b c d h k m n = coprime_swap (c * d) (a * b) (coprime_product c d (a * b) (coprime_swap (a * b) c (coprime_product a b c h k)) (coprime_swap (a * b) d (coprime_product a b d m n)))

num_divides : (a : ℤ) (b : ℕ) → 0 < b → unsigned_abs (ratio a b).num ∣ unsigned_abs a
num_divides a b p = subst (λ (n : ℕ). n ∣ unsigned_abs a) (sym (ap unsigned_abs (ratio_num a b p) ∙ abs_div a (gcd (unsigned_abs a) b))) (subst (λ (n : ℕ). unsigned_abs a / gcd (unsigned_abs a) b ∣ n) (quotient_num (unsigned_abs a) b) (dvd-mul_right (unsigned_abs a / gcd (unsigned_abs a) b) (gcd (unsigned_abs a) b)))

den_divides : (a : ℤ) (b : ℕ) → 0 < b → (ratio a b).den ∣ b
den_divides a b p = subst (λ (n : ℕ). n ∣ b) (sym (ratio_den a b p)) (subst (λ (n : ℕ). b / gcd (unsigned_abs a) b ∣ n) (quotient_den (unsigned_abs a) b) (dvd-mul_right (b / gcd (unsigned_abs a) b) (gcd (unsigned_abs a) b)))

-- ---- Crosswise

pub crosswise : (w c : Rational) → w *ʳ c ≡ ratio w.num c.den *ʳ ratio c.num w.den
unfolding ◌*ʳ◌
crosswise w c = ap (λ d. ratio (w.num *ℤ c.num) d) (mul_comm w.den c.den) ∙ sym (ratio-* w.num c.den c.num w.den c.positive w.positive)

lowest : (w c : Rational) → gcd (unsigned_abs ((ratio w.num c.den).num *ℤ (ratio c.num w.den).num)) ((ratio w.num c.den).den * (ratio c.num w.den).den) ≡ 1
lowest w c =
    let x = ratio w.num c.den in
    let y = ratio c.num w.den in
    ap (λ n. gcd n (x.den * y.den)) (unsigned_abs-mul x.num y.num) ∙ coprime_products (unsigned_abs x.num) (unsigned_abs y.num) x.den y.den
    x.lowest
    (coprime_parts _ _ _ _ c.lowest (num_divides c.num w.den w.positive) (den_divides w.num c.den c.positive))
    (coprime_parts _ _ _ _ w.lowest (num_divides w.num c.den c.positive) (den_divides c.num w.den w.positive))
    y.lowest

product_num : (w c : Rational) → (w *ʳ c).num ≡ (ratio w.num c.den).num *ℤ (ratio c.num w.den).num
unfolding ◌*ʳ◌
product_num w c = ap (λ x. x.num) (crosswise w c) ∙ ratio_num-lowest _ _ (mul-pos (ratio w.num c.den).positive (ratio c.num w.den).positive) (lowest w c)

product_den : (w c : Rational) → (w *ʳ c).den ≡ (ratio w.num c.den).den * (ratio c.num w.den).den
unfolding ◌*ʳ◌
product_den w c = ap (λ x. x.den) (crosswise w c) ∙ ratio_den-lowest _ _ (mul-pos (ratio w.num c.den).positive (ratio c.num w.den).positive) (lowest w c)

small_of : (n : ℕ) (z : ℤ) → n ≡ unsigned_abs z → n < 2 ^ 62 → is_small z ≡ true
small_of n z e k = small z (omega arith)

pub found_product : (w c : Rational) → fits (w *ʳ c) ≡ true → exact_product (ratio w.num c.den) (ratio c.num w.den) ≡ Some (ratio w.num c.den *ʳ ratio c.num w.den)
unfolding exact_product product_fits
found_product w c h = rw (small_of _ _ (ap unsigned_abs (product_num w c)) (num_less (w *ʳ c) h), small_of _ (pos (ratio w.num c.den).den *ℤ pos (ratio c.num w.den).den) (product_den w c) (den_less (w *ʳ c) h))

-- ---- The results of the program

pub crossed_some : (x y r : Rational) (n d : ℤ) → n ≡ x.num → d ≡ pos y.den → Some r ≡ exact_quotient n d → r ≡ ratio x.num y.den
unfolding quotient
crossed_some x y r n d e f h = exact_quotient_some n d r h ∙ ap₂ (λ n d. quotient n d) e f

positive_den : (d : ℕ) → 0 < d → is_zero_num (pos d) ≡ false
positive_den zero h = absurd (omega arith)
positive_den (suc d) h = refl

refused_num : (n : ℤ) (d : ℕ) → 0 < d → is_small (pos d) ≡ true → None ≡ exact_quotient n (pos d) → is_small n ≡ false
unfolding exact_quotient quotient_fits
refused_num n d p q h = go (is_small n) refl (rw (positive_den d p, q) at h)
  where
    go : (b : Bool) → is_small n ≡ b → None ≡ cond (b && true) (Some (quotient n (pos d))) None → b ≡ false
    go true e h = absurd (cc)
    go false e h = refl

large : (n : ℤ) → is_small n ≡ false → 2 ^ 127 ≤ unsigned_abs n
large n h = grind arith

small_den : (y : Rational) → fits y ≡ true → is_small (pos y.den) ≡ true
small_den y h = small (pos y.den) (let k = den_less y h in omega arith)

quotient_large : (q g : ℕ) → 2 ^ 127 ≤ q * g → g < 2 ^ 62 → 2 ^ 62 ≤ q
quotient_large q g h k = not_less (nat_lt q (2 ^ 62)) refl
  where
    not_less : (b : Bool) → nat_lt q (2 ^ 62) ≡ b → 2 ^ 62 ≤ q
    not_less true e = let l : q < 2 ^ 62 = grind arith in absurd (let m = mul-lt q g (2 ^ 62) (2 ^ 62) l k in omega arith)
    not_less false e = grind arith

divisor_less : (g d : ℕ) → 0 < d → g ∣ d → d < 2 ^ 62 → g < 2 ^ 62
divisor_less g d p h k = let l : g ≤ d = le_of_dvd p h in omega arith

left_large : (w c : Rational) → 2 ^ 127 ≤ unsigned_abs w.num → fits c ≡ true → 2 ^ 62 ≤ unsigned_abs (ratio w.num c.den).num
left_large w c h k = rw (ap unsigned_abs (ratio_num w.num c.den c.positive) ∙ abs_div w.num (gcd (unsigned_abs w.num) c.den)) (quotient_large _ (gcd (unsigned_abs w.num) c.den) (rw (quotient_num (unsigned_abs w.num) c.den) h) (divisor_less _ c.den c.positive (gcd-is (unsigned_abs w.num) c.den).1 (den_less c k)))

positive_abs : (n : ℤ) → is_zero_num n ≡ false → 0 < unsigned_abs n
positive_abs (pos zero) e = absurd (cc)
positive_abs (pos (suc n)) e = omega arith
positive_abs (negsuc n) e = omega arith

right_one : (c w : Rational) → is_zeroʳ c ≡ false → 0 < unsigned_abs (ratio c.num w.den).num
unfolding is_zeroʳ
right_one c w h = pos_of_dvd_of_pos (num_divides c.num w.den w.positive) (positive_abs c.num h)

below_product : (a b k : ℕ) → k ≤ a → 0 < b → k ≤ a * b
below_product a zero k h p = absurd (omega arith)
below_product a (suc b) k h p = let e : a * suc b ≡ a * b + a = omega arith in omega arith

too_large : (x : Rational) → 2 ^ 62 ≤ unsigned_abs x.num → fits x ≡ false
too_large x h = go (fits x) refl
  where
    go : (b : Bool) → fits x ≡ b → b ≡ false
    go true e = absurd (let k = num_less x e in omega arith)
    go false e = refl

pub refused_left : (w c : Rational) (n d : ℤ) → fits c ≡ true → is_zeroʳ c ≡ false → n ≡ w.num → d ≡ pos c.den → None ≡ exact_quotient n d → fits (w *ʳ c) ≡ false
refused_left w c n d k z e f h = too_large (w *ʳ c) (subst (λ (m : ℕ). 2 ^ 62 ≤ m) (sym (ap unsigned_abs (product_num w c) ∙ unsigned_abs-mul (ratio w.num c.den).num (ratio c.num w.den).num)) (below_product _ _ (2 ^ 62) (left_large w c (large w.num (refused_num w.num c.den c.positive (small_den c k) (h ∙ ap₂ (λ n d. exact_quotient n d) e f))) k) (right_one c w z)))

pub refused_right : (w c : Rational) (n d e : ℤ) → fits c ≡ true → n ≡ c.num → d ≡ pos w.den → e ≡ pos w.den → FitsSigned w128 e → None ≡ exact_quotient n d → fits (w *ʳ c) ≡ false
refused_right w c n d d2 k e f f2 r h = absurd (let l = refused_num c.num w.den w.positive (small (pos w.den) (let m : pos w.den ≡ d2 = sym f2 in omega (arith, ints))) (h ∙ ap₂ (λ n d. exact_quotient n d) e f) in let s = small c.num (let k = num_less c k in omega arith) in let t : true ≡ false = sym s ∙ l in cc)

pub refused : (w c x y : Rational) → x ≡ ratio w.num c.den → y ≡ ratio c.num w.den → None ≡ exact_product x y → fits (w *ʳ c) ≡ false
refused w c x y e f h = go (fits (w *ʳ c)) refl
  where
    go : (b : Bool) → fits (w *ʳ c) ≡ b → b ≡ false
    go true g = absurd (let k = found_product w c g in let m = h ∙ ap₂ (λ x y. exact_product x y) e f in cc)
    go false g = refl

pub made : (w c x y p : Rational) → x ≡ ratio w.num c.den → y ≡ ratio c.num w.den → Some p ≡ exact_product x y → p ≡ w *ʳ c
made w c x y p e f h = exact_product_some x y p h ∙ ap₂ (λ x y. x *ʳ y) e f ∙ sym (crosswise w c)

zero_fits : fits zeroʳ ≡ true
unfolding zeroʳ ratio gcd gcd_steps fits
zero_fits = refl

pub zero_product : (w c : Rational) → is_zeroʳ c ≡ true → small_product w c ≡ Some zeroʳ
zero_product w c e = rw (is_zero-is c e, *ʳ-zero w, zero_fits)

pub no_product : (w c : Rational) → fits (w *ʳ c) ≡ false → None ≡ small_product w c
no_product w c e = rw e

pub the_product_found : (w c p : Rational) → p ≡ w *ʳ c → fits p ≡ true → Some p ≡ small_product w c
the_product_found w c p e f = let g : fits (w *ʳ c) ≡ true = sym (ap fits e) ∙ f in rw g (ap Some e)

pub the_product_large : (w c p : Rational) → p ≡ w *ʳ c → fits p ≡ false → None ≡ small_product w c
the_product_large w c p e f = no_product w c (sym (ap fits e) ∙ f)

pub product_none : (w c : Rational) → None ≡ small_product w c → fits (w *ʳ c) ≡ false
product_none w c h = go (fits (w *ʳ c)) h
  where
    go : (b : Bool) → None ≡ cond b (Some (w *ʳ c)) None → b ≡ false
    go true h = absurd (cc)
    go false h = refl

pub product_some : (w c p : Rational) → Some p ≡ small_product w c → (p ≡ w *ʳ c) × (fits (w *ʳ c) ≡ true)
product_some w c p h = go (fits (w *ʳ c)) h
  where
    go : (b : Bool) → Some p ≡ cond b (Some (w *ʳ c)) None → (p ≡ w *ʳ c) × (b ≡ true)
    go true h = (cc, refl)
    go false h = absurd (cc)

-- ---- Multiples of linear values

pub zero_multiple : (w : Rational) (a : Lin) → is_zeroʳ w ≡ true → scaled w a ≡ constant zeroʳ
unfolding scaled
zero_multiple w a e = rw e

pub zero_multiple_sized : (w : Rational) (a : Lin) → is_zeroʳ w ≡ true → is_sized (scaled w a) ≡ true
unfolding is_sized
zero_multiple_sized w a e = ap (λ l. fits l.rest && all_fit l.terms) (zero_multiple w a e) ∙ rw zero_fits

pub multiple : (w : Rational) (a : Lin) → is_zeroʳ w ≡ false → scaled w a ≡ record { terms = times w a.terms; rest = w *ʳ a.rest }
unfolding scaled
multiple w a e = rw e

pub multiple_sized : (w : Rational) (a : Lin) → is_zeroʳ w ≡ false → is_sized (scaled w a) ≡ (fits (w *ʳ a.rest) && all_fit (times w a.terms))
unfolding is_sized
multiple_sized w a e = ap (λ l. fits l.rest && all_fit l.terms) (multiple w a e)

pub large_rest : (w : Rational) (a : Lin) → is_zeroʳ w ≡ false → fits (w *ʳ a.rest) ≡ false → is_sized (scaled w a) ≡ false
large_rest w a z e = multiple_sized w a z ∙ rw e

pub large_terms : (w : Rational) (a : Lin) → is_zeroʳ w ≡ false → all_fit (times w a.terms) ≡ false → is_sized (scaled w a) ≡ false
large_terms w a z e = multiple_sized w a z ∙ go (fits (w *ʳ a.rest)) e
  where
    go : (b : Bool) → all_fit (times w a.terms) ≡ false → (b && all_fit (times w a.terms)) ≡ false
    go true e = e
    go false e = refl

pub small_parts : (w : Rational) (a : Lin) → is_zeroʳ w ≡ false → fits (w *ʳ a.rest) ≡ true → all_fit (times w a.terms) ≡ true → is_sized (scaled w a) ≡ true
small_parts w a z e f = multiple_sized w a z ∙ rw (e, f)

pub same_lin : (w : Rational) (a : Lin) (ts : Terms) (r : Rational) → is_zeroʳ w ≡ false → ts ≡ times w a.terms → r ≡ w *ʳ a.rest → record { terms = ts; rest = r } ≡ scaled w a
same_lin w a ts r z e f = λ i. (ap₂ (λ (ts : Terms) (r : Rational). make ts r) e f ∙ sym (multiple w a z)) i
  where
    make : Terms → Rational → Lin
    make ts r = record { terms = ts; rest = r }
