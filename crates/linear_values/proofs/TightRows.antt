-- If a claim holds in a state, the state's values satisfy its row.
use Rattle.std.proofs.Common.{◌≡◌, ℕ, ◌*◌, ◌/◌, ◌<◌, List, [], ◌∷◌, refl, sym, ap, ap₂, ◌∙◌, arith, lit<, subst, Bool, true, false, not, cond, ◌&&◌, ◌==◌}
use Rattle.std.specs.Prelude.{ℤ, pos, negsuc, ◌+ℤ◌, ◌*ℤ◌, ◌≤ℤ◌, neg_ℤ, unsigned_abs, Option, Some, None}
use borrow.Author.Differences.{ints}
use Prim.Native.Nat.{zero, suc, ◌∣◌}
use Rattle.std.proofs.Math.Nat.{mul-pos, zero-lt-suc, div-mul_cancel, dvd-mul_left, dvd-mul_right, pos_of_dvd_of_pos, mul-div_cancel, eq-one_of_dvd-one, one-mul}
use Rattle.std.proofs.Math.IntN.{*ℤ_comm}
use Rattle.std.proofs.lemmas.Nat.Gcd.{dvd_trans}
use Rattle.std.proofs.lemmas.Int.{by_lt_z}
use Rattle.heyvl_num.specs.Gcd.{gcd, gcd_steps}
use Rattle.heyvl_num.specs.GcdLaws.{gcd-is, quotient_num, quotient_den, quotient_den-pos}
use Rattle.heyvl_num.specs.Rational.{Rational, ratio, zeroʳ, oneʳ, ◌+ʳ◌, ◌*ʳ◌, leqʳ, ◌≤ʳ◌}
use Rattle.heyvl_num.specs.Rounding.{whole, floorʳ, ceilʳ}
use Rattle.heyvl_num.proofs.exported.Integers.{*ℤ-one, *ℤ-neg, neg-*ℤ}
use Rattle.heyvl_num.proofs.exported.Rationals as fraction
use Rattle.heyvl_num.proofs.exported.Rationals.{ratio_parts, ratio_den, ratio_same, ratio-*, ratio-+, ratio-≤, ≤ʳ_trans, *ʳ_mono, *ʳ_assoc, *ʳ-zero, one-*ʳ, *ʳ-+ʳ, +ʳ_comm, +ʳ_mono, ≤ʳ_refl, ratio_nonnegative, cross_order, order_cross, *ʳ_nonnegative, zero-+ʳ}
use Rattle.heyvl_num.proofs.exported.Roundings.{floor-is, ceil-is}
use Rattle.heyvl_num.proofs.exported.Signs.{≤ʳ-+ʳ_cancel}
use Rattle.heylo_formula.specs.State.{Env, number_of, has}
use Rattle.heylo_formula.specs.Typing.{HasTypes, Types}
use Rattle.heylo_formula.specs.declared.types.Ty.{Ty}
use Rattle.heylo_formula.specs.declared.values.Val.{Val}
use Rattle.heylo_formula.specs.declared.values.Val.TheVariants.{Truth, Num}
use Rattle.linear_rows.specs.Solutions.{sum_of, IsBelowZero, MeetsAt}
use Rattle.linear_values.specs.Lin.{Terms, total}
use Rattle.linear_rows.specs.Numbers.{is_negative}
use Rattle.linear_values.specs.Claims.{IsClaimed, AllClaimed}
use Rattle.linear_values.specs.Nonzero.{AreNonzero, AllNonzero}
use Rattle.linear_values.specs.Tightening.{with_row, all_tightened, Claim, sign_of, rounded, are_whole, tight_row, tightened, common_multiple, common_divisor, factor, whole_terms}
use Rattle.linear_rows.specs.Row.{Row}
use Rattle.std.specs.List.{All}
use Rattle.std.proofs.lemmas.List.Elements.{All-nil, All-cons}
use Rattle.linear_rows.specs.VariableTypes.{is_integral}
use Rattle.linear_values.specs.WholeTimes.{AreWholeTimes}

-- ---- Integers as fractions

pub whole_back : (x : Rational) → x.den ≡ 1 → whole x.num ≡ x
unfolding whole
whole_back x e = ap (λ d. ratio x.num d) (sym e) ∙ ratio_parts x

pub whole_den : (k : ℤ) → (whole k).den ≡ 1
unfolding whole
whole_den k = ratio_den k 1 (lit< tt) ∙ eq-one_of_dvd-one (subst (λ n. (1 / gcd (unsigned_abs k) 1) ∣ n) (quotient_den (unsigned_abs k) 1) (dvd-mul_right (1 / gcd (unsigned_abs k) 1) (gcd (unsigned_abs k) 1)))

pub whole-* : (a b : ℤ) → whole a *ʳ whole b ≡ whole (a *ℤ b)
unfolding whole
whole-* a b = ratio-* a 1 b 1 (lit< tt) (lit< tt)

pub whole-+ : (a b : ℤ) → whole a +ʳ whole b ≡ whole (a +ℤ b)
unfolding whole
whole-+ a b = ratio-+ a 1 b 1 (lit< tt) (lit< tt) ∙ ap (λ z. ratio z 1) (ap₂ (λ x y. x +ℤ y) (*ℤ-one a) (*ℤ-one b))

whole-≤ : (a b : ℤ) → a ≤ℤ b → whole a ≤ʳ whole b
unfolding whole
whole-≤ a b h = ratio-≤ a 1 b 1 (lit< tt) (lit< tt) (rw (*ℤ-one a, *ℤ-one b) h)

whole_zero : whole (pos 0) ≡ zeroʳ
unfolding whole zeroʳ
whole_zero = refl

-- ---- Positive factors keep signs

pub record IsPositive (w : Rational) : Type 0 where
  pub above : zeroʳ ≤ʳ w
  pub inverse : Rational
  pub inverse_above : zeroʳ ≤ʳ inverse
  pub one : inverse *ʳ w ≡ oneʳ

pub keeps_sign : (w x : Rational) (strict : Bool) → IsPositive w → is_negative x strict ≡ true → IsBelowZero strict (w *ʳ x)
keeps_sign w x false p e = subst (λ y. w *ʳ x ≤ʳ y) (*ʳ-zero w) (*ʳ_mono w x zeroʳ p.above (record { holds = e }))
keeps_sign w x true p e = record { holds = go (leqʳ zeroʳ (w *ʳ x)) refl }
  where
    back : zeroʳ ≤ʳ w *ʳ x → zeroʳ ≤ʳ x
    back h = subst (λ y. zeroʳ ≤ʳ y) (sym (*ʳ_assoc p.inverse w x) ∙ ap (λ y. y *ʳ x) p.one ∙ one-*ʳ x) (subst (λ y. y ≤ʳ p.inverse *ʳ (w *ʳ x)) (*ʳ-zero p.inverse) (*ʳ_mono p.inverse zeroʳ (w *ʳ x) p.inverse_above h))

    go : (b : Bool) → leqʳ zeroʳ (w *ʳ x) ≡ b → leqʳ zeroʳ (w *ʳ x) ≡ false
    go true k = let m = (back (record { holds = k })).holds in let n = sym (ap not m) ∙ e in absurd (cc)
    go false k = k

pub positive_ratio : (m n : ℕ) → 0 < m → 0 < n → IsPositive (ratio (pos m) n)
unfolding oneʳ
positive_ratio m n p q = record {
  above = ratio_nonnegative (pos m) n q (omega (arith, ints));
  inverse = ratio (pos n) m;
  inverse_above = ratio_nonnegative (pos n) m p (omega (arith, ints));
  one = ratio-* (pos n) m (pos m) n p q ∙ ratio_same (pos n *ℤ pos m) (m * n) (pos 1) 1 (mul-pos p q) (lit< tt) (products m n);
}
  where
    products : (m n : ℕ) → (pos n *ℤ pos m) *ℤ pos 1 ≡ pos 1 *ℤ pos (m * n)
    products m n = omega (arith, ints)

exchange : (a b c d : Rational) → (a *ʳ b) *ʳ (c *ʳ d) ≡ (b *ʳ c) *ʳ (a *ʳ d)
exchange a b c d = simp fraction.ring

pub positive-* : (v w : Rational) → IsPositive v → IsPositive w → IsPositive (v *ʳ w)
positive-* v w p q = record {
  above = *ʳ_nonnegative v w p.above q.above;
  inverse = q.inverse *ʳ p.inverse;
  inverse_above = *ʳ_nonnegative q.inverse p.inverse q.inverse_above p.inverse_above;
  one = exchange q.inverse p.inverse v w ∙ ap₂ (λ x y. x *ʳ y) p.one q.one ∙ one-*ʳ oneʳ;
}

-- ---- The factor makes the coefficients integers

pub lcm_left : (d m : ℕ) → 0 < m → d * m / gcd d m ≡ d * (m / gcd d m)
lcm_left d m p = ap (λ n. n / gcd d m) (split d (m / gcd d m) (gcd d m) m (quotient_den d m)) ∙ mul-div_cancel (d * (m / gcd d m)) (pos_of_dvd_of_pos (gcd-is d m).1 p)
  where
    split : (d q g m : ℕ) → q * g ≡ m → d * m ≡ d * q * g
    split d q g m e = rw (← e) (omega arith)

pub lcm_right : (d m : ℕ) → 0 < m → d * m / gcd d m ≡ d / gcd d m * m
lcm_right d m p = ap (λ n. n / gcd d m) (split (d / gcd d m) m (gcd d m) d (quotient_num d m)) ∙ mul-div_cancel (d / gcd d m * m) (pos_of_dvd_of_pos (gcd-is d m).1 p)
  where
    split : (q m g d : ℕ) → q * g ≡ d → d * m ≡ q * m * g
    split q m g d e = rw (← e) (omega arith)

pub multiple_positive : (ts : Terms) → 0 < common_multiple ts
unfolding common_multiple
multiple_positive [] = lit< tt
multiple_positive (t ∷ ts) = let p = multiple_positive ts in subst (λ n. 0 < n) (sym (lcm_left t.1.den (common_multiple ts) p)) (mul-pos t.1.positive (quotient_den-pos t.1.den (common_multiple ts) p))

-- Each denominator divides a number.
abbrev pub Denominators : ℕ → Terms → Type 0
Denominators m [] = Unit {0}
Denominators m (t ∷ ts) = (t.1.den ∣ m) × Denominators m ts

denominators_further : (m n : ℕ) (ts : Terms) → m ∣ n → Denominators m ts → Denominators n ts
denominators_further m n [] h k = tt
denominators_further m n (t ∷ ts) h k = (dvd_trans t.1.den k.0 h, denominators_further m n ts h k.1)

pub common_denominators : (ts : Terms) → Denominators (common_multiple ts) ts
unfolding common_multiple
common_denominators [] = tt
common_denominators (t ∷ ts) = let p = multiple_positive ts in (
  subst (λ n. t.1.den ∣ n) (sym (lcm_left t.1.den (common_multiple ts) p)) (dvd-mul_right t.1.den (common_multiple ts / gcd t.1.den (common_multiple ts))),
  denominators_further (common_multiple ts) _ ts (subst (λ n. common_multiple ts ∣ n) (sym (lcm_right t.1.den (common_multiple ts) p)) (dvd-mul_left (common_multiple ts) (t.1.den / gcd t.1.den (common_multiple ts)))) (common_denominators ts),
)

-- A number divides each coefficient times a common multiple.
abbrev Divided : ℕ → ℕ → Terms → Type 0
Divided d m [] = Unit {0}
Divided d m (t ∷ ts) = (d ∣ (unsigned_abs t.1.num * (m / t.1.den))) × Divided d m ts

divided_further : (c d m : ℕ) (ts : Terms) → c ∣ d → Divided d m ts → Divided c m ts
divided_further c d m [] h k = tt
divided_further c d m (t ∷ ts) h k = (dvd_trans c h k.0, divided_further c d m ts h k.1)

common_divided : (m : ℕ) (ts : Terms) → Divided (common_divisor m ts) m ts
unfolding common_divisor
common_divided m [] = tt
common_divided m (t ∷ ts) = ((gcd-is (unsigned_abs t.1.num * (m / t.1.den)) (common_divisor m ts)).0, divided_further _ (common_divisor m ts) m ts (gcd-is (unsigned_abs t.1.num * (m / t.1.den)) (common_divisor m ts)).1 (common_divided m ts))

quotient_positive : (d m : ℕ) → 0 < m → d ∣ m → 0 < m / d
quotient_positive d m p h = go (m / d) (div-mul_cancel d h)
  where
    go : (q : ℕ) → q * d ≡ m → 0 < q
    go zero e = absurd (let z : 0 * d ≡ 0 = omega arith in omega (arith, e, z))
    go (suc q) e = zero-lt-suc q

pub abs_positive : (z : ℤ) → (z ≡ pos 0 → ⊥) → 0 < unsigned_abs z
abs_positive (pos zero) n = absurd (n refl)
abs_positive (pos (suc k)) n = zero-lt-suc k
abs_positive (negsuc k) n = zero-lt-suc k

pub divisor_positive : (m : ℕ) (t : ℕ × Rational) (ts : Terms) → 0 < m → (t.1.num ≡ pos 0 → ⊥) → t.1.den ∣ m → 0 < common_divisor m (t ∷ ts)
unfolding common_divisor
divisor_positive m t ts p n h = pos_of_dvd_of_pos (gcd-is (unsigned_abs t.1.num * (m / t.1.den)) (common_divisor m ts)).0 (mul-pos (abs_positive t.1.num n) (quotient_positive t.1.den m p h))

whole_times : (m d : ℕ) (n : ℤ) (e : ℕ) → 0 < d → 0 < e → e ∣ m → d ∣ (unsigned_abs n * (m / e)) → (ratio (pos m) d *ʳ ratio n e).den ≡ 1
unfolding whole
whole_times m d n e p q h k = go n k
  where
    plain : (a j r : ℕ) → j * d ≡ a * r → r * e ≡ m → m * a ≡ j * (d * e)
    plain a j r x y = rw (← y) (let z = ap (λ u. u * e) x in omega (arith, z))

    go : (n : ℤ) → d ∣ (unsigned_abs n * (m / e)) → (ratio (pos m) d *ʳ ratio n e).den ≡ 1
    go (pos a) k = let x = plain a (a * (m / e) / d) (m / e) (div-mul_cancel d k) (div-mul_cancel e h) in ap (λ (r : Rational). r.den) (ratio-* (pos m) d (pos a) e p q ∙ ratio_same (pos m *ℤ pos a) (d * e) (pos (a * (m / e) / d)) 1 (mul-pos p q) (lit< tt) (omega (arith, ints, x))) ∙ whole_den (pos (a * (m / e) / d))
    go (negsuc a) k = let x = plain (suc a) (suc a * (m / e) / d) (m / e) (div-mul_cancel d k) (div-mul_cancel e h) in ap (λ (r : Rational). r.den) (ratio-* (pos m) d (negsuc a) e p q ∙ ratio_same (pos m *ℤ negsuc a) (d * e) (neg_ℤ (pos (suc a * (m / e) / d))) 1 (mul-pos p q) (lit< tt) (turned (suc a * (m / e) / d) x)) ∙ whole_den (neg_ℤ (pos (suc a * (m / e) / d)))
      where
        turned : (j : ℕ) → m * suc a ≡ j * (d * e) → (pos m *ℤ negsuc a) *ℤ pos 1 ≡ neg_ℤ (pos j) *ℤ pos (d * e)
        turned j x = *ℤ-one _ ∙ *ℤ-neg (pos m) (pos (suc a)) ∙ ap neg_ℤ (let z : pos m *ℤ pos (suc a) ≡ pos j *ℤ pos (d * e) = omega (arith, ints, x) in z) ∙ sym (neg-*ℤ (pos j) (pos (d * e)))

each_whole : (m d : ℕ) (ts : Terms) → 0 < d → Denominators m ts → Divided d m ts → AreWholeTimes (ratio (pos m) d) ts
each_whole m d [] p h k = tt
each_whole m d (t ∷ ts) p h k = (subst (λ (x : Rational). (ratio (pos m) d *ʳ x).den ≡ 1) (ratio_parts t.1) (whole_times m d t.1.num t.1.den p t.1.positive h.0 k.0), each_whole m d ts p h.1 k.1)

pub factor_positive : (t : ℕ × Rational) (ts : Terms) → AreNonzero (t ∷ ts) → IsPositive (factor (t ∷ ts))
unfolding factor
factor_positive t ts n = positive_ratio _ _ (multiple_positive (t ∷ ts)) (divisor_positive (common_multiple (t ∷ ts)) t ts (multiple_positive (t ∷ ts)) n.0 (common_denominators (t ∷ ts)).0)

pub factor_whole : (t : ℕ × Rational) (ts : Terms) → AreNonzero (t ∷ ts) → AreWholeTimes (factor (t ∷ ts)) (t ∷ ts)
unfolding factor
factor_whole t ts n = each_whole _ _ (t ∷ ts) (divisor_positive (common_multiple (t ∷ ts)) t ts (multiple_positive (t ∷ ts)) n.0 (common_denominators (t ∷ ts)).0) (common_denominators (t ∷ ts)) (common_divided (common_multiple (t ∷ ts)) (t ∷ ts))

-- ---- The row's sum is the factor times the linear value's

abbrev numbers : Env → ℕ → Rational
numbers s x = number_of (s x)

pub sum_scaled : (w : Rational) (ts : Terms) (s : Env) → AreWholeTimes w ts → sum_of (numbers s) (whole_terms w ts) ≡ w *ʳ total ts s
unfolding sum_of
sum_scaled w [] s h = sym (*ʳ-zero w)
sum_scaled w (t ∷ ts) s h = ap₂ (λ a b. (a *ʳ numbers s t.0) +ʳ b) (whole_back (w *ʳ t.1) h.0) (sum_scaled w ts s h.1) ∙ ap (λ a. a +ʳ (w *ʳ total ts s)) (*ʳ_assoc w t.1 (numbers s t.0)) ∙ sym (*ʳ-+ʳ w (t.1 *ʳ numbers s t.0) (total ts s))

pub value_scaled : (w : Rational) (ts : Terms) (c : Rational) (s : Env) → AreWholeTimes w ts → sum_of (numbers s) (whole_terms w ts) +ʳ (w *ʳ c) ≡ w *ʳ (total ts s +ʳ c)
value_scaled w ts c s h = ap (λ a. a +ʳ (w *ʳ c)) (sum_scaled w ts s h) ∙ sym (*ʳ-+ʳ w (total ts s) c)

-- ---- With a UReal: the whole row is scaled to integers

pub product_whole : (n : ℕ) (k : ℤ) → ratio (pos n) 1 *ʳ whole k ≡ whole (pos n *ℤ k)
unfolding whole
product_whole n k = whole-* (pos n) k

pub further_whole : (n : ℕ) (w : Rational) (ts : Terms) → AreWholeTimes w ts → AreWholeTimes (ratio (pos n) 1 *ʳ w) ts
further_whole n w [] h = tt
further_whole n w (t ∷ ts) h = (ap (λ (x : Rational). x.den) (*ʳ_assoc (ratio (pos n) 1) w t.1 ∙ ap (λ x. ratio (pos n) 1 *ʳ x) (sym (whole_back (w *ʳ t.1) h.0)) ∙ product_whole n (w *ʳ t.1).num) ∙ whole_den (pos n *ℤ (w *ʳ t.1).num), further_whole n w ts h.1)

pub cleared : (c : Rational) → whole c.num ≡ ratio (pos c.den) 1 *ʳ c
unfolding whole
cleared c = ratio_same c.num 1 (pos c.den *ℤ c.num) (1 * c.den) (lit< tt) (mul-pos (lit< tt) c.positive) (flip c.num c.den) ∙ sym (ratio-* (pos c.den) 1 c.num c.den (lit< tt) c.positive) ∙ ap (λ x. ratio (pos c.den) 1 *ʳ x) (ratio_parts c)
  where
    flip : (n : ℤ) (d : ℕ) → n *ℤ pos (1 * d) ≡ (pos d *ℤ n) *ℤ pos 1
    flip n d = rw (*ℤ-one (pos d *ℤ n), one-mul d) (*ℤ_comm n (pos d))

exact_met : (w c : Rational) (ts : Terms) (s : Env) (strict : Bool) → IsPositive w → AreWholeTimes w ts → is_negative (total ts s +ʳ c) strict ≡ true → IsBelowZero strict (sum_of (numbers s) (whole_terms (ratio (pos (w *ʳ c).den) 1 *ʳ w) ts) +ʳ whole (w *ʳ c).num)
exact_met w c ts s strict p h e = subst (IsBelowZero strict) (sym (value_scaled (ratio (pos (w *ʳ c).den) 1 *ʳ w) ts c s (further_whole (w *ʳ c).den w ts h)) ∙ ap (λ x. sum_of (numbers s) (whole_terms (ratio (pos (w *ʳ c).den) 1 *ʳ w) ts) +ʳ x) (*ʳ_assoc (ratio (pos (w *ʳ c).den) 1) w c ∙ sym (cleared (w *ʳ c)))) (keeps_sign _ (total ts s +ʳ c) strict (positive-* _ w (positive_ratio (w *ʳ c).den 1 (w *ʳ c).positive (lit< tt)) p) e)

-- ---- Over integer variables: the constant is rounded

record WholeSum (s : Env) (ts : List (ℕ × ℤ)) : Type 0 where
  sum : ℤ
  is : sum_of (numbers s) ts ≡ whole sum

whole_number : (ty : Ty) (v : Val) → is_integral ty ≡ true → has ty v ≡ true → (number_of v).den ≡ 1
whole_number Ty.Bool v e h = absurd (cc)
whole_number Ty.Int (Truth b) e h = absurd (cc)
whole_number Ty.Int (Num x) e h = same x.den h
  where
    same : (n : ℕ) → (n == 1) ≡ true → n ≡ 1
    same n e = grind arith
whole_number Ty.UInt (Truth b) e h = absurd (cc)
whole_number Ty.UInt (Num x) e h = same x.den (first _ _ h)
  where
    first : (a b : Bool) → (a && b) ≡ true → a ≡ true
    first true b e = refl
    first false b e = absurd (cc)

    same : (n : ℕ) → (n == 1) ≡ true → n ≡ 1
    same n e = grind arith
whole_number Ty.UReal v e h = absurd (cc)

and_first : (a b : Bool) → (a && b) ≡ true → a ≡ true
and_first true b e = refl
and_first false b e = absurd (cc)

and_second : (a b : Bool) → (a && b) ≡ true → b ≡ true
and_second true b e = e
and_second false b e = absurd (cc)

sum_whole : (types : Types) (s : Env) (w : Rational) (ts : Terms) → HasTypes types s → are_whole types ts ≡ true → WholeSum s (whole_terms w ts)
unfolding sum_of
sum_whole types s w [] t e = record { sum = pos 0; is = sym whole_zero }
sum_whole types s w (x ∷ ts) t e = let r = sum_whole types s w ts t (and_second _ _ e) in record {
  sum = ((w *ʳ x.1).num *ℤ (numbers s x.0).num) +ℤ r.sum;
  is = ap₂ (λ a b. (whole (w *ʳ x.1).num *ʳ a) +ʳ b) (sym (whole_back (numbers s x.0) (whole_number (types x.0) (s x.0) (and_first _ _ e) (t.typed x.0)))) r.is ∙ ap (λ a. a +ʳ whole r.sum) (whole-* (w *ʳ x.1).num (numbers s x.0).num) ∙ whole-+ ((w *ʳ x.1).num *ℤ (numbers s x.0).num) r.sum;
}

opposite : (n : ℤ) → whole (neg_ℤ n) +ʳ whole n ≡ zeroʳ
opposite n = whole-+ (neg_ℤ n) n ∙ ap whole (cancel n) ∙ whole_zero
  where
    cancel : (n : ℤ) → neg_ℤ n +ℤ n ≡ pos 0
    cancel n = omega (arith, ints)

at_most_zero : (n r : ℤ) → r ≤ℤ neg_ℤ n → whole n +ʳ whole r ≤ʳ zeroʳ
at_most_zero n r h = subst (λ x. x ≤ʳ zeroʳ) (sym (whole-+ n r)) (subst (λ x. whole (n +ℤ r) ≤ʳ x) whole_zero (whole-≤ (n +ℤ r) (pos 0) (omega (arith, ints, h))))

rounded_met : (n : ℤ) (c : Rational) (strict : Bool) → IsBelowZero strict (whole n +ʳ c) → whole n +ʳ whole (rounded strict c) ≤ʳ zeroʳ
rounded_met n c false h = at_most_zero n (ceilʳ c) ((ceil-is c).least (neg_ℤ n) (≤ʳ-+ʳ_cancel c (whole (neg_ℤ n)) (whole n) (subst (λ x. x ≤ʳ whole (neg_ℤ n) +ʳ whole n) (+ʳ_comm (whole n) c) (subst (λ x. whole n +ʳ c ≤ʳ x) (sym (opposite n)) h))))
rounded_met n c true h = at_most_zero n (floorʳ c +ℤ pos 1) (by_lt_z (floorʳ c) (neg_ℤ n) (λ l. omega (arith, ints, l)) (λ l. absurd (never l)))
  where
    never : neg_ℤ n ≤ℤ floorʳ c → ⊥
    never l = let m : whole (neg_ℤ n) ≤ʳ c = ≤ʳ_trans _ _ _ (whole-≤ (neg_ℤ n) (floorʳ c) l) (floor-is c).at_most in
        let k : zeroʳ ≤ʳ whole n +ʳ c = subst (λ x. x ≤ʳ whole n +ʳ c) (opposite n) (subst (λ x. whole (neg_ℤ n) +ʳ whole n ≤ʳ x) (+ʳ_comm c (whole n)) (+ʳ_mono _ _ _ _ m (≤ʳ_refl (whole n)))) in
        let a = h.holds in let b = k.holds in let d = sym a ∙ b in absurd (cc)

-- ---- Without variables

pub zero_row : zeroʳ +ʳ whole (pos 0) ≡ zeroʳ
zero_row = ap (λ x. zeroʳ +ʳ x) whole_zero ∙ zero-+ʳ zeroʳ

minus_below : (strict : Bool) → IsBelowZero strict (zeroʳ +ʳ whole (negsuc 0))
unfolding whole zeroʳ ◌+ʳ◌ leqʳ ratio gcd gcd_steps
minus_below false = record { holds = refl }
minus_below true = record { holds = refl }

at_most_num : (c : Rational) → c ≤ʳ zeroʳ → c.num ≤ℤ pos 0
unfolding zeroʳ ratio gcd gcd_steps
at_most_num c h = let k = cross_order c zeroʳ h in omega (arith, ints, k)

at_least_num : (c : Rational) → pos 0 ≤ℤ c.num → zeroʳ ≤ʳ c
unfolding zeroʳ ratio gcd gcd_steps
at_least_num c h = order_cross zeroʳ c (omega (arith, ints, h))

sign_met : (c : Rational) (strict : Bool) → is_negative c strict ≡ true → IsBelowZero strict (zeroʳ +ʳ whole (sign_of c.num))
sign_met c strict e = go c.num refl strict e
  where
    above : pos 0 ≤ℤ c.num → not (leqʳ zeroʳ c) ≡ true → ⊥
    above h e = let k = (at_least_num c h).holds in let l = sym (ap not k) ∙ e in absurd (cc)

    go : (n : ℤ) → c.num ≡ n → (strict : Bool) → is_negative c strict ≡ true → IsBelowZero strict (zeroʳ +ʳ whole (sign_of n))
    go (pos zero) k false e = subst (λ x. x ≤ʳ zeroʳ) (sym zero_row) (≤ʳ_refl zeroʳ)
    go (pos zero) k true e = absurd (above (omega (arith, ints, k)) e)
    go (pos (suc m)) k false e = let h = at_most_num c (record { holds = e }) in absurd (omega (arith, ints, k, h))
    go (pos (suc m)) k true e = absurd (above (omega (arith, ints, k)) e)
    go (negsuc m) k strict e = minus_below strict

-- ---- Each row

row_met : (types : Types) (s : Env) (ts : Terms) (c : Rational) (strict : Bool) → HasTypes types s → AreNonzero ts → is_negative (total ts s +ʳ c) strict ≡ true → MeetsAt (numbers s) (tight_row types ts c strict)
unfolding sum_of
row_met types s [] c strict t n e = record { met = sign_met c strict (ap (λ x. is_negative x strict) (sym (zero-+ʳ c)) ∙ e) }
row_met types s (x ∷ ts) c strict t n e = go (are_whole types (x ∷ ts)) refl
  where
    go : (b : Bool) → are_whole types (x ∷ ts) ≡ b → MeetsAt (numbers s) (cond b (record { terms = whole_terms (factor (x ∷ ts)) (x ∷ ts); rest = rounded strict (factor (x ∷ ts) *ʳ c); strict = false }) (record { terms = whole_terms (ratio (pos (factor (x ∷ ts) *ʳ c).den) 1 *ʳ factor (x ∷ ts)) (x ∷ ts); rest = (factor (x ∷ ts) *ʳ c).num; strict = strict }))
    go true k = let r = sum_whole types s (factor (x ∷ ts)) (x ∷ ts) t k in record { met = subst (λ y. y +ʳ whole (rounded strict (factor (x ∷ ts) *ʳ c)) ≤ʳ zeroʳ) (sym r.is) (rounded_met r.sum (factor (x ∷ ts) *ʳ c) strict (subst (IsBelowZero strict) (sym (value_scaled (factor (x ∷ ts)) (x ∷ ts) c s (factor_whole x ts n)) ∙ ap (λ y. y +ʳ (factor (x ∷ ts) *ʳ c)) r.is) (keeps_sign (factor (x ∷ ts)) (total (x ∷ ts) s +ʳ c) strict (factor_positive x ts n) e))) }
    go false k = record { met = exact_met (factor (x ∷ ts)) c (x ∷ ts) s strict (factor_positive x ts n) (factor_whole x ts n) e }

pub taken_row : (b : Bool) (r q : Row) → cond b (Some r) None ≡ Some q → r ≡ q
taken_row true r q e = cc
taken_row false r q e = absurd (cc)

tightened_met : (types : Types) (s : Env) (k : Claim) (r : Row) → HasTypes types s → AreNonzero k.left.terms → IsClaimed s k → tightened types k ≡ Some r → MeetsAt (numbers s) r
unfolding tightened
tightened_met types s k r t n h e = subst (MeetsAt (numbers s)) (taken_row _ (tight_row types k.left.terms k.left.rest k.strict) r e) (row_met types s k.left.terms k.left.rest k.strict t n h.claimed)

pub rows_met : (types : Types) (s : Env) (ks : List Claim) (rows : List Row) → HasTypes types s → AllNonzero ks → AllClaimed s ks → all_tightened types ks ≡ Some rows → All (MeetsAt (numbers s)) rows
rows_met types s [] rows t n h e = let k : [] ≡ rows = cc in subst (All (MeetsAt (numbers s))) k (All-nil _)
rows_met types s (k ∷ ks) rows t n h e = go (tightened types k) refl (all_tightened types ks) refl e (rows_met types s ks)
  where
    go : (o : Option Row) → tightened types k ≡ o → (p : Option (List Row)) → all_tightened types ks ≡ p → with_row o p ≡ Some rows → ((qs : List Row) → HasTypes types s → AllNonzero ks → AllClaimed s ks → all_tightened types ks ≡ Some qs → All (MeetsAt (numbers s)) qs) → All (MeetsAt (numbers s)) rows
    go (Some r) a (Some qs) b e ih = let i : (r ∷ qs) ≡ rows = cc in subst (All (MeetsAt (numbers s))) i (All-cons (MeetsAt (numbers s)) r qs (tightened_met types s k r t n.0 h.0 a) (ih qs t n.1 h.1 b))
    go (Some r) a None b e ih = absurd (cc)
    go None a (Some qs) b e ih = absurd (cc)
    go None a None b e ih = absurd (cc)
