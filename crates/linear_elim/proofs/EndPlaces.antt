-- The end that a row gives is where the row is satisfied.
use Rattle.std.proofs.Common.{◌≡◌, ℕ, ◌<◌, List, [], ◌∷◌, refl, sym, ap, ◌∙◌, ◌↔◌, arith, subst, Bool, true, false, cond, eqb, not}
use Rattle.std.specs.Prelude.{ℤ, pos, negsuc, ◌+ℤ◌, ◌*ℤ◌, Option, Some, None}
use Prim.Native.Nat.{suc, zero}
use borrow.Author.Differences.{ints}
use Rattle.std.proofs.Math.Nat.{mul-pos, zero-lt-suc}
use Rattle.heyvl_num.proofs.exported.Integers.{*ℤ-one}
use Rattle.heyvl_num.specs.Rational.{Rational, ratio, zeroʳ, negʳ, ◌+ʳ◌, ◌*ʳ◌, ◌-ʳ◌, ◌≤ʳ◌}
use Rattle.heyvl_num.specs.Rounding.{whole}
use Rattle.heyvl_num.specs.Exact.{exact_quotient, exact_sum, exact_product, quotient}
use Rattle.heyvl_num.proofs.exported.Rationals.{ratio_same, ratio-+, ratio-*, zero-+ʳ, zero-*ʳ, one-*ʳ, +ʳ_assoc, +ʳ_comm, +ʳ-*ʳ, *ʳ_assoc, *ʳ_comm}
use Rattle.heyvl_num.proofs.exported.Signs.{negʳ-*ʳ, -ʳ-is, minus_at_most, at_most_minus, difference_nonnegative, times_whole, <ʳ-not}
use Rattle.heyvl_num.proofs.exported.Exactness.{exact_sum_some, exact_product_some, exact_quotient_some}
use Rattle.linear_rows.specs.Terms.{coefficient}
use Rattle.linear_rows.specs.Row.{Row}
use Rattle.linear_rows.specs.Solutions.{sum_of, IsBelowZero, MeetsAt}
use Rattle.linear_rows.specs.GreedyPoint.{IsUpFrom, IsUpTo, chosen_value}
use Rattle.linear_elim.specs.Joins.{is_below_zero, is_above_zero}
use Rattle.linear_elim.specs.ChoiceNumbers.{added, sum_without, divided_by, end_of}
use Rattle.interval_choice.proofs.exported.Wholes.{whole-zero, whole-negative, whole-one, less_from}

-- The chosen values, with a value for x.
abbrev pub placed : ℕ → Rational → List (ℕ × Rational) → ℕ → Rational
placed x v chosen u = cond (eqb u x) v (chosen_value u chosen)

pub whole-+ : (a b : ℤ) → whole a +ʳ whole b ≡ whole (a +ℤ b)
unfolding whole
whole-+ a b = ratio-+ a 1 b 1 (zero-lt-suc 0) (zero-lt-suc 0) ∙ ratio_same _ _ _ _ (zero-lt-suc 0) (zero-lt-suc 0) (rw (*ℤ-one a, *ℤ-one b) refl)

sum_none : (x : ℕ) (chosen : List (ℕ × Rational)) (ts : List (ℕ × ℤ)) (s : Rational) → sum_without x chosen ts None ≡ Some s → ⊥
unfolding sum_without
sum_none x chosen [] s e = absurd (cc)
sum_none x chosen (t ∷ ts) s e = sum_none x chosen ts s (sym (ap (sum_without x chosen ts) (same (eqb t.0 x) (exact_product (whole t.1) (chosen_value t.0 chosen)))) ∙ e)
  where
    same : (b : Bool) (p : Option Rational) → cond b None (added None p) ≡ None
    same true p = refl
    same false p = refl

here_step : (k c v a s S : Rational) → S +ʳ a ≡ (c *ʳ v) +ʳ s → ((k *ʳ v) +ʳ S) +ʳ a ≡ ((k +ʳ c) *ʳ v) +ʳ s
here_step k c v a s S e = +ʳ_assoc (k *ʳ v) S a ∙ ap (λ z. (k *ʳ v) +ʳ z) e ∙ sym (+ʳ_assoc (k *ʳ v) (c *ʳ v) s) ∙ ap (λ z. z +ʳ s) (sym (+ʳ-*ʳ k c v))

there_step : (p c v a s S q : Rational) → q ≡ a +ʳ p → S +ʳ q ≡ (c *ʳ v) +ʳ s → (p +ʳ S) +ʳ a ≡ (c *ʳ v) +ʳ s
there_step p c v a s S q e h = ap (λ z. z +ʳ a) (+ʳ_comm p S) ∙ +ʳ_assoc S p a ∙ ap (λ z. S +ʳ z) (+ʳ_comm p a ∙ sym e) ∙ h

pub sum_split : (x : ℕ) (v : Rational) (chosen : List (ℕ × Rational)) (ts : List (ℕ × ℤ)) (a s : Rational) → sum_without x chosen ts (Some a) ≡ Some s → sum_of (placed x v chosen) ts +ʳ a ≡ (whole (coefficient x ts) *ʳ v) +ʳ s
unfolding sum_without sum_of coefficient
sum_split x v chosen [] a s e = let h : a ≡ s = cc in ap (λ z. zeroʳ +ʳ z) h ∙ ap (λ z. z +ʳ s) (sym (zero-*ʳ v) ∙ ap (λ z. z *ʳ v) (sym whole-zero))
sum_split x v chosen (t ∷ ts) a s e = go (eqb t.0 x) (λ b k. sum_split x v chosen ts b s k) e
  where
    none_plus : (c : ℤ) → pos 0 +ℤ c ≡ c
    none_plus c = omega (arith, ints)

    summed : (p : Rational) (r : Option Rational) → exact_sum a p ≡ r → p ≡ whole t.1 *ʳ chosen_value t.0 chosen → ((b : Rational) → sum_without x chosen ts (Some b) ≡ Some s → sum_of (placed x v chosen) ts +ʳ b ≡ (whole (coefficient x ts) *ʳ v) +ʳ s) → sum_without x chosen ts r ≡ Some s → ((whole t.1 *ʳ chosen_value t.0 chosen) +ʳ sum_of (placed x v chosen) ts) +ʳ a ≡ (whole (coefficient x ts) *ʳ v) +ʳ s
    summed p None k m ih e = absurd (sum_none x chosen ts s e)
    summed p (Some q) k m ih e = there_step _ _ _ a s (sum_of (placed x v chosen) ts) q (exact_sum_some a p q (sym k) ∙ ap (λ z. a +ʳ z) m) (ih q e)

    product : (r : Option Rational) → exact_product (whole t.1) (chosen_value t.0 chosen) ≡ r → ((b : Rational) → sum_without x chosen ts (Some b) ≡ Some s → sum_of (placed x v chosen) ts +ʳ b ≡ (whole (coefficient x ts) *ʳ v) +ʳ s) → sum_without x chosen ts (added (Some a) r) ≡ Some s → ((whole t.1 *ʳ chosen_value t.0 chosen) +ʳ sum_of (placed x v chosen) ts) +ʳ a ≡ (whole (coefficient x ts) *ʳ v) +ʳ s
    product None k ih e = absurd (sum_none x chosen ts s e)
    product (Some p) k ih e = summed p (exact_sum a p) refl (exact_product_some _ _ p (sym k)) ih e

    go : (b : Bool) → ((b : Rational) → sum_without x chosen ts (Some b) ≡ Some s → sum_of (placed x v chosen) ts +ʳ b ≡ (whole (coefficient x ts) *ʳ v) +ʳ s) → sum_without x chosen ts (cond b (Some a) (added (Some a) (exact_product (whole t.1) (chosen_value t.0 chosen)))) ≡ Some s → ((whole t.1 *ʳ cond b v (chosen_value t.0 chosen)) +ʳ sum_of (placed x v chosen) ts) +ʳ a ≡ (whole (cond b t.1 (pos 0) +ℤ coefficient x ts) *ʳ v) +ʳ s
    go true ih e = here_step (whole t.1) (whole (coefficient x ts)) v a s (sum_of (placed x v chosen) ts) (ih a e) ∙ ap (λ z. (z *ʳ v) +ʳ s) (whole-+ t.1 (coefficient x ts))
    go false ih e = product (exact_product (whole t.1) (chosen_value t.0 chosen)) refl ih e ∙ ap (λ z. (whole z *ʳ v) +ʳ s) (sym (none_plus (coefficient x ts)))

times_part : (n : ℕ) (a : ℤ) → 0 < n → whole (pos n) *ʳ ratio a n ≡ whole a
unfolding whole
times_part n a p = ratio-* (pos n) 1 a n (zero-lt-suc 0) p ∙ ratio_same _ _ _ _ (mul-pos (zero-lt-suc 0) p) (zero-lt-suc 0) (step (pos n) a)
  where
    once : (d : ℤ) → pos 1 *ℤ d ≡ d
    once d = omega (arith, ints)

    step : (n a : ℤ) → (n *ℤ a) *ℤ pos 1 ≡ a *ℤ (pos 1 *ℤ n)
    step n a = *ℤ-one (n *ℤ a) ∙ swap n a ∙ ap (λ z. a *ℤ z) (sym (once n))
      where
        swap : (n a : ℤ) → n *ℤ a ≡ a *ℤ n
        swap n a = omega (arith, ints)

part_times : (n : ℕ) (a : ℤ) (s : Rational) → 0 < n → whole (pos n) *ʳ (s *ʳ ratio a n) ≡ whole a *ʳ s
part_times n a s p = ap (λ z. whole (pos n) *ʳ z) (*ʳ_comm s (ratio a n)) ∙ sym (*ʳ_assoc (whole (pos n)) (ratio a n) s) ∙ ap (λ z. z *ʳ s) (times_part n a p)

plus_one : (s : Rational) → whole (pos 1) *ʳ s ≡ s
plus_one s = ap (λ z. z *ʳ s) whole-one ∙ one-*ʳ s

minus_one : (s : Rational) → whole (negsuc 0) *ʳ s ≡ negʳ s
minus_one s = ap (λ z. z *ʳ s) (whole-negative 0) ∙ negʳ-*ʳ (whole (pos 1)) s ∙ ap negʳ (plus_one s)

zero_minus : (s : Rational) → zeroʳ -ʳ s ≡ negʳ s
zero_minus s = -ʳ-is zeroʳ s ∙ zero-+ʳ (negʳ s)

pub record Sided (z v p : Rational) : Type 0 where
  pub under : (z ≤ʳ zeroʳ) ↔ (v ≤ʳ p)
  pub over : (zeroʳ ≤ʳ z) ↔ (p ≤ʳ v)

upper_side : (n : ℕ) (v s p : Rational) → 0 < n → whole (pos n) *ʳ p ≡ negʳ s → Sided ((whole (pos n) *ʳ v) +ʳ s) v p
upper_side n v s p h e = record {
  under = (
    λ k. (times_whole n v p h).1 (subst (λ y. whole (pos n) *ʳ v ≤ʳ y) (zero_minus s ∙ sym e) ((at_most_minus zeroʳ s (whole (pos n) *ʳ v)).1 k)),
    λ k. (at_most_minus zeroʳ s (whole (pos n) *ʳ v)).0 (subst (λ y. whole (pos n) *ʳ v ≤ʳ y) (e ∙ sym (zero_minus s)) ((times_whole n v p h).0 k)),
  );
  over = (
    λ k. (times_whole n p v h).1 (subst (λ y. y ≤ʳ whole (pos n) *ʳ v) (zero_minus s ∙ sym e) ((minus_at_most zeroʳ s (whole (pos n) *ʳ v)).1 k)),
    λ k. (minus_at_most zeroʳ s (whole (pos n) *ʳ v)).0 (subst (λ y. y ≤ʳ whole (pos n) *ʳ v) (e ∙ sym (zero_minus s)) ((times_whole n p v h).0 k)),
  );
}

lower_side : (n : ℕ) (v s p : Rational) → 0 < n → whole (pos n) *ʳ p ≡ s → Sided (negʳ (whole (pos n) *ʳ v) +ʳ s) p v
lower_side n v s p h e = record {
  under = (
    λ k. (times_whole n p v h).1 (subst (λ y. y ≤ʳ whole (pos n) *ʳ v) (sym e) (subst (λ y. s ≤ʳ y) (zero-+ʳ (whole (pos n) *ʳ v)) ((minus_at_most s (whole (pos n) *ʳ v) zeroʳ).0 (subst (λ y. y ≤ʳ zeroʳ) (turned s (whole (pos n) *ʳ v)) k)))),
    λ k. subst (λ y. y ≤ʳ zeroʳ) (sym (turned s (whole (pos n) *ʳ v))) ((minus_at_most s (whole (pos n) *ʳ v) zeroʳ).1 (subst (λ y. s ≤ʳ y) (sym (zero-+ʳ (whole (pos n) *ʳ v))) (subst (λ y. y ≤ʳ whole (pos n) *ʳ v) e ((times_whole n p v h).0 k)))),
  );
  over = (
    λ k. (times_whole n v p h).1 (subst (λ y. whole (pos n) *ʳ v ≤ʳ y) (sym e) ((difference_nonnegative (whole (pos n) *ʳ v) s).0 (subst (λ y. zeroʳ ≤ʳ y) (turned s (whole (pos n) *ʳ v)) k))),
    λ k. subst (λ y. zeroʳ ≤ʳ y) (sym (turned s (whole (pos n) *ʳ v))) ((difference_nonnegative (whole (pos n) *ʳ v) s).1 (subst (λ y. whole (pos n) *ʳ v ≤ʳ y) e ((times_whole n v p h).0 k))),
  );
}
  where
    turned : (s y : Rational) → negʳ y +ʳ s ≡ s -ʳ y
    turned s y = +ʳ_comm (negʳ y) s ∙ sym (-ʳ-is s y)

pub up_by_side : (strict : Bool) (z v p : Rational) → Sided z v p → IsBelowZero strict z ↔ IsUpTo (record { place = p; inside = not strict }) v
up_by_side false z v p h = h.under
up_by_side true z v p h = (λ k. less_from (λ l. <ʳ-not z zeroʳ k (h.over.1 l)), λ k. less_from (λ l. <ʳ-not v p k (h.over.0 l)))

pub low_by_side : (strict : Bool) (z v p : Rational) → Sided z p v → IsBelowZero strict z ↔ IsUpFrom (record { place = p; inside = not strict }) v
low_by_side false z v p h = h.under
low_by_side true z v p h = (λ k. less_from (λ l. <ʳ-not z zeroʳ k (h.over.1 l)), λ k. less_from (λ l. <ʳ-not p v k (h.over.0 l)))

-- The parts of an end.
pub record Parts (x : ℕ) (chosen : List (ℕ × Rational)) (r : Row) (p : Rational) : Type 0 where
  pub sum : Rational
  pub summed : sum_without x chosen r.terms (Some (whole r.rest)) ≡ Some sum
  pub place : p ≡ sum *ʳ quotient (negsuc 0) (coefficient x r.terms)

pub end_parts : (x : ℕ) (chosen : List (ℕ × Rational)) (r : Row) (p : Rational) → end_of x chosen r ≡ Some p → Parts x chosen r p
unfolding end_of
end_parts x chosen r p e = go (sum_without x chosen r.terms (Some (whole r.rest))) (exact_quotient (negsuc 0) (coefficient x r.terms)) refl refl e
  where
    go : (o q : Option Rational) → sum_without x chosen r.terms (Some (whole r.rest)) ≡ o → exact_quotient (negsuc 0) (coefficient x r.terms) ≡ q → divided_by o q ≡ Some p → Parts x chosen r p
    go None q h k e = absurd (cc)
    go (Some s) None h k e = absurd (cc)
    go (Some s) (Some m) h k e = record { sum = s; summed = h; place = exact_product_some s m p (sym e) ∙ ap (λ y. s *ʳ y) (exact_quotient_some _ _ m (sym k)) }

pub upper_end : (x : ℕ) (v : Rational) (chosen : List (ℕ × Rational)) (r : Row) (p : Rational) → is_above_zero (coefficient x r.terms) ≡ true → end_of x chosen r ≡ Some p → MeetsAt (placed x v chosen) r ↔ IsUpTo (record { place = p; inside = not r.strict }) v
unfolding quotient
upper_end x v chosen r p c e = found (end_parts x chosen r p e)
  where
    side : (c : ℤ) (s : Rational) → is_above_zero c ≡ true → p ≡ s *ʳ quotient (negsuc 0) c → Sided ((whole c *ʳ v) +ʳ s) v p
    side (pos zero) s k h = absurd (cc)
    side (pos (suc n)) s k h = upper_side (suc n) v s p (zero-lt-suc n) (ap (λ y. whole (pos (suc n)) *ʳ y) h ∙ part_times (suc n) (negsuc 0) s (zero-lt-suc n) ∙ minus_one s)
    side (negsuc n) s k h = absurd (cc)

    found : Parts x chosen r p → MeetsAt (placed x v chosen) r ↔ IsUpTo (record { place = p; inside = not r.strict }) v
    found q =
        let z = sum_split x v chosen r.terms (whole r.rest) q.sum q.summed in
        let w = up_by_side r.strict ((whole (coefficient x r.terms) *ʳ v) +ʳ q.sum) v p (side (coefficient x r.terms) q.sum c q.place) in
        (λ m. w.0 (subst (IsBelowZero r.strict) z m.met), λ u. record { met = subst (IsBelowZero r.strict) (sym z) (w.1 u) })

pub lower_end : (x : ℕ) (v : Rational) (chosen : List (ℕ × Rational)) (r : Row) (p : Rational) → is_below_zero (coefficient x r.terms) ≡ true → end_of x chosen r ≡ Some p → MeetsAt (placed x v chosen) r ↔ IsUpFrom (record { place = p; inside = not r.strict }) v
unfolding quotient
lower_end x v chosen r p c e = found (end_parts x chosen r p e)
  where
    side : (c : ℤ) (s : Rational) → is_below_zero c ≡ true → p ≡ s *ʳ quotient (negsuc 0) c → Sided ((whole c *ʳ v) +ʳ s) p v
    side (pos n) s k h = absurd (cc)
    side (negsuc n) s k h = subst (λ y. Sided (y +ʳ s) p v) (sym (ap (λ y. y *ʳ v) (whole-negative n) ∙ negʳ-*ʳ (whole (pos (suc n))) v)) (lower_side (suc n) v s p (zero-lt-suc n) (ap (λ y. whole (pos (suc n)) *ʳ y) h ∙ part_times (suc n) (pos 1) s (zero-lt-suc n) ∙ plus_one s))

    found : Parts x chosen r p → MeetsAt (placed x v chosen) r ↔ IsUpFrom (record { place = p; inside = not r.strict }) v
    found q =
        let z = sum_split x v chosen r.terms (whole r.rest) q.sum q.summed in
        let w = low_by_side r.strict ((whole (coefficient x r.terms) *ʳ v) +ʳ q.sum) v p (side (coefficient x r.terms) q.sum c q.place) in
        (λ m. w.0 (subst (IsBelowZero r.strict) z m.met), λ u. record { met = subst (IsBelowZero r.strict) (sym z) (w.1 u) })
