-- The exact results of `Exact`, from the integers that the code computes.
use Rattle.std.proofs.Common.{◌≡◌, ℕ, ◌<◌, ◌*◌, ◌^◌, refl, sym, ap, ap₂, ◌∙◌, subst, arith, to_z, of_z, FitsSigned, ℤ, pos, negsuc, ◌<ℤ◌, unsigned_abs, ◌*ℤ◌, ◌+ℤ◌, ◌-ℤ◌, Bool, true, false, ◌&&◌, not}
use Rattle.std.specs.Prelude.{Some, None, IsTrue}
use Rattle.std.specs.Int.{w128}
use Rattle.std.specs.Int.Signed.{lt_z}
use Rattle.std.proofs.Math.IntN.{neg_ℤ}
use Prim.Native.Nat.{zero, suc}
use Rattle.std.specs.Ordering.{int_cmp}
use Rattle.std.specs.declared.cmp.Ordering.{Ordering}
use Rattle.std.proofs.lemmas.Int.{ints, to_z-of_z, fits_signed_from_abs}
use Rattle.heyvl_num.specs.Rational.{Rational, ratio, ◌+ʳ◌, ◌-ʳ◌, ◌*ʳ◌, compareʳ}
use Rattle.heyvl_num.specs.Value.{is_zero_num}
use Rattle.heyvl_num.specs.Exact.{is_small, quotient, quotient_fits, exact_quotient, sum_fits, exact_sum, difference_fits, exact_difference, product_fits, exact_product, order_fits, exact_order}
use Rattle.heyvl_num.proofs.Rationals.{difference_parts}

untrue : (b : Bool) → ¬ (IsTrue b) → b ≡ false
untrue true h = absurd (h refl)
untrue false h = refl

-- The code has computed `l` as the small integer `z`.
abbrev pub Made : ℤ → ℤ → Type 0
Made l z = (IsTrue (is_small z)) × (l ≡ z)

below : (z : ℤ) → IsTrue (is_small z) → unsigned_abs z < 2 ^ 127
below z h = grind arith

seen : (l z : ℤ) → Made l z → to_z w128 (of_z w128 l) ≡ z
seen l z m = rw m.1 (to_z-of_z w128 z (fits_signed_from_abs w128 z (below z m.0)))

two_first : (a b : Bool) → ¬ (IsTrue a) → (a && b) ≡ false
two_first a b h = let e = untrue a h in grind (arith, e)

two_second : (a b : Bool) → ¬ (IsTrue b) → (a && b) ≡ false
two_second a b h = let e = untrue b h in grind (arith, e)

two : (a b : Bool) → IsTrue a → IsTrue b → (a && b) ≡ true
two a b h k = rw (h, k)

four_first : (a b c d : Bool) → ¬ (IsTrue a) → (a && b && c && d) ≡ false
four_first a b c d h = let e = untrue a h in grind (arith, e)

four_second : (a b c d : Bool) → ¬ (IsTrue b) → (a && b && c && d) ≡ false
four_second a b c d h = let e = untrue b h in grind (arith, e)

four_third : (a b c d : Bool) → ¬ (IsTrue c) → (a && b && c && d) ≡ false
four_third a b c d h = let e = untrue c h in grind (arith, e)

four_fourth : (a b c d : Bool) → ¬ (IsTrue d) → (a && b && c && d) ≡ false
four_fourth a b c d h = let e = untrue d h in grind (arith, e)

four : (a b c d : Bool) → IsTrue a → IsTrue b → IsTrue c → IsTrue d → (a && b && c && d) ≡ true
four a b c d h k l m = rw (h, k, l, m)

-- ---- Sums: for x = a/b and y = c/d

sum_refused : (x y : Rational) → sum_fits x y ≡ false → exact_sum x y ≡ None
unfolding exact_sum
sum_refused x y e = rw e

pub sum_refuses_left : (x y : Rational) → ¬ (IsTrue (is_small (x.num *ℤ pos y.den))) → exact_sum x y ≡ None
unfolding sum_fits
sum_refuses_left x y h = sum_refused x y (four_first (is_small (x.num *ℤ pos y.den)) (is_small (y.num *ℤ pos x.den)) (is_small (pos x.den *ℤ pos y.den)) (is_small (x.num *ℤ pos y.den +ℤ y.num *ℤ pos x.den)) h)

pub sum_refuses_right : (x y : Rational) → ¬ (IsTrue (is_small (y.num *ℤ pos x.den))) → exact_sum x y ≡ None
unfolding sum_fits
sum_refuses_right x y h = sum_refused x y (four_second (is_small (x.num *ℤ pos y.den)) (is_small (y.num *ℤ pos x.den)) (is_small (pos x.den *ℤ pos y.den)) (is_small (x.num *ℤ pos y.den +ℤ y.num *ℤ pos x.den)) h)

pub sum_refuses_den : (x y : Rational) → ¬ (IsTrue (is_small (pos x.den *ℤ pos y.den))) → exact_sum x y ≡ None
unfolding sum_fits
sum_refuses_den x y h = sum_refused x y (four_third (is_small (x.num *ℤ pos y.den)) (is_small (y.num *ℤ pos x.den)) (is_small (pos x.den *ℤ pos y.den)) (is_small (x.num *ℤ pos y.den +ℤ y.num *ℤ pos x.den)) h)

pub sum_refuses_num : (x y : Rational) (l r : ℤ) → Made l (x.num *ℤ pos y.den) → Made r (y.num *ℤ pos x.den) → ¬ (IsTrue (is_small (to_z w128 (of_z w128 l) +ℤ to_z w128 (of_z w128 r)))) → exact_sum x y ≡ None
unfolding sum_fits
sum_refuses_num x y l r p q h =
    let k : ¬ (IsTrue (is_small (x.num *ℤ pos y.den +ℤ y.num *ℤ pos x.den))) = subst (λ (z : ℤ). ¬ (IsTrue (is_small z))) (ap₂ (λ (u v : ℤ). u +ℤ v) (seen l _ p) (seen r _ q)) h in
    sum_refused x y (four_fourth (is_small (x.num *ℤ pos y.den)) (is_small (y.num *ℤ pos x.den)) (is_small (pos x.den *ℤ pos y.den)) (is_small (x.num *ℤ pos y.den +ℤ y.num *ℤ pos x.den)) k)

sum_given : (x y : Rational) → sum_fits x y ≡ true → exact_sum x y ≡ Some (x +ʳ y)
unfolding exact_sum
sum_given x y e = rw e

fraction_seen : (n d a : ℤ) (b : ℕ) → Made n a → Made d (pos b) → ratio (to_z w128 (of_z w128 n)) (unsigned_abs (to_z w128 (of_z w128 d))) ≡ ratio a b
fraction_seen n d a b p q = ap₂ (λ (u v : ℤ). ratio u (unsigned_abs v)) (seen n a p) (seen d (pos b) q)

pub sum_made : (x y r : Rational) (left right den num : ℤ) → Made left (x.num *ℤ pos y.den) → Made right (y.num *ℤ pos x.den) → Made den (pos x.den *ℤ pos y.den) → Made num (to_z w128 (of_z w128 left) +ℤ to_z w128 (of_z w128 right)) → r ≡ ratio (to_z w128 (of_z w128 num)) (unsigned_abs (to_z w128 (of_z w128 den))) → Some r ≡ exact_sum x y
unfolding sum_fits ◌+ʳ◌
sum_made x y r left right den num p q d n e =
    let s : to_z w128 (of_z w128 left) +ℤ to_z w128 (of_z w128 right) ≡ x.num *ℤ pos y.den +ℤ y.num *ℤ pos x.den = ap₂ (λ (u v : ℤ). u +ℤ v) (seen left _ p) (seen right _ q) in
    let m : Made num (x.num *ℤ pos y.den +ℤ y.num *ℤ pos x.den) = subst (λ (z : ℤ). Made num z) s n in
    ap Some (e ∙ fraction_seen num den _ (x.den * y.den) m d) ∙ sym (sum_given x y (four (is_small (x.num *ℤ pos y.den)) (is_small (y.num *ℤ pos x.den)) (is_small (pos x.den *ℤ pos y.den)) (is_small (x.num *ℤ pos y.den +ℤ y.num *ℤ pos x.den)) p.0 q.0 d.0 m.0))

-- ---- Differences: for x = a/b and y = c/d

difference_refused : (x y : Rational) → difference_fits x y ≡ false → exact_difference x y ≡ None
unfolding exact_difference
difference_refused x y e = rw e

pub difference_refuses_left : (x y : Rational) → ¬ (IsTrue (is_small (x.num *ℤ pos y.den))) → exact_difference x y ≡ None
unfolding difference_fits
difference_refuses_left x y h = difference_refused x y (four_first (is_small (x.num *ℤ pos y.den)) (is_small (y.num *ℤ pos x.den)) (is_small (pos x.den *ℤ pos y.den)) (is_small (x.num *ℤ pos y.den -ℤ y.num *ℤ pos x.den)) h)

pub difference_refuses_right : (x y : Rational) → ¬ (IsTrue (is_small (y.num *ℤ pos x.den))) → exact_difference x y ≡ None
unfolding difference_fits
difference_refuses_right x y h = difference_refused x y (four_second (is_small (x.num *ℤ pos y.den)) (is_small (y.num *ℤ pos x.den)) (is_small (pos x.den *ℤ pos y.den)) (is_small (x.num *ℤ pos y.den -ℤ y.num *ℤ pos x.den)) h)

pub difference_refuses_den : (x y : Rational) → ¬ (IsTrue (is_small (pos x.den *ℤ pos y.den))) → exact_difference x y ≡ None
unfolding difference_fits
difference_refuses_den x y h = difference_refused x y (four_third (is_small (x.num *ℤ pos y.den)) (is_small (y.num *ℤ pos x.den)) (is_small (pos x.den *ℤ pos y.den)) (is_small (x.num *ℤ pos y.den -ℤ y.num *ℤ pos x.den)) h)

pub difference_refuses_num : (x y : Rational) (l r : ℤ) → Made l (x.num *ℤ pos y.den) → Made r (y.num *ℤ pos x.den) → ¬ (IsTrue (is_small (to_z w128 (of_z w128 l) -ℤ to_z w128 (of_z w128 r)))) → exact_difference x y ≡ None
unfolding difference_fits
difference_refuses_num x y l r p q h =
    let k : ¬ (IsTrue (is_small (x.num *ℤ pos y.den -ℤ y.num *ℤ pos x.den))) = subst (λ (z : ℤ). ¬ (IsTrue (is_small z))) (ap₂ (λ (u v : ℤ). u -ℤ v) (seen l _ p) (seen r _ q)) h in
    difference_refused x y (four_fourth (is_small (x.num *ℤ pos y.den)) (is_small (y.num *ℤ pos x.den)) (is_small (pos x.den *ℤ pos y.den)) (is_small (x.num *ℤ pos y.den -ℤ y.num *ℤ pos x.den)) k)

difference_given : (x y : Rational) → difference_fits x y ≡ true → exact_difference x y ≡ Some (x -ʳ y)
unfolding exact_difference
difference_given x y e = rw e

pub difference_made : (x y r : Rational) (left right den num : ℤ) → Made left (x.num *ℤ pos y.den) → Made right (y.num *ℤ pos x.den) → Made den (pos x.den *ℤ pos y.den) → Made num (to_z w128 (of_z w128 left) -ℤ to_z w128 (of_z w128 right)) → r ≡ ratio (to_z w128 (of_z w128 num)) (unsigned_abs (to_z w128 (of_z w128 den))) → Some r ≡ exact_difference x y
unfolding difference_fits
difference_made x y r left right den num p q d n e =
    let s : to_z w128 (of_z w128 left) -ℤ to_z w128 (of_z w128 right) ≡ x.num *ℤ pos y.den -ℤ y.num *ℤ pos x.den = ap₂ (λ (u v : ℤ). u -ℤ v) (seen left _ p) (seen right _ q) in
    let m : Made num (x.num *ℤ pos y.den -ℤ y.num *ℤ pos x.den) = subst (λ (z : ℤ). Made num z) s n in
    ap Some (e ∙ fraction_seen num den _ (x.den * y.den) m d ∙ sym (difference_parts x y)) ∙ sym (difference_given x y (four (is_small (x.num *ℤ pos y.den)) (is_small (y.num *ℤ pos x.den)) (is_small (pos x.den *ℤ pos y.den)) (is_small (x.num *ℤ pos y.den -ℤ y.num *ℤ pos x.den)) p.0 q.0 d.0 m.0))

-- ---- Products

product_refused : (x y : Rational) → product_fits x y ≡ false → exact_product x y ≡ None
unfolding exact_product
product_refused x y e = rw e

pub product_refuses_num : (x y : Rational) → ¬ (IsTrue (is_small (x.num *ℤ y.num))) → exact_product x y ≡ None
unfolding product_fits
product_refuses_num x y h = product_refused x y (two_first (is_small (x.num *ℤ y.num)) (is_small (pos x.den *ℤ pos y.den)) h)

pub product_refuses_den : (x y : Rational) → ¬ (IsTrue (is_small (pos x.den *ℤ pos y.den))) → exact_product x y ≡ None
unfolding product_fits
product_refuses_den x y h = product_refused x y (two_second (is_small (x.num *ℤ y.num)) (is_small (pos x.den *ℤ pos y.den)) h)

product_given : (x y : Rational) → product_fits x y ≡ true → exact_product x y ≡ Some (x *ʳ y)
unfolding exact_product
product_given x y e = rw e

pub product_made : (x y r : Rational) (num den : ℤ) → Made num (x.num *ℤ y.num) → Made den (pos x.den *ℤ pos y.den) → r ≡ ratio (to_z w128 (of_z w128 num)) (unsigned_abs (to_z w128 (of_z w128 den))) → Some r ≡ exact_product x y
unfolding product_fits ◌*ʳ◌
product_made x y r num den n d e = ap Some (e ∙ fraction_seen num den _ (x.den * y.den) n d) ∙ sym (product_given x y (two (is_small (x.num *ℤ y.num)) (is_small (pos x.den *ℤ pos y.den)) n.0 d.0))

-- ---- Orders

order_refused : (x y : Rational) → order_fits x y ≡ false → exact_order x y ≡ None
unfolding exact_order
order_refused x y e = rw e

pub order_refuses_left : (x y : Rational) → ¬ (IsTrue (is_small (x.num *ℤ pos y.den))) → exact_order x y ≡ None
unfolding order_fits
order_refuses_left x y h = order_refused x y (two_first (is_small (x.num *ℤ pos y.den)) (is_small (y.num *ℤ pos x.den)) h)

pub order_refuses_right : (x y : Rational) → ¬ (IsTrue (is_small (y.num *ℤ pos x.den))) → exact_order x y ≡ None
unfolding order_fits
order_refuses_right x y h = order_refused x y (two_second (is_small (x.num *ℤ pos y.den)) (is_small (y.num *ℤ pos x.den)) h)

order_given : (x y : Rational) → order_fits x y ≡ true → exact_order x y ≡ Some (compareʳ x y)
unfolding exact_order
order_given x y e = rw e

pub order_made : (x y : Rational) (o : Ordering) (left right : ℤ) → Made left (x.num *ℤ pos y.den) → Made right (y.num *ℤ pos x.den) → o ≡ int_cmp (to_z w128 (of_z w128 left)) (to_z w128 (of_z w128 right)) → Some o ≡ exact_order x y
unfolding order_fits compareʳ
order_made x y o left right p q e = ap Some (e ∙ ap₂ int_cmp (seen left _ p) (seen right _ q)) ∙ sym (order_given x y (two (is_small (x.num *ℤ pos y.den)) (is_small (y.num *ℤ pos x.den)) p.0 q.0))

-- ---- Quotients

two_parts : (a b : Bool) → (a && b) ≡ true → IsTrue a × IsTrue b
two_parts true b h = (refl, h)
two_parts false b h = absurd (cc)

nonzero : (b : ℤ) → not (is_zero_num b) ≡ true → b ≡ pos 0 → ⊥
nonzero (pos zero) h e = absurd (cc)
nonzero (pos (suc n)) h e = absurd (omega (arith, ints))
nonzero (negsuc n) h e = absurd (omega (arith, ints))

-- What holds of the arguments of a quotient that fits.
pub record Given (a b : ℤ) : Type 0 where
  pub num : unsigned_abs a < 2 ^ 127
  pub den : unsigned_abs b < 2 ^ 127
  pub nonzero : b ≡ pos 0 → ⊥
  pub fits : quotient_fits a b ≡ true
  pub num_seen : to_z w128 (of_z w128 a) ≡ a
  pub den_seen : to_z w128 (of_z w128 b) ≡ b

pub given : (a b : ℤ) (r : Bool) → FitsSigned w128 a → FitsSigned w128 b → r ≡ quotient_fits (to_z w128 (of_z w128 a)) (to_z w128 (of_z w128 b)) → r ≡ true → Given a b
unfolding quotient_fits
given a b r f g e t =
    let p = to_z-of_z w128 a f in
    let q = to_z-of_z w128 b g in
    let k : quotient_fits a b ≡ true = subst (λ (u : ℤ). quotient_fits u b ≡ true) p (subst (λ (v : ℤ). quotient_fits (to_z w128 (of_z w128 a)) v ≡ true) q (sym e ∙ t)) in
    let h = two_parts (not (is_zero_num b) && is_small a) (is_small b) k in
    let s = two_parts (not (is_zero_num b)) (is_small a) h.0 in
    record { num = below a s.1; den = below b h.1; nonzero = nonzero b s.0; fits = k; num_seen = p; den_seen = q }

pub quotient_refused : (a b : ℤ) (r : Bool) → FitsSigned w128 a → FitsSigned w128 b → r ≡ quotient_fits (to_z w128 (of_z w128 a)) (to_z w128 (of_z w128 b)) → r ≡ false → exact_quotient a b ≡ None
unfolding exact_quotient
quotient_refused a b r f g e t =
    let k : quotient_fits a b ≡ false = subst (λ (u : ℤ). quotient_fits u b ≡ false) (to_z-of_z w128 a f) (subst (λ (v : ℤ). quotient_fits (to_z w128 (of_z w128 a)) v ≡ false) (to_z-of_z w128 b g) (sym e ∙ t)) in
    rw k

quotient_given : (a b : ℤ) → quotient_fits a b ≡ true → exact_quotient a b ≡ Some (quotient a b)
unfolding exact_quotient
quotient_given a b e = rw e

quotient_positive : (a b : ℤ) → lt_z b (pos 0) ≡ false → quotient a b ≡ ratio a (unsigned_abs b)
unfolding quotient
quotient_positive a (pos b) h = refl
quotient_positive a (negsuc b) h = absurd (cc)

quotient_negative : (a b : ℤ) → lt_z b (pos 0) ≡ true → quotient a b ≡ ratio (neg_ℤ a) (unsigned_abs b)
unfolding quotient
quotient_negative a (pos b) h = absurd (grind (arith, ints))
quotient_negative a (negsuc b) h = refl

pub positive_den : (a b : ℤ) → Given a b → lt_z (to_z w128 (of_z w128 b)) (pos 0) ≡ false → pos 0 <ℤ to_z w128 (of_z w128 b)
positive_den a b g h = rw g.den_seen (positive b g.nonzero (rw g.den_seen at h))
  where
    positive : (b : ℤ) → (b ≡ pos 0 → ⊥) → lt_z b (pos 0) ≡ false → pos 0 <ℤ b
    positive (pos zero) n h = absurd (n refl)
    positive (pos (suc b)) n h = omega (arith, ints)
    positive (negsuc b) n h = absurd (cc)

negated : (a : ℤ) → pos 0 -ℤ a ≡ neg_ℤ a
negated a = omega (arith, ints)

neg_small : (a : ℤ) → unsigned_abs a < 2 ^ 127 → unsigned_abs (neg_ℤ a) < 2 ^ 127
neg_small a h = omega (arith, ints)

negated_seen : (a : ℤ) → unsigned_abs a < 2 ^ 127 → to_z w128 (of_z w128 a) ≡ a → to_z w128 (of_z w128 (pos 0 -ℤ to_z w128 (of_z w128 a))) ≡ neg_ℤ a
negated_seen a h e = rw (e, negated a) (to_z-of_z w128 (neg_ℤ a) (fits_signed_from_abs w128 (neg_ℤ a) (neg_small a h)))

pub negated_fits : (a : ℤ) → unsigned_abs a < 2 ^ 127 → to_z w128 (of_z w128 a) ≡ a → FitsSigned w128 (pos 0 -ℤ to_z w128 (of_z w128 a))
negated_fits a h e = rw (e, negated a) (fits_signed_from_abs w128 (neg_ℤ a) (neg_small a h))

pub negated_small : (a : ℤ) → unsigned_abs a < 2 ^ 127 → to_z w128 (of_z w128 a) ≡ a → unsigned_abs (to_z w128 (of_z w128 (pos 0 -ℤ to_z w128 (of_z w128 a)))) < 2 ^ 127
negated_small a h e = rw (negated_seen a h e) (neg_small a h)

pub negative_den : (a b : ℤ) → Given a b → lt_z (to_z w128 (of_z w128 b)) (pos 0) ≡ true → pos 0 <ℤ to_z w128 (of_z w128 (pos 0 -ℤ to_z w128 (of_z w128 b)))
negative_den a b g h = rw (negated_seen b g.den g.den_seen) (positive b (rw g.den_seen at h))
  where
    positive : (b : ℤ) → lt_z b (pos 0) ≡ true → pos 0 <ℤ neg_ℤ b
    positive (pos b) h = absurd (grind (arith, ints))
    positive (negsuc b) h = omega (arith, ints)

pub quotient_made : (a b : ℤ) (r : Rational) → Given a b → lt_z (to_z w128 (of_z w128 b)) (pos 0) ≡ false → r ≡ ratio (to_z w128 (of_z w128 a)) (unsigned_abs (to_z w128 (of_z w128 b))) → Some r ≡ exact_quotient a b
quotient_made a b r g h e = ap Some (e ∙ ap₂ (λ (u v : ℤ). ratio u (unsigned_abs v)) g.num_seen g.den_seen ∙ sym (quotient_positive a b (rw g.den_seen at h))) ∙ sym (quotient_given a b g.fits)

pub quotient_turned : (a b : ℤ) (r : Rational) → Given a b → lt_z (to_z w128 (of_z w128 b)) (pos 0) ≡ true → r ≡ ratio (to_z w128 (of_z w128 (pos 0 -ℤ to_z w128 (of_z w128 a)))) (unsigned_abs (to_z w128 (of_z w128 (pos 0 -ℤ to_z w128 (of_z w128 b))))) → Some r ≡ exact_quotient a b
quotient_turned a b r g h e = ap Some (e ∙ ap₂ (λ (u v : ℤ). ratio u (unsigned_abs v)) (negated_seen a g.num g.num_seen) (negated_seen b g.den g.den_seen) ∙ ap (ratio (neg_ℤ a)) (neg_abs b) ∙ sym (quotient_negative a b (rw g.den_seen at h))) ∙ sym (quotient_given a b g.fits)
  where
    neg_abs : (b : ℤ) → unsigned_abs (neg_ℤ b) ≡ unsigned_abs b
    neg_abs b = omega (arith, ints)
