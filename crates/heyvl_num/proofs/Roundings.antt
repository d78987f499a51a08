-- The floor and the ceiling are the nearest integers.
use Rattle.std.proofs.Common.{◌≡◌, ℕ, ◌<◌, ◌≤◌, ◌^◌, subst, sym, ap, ap₂, ◌∙◌, arith, to_z, of_z, FitsSigned, unsigned_abs}
use Rattle.std.specs.Prelude.{◌≤ℤ◌, ◌<ℤ◌}
use Rattle.std.specs.Int.{int_div_euclid, w128}
use Rattle.std.proofs.Math.Nat.{div-le_self}
use Rattle.std.proofs.Math.IntN.{ℤ, pos, negsuc, ◌+ℤ◌, ◌-ℤ◌, ◌*ℤ◌, neg_ℤ}
use Rattle.std.proofs.lemmas.Int.{by_lt_z, to_z-of_z, fits_signed_from_abs}
use borrow.Author.Differences.{ints}
use Rattle.heyvl_num.specs.Rational.{Rational, ratio, ◌≤ʳ◌}
use Rattle.heyvl_num.specs.Rounding.{whole, floorʳ, ceilʳ, IsFloor, IsCeiling}
use Rattle.heyvl_num.proofs.Integers.{≤ℤ-scale, *ℤ-one, one-*ℤ, +ℤ-*ℤ, neg-*ℤ}
use Rattle.heyvl_num.proofs.Rationals.{ratio_parts, ratio-≤, ratio-≤_out}

floor_below : (a : ℤ) (b : ℕ) → 0 < b → (int_div_euclid a (pos b) *ℤ pos b) ≤ℤ a
floor_below (pos a) b p = omega (arith, ints)
floor_below (negsuc a) b p = omega (arith, ints)

next_times : (q : ℤ) (b : ℕ) → (q +ℤ pos 1) *ℤ pos b ≡ q *ℤ pos b +ℤ pos b
next_times q b = rw (+ℤ-*ℤ q (pos 1) (pos b), one-*ℤ (pos b))

floor_above : (a : ℤ) (b : ℕ) → 0 < b → a <ℤ ((int_div_euclid a (pos b) +ℤ pos 1) *ℤ pos b)
floor_above (pos a) b p = omega (arith, ints)
floor_above (negsuc a) b p = subst (λ (z : ℤ). negsuc a <ℤ z) (sym (next_times (int_div_euclid (negsuc a) (pos b)) b)) (omega (arith, ints))

whole_below : (n : ℤ) (x : Rational) → (n *ℤ pos x.den) ≤ℤ x.num → whole n ≤ʳ x
unfolding whole
whole_below n x h = subst (λ y. ratio n 1 ≤ʳ y) (ratio_parts x) (ratio-≤ n 1 x.num x.den (omega arith) x.positive (rw (*ℤ-one x.num) h))

below_whole : (n : ℤ) (x : Rational) → whole n ≤ʳ x → (n *ℤ pos x.den) ≤ℤ x.num
unfolding whole
below_whole n x h = rw (*ℤ-one x.num) at (ratio-≤_out n 1 x.num x.den (omega arith) x.positive (subst (λ y. ratio n 1 ≤ʳ y) (sym (ratio_parts x)) h))

whole_above : (n : ℤ) (x : Rational) → x.num ≤ℤ (n *ℤ pos x.den) → x ≤ʳ whole n
unfolding whole
whole_above n x h = subst (λ y. y ≤ʳ ratio n 1) (ratio_parts x) (ratio-≤ x.num x.den n 1 x.positive (omega arith) (rw (*ℤ-one x.num) h))

above_whole : (n : ℤ) (x : Rational) → x ≤ʳ whole n → x.num ≤ℤ (n *ℤ pos x.den)
unfolding whole
above_whole n x h = rw (*ℤ-one x.num) at (ratio-≤_out x.num x.den n 1 x.positive (omega arith) (subst (λ y. y ≤ʳ ratio n 1) (sym (ratio_parts x)) h))

-- An integer whose multiple is at most `a` is at most `n`, if the multiple of `n` + 1 is above `a`.
below_next : (m n a : ℤ) (b : ℕ) → (m *ℤ pos b) ≤ℤ a → a <ℤ ((n +ℤ pos 1) *ℤ pos b) → m ≤ℤ n
below_next m n a b h k = by_lt_z n m (λ l. absurd (let s : ((n +ℤ pos 1) *ℤ pos b) ≤ℤ (m *ℤ pos b) = ≤ℤ-scale (n +ℤ pos 1) m b (omega (arith, ints)) in omega (arith, ints))) (λ l. l)

pub floor-is : (x : Rational) → IsFloor x (floorʳ x)
unfolding floorʳ
floor-is x = record {
  at_most = whole_below _ x (floor_below x.num x.den x.positive);
  greatest = λ m h. below_next m (int_div_euclid x.num (pos x.den)) x.num x.den (below_whole m x h) (floor_above x.num x.den x.positive);
}

neg_above : (a f : ℤ) (b : ℕ) → (f *ℤ pos b) ≤ℤ neg_ℤ a → a ≤ℤ (neg_ℤ f *ℤ pos b)
neg_above a f b h = rw (neg-*ℤ f (pos b)) (omega (arith, ints))

neg_least : (a f m : ℤ) (b : ℕ) → neg_ℤ a <ℤ ((f +ℤ pos 1) *ℤ pos b) → a ≤ℤ (m *ℤ pos b) → neg_ℤ f ≤ℤ m
neg_least a f m b h k = let l : neg_ℤ m ≤ℤ f = below_next (neg_ℤ m) f (neg_ℤ a) b (rw (neg-*ℤ m (pos b)) (omega (arith, ints))) h in omega (arith, ints)

pub ceil-is : (x : Rational) → IsCeiling x (ceilʳ x)
unfolding ceilʳ
ceil-is x = record {
  at_least = whole_above _ x (neg_above x.num _ x.den (floor_below (neg_ℤ x.num) x.den x.positive));
  least = λ m h. neg_least x.num (int_div_euclid (neg_ℤ x.num) (pos x.den)) m x.den (floor_above (neg_ℤ x.num) x.den x.positive) (above_whole m x h);
}

-- ---- What the code computes

pub floor_made : (x : Rational) (n d r : ℤ) → n ≡ x.num → d ≡ pos x.den → FitsSigned w128 n → FitsSigned w128 d → FitsSigned w128 r → r ≡ int_div_euclid (to_z w128 (of_z w128 n)) (to_z w128 (of_z w128 d)) → to_z w128 (of_z w128 r) ≡ floorʳ x
unfolding floorʳ
floor_made x n d r e f g h k l = to_z-of_z w128 r k ∙ l ∙ ap₂ int_div_euclid (to_z-of_z w128 n g ∙ e) (to_z-of_z w128 d h ∙ f)

quotient_small : (a : ℤ) (b : ℕ) → 0 < b → unsigned_abs (int_div_euclid a (pos b)) ≤ unsigned_abs a
quotient_small (pos a) b p = div-le_self a b
quotient_small (negsuc a) b p = omega (arith, div-le_self a b)

negated : (a : ℤ) → pos 0 -ℤ a ≡ neg_ℤ a
negated a = omega (arith, ints)

pub neg_small : (a : ℤ) → unsigned_abs a < 2 ^ 127 → unsigned_abs (neg_ℤ a) < 2 ^ 127
neg_small a h = omega (arith, ints)

-- The code's negation of an integer other than the least one.
pub record Turned (n : ℤ) : Type 0 where
  pub fits : FitsSigned w128 (pos 0 -ℤ to_z w128 (of_z w128 n))
  pub is : to_z w128 (of_z w128 (pos 0 -ℤ to_z w128 (of_z w128 n))) ≡ neg_ℤ n

pub turned : (n : ℤ) → unsigned_abs n < 2 ^ 127 → Turned n
turned n h =
    let f = fits_signed_from_abs w128 n h in
    let g : FitsSigned w128 (neg_ℤ n) = fits_signed_from_abs w128 (neg_ℤ n) (neg_small n h) in
    let e = to_z-of_z w128 n f in
    record { fits = rw (e, negated n) g; is = rw (e, negated n) (to_z-of_z w128 (neg_ℤ n) g) }

pub record Ceiled (x : Rational) (q : ℤ) : Type 0 where
  pub small : unsigned_abs q < 2 ^ 127
  pub is : neg_ℤ q ≡ ceilʳ x

pub ceil_made : (x : Rational) (n d q : ℤ) → n ≡ neg_ℤ x.num → unsigned_abs n < 2 ^ 127 → d ≡ pos x.den → FitsSigned w128 d → q ≡ int_div_euclid (to_z w128 (of_z w128 n)) (to_z w128 (of_z w128 d)) → Ceiled x q
unfolding ceilʳ
ceil_made x n d q e s f g l =
    let m : q ≡ int_div_euclid n (pos x.den) = l ∙ ap₂ int_div_euclid (to_z-of_z w128 n (fits_signed_from_abs w128 n s)) (to_z-of_z w128 d g ∙ f) in
    record {
      small = subst (λ (z : ℤ). unsigned_abs z < 2 ^ 127) (sym m) (omega (arith, quotient_small n x.den x.positive));
      is = ap neg_ℤ (m ∙ ap (λ (z : ℤ). int_div_euclid z (pos x.den)) e);
    }
