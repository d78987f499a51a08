-- The exact comparison of fractions below 2^62, and the tighter of two ends.
use Rattle.std.proofs.Common.{◌≡◌, ℕ, ◌<◌, ◌^◌, refl, sym, ◌∙◌, ◌↔◌, subst, arith, Bool, true, false, cond, ◌&&◌, unsigned_abs}
use Rattle.std.specs.Prelude.{ℤ, pos, ◌*ℤ◌, Some}
use Rattle.std.specs.declared.cmp.Ordering.{Ordering}
use Rattle.std.specs.declared.cmp.Ordering.TheVariants.{Less, Equal, Greater}
use Rattle.std.specs.Ordering.{MatchOrdering}
use Rattle.std.proofs.lemmas.Int.{unsigned_abs-mul}
use Rattle.std.proofs.lemmas.Nat.{mul-lt}
use Rattle.heyvl_num.specs.Rational.{Rational, ◌≤ʳ◌, ◌<ʳ◌, compareʳ}
use Rattle.heyvl_num.specs.Rounding.{whole}
use Rattle.heyvl_num.specs.Exact.{is_small, quotient, quotient_fits, exact_quotient, order_fits, exact_order}
use Rattle.heyvl_num.proofs.exported.Rationals.{≤ʳ_trans}
use Rattle.heyvl_num.proofs.exported.Signs.{<ʳ-≤ʳ, <ʳ-not, compareʳ-is}
use Rattle.linear_rows.specs.Numbers.{fits}
use Rattle.linear_rows.specs.GreedyPoint.{End, IsUpFrom, IsUpTo}
use Rattle.linear_rows.proofs.exported.Narrow.{small, num_less, den_less}
use Rattle.interval_choice.proofs.Wholes.{less_from}

pub the_whole : (n : ℤ) → unsigned_abs n < 2 ^ 127 → exact_quotient n (pos 1) ≡ Some (whole n)
unfolding exact_quotient quotient_fits quotient whole
the_whole n h = let e = small n h in rw e refl

short_product : (a b : ℤ) → unsigned_abs a < 2 ^ 63 → unsigned_abs b < 2 ^ 63 → is_small (a *ℤ b) ≡ true
short_product a b p q = small (a *ℤ b) (below_more _ (rw (unsigned_abs-mul a b) (mul-lt (unsigned_abs a) (unsigned_abs b) (2 ^ 63) (2 ^ 63) p q)))
  where
    below_more : (n : ℕ) → n < 2 ^ 126 → n < 2 ^ 127
    below_more n h = omega arith

pub the_order : (x y : Rational) → unsigned_abs x.num < 2 ^ 63 → x.den < 2 ^ 63 → unsigned_abs y.num < 2 ^ 63 → y.den < 2 ^ 63 → exact_order x y ≡ Some (compareʳ x y)
unfolding exact_order order_fits
the_order x y h k l m = let e = short_product x.num (pos y.den) h m in let f = short_product y.num (pos x.den) l k in rw (e, f) refl

pub short_num : (x : Rational) → fits x ≡ true → unsigned_abs x.num < 2 ^ 63
short_num x h = more (unsigned_abs x.num) (num_less x h)
  where
    more : (n : ℕ) → n < 2 ^ 62 → n < 2 ^ 63
    more n h = omega arith

pub short_den : (x : Rational) → fits x ≡ true → x.den < 2 ^ 63
short_den x h = more x.den (den_less x h)
  where
    more : (n : ℕ) → n < 2 ^ 62 → n < 2 ^ 63
    more n h = omega arith

pub ranks_less : (x y : Rational) (o : Ordering) → o ≡ compareʳ x y → o ≡ Less → x <ʳ y
ranks_less x y o e h = subst (λ r. MatchOrdering r (x <ʳ y) (x ≡ y) (y <ʳ x)) (sym e ∙ h) (compareʳ-is x y)

pub ranks_equal : (x y : Rational) (o : Ordering) → o ≡ compareʳ x y → o ≡ Equal → x ≡ y
ranks_equal x y o e h = subst (λ r. MatchOrdering r (x <ʳ y) (x ≡ y) (y <ʳ x)) (sym e ∙ h) (compareʳ-is x y)

pub ranks_greater : (x y : Rational) (o : Ordering) → o ≡ compareʳ x y → o ≡ Greater → y <ʳ x
ranks_greater x y o e h = subst (λ r. MatchOrdering r (x <ʳ y) (x ≡ y) (y <ʳ x)) (sym e ∙ h) (compareʳ-is x y)

pub <ʳ-≤ʳ-trans : (x y z : Rational) → x <ʳ y → y ≤ʳ z → x <ʳ z
<ʳ-≤ʳ-trans x y z h k = less_from (λ l. <ʳ-not x y h (≤ʳ_trans y z x k l))

pub ≤ʳ-<ʳ-trans : (x y z : Rational) → x ≤ʳ y → y <ʳ z → x <ʳ z
≤ʳ-<ʳ-trans x y z h k = less_from (λ l. <ʳ-not y z k (≤ʳ_trans z x y l h))

pub up_from_weak : (e : End) (v : Rational) → IsUpFrom e v → e.place ≤ʳ v
up_from_weak e v h = go e.inside h
  where
    go : (b : Bool) → cond b (e.place ≤ʳ v) (e.place <ʳ v) → e.place ≤ʳ v
    go true h = h
    go false h = <ʳ-≤ʳ e.place v h

pub up_to_weak : (e : End) (v : Rational) → IsUpTo e v → v ≤ʳ e.place
up_to_weak e v h = go e.inside h
  where
    go : (b : Bool) → cond b (v ≤ʳ e.place) (v <ʳ e.place) → v ≤ʳ e.place
    go true h = h
    go false h = <ʳ-≤ʳ v e.place h

pub up_from_strong : (e : End) (v : Rational) → e.place <ʳ v → IsUpFrom e v
up_from_strong e v h = go e.inside
  where
    go : (b : Bool) → cond b (e.place ≤ʳ v) (e.place <ʳ v)
    go true = <ʳ-≤ʳ e.place v h
    go false = h

pub up_to_strong : (e : End) (v : Rational) → v <ʳ e.place → IsUpTo e v
up_to_strong e v h = go e.inside
  where
    go : (b : Bool) → cond b (v ≤ʳ e.place) (v <ʳ e.place)
    go true = <ʳ-≤ʳ v e.place h
    go false = h

pub stronger_low : (e f : End) (v : Rational) → e.place <ʳ f.place → IsUpFrom f v → IsUpFrom e v
stronger_low e f v l h = up_from_strong e v (<ʳ-≤ʳ-trans e.place f.place v l (up_from_weak f v h))

pub stronger_high : (e f : End) (v : Rational) → f.place <ʳ e.place → IsUpTo f v → IsUpTo e v
stronger_high e f v l h = up_to_strong e v (≤ʳ-<ʳ-trans v f.place e.place (up_to_weak f v h) l)

pub low_same : (s t : Bool) (p q v : Rational) → p ≡ q → cond (s && t) (p ≤ʳ v) (p <ʳ v) ↔ (cond s (p ≤ʳ v) (p <ʳ v) × cond t (q ≤ʳ v) (q <ʳ v))
low_same s t p q v e = subst (λ z. cond (s && t) (p ≤ʳ v) (p <ʳ v) ↔ (cond s (p ≤ʳ v) (p <ʳ v) × cond t (z ≤ʳ v) (z <ʳ v))) e (go s t)
  where
    go : (s t : Bool) → cond (s && t) (p ≤ʳ v) (p <ʳ v) ↔ (cond s (p ≤ʳ v) (p <ʳ v) × cond t (p ≤ʳ v) (p <ʳ v))
    go true true = (λ h. (h, h), λ k. k.0)
    go true false = (λ h. (<ʳ-≤ʳ p v h, h), λ k. k.1)
    go false true = (λ h. (h, <ʳ-≤ʳ p v h), λ k. k.0)
    go false false = (λ h. (h, h), λ k. k.0)

pub high_same : (s t : Bool) (p q v : Rational) → p ≡ q → cond (s && t) (v ≤ʳ p) (v <ʳ p) ↔ (cond s (v ≤ʳ p) (v <ʳ p) × cond t (v ≤ʳ q) (v <ʳ q))
high_same s t p q v e = subst (λ z. cond (s && t) (v ≤ʳ p) (v <ʳ p) ↔ (cond s (v ≤ʳ p) (v <ʳ p) × cond t (v ≤ʳ z) (v <ʳ z))) e (go s t)
  where
    go : (s t : Bool) → cond (s && t) (v ≤ʳ p) (v <ʳ p) ↔ (cond s (v ≤ʳ p) (v <ʳ p) × cond t (v ≤ʳ p) (v <ʳ p))
    go true true = (λ h. (h, h), λ k. k.0)
    go true false = (λ h. (<ʳ-≤ʳ v p h, h), λ k. k.1)
    go false true = (λ h. (h, <ʳ-≤ʳ v p h), λ k. k.0)
    go false false = (λ h. (h, h), λ k. k.0)
