-- Rows and multipliers in lowest terms.
use Rattle.std.proofs.Common.{◌≡◌, ℕ, ◌*◌, ◌/◌, ◌<◌, List, [], ◌∷◌, map, refl, ap, ap₂, ◌∙◌, arith}
use Rattle.std.specs.Prelude.{ℤ, pos, negsuc, ◌+ℤ◌, ◌*ℤ◌}
use Rattle.std.proofs.Math.IntN.{neg_ℤ, *ℤ-zero}
use Rattle.std.specs.Int.RustNames.{unsigned_abs, int_div}
use Prim.Native.Nat.{zero, suc, ◌∣◌}
use Rattle.std.proofs.Math.Nat.{div-mul_cancel, zero-lt-suc, one-dvd}
use Rattle.std.proofs.lemmas.Nat.Gcd.{dvd_refl, dvd_trans}
use Rattle.std.specs.List.{All}
use Rattle.std.proofs.lemmas.List.Elements.{All-nil, All-cons, All-head, All-tail, All-weaker}
use Rattle.heyvl_num.proofs.exported.Integers.{ring, *ℤ-neg}
use Rattle.heyvl_num.specs.Gcd.{gcd}
use Rattle.heyvl_num.specs.GcdLaws.{gcd-is}
use Rattle.linear_rows.specs.Terms.{sum_at}
use Rattle.linear_rows.specs.Row.{Row}
use Rattle.linear_rows.specs.Points.{Point, left_side}
use Rattle.linear_rows.proofs.exported.Sums.{sum_at-nil, sum_at-cons}
use Rattle.linear_rows.specs.Divisors.{common, or_one}
use Rattle.linear_elim.specs.Joins.{row_divisor, lowest}

-- The first row times `g` is the second.
pub record IsTimes (g : ℕ) (r s : Row) : Type 0 where
  pub positive : 0 < g
  pub sums : (f : ℕ → ℤ) → pos g *ℤ sum_at f r.terms ≡ sum_at f s.terms
  pub rest : pos g *ℤ r.rest ≡ s.rest
  pub strict : r.strict ≡ s.strict

unfoldable pub DividesAll : ℕ → List (ℕ × ℤ) → ℕ → Type 0
DividesAll g ts n = All (λ t. g ∣ unsigned_abs t.1) ts × (g ∣ n)

pub common-divides : (ts : List (ℕ × ℤ)) (n : ℕ) → DividesAll (common ts n) ts n
unfolding common DividesAll
common-divides [] n = (All-nil _, dvd_refl n)
common-divides (t ∷ ts) n =
    let g = gcd-is (unsigned_abs t.1) (common ts n) in
    let k = common-divides ts n in
    let c : ℕ = gcd (unsigned_abs t.1) (common ts n) in
    (All-cons (λ u. c ∣ unsigned_abs u.1) t ts g.0 (All-weaker (λ u. common ts n ∣ unsigned_abs u.1) (λ u. c ∣ unsigned_abs u.1) (λ u d. dvd_trans c g.1 d) ts k.0), dvd_trans c g.1 k.1)

pub or_one-divides : (ts : List (ℕ × ℤ)) (n g : ℕ) → DividesAll g ts n → DividesAll (or_one g) ts n
unfolding DividesAll
or_one-divides ts n zero h = (All-weaker (λ t. zero ∣ unsigned_abs t.1) (λ t. 1 ∣ unsigned_abs t.1) (λ t d. one-dvd (unsigned_abs t.1)) ts h.0, one-dvd n)
or_one-divides ts n (suc g) h = h

pub or_one-positive : (g : ℕ) → 0 < or_one g
or_one-positive zero = zero-lt-suc 0
or_one-positive (suc g) = zero-lt-suc g

pub times_back : (g n : ℕ) → g ∣ n → g * (n / g) ≡ n
times_back g n d = let e = div-mul_cancel g d in omega (arith, e)

pub times_quotient : (g : ℕ) (c : ℤ) → g ∣ unsigned_abs c → pos g *ℤ int_div c (pos g) ≡ c
times_quotient g (pos n) d = ap pos (times_back g n d)
times_quotient g (negsuc n) d = *ℤ-neg (pos g) (pos (suc n / g)) ∙ ap (λ x. neg_ℤ (pos x)) (times_back g (suc n) d)

quotient_step : (g a c x s u : ℤ) → g *ℤ a ≡ c → g *ℤ s ≡ u → g *ℤ ((a *ℤ x) +ℤ s) ≡ (c *ℤ x) +ℤ u
quotient_step g a c x s u e k = rw (← e, ← k) (simp ring)

pub sum_at-divided : (f : ℕ → ℤ) (g : ℕ) (ts : List (ℕ × ℤ)) → All (λ t. g ∣ unsigned_abs t.1) ts → pos g *ℤ sum_at f (map (λ t. (t.0, int_div t.1 (pos g))) ts) ≡ sum_at f ts
sum_at-divided f g [] h = rw (sum_at-nil f) (*ℤ-zero (pos g))
sum_at-divided f g (t ∷ ts) h = rw (sum_at-cons f (t.0, int_div t.1 (pos g)) (map (λ t. (t.0, int_div t.1 (pos g))) ts), sum_at-cons f t ts) (quotient_step (pos g) (int_div t.1 (pos g)) t.1 (f t.0) _ _ (times_quotient g t.1 (All-head (λ t. g ∣ unsigned_abs t.1) t ts h)) (sum_at-divided f g ts (All-tail (λ t. g ∣ unsigned_abs t.1) t ts h)))

pub lowest-is : (r : Row) → IsTimes (row_divisor r) (lowest r) r
unfolding lowest DividesAll
lowest-is r =
    let d = or_one-divides r.terms (unsigned_abs r.rest) (common r.terms (unsigned_abs r.rest)) (common-divides r.terms (unsigned_abs r.rest)) in
    record {
      positive = or_one-positive (common r.terms (unsigned_abs r.rest));
      sums = λ f. sum_at-divided f (row_divisor r) r.terms d.0;
      rest = times_quotient (row_divisor r) r.rest d.1;
      strict = refl;
    }

times_step : (g s t r b : ℤ) → g *ℤ (s +ℤ (r *ℤ b)) ≡ (g *ℤ s) +ℤ ((g *ℤ r) *ℤ b)
times_step g s t r b = simp ring

pub left_side-times : (w : Point) (g : ℕ) (r s : Row) → IsTimes g r s → pos g *ℤ left_side w r ≡ left_side w s
left_side-times w g r s h = times_step (pos g) (sum_at w.top r.terms) (pos 0) r.rest (pos w.below) ∙ ap₂ (λ a b. a +ℤ (b *ℤ pos w.below)) (h.sums w.top) h.rest
