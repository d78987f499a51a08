-- A point with one variable moved, and points that agree elsewhere.
use Rattle.std.proofs.Common.{◌≡◌, ℕ, ◌*◌, ◌<◌, List, [], ◌∷◌, refl, sym, arith, Bool, true, false, cond, eqb, ◌||◌}
use Rattle.std.specs.Prelude.{ℤ, pos, ◌+ℤ◌, ◌*ℤ◌}
use Rattle.std.proofs.Math.IntN.{*ℤ-zero}
use borrow.Author.Differences.{ints}
use Rattle.std.proofs.Math.Nat.{mul-pos}
use Rattle.heyvl_num.proofs.exported.Integers.{ring}
use Rattle.linear_rows.specs.Terms.{sum_at, coefficient, add_terms}
use Rattle.linear_rows.specs.Row.{Row}
use Rattle.linear_rows.specs.Points.{Point, left_side, AgreesBut}
use Rattle.linear_rows.proofs.Sums.{sum_at-nil, sum_at-cons, sum_at-add}

abbrev pub only : ℕ → ℕ → ℤ
only x v = cond (eqb v x) (pos 1) (pos 0)

times_only : (c : ℤ) (b : Bool) → cond b c (pos 0) ≡ c *ℤ cond b (pos 1) (pos 0)
times_only c true = omega (arith, ints)
times_only c false = sym (*ℤ-zero c)

pub coefficient-is : (x : ℕ) (ts : List (ℕ × ℤ)) → coefficient x ts ≡ sum_at (only x) ts
unfolding coefficient
coefficient-is x [] = sym (sum_at-nil (only x))
coefficient-is x (t ∷ ts) = rw (sum_at-cons (only x) t ts, coefficient-is x ts, times_only t.1 (eqb t.0 x)) refl

pub coefficient-add : (x : ℕ) (k : ℤ) (ts us : List (ℕ × ℤ)) → coefficient x (add_terms k ts us) ≡ (k *ℤ coefficient x ts) +ℤ coefficient x us
coefficient-add x k ts us = rw (coefficient-is x (add_terms k ts us), coefficient-is x ts, coefficient-is x us) (sum_at-add (only x) k ts us)

mix_step : (k d a x y s t : ℤ) → (a *ℤ ((k *ℤ x) +ℤ (d *ℤ y))) +ℤ ((k *ℤ s) +ℤ (d *ℤ t)) ≡ (k *ℤ ((a *ℤ x) +ℤ s)) +ℤ (d *ℤ ((a *ℤ y) +ℤ t))
mix_step k d a x y s t = simp ring

mix_nil : (k d : ℤ) → pos 0 ≡ (k *ℤ pos 0) +ℤ (d *ℤ pos 0)
mix_nil k d = rw (*ℤ-zero k, *ℤ-zero d) refl

-- Sums are linear in the point.
pub sum_at-mix : (k d : ℤ) (f g : ℕ → ℤ) (ts : List (ℕ × ℤ)) → sum_at (λ v. (k *ℤ f v) +ℤ (d *ℤ g v)) ts ≡ (k *ℤ sum_at f ts) +ℤ (d *ℤ sum_at g ts)
sum_at-mix k d f g [] = rw (sum_at-nil (λ v. (k *ℤ f v) +ℤ (d *ℤ g v)), sum_at-nil f, sum_at-nil g) (mix_nil k d)
sum_at-mix k d f g (t ∷ ts) = rw (sum_at-cons (λ v. (k *ℤ f v) +ℤ (d *ℤ g v)) t ts, sum_at-cons f t ts, sum_at-cons g t ts, sum_at-mix k d f g ts) (mix_step k d t.1 (f t.0) (g t.0) (sum_at f ts) (sum_at g ts))

-- `moved x k h d w`: the point `w` with its denominator multiplied by `k`, and the numerator of `x`
-- increased by `d`.
abbrev pub moved : ℕ → (k : ℕ) → 0 < k → ℤ → Point → Point
moved x k h d w = record { below = k * w.below; positive = mul-pos h w.positive; top = λ v. (pos k *ℤ w.top v) +ℤ (d *ℤ only x v) }

value_step : (k d s c r b : ℤ) → ((k *ℤ s) +ℤ (d *ℤ c)) +ℤ (r *ℤ (k *ℤ b)) ≡ (k *ℤ (s +ℤ (r *ℤ b))) +ℤ (c *ℤ d)
value_step k d s c r b = simp ring

pub left_side-moved : (x k : ℕ) (h : 0 < k) (d : ℤ) (w : Point) (r : Row) → left_side (moved x k h d w) r ≡ (pos k *ℤ left_side w r) +ℤ (coefficient x r.terms *ℤ d)
left_side-moved x k h d w r = rw (sum_at-mix (pos k) d w.top (only x) r.terms, coefficient-is x r.terms) (value_step (pos k) d (sum_at w.top r.terms) (sum_at (only x) r.terms) r.rest (pos w.below))

pub agrees-moved : (x k : ℕ) (h : 0 < k) (d : ℤ) (w : Point) → AgreesBut (x ∷ []) w (moved x k h d w)
agrees-moved x k h d w = record { same = λ v e. go (eqb v x) v e }
  where
    fix : (k d b t : ℤ) → t *ℤ (k *ℤ b) ≡ ((k *ℤ t) +ℤ (d *ℤ pos 0)) *ℤ b
    fix k d b t = rw (*ℤ-zero d) (simp ring (omega (arith, ints)))

    go : (b : Bool) (v : ℕ) → (b || false) ≡ false → w.top v *ℤ pos (k * w.below) ≡ ((pos k *ℤ w.top v) +ℤ (d *ℤ cond b (pos 1) (pos 0))) *ℤ pos w.below
    go true v e = absurd (cc)
    go false v e = fix (pos k) d (pos w.below) (w.top v)
