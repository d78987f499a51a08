-- The values of sums at given values of their variables.
use Rattle.std.proofs.Common.{◌≡◌, ℕ, List, [], ◌∷◌, refl, arith, Bool, true, false, cond, eqb, ltb}
use Rattle.std.specs.Prelude.{ℤ, pos, negsuc, ◌+ℤ◌, ◌*ℤ◌}
use borrow.Author.Differences.{ints}
use Rattle.std.proofs.Math.IntN.{zero-*ℤ, *ℤ-zero}
use Rattle.heyvl_num.proofs.exported.Integers.{ring}
use Prim.Native.Nat.{zero, suc}
use Rattle.std.proofs.lemmas.Bool.{eqb-true}
use Rattle.linear_rows.specs.Terms.{sum_at, put_term, add_term, add_terms}

pub sum_at-cons : (f : ℕ → ℤ) (t : ℕ × ℤ) (ts : List (ℕ × ℤ)) → sum_at f (t ∷ ts) ≡ (t.1 *ℤ f t.0) +ℤ sum_at f ts
unfolding sum_at
sum_at-cons f t ts = refl

pub sum_at-nil : (f : ℕ → ℤ) → sum_at f [] ≡ pos 0
unfolding sum_at
sum_at-nil f = refl

zero_sum : (z : ℤ) → z ≡ pos 0 +ℤ z
zero_sum z = omega (arith, ints)

pub sum_at-put : (f : ℕ → ℤ) (v : ℕ) (c : ℤ) (ts : List (ℕ × ℤ)) → sum_at f (put_term v c ts) ≡ (c *ℤ f v) +ℤ sum_at f ts
sum_at-put f v (pos zero) ts = rw (zero-*ℤ (f v)) (zero_sum (sum_at f ts))
sum_at-put f v (pos (suc n)) ts = sum_at-cons f (v, pos (suc n)) ts
sum_at-put f v (negsuc n) ts = sum_at-cons f (v, negsuc n) ts

same_var : (c d x s : ℤ) → ((c +ℤ d) *ℤ x) +ℤ s ≡ (c *ℤ x) +ℤ ((d *ℤ x) +ℤ s)
same_var c d x s = simp ring

swap_in : (a b s : ℤ) → a +ℤ (b +ℤ s) ≡ b +ℤ (a +ℤ s)
swap_in a b s = simp ring

pub sum_at-add_term : (f : ℕ → ℤ) (v : ℕ) (c : ℤ) (ts : List (ℕ × ℤ)) → sum_at f (add_term v c ts) ≡ (c *ℤ f v) +ℤ sum_at f ts
unfolding add_term
sum_at-add_term f v c [] = sum_at-put f v c []
sum_at-add_term f v c (t ∷ ts) = go (eqb v t.0) refl (ltb v t.0) (sum_at-add_term f v c ts)
  where
    go : (e : Bool) → eqb v t.0 ≡ e → (l : Bool) → sum_at f (add_term v c ts) ≡ (c *ℤ f v) +ℤ sum_at f ts → sum_at f (cond e (put_term v (c +ℤ t.1) ts) (cond l (put_term v c (t ∷ ts)) (t ∷ add_term v c ts))) ≡ (c *ℤ f v) +ℤ sum_at f (t ∷ ts)
    go true e l ih = rw (sum_at-put f v (c +ℤ t.1) ts, sum_at-cons f t ts, ← eqb-true v t.0 e) (same_var c t.1 (f v) (sum_at f ts))
    go false e true ih = sum_at-put f v c (t ∷ ts)
    go false e false ih = rw (sum_at-cons f t (add_term v c ts), ih, sum_at-cons f t ts) (swap_in (t.1 *ℤ f t.0) (c *ℤ f v) (sum_at f ts))

add_step : (k c x s u : ℤ) → ((k *ℤ c) *ℤ x) +ℤ ((k *ℤ s) +ℤ u) ≡ (k *ℤ ((c *ℤ x) +ℤ s)) +ℤ u
add_step k c x s u = simp ring

pub sum_at-add : (f : ℕ → ℤ) (k : ℤ) (ts us : List (ℕ × ℤ)) → sum_at f (add_terms k ts us) ≡ (k *ℤ sum_at f ts) +ℤ sum_at f us
unfolding add_terms
sum_at-add f k [] us = rw (sum_at-nil f, *ℤ-zero k) (zero_sum (sum_at f us))
sum_at-add f k (t ∷ ts) us = rw (sum_at-add_term f t.0 (k *ℤ t.1) (add_terms k ts us), sum_at-add f k ts us, sum_at-cons f t ts) (add_step k t.1 (f t.0) (sum_at f ts) (sum_at f us))
