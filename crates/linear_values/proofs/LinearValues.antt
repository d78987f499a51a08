-- The value of a linear value in a state, operator by operator.
use Rattle.std.proofs.Common.{◌≡◌, ◌↔◌, ℕ, [], ◌∷◌, refl, sym, ap, ap₂, ◌∙◌, arith, Bool, true, false, not, cond, ◌==◌, ltb}
use Rattle.heyvl_num.specs.Rational.{Rational, zeroʳ, ◌+ʳ◌, ◌*ʳ◌, ◌-ʳ◌, leqʳ, ◌≤ʳ◌}
use Rattle.heyvl_num.specs.Value.{is_zeroʳ}
use Rattle.heyvl_num.proofs.exported.Rationals as fraction
use Rattle.heyvl_num.proofs.exported.Rationals.{+ʳ_assoc, +ʳ_left_comm, zero-+ʳ, +ʳ-zero, zero-*ʳ, *ʳ-zero, one-*ʳ, *ʳ_assoc, *ʳ-+ʳ, +ʳ-*ʳ}
use Rattle.heyvl_num.proofs.exported.Signs.{minus_at_most, difference_nonnegative}
use Rattle.heyvl_num.proofs.exported.Values.{is_zero-is}
use Rattle.heylo_formula.specs.State.{Env, number_of}
use Rattle.linear_values.specs.Lin.{Lin, Terms, unless_zero, more, merged, times, constant, variable, plus, scaled, minus, total, at}
use Rattle.linear_rows.specs.Numbers.{minus_oneʳ, is_negative}
use Rattle.linear_rows.proofs.exported.Narrow.{minus_one_times}

same_truth : (p q : Bool) → (p ≡ true → q ≡ true) → (q ≡ true → p ≡ true) → p ≡ q
same_truth true true f g = refl
same_truth true false f g = sym (f refl)
same_truth false true f g = g refl
same_truth false false f g = refl

same_order : (a b c d : Rational) → (a ≤ʳ b) ↔ (c ≤ʳ d) → leqʳ a b ≡ leqʳ c d
same_order a b c d h = same_truth _ _ (λ e. (h.0 (record { holds = e })).holds) (λ e. (h.1 (record { holds = e })).holds)

leq_at : (x y : Rational) → (x ≤ʳ zeroʳ +ʳ y) ↔ (x ≤ʳ y)
leq_at x y = rw (zero-+ʳ y) ((λ h. h, λ h. h))

pub leq_minus : (x y : Rational) → leqʳ (x -ʳ y) zeroʳ ≡ leqʳ x y
leq_minus x y = same_order _ _ _ _ (minus_at_most x y zeroʳ) ∙ same_order _ _ _ _ (leq_at x y)

pub leq_zero_minus : (x y : Rational) → leqʳ zeroʳ (x -ʳ y) ≡ leqʳ y x
leq_zero_minus x y = same_order _ _ _ _ (difference_nonnegative y x)

nothing_more : (x v r : Rational) → is_zeroʳ x ≡ true → r ≡ (x *ʳ v) +ʳ r
nothing_more x v r e = rw (is_zero-is x e, zero-*ʳ v, zero-+ʳ r)

kept_at : (x : ℕ) (c : Rational) (ts : Terms) (s : Env) → total (unless_zero x c ts) s ≡ (c *ʳ number_of (s x)) +ʳ total ts s
kept_at x c ts s = go (is_zeroʳ c) refl
  where
    go : (b : Bool) → is_zeroʳ c ≡ b → total (cond b ts ((x, c) ∷ ts)) s ≡ (c *ʳ number_of (s x)) +ʳ total ts s
    go true e = nothing_more c (number_of (s x)) (total ts s) e
    go false e = refl

same_number : (x y : ℕ) → (x == y) ≡ true → x ≡ y
same_number x y e = grind arith

joined : (c d v r : Rational) → ((d +ʳ c) *ʳ v) +ʳ r ≡ (c *ʳ v) +ʳ ((d *ʳ v) +ʳ r)
joined c d v r = rw (+ʳ-*ʳ d c v, +ʳ_assoc) (+ʳ_left_comm (d *ʳ v) (c *ʳ v) r)

more_at : (x : ℕ) (c : Rational) (ts : Terms) (s : Env) → total (more x c ts) s ≡ (c *ʳ number_of (s x)) +ʳ total ts s
more_at x c [] s = kept_at x c [] s
more_at x c (t ∷ ts) s = go (x == t.0) (ltb x t.0) refl (more_at x c ts s)
  where
    go : (a b : Bool) → (x == t.0) ≡ a → total (more x c ts) s ≡ (c *ʳ number_of (s x)) +ʳ total ts s → total (cond a (unless_zero x (t.1 +ʳ c) ts) (cond b (unless_zero x c (t ∷ ts)) (t ∷ more x c ts))) s ≡ (c *ʳ number_of (s x)) +ʳ ((t.1 *ʳ number_of (s t.0)) +ʳ total ts s)
    go true b e ih = kept_at x (t.1 +ʳ c) ts s ∙ joined c t.1 (number_of (s x)) (total ts s) ∙ ap (λ y. (c *ʳ number_of (s x)) +ʳ ((t.1 *ʳ number_of (s y)) +ʳ total ts s)) (same_number x t.0 e)
    go false true e ih = kept_at x c (t ∷ ts) s
    go false false e ih = ap (λ r. (t.1 *ʳ number_of (s t.0)) +ʳ r) ih ∙ +ʳ_left_comm _ _ _

merged_at : (us ts : Terms) (s : Env) → total (merged us ts) s ≡ total us s +ʳ total ts s
merged_at [] ts s = sym (zero-+ʳ _)
merged_at (u ∷ us) ts s = merged_at us (more u.0 u.1 ts) s ∙ ap (λ r. total us s +ʳ r) (more_at u.0 u.1 ts s) ∙ +ʳ_left_comm _ _ _ ∙ sym (+ʳ_assoc _ _ _)

times_at : (w : Rational) (ts : Terms) (s : Env) → total (times w ts) s ≡ w *ʳ total ts s
times_at w [] s = sym (*ʳ-zero w)
times_at w (t ∷ ts) s = ap₂ (λ a b. a +ʳ b) (*ʳ_assoc w t.1 (number_of (s t.0))) (times_at w ts s) ∙ sym (*ʳ-+ʳ w _ _)

exchanged : (a b c d : Rational) → (b +ʳ a) +ʳ (c +ʳ d) ≡ (a +ʳ c) +ʳ (b +ʳ d)
exchanged a b c d = simp fraction.ring

pub plus_at : (a b : Lin) (s : Env) → at (plus a b) s ≡ at a s +ʳ at b s
unfolding plus
plus_at a b s = ap (λ r. r +ʳ (a.rest +ʳ b.rest)) (merged_at b.terms a.terms s) ∙ exchanged (total a.terms s) (total b.terms s) a.rest b.rest

pub constant_at : (x : Rational) (s : Env) → at (constant x) s ≡ x
constant_at x s = zero-+ʳ x

pub variable_at : (x : ℕ) (s : Env) → at (variable x) s ≡ number_of (s x)
variable_at x s = +ʳ-zero _ ∙ +ʳ-zero _ ∙ one-*ʳ _

pub scaled_at : (w : Rational) (a : Lin) (s : Env) → at (scaled w a) s ≡ w *ʳ at a s
unfolding scaled
scaled_at w a s = go (is_zeroʳ w) refl
  where
    go : (b : Bool) → is_zeroʳ w ≡ b → at (cond b (constant zeroʳ) (record { terms = times w a.terms; rest = w *ʳ a.rest })) s ≡ w *ʳ at a s
    go true e = zero-+ʳ zeroʳ ∙ sym (zero-*ʳ (at a s)) ∙ ap (λ x. x *ʳ at a s) (sym (is_zero-is w e))
    go false e = ap (λ r. r +ʳ (w *ʳ a.rest)) (times_at w a.terms s) ∙ sym (*ʳ-+ʳ w (total a.terms s) a.rest)

pub minus_at : (a b : Lin) (s : Env) → at (minus a b) s ≡ at a s -ʳ at b s
unfolding minus ◌-ʳ◌
minus_at a b s = plus_at a (scaled minus_oneʳ b) s ∙ ap (λ r. at a s +ʳ r) (scaled_at minus_oneʳ b s ∙ minus_one_times (at b s))

pub at_most_at : (a b : Lin) (s : Env) → is_negative (at (minus a b) s) false ≡ leqʳ (at a s) (at b s)
at_most_at a b s = ap (λ x. leqʳ x zeroʳ) (minus_at a b s) ∙ leq_minus (at a s) (at b s)

pub below_at : (a b : Lin) (s : Env) → is_negative (at (minus a b) s) true ≡ not (leqʳ (at b s) (at a s))
below_at a b s = ap (λ x. not (leqʳ zeroʳ x)) (minus_at a b s) ∙ ap not (leq_zero_minus (at a s) (at b s))
