-- Operations preserve increasing variables and no zeros.
use Rattle.std.proofs.Common.{Bool, true, false, cond, ◌≡◌, ℕ, ◌<◌, [], ◌∷◌, refl, ap₂, ◌∙◌, arith, ◌==◌, ltb, ◌||◌}
use Rattle.heyvl_num.specs.Rational.{Rational, zeroʳ, ◌+ʳ◌, ◌*ʳ◌}
use Rattle.heyvl_num.specs.Value.{is_zeroʳ}
use Rattle.heyvl_num.proofs.exported.Values.{is_zero-*}
use Rattle.linear_values.specs.Lin.{Lin, Terms, constant, unless_zero, more, merged, times, plus, minus, scaled, IsAbove, AreNormal}
use Rattle.linear_rows.specs.Numbers.{minus_oneʳ}

pub of_two : {A : Type 0} (P : A → Type 0) (b : Bool) (x y : A) → P x → P y → P (cond b x y)
of_two P true x y p q = p
of_two P false x y p q = q

pub above_less : (m n : ℕ) (ts : Terms) → m < n → IsAbove n ts → IsAbove m ts
above_less m n [] h k = tt
above_less m n (t ∷ ts) h k = (omega arith, above_less m n ts h k.1)

kept_above : (m x : ℕ) (c : Rational) (ts : Terms) → m < x → IsAbove m ts → IsAbove m (unless_zero x c ts)
kept_above m x c ts h k = of_two (IsAbove m) (is_zeroʳ c) ts ((x, c) ∷ ts) k (h, k)

more_above : (m x : ℕ) (c : Rational) (ts : Terms) → m < x → IsAbove m ts → IsAbove m (more x c ts)
more_above m x c [] h k = kept_above m x c [] h tt
more_above m x c (t ∷ ts) h k = of_two (IsAbove m) (x == t.0) (unless_zero x (t.1 +ʳ c) ts) _ (kept_above m x (t.1 +ʳ c) ts h k.1) (of_two (IsAbove m) (ltb x t.0) (unless_zero x c (t ∷ ts)) (t ∷ more x c ts) (kept_above m x c (t ∷ ts) h k) (k.0, more_above m x c ts h k.1))

kept_normal : (x : ℕ) (c : Rational) (ts : Terms) → IsAbove x ts → AreNormal ts → AreNormal (unless_zero x c ts)
kept_normal x c ts h k = go (is_zeroʳ c) refl
  where
    go : (b : Bool) → is_zeroʳ c ≡ b → AreNormal (cond b ts ((x, c) ∷ ts))
    go true e = k
    go false e = (e, (h, k))

same_number : (x y : ℕ) → (x == y) ≡ true → x ≡ y
same_number x y e = grind arith

less : (x y : ℕ) → ltb x y ≡ true → x < y
less x y f = grind arith

greater : (x y : ℕ) → (x == y) ≡ false → ltb x y ≡ false → y < x
greater x y e f = grind arith

pub more_normal : (x : ℕ) (c : Rational) (ts : Terms) → AreNormal ts → AreNormal (more x c ts)
more_normal x c [] h = kept_normal x c [] tt tt
more_normal x c (t ∷ ts) h = go (x == t.0) (ltb x t.0) refl refl (more_normal x c ts h.1.1)
  where
    go : (a b : Bool) → (x == t.0) ≡ a → ltb x t.0 ≡ b → AreNormal (more x c ts) → AreNormal (cond a (unless_zero x (t.1 +ʳ c) ts) (cond b (unless_zero x c (t ∷ ts)) (t ∷ more x c ts)))
    go true b e f ih = kept_normal x (t.1 +ʳ c) ts (rw (same_number x t.0 e) h.1.0) h.1.1
    go false true e f ih = let k : x < t.0 = less x t.0 f in kept_normal x c (t ∷ ts) (k, above_less x t.0 ts k h.1.0) h
    go false false e f ih = (h.0, (more_above t.0 x c ts (greater x t.0 e f) h.1.0, ih))

merged_normal : (us ts : Terms) → AreNormal ts → AreNormal (merged us ts)
merged_normal [] ts h = h
merged_normal (u ∷ us) ts h = merged_normal us (more u.0 u.1 ts) (more_normal u.0 u.1 ts h)

times_above : (m : ℕ) (w : Rational) (ts : Terms) → IsAbove m ts → IsAbove m (times w ts)
times_above m w [] h = tt
times_above m w (t ∷ ts) h = (h.0, times_above m w ts h.1)

pub times_normal : (w : Rational) (ts : Terms) → is_zeroʳ w ≡ false → AreNormal ts → AreNormal (times w ts)
times_normal w [] e h = tt
times_normal w (t ∷ ts) e h = (is_zero-* w t.1 ∙ ap₂ (λ a b. a || b) e h.0, (times_above t.0 w ts h.1.0, times_normal w ts e h.1.1))

pub plus_normal : (a b : Lin) → AreNormal a.terms → AreNormal (plus a b).terms
unfolding plus
plus_normal a b h = merged_normal b.terms a.terms h

pub scaled_normal : (w : Rational) (a : Lin) → AreNormal a.terms → AreNormal (scaled w a).terms
unfolding scaled
scaled_normal w a h = go (is_zeroʳ w) refl
  where
    go : (b : Bool) → is_zeroʳ w ≡ b → AreNormal (cond b (constant zeroʳ) (record { terms = times w a.terms; rest = w *ʳ a.rest })).terms
    go true e = tt
    go false e = times_normal w a.terms e h

pub minus_normal : (a b : Lin) → AreNormal a.terms → AreNormal (minus a b).terms
unfolding minus
minus_normal a b h = plus_normal a (scaled minus_oneʳ b) h
