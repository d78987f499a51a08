-- The sum of two lists of terms, term by term from the lowest variable.
use Rattle.std.proofs.Common.{◌≡◌, ℕ, ◌<◌, ◌≤◌, length, [], ◌∷◌, ◌++◌, refl, sym, ap, ap₂, ◌∙◌, append_assoc, arith, Bool, true, false, cond, ◌==◌, ltb, ◌&&◌, ◌||◌}
use Rattle.heyvl_num.specs.Gcd.{gcd, gcd_steps}
use Rattle.heyvl_num.specs.Rational.{Rational, ratio, ◌+ʳ◌, ◌*ʳ◌}
use Rattle.heyvl_num.specs.Value.{is_zeroʳ}
use Rattle.heyvl_num.proofs.exported.Values.{is_zero-*}
use Rattle.linear_values.specs.Lin.{Lin, Terms, unless_zero, more, merged, times, plus, minus, all_fit, IsAbove, AreNormal}
use Rattle.linear_rows.specs.Numbers.{minus_oneʳ, fits}
use Rattle.linear_values.specs.Operator.{signed_number, signed_terms}
use Rattle.linear_values.specs.internal.Loops.{IsMergedSoFar}
use Rattle.linear_values.proofs.KeptTerms.{above_less}
use Rattle.linear_rows.proofs.exported.Narrow.{fits_negated}
use Rattle.linear_values.proofs.Products.{multiple}

-- ---- One term added

apart : (x y : ℕ) → x < y → (y == x) ≡ false
apart x y h = grind arith

not_below : (x y : ℕ) → x < y → ltb y x ≡ false
not_below x y h = grind arith

before : (x y : ℕ) → x < y → (x == y) ≡ false
before x y h = grind arith

below : (x y : ℕ) → x < y → ltb x y ≡ true
below x y h = grind arith

level : (x y : ℕ) → x ≤ y → y ≤ x → (x == y) ≡ true
level x y h k = grind arith

later : (x : ℕ) (c : Rational) (t : ℕ × Rational) (ts : Terms) → t.0 < x → more x c (t ∷ ts) ≡ t ∷ more x c ts
later x c t ts h = rw (apart t.0 x h, not_below t.0 x h)

earlier : (x : ℕ) (c : Rational) (t : ℕ × Rational) (ts : Terms) → x < t.0 → is_zeroʳ c ≡ false → more x c (t ∷ ts) ≡ (x, c) ∷ t ∷ ts
earlier x c t ts h z = rw (before x t.0 h, below x t.0 h, z)

same : (x : ℕ) (c : Rational) (t : ℕ × Rational) (ts : Terms) → x ≤ t.0 → t.0 ≤ x → more x c (t ∷ ts) ≡ unless_zero x (t.1 +ʳ c) ts
same x c t ts h k = rw (level x t.0 h k)

-- ---- Terms added in order

pub passed : (t : ℕ × Rational) (us ts : Terms) → IsAbove t.0 us → merged us (t ∷ ts) ≡ t ∷ merged us ts
passed t [] ts h = refl
passed t (u ∷ us) ts h = ap (merged us) (later u.0 u.1 t ts h.0) ∙ passed t us (more u.0 u.1 ts) h.1

passed_unless : (x : ℕ) (c : Rational) (us ts : Terms) → IsAbove x us → merged us (unless_zero x c ts) ≡ unless_zero x c [] ++ merged us ts
passed_unless x c us ts h = go (is_zeroʳ c)
  where
    go : (b : Bool) → merged us (cond b ts ((x, c) ∷ ts)) ≡ cond b [] ((x, c) ∷ []) ++ merged us ts
    go true = refl
    go false = passed (x, c) us ts h

-- ---- Signs

pub minus_one_nonzero : is_zeroʳ minus_oneʳ ≡ false
unfolding is_zeroʳ minus_oneʳ ratio gcd gcd_steps
minus_one_nonzero = refl

signed_nonzero : (d : Bool) (c : Rational) → is_zeroʳ c ≡ false → is_zeroʳ (signed_number d c) ≡ false
signed_nonzero true c e = is_zero-* minus_oneʳ c ∙ ap₂ (λ a b. a || b) minus_one_nonzero e
signed_nonzero false c e = e

pub signed_fits : (d : Bool) (c : Rational) → fits c ≡ true → fits (signed_number d c) ≡ true
signed_fits true c e = fits_negated c ∙ e
signed_fits false c e = e

signed_first : (d : Bool) (u : ℕ × Rational) (us : Terms) → signed_terms d (u ∷ us) ≡ (u.0, signed_number d u.1) ∷ signed_terms d us
signed_first true u us = refl
signed_first false u us = refl

signed_none : (d : Bool) → signed_terms d [] ≡ []
signed_none true = refl
signed_none false = refl

signed_above : (d : Bool) (m : ℕ) (us : Terms) → IsAbove m us → IsAbove m (signed_terms d us)
signed_above true m [] h = tt
signed_above true m (u ∷ us) h = (h.0, signed_above true m us h.1)
signed_above false m us h = h

-- ---- The steps of the loop

and_left : (a b : Bool) → (a && b) ≡ true → a ≡ true
and_left true b e = refl
and_left false b e = absurd (cc)

and_right : (a b : Bool) → (a && b) ≡ true → b ≡ true
and_right true b e = e
and_right false b e = absurd (cc)

module _ (d : Bool) (us ts made made' left left' right : Terms) (u : ℕ × Rational) (e : left ≡ u ∷ left') (h : IsMergedSoFar d us ts made left right) where
  normal_is : AreNormal (u ∷ left')
  normal_is = rw e at h.normal

  left_is : (fits u.1 && all_fit left') ≡ true
  left_is = rw e at h.left_fits

  pub first_fits : fits u.1 ≡ true
  first_fits = and_left (fits u.1) _ left_is

  left_above : IsAbove u.0 (signed_terms d left')
  left_above = signed_above d u.0 left' normal_is.1.0

  nonzero : is_zeroʳ (signed_number d u.1) ≡ false
  nonzero = signed_nonzero d u.1 normal_is.0

  unfolded : merged (signed_terms d left) right ≡ merged (signed_terms d left') (more u.0 (signed_number d u.1) right)
  unfolded = ap (λ l. merged (signed_terms d l) right) e ∙ ap (λ l. merged l right) (signed_first d u left')

  pub left_alone : length right ≡ 0 → made' ≡ made ++ ((u.0, signed_number d u.1) ∷ []) → IsMergedSoFar d us ts made' left' right
  left_alone n m = record {
    whole = h.whole ∙ ap (λ z. made ++ z) (unfolded ∙ go right n) ∙ sym (append_assoc made ((u.0, signed_number d u.1) ∷ []) _) ∙ ap (λ z. z ++ merged (signed_terms d left') right) (sym m);
    normal = normal_is.1.1;
    left_fits = and_right (fits u.1) _ left_is;
    right_fits = h.right_fits;
  }
    where
      put : unless_zero u.0 (signed_number d u.1) [] ≡ (u.0, signed_number d u.1) ∷ []
      put = rw nonzero

      go : (right : Terms) → length right ≡ 0 → merged (signed_terms d left') (more u.0 (signed_number d u.1) right) ≡ (u.0, signed_number d u.1) ∷ merged (signed_terms d left') right
      go [] n = ap (merged (signed_terms d left')) put ∙ passed (u.0, signed_number d u.1) (signed_terms d left') [] left_above
      go (t ∷ right) n = absurd (omega arith)

  module _ (right' : Terms) (t : ℕ × Rational) (f : right ≡ t ∷ right') where
    right_is : (fits t.1 && all_fit right') ≡ true
    right_is = rw f at h.right_fits

    pub right_first : t.0 < u.0 → made' ≡ made ++ (t ∷ []) → IsMergedSoFar d us ts made' left right'
    right_first l m = record {
      whole = h.whole ∙ ap (λ r. made ++ merged (signed_terms d left) r) f ∙ ap (λ z. made ++ z) (passed t (signed_terms d left) right' (signed_above d t.0 left (rw e (l, above_less t.0 u.0 left' l normal_is.1.0)))) ∙ sym (append_assoc made (t ∷ []) _) ∙ ap (λ z. z ++ merged (signed_terms d left) right') (sym m);
      normal = h.normal;
      left_fits = h.left_fits;
      right_fits = and_right (fits t.1) _ right_is;
    }

    pub left_first : u.0 < t.0 → made' ≡ made ++ ((u.0, signed_number d u.1) ∷ []) → IsMergedSoFar d us ts made' left' right
    left_first l m = record {
      whole = h.whole ∙ ap (λ z. made ++ z) (unfolded ∙ ap (λ r. merged (signed_terms d left') (more u.0 (signed_number d u.1) r)) f ∙ ap (merged (signed_terms d left')) (earlier u.0 (signed_number d u.1) t right' l nonzero) ∙ passed (u.0, signed_number d u.1) (signed_terms d left') (t ∷ right') left_above ∙ ap (λ r. (u.0, signed_number d u.1) ∷ merged (signed_terms d left') r) (sym f)) ∙ sym (append_assoc made ((u.0, signed_number d u.1) ∷ []) _) ∙ ap (λ z. z ++ merged (signed_terms d left') right) (sym m);
      normal = normal_is.1.1;
      left_fits = and_right (fits u.1) _ left_is;
      right_fits = h.right_fits;
    }

    pub both_first : u.0 ≤ t.0 → t.0 ≤ u.0 → made' ≡ made ++ unless_zero u.0 (t.1 +ʳ signed_number d u.1) [] → IsMergedSoFar d us ts made' left' right'
    both_first l k m = record {
      whole = h.whole ∙ ap (λ z. made ++ z) (unfolded ∙ ap (λ r. merged (signed_terms d left') (more u.0 (signed_number d u.1) r)) f ∙ ap (merged (signed_terms d left')) (same u.0 (signed_number d u.1) t right' l k) ∙ passed_unless u.0 (t.1 +ʳ signed_number d u.1) (signed_terms d left') right' left_above) ∙ sym (append_assoc made _ _) ∙ ap (λ z. z ++ merged (signed_terms d left') right') (sym m);
      normal = normal_is.1.1;
      left_fits = and_right (fits u.1) _ left_is;
      right_fits = and_right (fits t.1) _ right_is;
    }

pub right_remains : (d : Bool) (us ts made left right v : Terms) → length left ≡ 0 → IsMergedSoFar d us ts made left right → v ≡ made ++ right → v ≡ merged (signed_terms d us) ts
right_remains d us ts made [] right v e h m = m ∙ sym (h.whole ∙ ap (λ l. made ++ merged l right) (signed_none d))
right_remains d us ts made (t ∷ left) right v e h m = absurd (omega arith)

-- ---- A difference of linear values

pub difference_made : (a b : Lin) (ts : Terms) (r s : Rational) → ts ≡ merged (times minus_oneʳ b.terms) a.terms → s ≡ minus_oneʳ *ʳ b.rest → r ≡ a.rest +ʳ s → record { terms = ts; rest = r } ≡ minus a b
unfolding plus minus
difference_made a b ts r s e f g = ap₂ made e (g ∙ ap (λ s. a.rest +ʳ s) f) ∙ sym (ap (λ (d : Lin). made (merged d.terms a.terms) (a.rest +ʳ d.rest)) (multiple minus_oneʳ b minus_one_nonzero))
  where
    made : Terms → Rational → Lin
    made ts r = record { terms = ts; rest = r }
