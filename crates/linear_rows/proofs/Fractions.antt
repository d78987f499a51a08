-- A point over a common denominator satisfies the same rows as its fractions.
use Rattle.std.proofs.Common.{◌≡◌, ℕ, ◌*◌, ◌/◌, ◌<◌, List, [], ◌∷◌, ◌++◌, map, refl, sym, ap, ap₂, ◌∙◌, ◌↔◌, arith, subst, Bool, true, false, eqb, ◌||◌}
use Rattle.std.specs.Prelude.{ℤ, pos, ◌+ℤ◌, ◌*ℤ◌, ◌≤ℤ◌}
use Rattle.std.proofs.Math.IntN.{zero-*ℤ}
use borrow.Author.Differences.{ints}
use Prim.Native.Nat.{◌∣◌}
use Rattle.std.proofs.Math.Nat.{mul-pos, zero-lt-suc, div-mul_cancel, dvd-mul_left, dvd-mul_right}
use Rattle.std.proofs.lemmas.Nat.Gcd.{dvd_trans}
use Rattle.std.proofs.lemmas.Bool.{eqb-true}
use Rattle.std.proofs.lemmas.Int.{by_lt_z}
use Rattle.std.specs.List.{All}
use Rattle.std.proofs.lemmas.List.Elements.{All-nil, All-cons, All-head, All-tail, All-weaker}
use Rattle.heyvl_num.proofs.exported.Integers.{ring}
use Rattle.heyvl_num.specs.Rational.{Rational, ratio, zeroʳ, ◌+ʳ◌, ◌*ʳ◌, ◌≤ʳ◌, ◌<ʳ◌, leqʳ}
use Rattle.heyvl_num.specs.Rounding.{whole}
use Rattle.heyvl_num.proofs.exported.Rationals.{ratio_parts, ratio_same, ratio-+, ratio-*, ratio-≤, ratio-≤_out}
use Rattle.heyvl_num.proofs.exported.Signs.{<ʳ-not}
use Rattle.linear_rows.specs.Terms.{sum_at, is_in, IsOver}
use Rattle.linear_rows.specs.Row.{Row}
use Rattle.linear_rows.specs.Points.{Point, IsBelow, Meets, IsMetSomewhere, left_side}
use Rattle.linear_rows.specs.Solutions.{sum_of, IsBelowZero, MeetsAt, IsSolvable}
use Rattle.linear_rows.proofs.Sums.{sum_at-nil, sum_at-cons}
use Rattle.linear_rows.proofs.Between.{All-both}

less_from : {x y : Rational} → (y ≤ʳ x → ⊥) → x <ʳ y
less_from {x} {y} n = record { holds = go (leqʳ y x) refl }
  where
    go : (b : Bool) → leqʳ y x ≡ b → leqʳ y x ≡ false
    go true e = absurd (n (record { holds = e }))
    go false e = e

-- `Same f w ts`: `f` has the fractions of the point `w` at the variables of `ts`.
unfoldable pub Same : (ℕ → Rational) → Point → List (ℕ × ℤ) → Type 0
Same f w ts = All (λ t. f t.0 ≡ ratio (w.top t.0) w.below) ts

pub sum_is : (f : ℕ → Rational) (w : Point) (ts : List (ℕ × ℤ)) → Same f w ts → sum_of f ts ≡ ratio (sum_at w.top ts) w.below
unfolding sum_of Same zeroʳ ratio whole
sum_is f w [] h = ratio_same (pos 0) 1 (sum_at w.top []) w.below (zero-lt-suc 0) w.positive (rw (sum_at-nil w.top, zero-*ℤ (pos w.below), zero-*ℤ (pos 1)) refl)
sum_is f w (t ∷ ts) h =
    ap₂ (λ x y. (whole t.1 *ʳ x) +ʳ y) (All-head (λ t. f t.0 ≡ ratio (w.top t.0) w.below) t ts h) (sum_is f w ts (All-tail (λ t. f t.0 ≡ ratio (w.top t.0) w.below) t ts h))
    ∙ ap (λ x. x +ʳ ratio (sum_at w.top ts) w.below) (ratio-* t.1 1 (w.top t.0) w.below (zero-lt-suc 0) w.positive)
    ∙ ratio-+ (t.1 *ℤ w.top t.0) (1 * w.below) (sum_at w.top ts) w.below (mul-pos (zero-lt-suc 0) w.positive) w.positive
    ∙ ratio_same _ _ _ _ (mul-pos (mul-pos (zero-lt-suc 0) w.positive) w.positive) w.positive (rw (sum_at-cons w.top t ts) (step (t.1 *ℤ w.top t.0) (sum_at w.top ts) (pos w.below)))
  where
    once : (d : ℤ) → pos 1 *ℤ d ≡ d
    once d = omega (arith, ints)

    step : (x s d : ℤ) → ((x *ℤ d) +ℤ (s *ℤ (pos 1 *ℤ d))) *ℤ d ≡ (x +ℤ s) *ℤ ((pos 1 *ℤ d) *ℤ d)
    step x s d = rw (once d) (simp ring)

pub value_is : (f : ℕ → Rational) (w : Point) (r : Row) → Same f w r.terms → sum_of f r.terms +ʳ whole r.rest ≡ ratio (left_side w r) w.below
unfolding whole
value_is f w r h =
    ap (λ x. x +ʳ whole r.rest) (sum_is f w r.terms h)
    ∙ ratio-+ (sum_at w.top r.terms) w.below r.rest 1 w.positive (zero-lt-suc 0)
    ∙ ratio_same _ _ _ _ (mul-pos w.positive (zero-lt-suc 0)) w.positive (step (sum_at w.top r.terms) r.rest (pos w.below))
  where
    once : (d : ℤ) → d *ℤ pos 1 ≡ d
    once d = omega (arith, ints)

    step : (s r d : ℤ) → ((s *ℤ pos 1) +ℤ (r *ℤ d)) *ℤ d ≡ (s +ℤ (r *ℤ d)) *ℤ (d *ℤ pos 1)
    step s r d = rw (once s, once d) refl

zero_times : (d : ℤ) → pos 0 *ℤ d ≡ pos 0
zero_times d = zero-*ℤ d

sign : (s : Bool) (z : ℤ) (d : ℕ) → 0 < d → IsBelow s z ↔ IsBelowZero s (ratio z d)
unfolding zeroʳ ratio
sign false z d p = (λ h. ratio-≤ z d (pos 0) 1 p (zero-lt-suc 0) (rw (zero-*ℤ (pos d)) (omega (arith, ints, h))), λ h. let k = ratio-≤_out z d (pos 0) 1 p (zero-lt-suc 0) h in let l = subst (λ y. (z *ℤ pos 1) ≤ℤ y) (zero-*ℤ (pos d)) k in omega (arith, ints, l))
sign true z d p = (λ h. less_from (λ k. let m = ratio-≤_out (pos 0) 1 z d (zero-lt-suc 0) p k in let l = subst (λ y. y ≤ℤ (z *ℤ pos 1)) (zero-*ℤ (pos d)) m in omega (arith, ints, l, h)), λ h. by_lt_z z (pos 0) (λ l. l) (λ l. absurd (<ʳ-not _ _ h (ratio-≤ (pos 0) 1 z d (zero-lt-suc 0) p (rw (zero-*ℤ (pos d)) (omega (arith, ints, l)))))))

pub meets_alike : (f : ℕ → Rational) (w : Point) (r : Row) → Same f w r.terms → Meets w r ↔ MeetsAt f r
meets_alike f w r h = (λ m. record { met = subst (IsBelowZero r.strict) (sym (value_is f w r h)) ((sign r.strict (left_side w r) w.below w.positive).0 m.met) }, λ m. record { met = (sign r.strict (left_side w r) w.below w.positive).1 (subst (IsBelowZero r.strict) (value_is f w r h) m.met) })

-- A common denominator of the values of some variables.
pub common_den : (ℕ → Rational) → List ℕ → ℕ
common_den f [] = 1
common_den f (v ∷ vs) = (f v).den * common_den f vs

pub common_den-positive : (f : ℕ → Rational) (vs : List ℕ) → 0 < common_den f vs
unfolding common_den
common_den-positive f [] = zero-lt-suc 0
common_den-positive f (v ∷ vs) = mul-pos (f v).positive (common_den-positive f vs)

den_divides : (f : ℕ → Rational) (v : ℕ) (vs : List ℕ) → is_in v vs ≡ true → (f v).den ∣ common_den f vs
unfolding common_den
den_divides f v [] e = absurd (cc)
den_divides f v (x ∷ vs) e = go (eqb v x) refl e (den_divides f v vs)
  where
    go : (b : Bool) → eqb v x ≡ b → (b || is_in v vs) ≡ true → (is_in v vs ≡ true → (f v).den ∣ common_den f vs) → (f v).den ∣ ((f x).den * common_den f vs)
    go true k e ih = subst (λ y. (f v).den ∣ ((f y).den * common_den f vs)) (eqb-true v x k) (dvd-mul_right (f v).den (common_den f vs))
    go false k e ih = dvd_trans (f v).den (ih e) (dvd-mul_left (common_den f vs) (f x).den)

abbrev pub point_of : (ℕ → Rational) → List ℕ → Point
point_of f vs = record { below = common_den f vs; positive = common_den-positive f vs; top = λ v. (f v).num *ℤ pos (common_den f vs / (f v).den) }

pub point_same : (f : ℕ → Rational) (vs : List ℕ) (v : ℕ) → is_in v vs ≡ true → f v ≡ ratio ((point_of f vs).top v) (point_of f vs).below
point_same f vs v e = sym (ratio_parts (f v)) ∙ ratio_same (f v).num (f v).den ((f v).num *ℤ pos (common_den f vs / (f v).den)) (common_den f vs) (f v).positive (common_den-positive f vs) (ap (λ n. (f v).num *ℤ pos n) (sym (div-mul_cancel (f v).den (den_divides f v vs e))) ∙ regroup (f v).num (pos (common_den f vs / (f v).den)) (pos (f v).den))
  where
    regroup : (a b c : ℤ) → a *ℤ (b *ℤ c) ≡ (a *ℤ b) *ℤ c
    regroup a b c = simp ring

-- Both meanings of solvable agree.
pub solvable_alike : (vs : List ℕ) (rows : List Row) → All (λ r. IsOver vs r.terms) rows → IsMetSomewhere rows ↔ IsSolvable rows
unfolding Same
solvable_alike vs rows h = (
  λ s. record { at_values = λ v. ratio (s.at_point.top v) s.at_point.below; meets = All-weaker (Meets s.at_point) (MeetsAt (λ v. ratio (s.at_point.top v) s.at_point.below)) (λ r m. (meets_alike (λ v. ratio (s.at_point.top v) s.at_point.below) s.at_point r (every s.at_point r.terms)).0 m) rows s.meets },
  λ s. record { at_point = point_of s.at_values vs; meets = All-both (λ r. IsOver vs r.terms) (MeetsAt s.at_values) (Meets (point_of s.at_values vs)) (λ r k m. (meets_alike s.at_values (point_of s.at_values vs) r (All-weaker (λ t. is_in t.0 vs ≡ true) (λ t. s.at_values t.0 ≡ ratio ((point_of s.at_values vs).top t.0) (point_of s.at_values vs).below) (λ t e. point_same s.at_values vs t.0 e) r.terms k)).1 m) rows h s.meets },
)
  where
    every : (w : Point) (ts : List (ℕ × ℤ)) → All (λ t. ratio (w.top t.0) w.below ≡ ratio (w.top t.0) w.below) ts
    every w [] = All-nil _
    every w (t ∷ ts) = All-cons (λ t. ratio (w.top t.0) w.below ≡ ratio (w.top t.0) w.below) t ts refl (every w ts)

-- The variables of rows.
variables : List Row → List ℕ
variables [] = []
variables (r ∷ rs) = map (λ t. t.0) r.terms ++ variables rs

in_left : (v : ℕ) (xs ys : List ℕ) → is_in v xs ≡ true → is_in v (xs ++ ys) ≡ true
in_left v [] ys e = absurd (cc)
in_left v (x ∷ xs) ys e = go (eqb v x) (is_in v xs) e (in_left v xs ys)
  where
    go : (a b : Bool) → (a || b) ≡ true → (b ≡ true → is_in v (xs ++ ys) ≡ true) → (a || is_in v (xs ++ ys)) ≡ true
    go true b e ih = refl
    go false b e ih = ih e

in_right : (v : ℕ) (xs ys : List ℕ) → is_in v ys ≡ true → is_in v (xs ++ ys) ≡ true
in_right v [] ys e = e
in_right v (x ∷ xs) ys e = go (eqb v x) (in_right v xs ys e)
  where
    go : (a : Bool) → is_in v (xs ++ ys) ≡ true → (a || is_in v (xs ++ ys)) ≡ true
    go true e = refl
    go false e = e

in_own : (ts : List (ℕ × ℤ)) → IsOver (map (λ t. t.0) ts) ts
in_own [] = All-nil _
in_own (t ∷ ts) = All-cons (λ u. is_in u.0 (t.0 ∷ map (λ t. t.0) ts) ≡ true) t ts (here t.0 (is_in t.0 (map (λ t. t.0) ts))) (All-weaker (λ u. is_in u.0 (map (λ t. t.0) ts) ≡ true) (λ u. is_in u.0 (t.0 ∷ map (λ t. t.0) ts) ≡ true) (λ u e. further (eqb u.0 t.0) (is_in u.0 (map (λ t. t.0) ts)) e) ts (in_own ts))
  where
    same : (v : ℕ) → eqb v v ≡ true
    same v = grind arith

    here : (v : ℕ) (b : Bool) → (eqb v v || b) ≡ true
    here v b = ap (λ a. a || b) (same v)

    further : (a b : Bool) → b ≡ true → (a || b) ≡ true
    further true b e = refl
    further false b e = e

over_variables : (rows : List Row) → All (λ r. IsOver (variables rows) r.terms) rows
unfolding variables
over_variables [] = All-nil _
over_variables (r ∷ rs) = All-cons (λ s. IsOver (variables (r ∷ rs)) s.terms) r rs
    (All-weaker (λ t. is_in t.0 (map (λ t. t.0) r.terms) ≡ true) (λ t. is_in t.0 (variables (r ∷ rs)) ≡ true) (λ t e. in_left t.0 (map (λ t. t.0) r.terms) (variables rs) e) r.terms (in_own r.terms))
    (All-weaker (λ s. IsOver (variables rs) s.terms) (λ s. IsOver (variables (r ∷ rs)) s.terms) (λ s h. All-weaker (λ t. is_in t.0 (variables rs) ≡ true) (λ t. is_in t.0 (variables (r ∷ rs)) ≡ true) (λ t e. in_right t.0 (map (λ t. t.0) r.terms) (variables rs) e) s.terms h) rs (over_variables rs))

pub solvable_is : (rows : List Row) → IsSolvable rows ↔ IsMetSomewhere rows
solvable_is rows = let h = solvable_alike (variables rows) rows (over_variables rows) in (h.1, h.0)
