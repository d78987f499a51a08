-- A point that satisfies the rows that are left satisfies the dominated rows.
use Rattle.std.proofs.Common.{◌≡◌, ◌⊎◌, inl, inr, ℕ, ◌+◌, ◌<◌, List, [], ◌∷◌, map, Bool, true, false, not, ◌&&◌, ◌||◌, cond, eqb, refl, sym, ap, subst, ◌∙◌, arith}
use Rattle.std.specs.Prelude.{ℤ, pos, negsuc, ◌+ℤ◌, ◌*ℤ◌, ◌≤ℤ◌, ◌<ℤ◌, unsigned_abs}
use borrow.Author.Differences.{ints}
use Prim.Native.Nat.{zero, suc}
use Rattle.std.specs.Int.Signed.{lt_z}
use Rattle.std.proofs.lemmas.Bool.{eqb-true}
use Rattle.std.specs.List.{All, filter, list_any}
use Rattle.std.proofs.lemmas.List.Elements.{All-nil, All-cons, All-head, All-tail, All-weaker}
use Rattle.heyvl_num.specs.Value.{is_zero_num}
use Rattle.heyvl_num.proofs.exported.Integers.{≤ℤ-scale}
use Rattle.linear_rows.specs.Terms.{sum_at, is_in}
use Rattle.linear_rows.specs.Row.{Row}
use Rattle.linear_rows.specs.Points.{Point, IsBelow, Meets, left_side}
use Rattle.linear_rows.specs.SameTerms.{same_terms}
use Rattle.linear_rows.proofs.exported.Between.{All-both}
use Rattle.linear_rows.proofs.exported.Sums.{sum_at-add, sum_at-cons, sum_at-nil}
use Rattle.linear_rows.proofs.exported.SameTerms.{same_terms-is, and_true}
use Rattle.linear_dominance.specs.DominatedRows.{first_variable, is_sign_row, signed_variables, less, are_increases, is_increase, dominates, is_dominated}
use Rattle.linear_dominance.specs.Laws.{UndominatedRowsTellAll}

pub or_true : (a b : Bool) → (a || b) ≡ true → (a ≡ true) ⊎ (b ≡ true)
or_true true b e = inl refl
or_true false b e = inr e

-- ---- Increases

-- None of these variables is negative.
pub record AreSigned (signed : List ℕ) (f : ℕ → ℤ) : Type 0 where
  pub signs : (x : ℕ) → is_in x signed ≡ true → pos 0 ≤ℤ f x

times_nonnegative : (a b : ℤ) → lt_z (pos 0) a ≡ true → pos 0 ≤ℤ b → pos 0 ≤ℤ (a *ℤ b)
times_nonnegative (pos m) (pos n) e h = omega (arith, ints)
times_nonnegative (pos m) (negsuc n) e h = absurd (omega (arith, ints, h))
times_nonnegative (negsuc m) b e h = absurd (cc)

increases_positive : (signed : List ℕ) (f : ℕ → ℤ) (ts : List (ℕ × ℤ)) → AreSigned signed f → are_increases signed ts ≡ true → pos 0 ≤ℤ sum_at f ts
unfolding are_increases
increases_positive signed f [] s e = subst (λ z. pos 0 ≤ℤ z) (sym (sum_at-nil f)) (omega (arith, ints))
increases_positive signed f (t ∷ ts) s e =
    let p = and_true (lt_z (pos 0) t.1 && is_in t.0 signed) (are_increases signed ts) e in
    let q = and_true (lt_z (pos 0) t.1) (is_in t.0 signed) p.0 in
    let a = times_nonnegative t.1 (f t.0) q.0 (s.signs t.0 q.1) in
    let b = increases_positive signed f ts s p.1 in
    subst (λ z. pos 0 ≤ℤ z) (sym (sum_at-cons f t ts)) (omega (arith, ints, a, b))

all_increase : (signed : List ℕ) (ts : List (ℕ × ℤ)) → is_increase signed ts ≡ true → are_increases signed ts ≡ true
all_increase signed [] e = absurd (cc)
all_increase signed (t ∷ ts) e = e

-- ---- A row implies those that it dominates

below_of : (s t : Bool) (a b : ℤ) → (s || not t) ≡ true → b ≤ℤ a → IsBelow s a → IsBelow t b
below_of true true a b e l h = omega (arith, ints, l, h)
below_of true false a b e l h = omega (arith, ints, l, h)
below_of false true a b e l h = absurd (cc)
below_of false false a b e l h = omega (arith, ints, l, h)

not_less : (a b : ℤ) → not (lt_z a b) ≡ true → b ≤ℤ a
not_less a b e = go (lt_z a b) refl e
  where
    go : (c : Bool) → lt_z a b ≡ c → not c ≡ true → b ≤ℤ a
    go true k e = absurd (cc)
    go false k e = omega (arith, ints, k)

told_is_met : (w : Point) (signed : List ℕ) (s r : Row) → AreSigned signed w.top → dominates signed s r ≡ true → Meets w s → Meets w r
told_is_met w signed s r signs e m =
    let p = and_true (is_increase signed (less s.terms r.terms)) (not (lt_z s.rest r.rest) && (s.strict || not r.strict)) e in
    let q = and_true (not (lt_z s.rest r.rest)) (s.strict || not r.strict) p.1 in
    let d = subst (λ z. pos 0 ≤ℤ z) (sum_at-add w.top (negsuc 0) r.terms s.terms) (increases_positive signed w.top (less s.terms r.terms) signs (all_increase signed (less s.terms r.terms) p.0)) in
    let k = ≤ℤ-scale r.rest s.rest w.below (not_less s.rest r.rest q.0) in
    record { met = below_of s.strict r.strict (left_side w s) (left_side w r) q.1 (at_most (sum_at w.top r.terms) (sum_at w.top s.terms) (r.rest *ℤ pos w.below) (s.rest *ℤ pos w.below) d k) m.met }
  where
    at_most : (a b c e : ℤ) → pos 0 ≤ℤ ((negsuc 0 *ℤ a) +ℤ b) → c ≤ℤ e → (a +ℤ c) ≤ℤ (b +ℤ e)
    at_most a b c e h k = omega (arith, ints, h, k)

-- ---- Weights: a row that dominates another weighs more

abbrev one : ℕ → ℤ
one v = pos 1

-- The sum of a row's coefficients.
abbrev pub weight : Row → ℤ
weight r = sum_at one r.terms

increase_weighs : (signed : List ℕ) (ts : List (ℕ × ℤ)) → is_increase signed ts ≡ true → pos 0 <ℤ sum_at one ts
unfolding are_increases
increase_weighs signed [] e = absurd (cc)
increase_weighs signed (t ∷ ts) e =
    let p = and_true (lt_z (pos 0) t.1 && is_in t.0 signed) (are_increases signed ts) e in
    let a = (and_true (lt_z (pos 0) t.1) (is_in t.0 signed) p.0).0 in
    let b = increases_positive signed one ts (record { signs = λ x k. omega (arith, ints) }) p.1 in
    subst (λ z. pos 0 <ℤ z) (sym (sum_at-cons one t ts)) (more t.1 (sum_at one ts) a b)
  where
    more : (c z : ℤ) → lt_z (pos 0) c ≡ true → pos 0 ≤ℤ z → pos 0 <ℤ ((c *ℤ pos 1) +ℤ z)
    more c z e h = omega (arith, ints, e, h)

pub heavier : (signed : List ℕ) (s r : Row) → dominates signed s r ≡ true → weight r <ℤ weight s
heavier signed s r e =
    let p = and_true (is_increase signed (less s.terms r.terms)) _ e in
    let d = subst (λ z. pos 0 <ℤ z) (sum_at-add one (negsuc 0) r.terms s.terms) (increase_weighs signed (less s.terms r.terms) p.0) in
    above (weight r) (weight s) d
  where
    above : (a b : ℤ) → pos 0 <ℤ ((negsuc 0 *ℤ a) +ℤ b) → a <ℤ b
    above a b h = omega (arith, ints, h)

-- ---- Sign rows are left

passed : {A : Type 0} (P : A → Type 0) (p : A → Bool) (xs : List A) → All P (filter p xs) → All (λ x. p x ≡ true → P x) xs
passed P p [] h = All-nil (λ x. p x ≡ true → P x)
passed P p (x ∷ xs) h = go (p x) refl (passed P p xs) h
  where
    go : (b : Bool) → p x ≡ b → (All P (filter p xs) → All (λ x. p x ≡ true → P x) xs) → All P (cond b (x ∷ filter p xs) (filter p xs)) → All (λ x. p x ≡ true → P x) (x ∷ xs)
    go true e ih h = All-cons (λ x. p x ≡ true → P x) x xs (λ k. All-head P x (filter p xs) h) (ih (All-tail P x (filter p xs) h))
    go false e ih h = All-cons (λ x. p x ≡ true → P x) x xs (λ k. absurd (cc)) (ih h)

abbrev IsMetIfLeft : Point → List Row → Row → Type 0
IsMetIfLeft w rows r = not (is_dominated rows r) ≡ true → Meets w r

sign_stays : (a b : Bool) → a ≡ true → not (not a && b) ≡ true
sign_stays true b e = refl
sign_stays false b e = absurd (cc)

zero-is : (z : ℤ) → is_zero_num z ≡ true → z ≡ pos 0
zero-is (pos zero) e = refl
zero-is (pos (suc n)) e = absurd (cc)
zero-is (negsuc n) e = absurd (cc)

sign_says : (w : Point) (r : Row) → is_sign_row r ≡ true → Meets w r → pos 0 ≤ℤ w.top (first_variable r.terms)
sign_says w r e m =
    let p = and_true (same_terms r.terms ((first_variable r.terms, negsuc 0) ∷ [])) (is_zero_num r.rest && not r.strict) e in
    let q = and_true (is_zero_num r.rest) (not r.strict) p.1 in
    let x = first_variable r.terms in
    let t = same_terms-is r.terms ((first_variable r.terms, negsuc 0) ∷ []) p.0 in
    let s : sum_at w.top r.terms ≡ (negsuc 0 *ℤ w.top (first_variable r.terms)) +ℤ pos 0 = ap (sum_at w.top) t ∙ sum_at-cons w.top (first_variable r.terms, negsuc 0) [] ∙ ap (λ z. (negsuc 0 *ℤ w.top (first_variable r.terms)) +ℤ z) (sum_at-nil w.top) in
    go r.strict q.1 (w.top (first_variable r.terms)) (sum_at w.top r.terms) (r.rest *ℤ pos w.below) s (ap (λ z. z *ℤ pos w.below) (zero-is r.rest q.0)) m.met
  where
    go : (b : Bool) → not b ≡ true → (v u c : ℤ) → u ≡ (negsuc 0 *ℤ v) +ℤ pos 0 → c ≡ pos 0 *ℤ pos w.below → IsBelow b (u +ℤ c) → pos 0 ≤ℤ v
    go true k v u c e f h = absurd (cc)
    go false k v u c e f h = omega (arith, ints, e, f, h)

signed_by : (w : Point) (rows rs : List Row) → All (IsMetIfLeft w rows) rs → (x : ℕ) → is_in x (signed_variables rs) ≡ true → pos 0 ≤ℤ w.top x
signed_by w rows [] h x e = absurd (cc)
signed_by w rows (r ∷ rs) h x e = go (is_sign_row r) refl (signed_by w rows rs (All-tail (IsMetIfLeft w rows) r rs h) x) e
  where
    here : is_sign_row r ≡ true → pos 0 ≤ℤ w.top (first_variable r.terms)
    here k = sign_says w r k (All-head (IsMetIfLeft w rows) r rs h (sign_stays (is_sign_row r) _ k))

    one_of : is_sign_row r ≡ true → (is_in x (signed_variables rs) ≡ true → pos 0 ≤ℤ w.top x) → (eqb x (first_variable r.terms) ≡ true) ⊎ (is_in x (signed_variables rs) ≡ true) → pos 0 ≤ℤ w.top x
    one_of k later (inl q) = subst (λ v. pos 0 ≤ℤ w.top v) (sym (eqb-true x (first_variable r.terms) q)) (here k)
    one_of k later (inr q) = later q

    go : (b : Bool) → is_sign_row r ≡ b → (is_in x (signed_variables rs) ≡ true → pos 0 ≤ℤ w.top x) → is_in x (map (λ r. first_variable r.terms) (cond b (r ∷ filter is_sign_row rs) (filter is_sign_row rs))) ≡ true → pos 0 ≤ℤ w.top x
    go true k later q = one_of k later (or_true (eqb x (first_variable r.terms)) (is_in x (signed_variables rs)) q)
    go false k later q = later q

-- ---- Each row is left, or implied by one with a larger weight

-- A row whose weight is at most n below `most` is satisfied.
abbrev IsMetNear : Point → ℤ → ℕ → Row → Type 0
IsMetNear w most n r = most <ℤ (weight r +ℤ pos n) → Meets w r

by_one : (w : Point) (signed : List ℕ) (most : ℤ) (n : ℕ) (r : Row) (ks : List Row) → AreSigned signed w.top → list_any (λ s. dominates signed s r) ks ≡ true → All (IsMetNear w most n) ks → most <ℤ (weight r +ℤ pos (suc n)) → Meets w r
by_one w signed most n r [] signs e h l = absurd (cc)
by_one w signed most n r (k ∷ ks) signs e h l = go (λ d. by_one w signed most n r ks signs d (All-tail (IsMetNear w most n) k ks h) l) (or_true (dominates signed k r) (list_any (λ s. dominates signed s r) ks) e)
  where
    nearer : (a b m : ℤ) (n : ℕ) → a <ℤ b → m <ℤ (a +ℤ pos (suc n)) → m <ℤ (b +ℤ pos n)
    nearer a b m n h l = omega (arith, ints, h, l)

    go : (list_any (λ s. dominates signed s r) ks ≡ true → Meets w r) → (dominates signed k r ≡ true) ⊎ (list_any (λ s. dominates signed s r) ks ≡ true) → Meets w r
    go later (inl d) = told_is_met w signed k r signs d (All-head (IsMetNear w most n) k ks h (nearer (weight r) (weight k) most n (heavier signed k r d) l))
    go later (inr d) = later d

nearer_met : (w : Point) (rows : List Row) (most : ℤ) (n : ℕ) (r : Row) → AreSigned (signed_variables rows) w.top → All (IsMetNear w most n) rows → IsMetIfLeft w rows r → IsMetNear w most (suc n) r
nearer_met w rows most n r signs h left l = go (is_sign_row r) (list_any (λ s. dominates (signed_variables rows) s r) rows) refl left
  where
    go : (a b : Bool) → list_any (λ s. dominates (signed_variables rows) s r) rows ≡ b → (not (not a && b) ≡ true → Meets w r) → Meets w r
    go true b e k = k refl
    go false true e k = by_one w (signed_variables rows) most n r rows signs e h l
    go false false e k = k refl

all_near : (w : Point) (rows : List Row) (most : ℤ) (n : ℕ) → AreSigned (signed_variables rows) w.top → All (λ r. weight r ≤ℤ most) rows → All (IsMetIfLeft w rows) rows → All (IsMetNear w most n) rows
all_near w rows most zero signs b h = All-weaker (λ r. weight r ≤ℤ most) (IsMetNear w most zero) (λ r l k. absurd (none (weight r) most l k)) rows b
  where
    none : (a m : ℤ) → a ≤ℤ m → m <ℤ (a +ℤ pos zero) → ⊥
    none a m h k = omega (arith, ints, h, k)
all_near w rows most (suc n) signs b h = All-weaker (IsMetIfLeft w rows) (IsMetNear w most (suc n)) (λ r left. nearer_met w rows most n r signs (all_near w rows most n signs b h) left) rows h

-- A bound on the weights of all rows.
sizes : (rows : List Row) → (n : ℕ) × All (λ r. unsigned_abs (weight r) < n) rows
sizes [] = (zero, All-nil _)
sizes (r ∷ rs) = more (sizes rs)
  where
    more : (n : ℕ) × All (λ r. unsigned_abs (weight r) < n) rs → (n : ℕ) × All (λ r. unsigned_abs (weight r) < n) (r ∷ rs)
    more s = (unsigned_abs (weight r) + suc s.0, All-cons (λ q. unsigned_abs (weight q) < unsigned_abs (weight r) + suc s.0) r rs (omega arith) (All-weaker (λ q. unsigned_abs (weight q) < s.0) (λ q. unsigned_abs (weight q) < unsigned_abs (weight r) + suc s.0) (λ q l. omega (arith, l)) rs s.1))

at_most : (z : ℤ) (n : ℕ) → unsigned_abs z < n → z ≤ℤ pos n
at_most z n h = omega (arith, ints, h)

near : (z : ℤ) (n : ℕ) → unsigned_abs z < n → pos n <ℤ (z +ℤ pos (n + n))
near z n h = omega (arith, ints, h)

pub undominated_tell : UndominatedRowsTellAll
undominated_tell w rows h =
    let left = passed (Meets w) (λ r. not (is_dominated rows r)) rows h in
    let signs : AreSigned (signed_variables rows) w.top = record { signs = signed_by w rows rows left } in
    let s = sizes rows in
    let m = all_near w rows (pos s.0) (s.0 + s.0) signs (All-weaker (λ r. unsigned_abs (weight r) < s.0) (λ r. weight r ≤ℤ pos s.0) (λ r l. at_most (weight r) s.0 l) rows s.1) left in
    All-both (λ r. unsigned_abs (weight r) < s.0) (IsMetNear w (pos s.0) (s.0 + s.0)) (Meets w) (λ r l k. k (near (weight r) s.0 l)) rows s.1 m
