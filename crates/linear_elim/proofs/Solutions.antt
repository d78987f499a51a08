-- A step preserves solvability, in both directions.
use Rattle.std.proofs.Common.{◌≡◌, ℕ, ◌<◌, List, [], ◌∷◌, ◌++◌, map, refl, sym, ap, ◌∙◌, arith, subst, true, cond, ◌||◌}
use Rattle.std.specs.Prelude.{ℤ, pos, negsuc, ◌+ℤ◌, ◌*ℤ◌}
use Rattle.std.specs.Int.RustNames.{unsigned_abs}
use Rattle.std.proofs.Math.IntN.{◌-ℤ◌, neg_ℤ, zero-*ℤ}
use borrow.Author.Differences.{ints}
use Prim.Native.Nat.{zero, suc}
use Rattle.std.specs.List.{All}
use Rattle.std.proofs.lemmas.List.Elements.{All-nil, All-cons, All-head, All-tail, All-weaker, All-append, All-filter, All-map, filter_passes}
use Rattle.heyvl_num.proofs.exported.Integers.{ring, ring_neg}
use Rattle.heyvl_num.specs.Value.{is_zero_num}
use Rattle.linear_rows.specs.Terms.{sum_at, coefficient, add_terms}
use Rattle.linear_rows.specs.Row.{Row}
use Rattle.linear_rows.specs.Points.{Point, IsBelow, Meets, left_side, AgreesBut}
use Rattle.linear_rows.proofs.exported.Sums.{sum_at-nil, sum_at-add}
use Rattle.linear_rows.proofs.exported.Between.{below-scale, below-cancel, below-same, below-both, All-both, Shift, between}
use Rattle.linear_rows.proofs.exported.Moves.{moved, left_side-moved, agrees-moved}
use Rattle.linear_elim.specs.Joins.{is_below_zero, is_above_zero, mixed_row, Derived, size, join, joined_row, lowest, row_divisor}
use Rattle.linear_elim.specs.Steps.{lowers, uppers, kept, pairs, eliminate_one}
use Rattle.linear_elim.proofs.Lowest.{lowest-is, left_side-times}

row_step : (p q s t r u d : ℤ) → ((p *ℤ s) +ℤ ((q *ℤ t) +ℤ pos 0)) +ℤ (((p *ℤ r) +ℤ (q *ℤ u)) *ℤ d) ≡ (p *ℤ (s +ℤ (r *ℤ d))) +ℤ (q *ℤ (t +ℤ (u *ℤ d)))
row_step p q s t r u d = simp ring (omega (arith, ints))

pub left_side-mixed : (w : Point) (p : ℕ) (r : Row) (q : ℕ) (s : Row) → left_side w (mixed_row p r q s) ≡ (pos p *ℤ left_side w r) +ℤ (pos q *ℤ left_side w s)
unfolding mixed_row
left_side-mixed w p r q s = rw (sum_at-add w.top (pos p) r.terms (add_terms (pos q) s.terms []), sum_at-add w.top (pos q) s.terms [], sum_at-nil w.top) (row_step (pos p) (pos q) (sum_at w.top r.terms) (sum_at w.top s.terms) r.rest s.rest (pos w.below))

pub neg_abs : (c : ℤ) → is_below_zero c ≡ true → (0 < unsigned_abs c) × (c ≡ neg_ℤ (pos (unsigned_abs c)))
neg_abs (pos n) e = absurd (cc)
neg_abs (negsuc n) e = (omega arith, omega (arith, ints))

pub pos_abs : (c : ℤ) → is_above_zero c ≡ true → (0 < unsigned_abs c) × (c ≡ pos (unsigned_abs c))
pos_abs (pos zero) e = absurd (cc)
pos_abs (pos (suc n)) e = (omega arith, refl)
pos_abs (negsuc n) e = absurd (cc)

pub zero_is : (c : ℤ) → is_zero_num c ≡ true → c ≡ pos 0
zero_is (pos zero) e = refl
zero_is (pos (suc n)) e = absurd (cc)
zero_is (negsuc n) e = absurd (cc)

abbrev pub MeetsIn : Point → Derived → Type 0
MeetsIn w r = Meets w r.row

abbrev pub IsLower : ℕ → Derived → Type 0
IsLower x r = is_below_zero (coefficient x r.row.terms) ≡ true

abbrev pub IsUpper : ℕ → Derived → Type 0
IsUpper x r = is_above_zero (coefficient x r.row.terms) ≡ true

joined-strict : (x : ℕ) (l u : Derived) → (join x l u).row.strict ≡ (l.row.strict || u.row.strict)
unfolding join lowest mixed_row
joined-strict x l u = refl

joined-value : (x : ℕ) (w : Point) (l u : Derived) → pos (row_divisor (joined_row x l u)) *ℤ left_side w (join x l u).row ≡ (pos (size x u) *ℤ left_side w l.row) +ℤ (pos (size x l) *ℤ left_side w u.row)
unfolding join
joined-value x w l u = left_side-times w (row_divisor (joined_row x l u)) (lowest (joined_row x l u)) (joined_row x l u) (lowest-is (joined_row x l u)) ∙ left_side-mixed w (size x u) l.row (size x l) u.row

pub join-meets : (x : ℕ) (w : Point) (l u : Derived) → IsLower x l → IsUpper x u → Meets w l.row → Meets w u.row → Meets w (join x l u).row
join-meets x w l u p q h k = record { met = rw (joined-strict x l u) (below-cancel (l.row.strict || u.row.strict) (row_divisor (joined_row x l u)) _ (lowest-is (joined_row x l u)).positive (below-same (l.row.strict || u.row.strict) _ _ (joined-value x w l u) (below-both l.row.strict u.row.strict _ _ (below-scale l.row.strict (size x u) _ (pos_abs _ q).0 h.met) (below-scale u.row.strict (size x l) _ (neg_abs _ p).0 k.met)))) }

pub join-fits : (x : ℕ) (w : Point) (l u : Derived) → Meets w (join x l u).row → IsBelow (l.row.strict || u.row.strict) ((pos (size x u) *ℤ left_side w l.row) +ℤ (pos (size x l) *ℤ left_side w u.row))
join-fits x w l u h = below-same (l.row.strict || u.row.strict) _ _ (sym (joined-value x w l u)) (below-scale (l.row.strict || u.row.strict) (row_divisor (joined_row x l u)) _ (lowest-is (joined_row x l u)).positive (subst (λ b. IsBelow b (left_side w (join x l u).row)) (joined-strict x l u) h.met))

pub pairs-all : (P : Derived → Type 0) (x : ℕ) (ls us : List Derived) → All (λ l. All (λ u. P (join x l u)) us) ls → All P (pairs x ls us)
unfolding pairs
pairs-all P x [] us h = All-nil P
pairs-all P x (l ∷ ls) us h = All-append P (map (join x l) us) (pairs x ls us) (All-map P (join x l) us (All-head (λ l. All (λ u. P (join x l u)) us) l ls h)) (pairs-all P x ls us (All-tail (λ l. All (λ u. P (join x l u)) us) l ls h))

pub all_map-out : {A B : Type 0} (P : B → Type 0) (f : A → B) (xs : List A) → All P (map f xs) → All (λ x. P (f x)) xs
all_map-out P f [] h = All-nil _
all_map-out P f (x ∷ xs) h = All-cons (λ x. P (f x)) x xs (All-head P (f x) (map f xs) h) (all_map-out P f xs (All-tail P (f x) (map f xs) h))

pub all_append-left : {A : Type 0} (P : A → Type 0) (xs ys : List A) → All P (xs ++ ys) → All P xs
all_append-left P [] ys h = All-nil _
all_append-left P (x ∷ xs) ys h = All-cons P x xs (All-head P x (xs ++ ys) h) (all_append-left P xs ys (All-tail P x (xs ++ ys) h))

pub all_append-right : {A : Type 0} (P : A → Type 0) (xs ys : List A) → All P (xs ++ ys) → All P ys
all_append-right P [] ys h = h
all_append-right P (x ∷ xs) ys h = all_append-right P xs ys (All-tail P x (xs ++ ys) h)

pub pairs-out : (P : Derived → Type 0) (x : ℕ) (ls us : List Derived) → All P (pairs x ls us) → All (λ l. All (λ u. P (join x l u)) us) ls
unfolding pairs
pairs-out P x [] us h = All-nil _
pairs-out P x (l ∷ ls) us h = All-cons (λ l. All (λ u. P (join x l u)) us) l ls (all_map-out P (join x l) us (all_append-left P (map (join x l) us) (pairs x ls us) h)) (pairs-out P x ls us (all_append-right P (map (join x l) us) (pairs x ls us) h))

pub step-sound : (x : ℕ) (w : Point) (rows : List Derived) → All (MeetsIn w) rows → All (MeetsIn w) (eliminate_one x rows)
step-sound x w rows h = All-append (MeetsIn w) (kept x rows) (pairs x (lowers x rows) (uppers x rows)) (All-filter _ (MeetsIn w) rows h)
    (pairs-all (MeetsIn w) x (lowers x rows) (uppers x rows)
    (All-both (IsLower x) (MeetsIn w) (λ l. All (λ u. Meets w (join x l u).row) (uppers x rows))
    (λ l p m. All-both (IsUpper x) (MeetsIn w) (λ u. Meets w (join x l u).row) (λ u q n. join-meets x w l u p q m n) (uppers x rows) (filter_passes _ rows) (All-filter _ (MeetsIn w) rows h))
    (lowers x rows) (filter_passes _ rows) (All-filter _ (MeetsIn w) rows h)))

pub by_sign : (P : Derived → Type 0) (x : ℕ) (rows : List Derived) → All P (kept x rows) → All P (lowers x rows) → All P (uppers x rows) → All P rows
by_sign P x [] k l u = All-nil P
by_sign P x (r ∷ rows) k l u = go (by_sign P x rows) (coefficient x r.row.terms) k l u
  where
    go : (All P (kept x rows) → All P (lowers x rows) → All P (uppers x rows) → All P rows) → (c : ℤ) → All P (cond (is_zero_num c) (r ∷ kept x rows) (kept x rows)) → All P (cond (is_below_zero c) (r ∷ lowers x rows) (lowers x rows)) → All P (cond (is_above_zero c) (r ∷ uppers x rows) (uppers x rows)) → All P (r ∷ rows)
    go ih (pos zero) k l u = All-cons P r rows (All-head P r (kept x rows) k) (ih (All-tail P r (kept x rows) k) l u)
    go ih (pos (suc n)) k l u = All-cons P r rows (All-head P r (uppers x rows) u) (ih k l (All-tail P r (uppers x rows) u))
    go ih (negsuc n) k l u = All-cons P r rows (All-head P r (lowers x rows) l) (ih k (All-tail P r (lowers x rows) l) u)

pub record Extension (xs : List ℕ) (w : Point) (rows : List Derived) : Type 0 where
  pub point : Point
  pub agrees : AgreesBut xs w point
  pub meets : All (MeetsIn point) rows

neg_times : (a d : ℤ) → neg_ℤ a *ℤ d ≡ neg_ℤ (a *ℤ d)
neg_times a d = simp ring_neg

lower_value : (k a v d c : ℤ) → c ≡ neg_ℤ a → (k *ℤ v) +ℤ (c *ℤ d) ≡ (k *ℤ v) -ℤ (a *ℤ d)
lower_value k a v d c e = rw (e, neg_times a d) (omega (arith, ints))

zero_value : (k v d c : ℤ) → c ≡ pos 0 → (k *ℤ v) +ℤ (c *ℤ d) ≡ k *ℤ v
zero_value k v d c e = rw (e, zero-*ℤ d) (omega (arith, ints))

pub step-complete : (x : ℕ) (w : Point) (rows : List Derived) → All (MeetsIn w) (eliminate_one x rows) → Extension (x ∷ []) w rows
step-complete x w rows h =
    let rest = all_append-left (MeetsIn w) (kept x rows) (pairs x (lowers x rows) (uppers x rows)) h in
    let joined = pairs-out (MeetsIn w) x (lowers x rows) (uppers x rows) (all_append-right (MeetsIn w) (kept x rows) (pairs x (lowers x rows) (uppers x rows)) h) in
    let low = filter_passes (λ r. is_below_zero (coefficient x r.row.terms)) rows in
    let high = filter_passes (λ r. is_above_zero (coefficient x r.row.terms)) rows in
    finish rest low high (between (size x) (λ r. left_side w r.row) (λ r. r.row.strict) (lowers x rows) (uppers x rows)
    (All-weaker (IsLower x) (λ r. 0 < size x r) (λ r p. (neg_abs _ p).0) (lowers x rows) low)
    (All-weaker (IsUpper x) (λ r. 0 < size x r) (λ r p. (pos_abs _ p).0) (uppers x rows) high)
    (All-weaker (λ l. All (λ u. Meets w (join x l u).row) (uppers x rows)) (λ l. All (λ u. IsBelow (l.row.strict || u.row.strict) ((pos (size x u) *ℤ left_side w l.row) +ℤ (pos (size x l) *ℤ left_side w u.row))) (uppers x rows))
    (λ l k. All-weaker (λ u. Meets w (join x l u).row) (λ u. IsBelow (l.row.strict || u.row.strict) ((pos (size x u) *ℤ left_side w l.row) +ℤ (pos (size x l) *ℤ left_side w u.row))) (λ u m. join-fits x w l u m) (uppers x rows) k) (lowers x rows) joined))
  where
    finish : All (MeetsIn w) (kept x rows) → All (IsLower x) (lowers x rows) → All (IsUpper x) (uppers x rows) → Shift (size x) (λ r. left_side w r.row) (λ r. r.row.strict) (lowers x rows) (uppers x rows) → Extension (x ∷ []) w rows
    finish rest low high s = record {
      point = moved x s.factor s.positive s.shift w;
      agrees = agrees-moved x s.factor s.positive s.shift w;
      meets = by_sign (MeetsIn (moved x s.factor s.positive s.shift w)) x rows
          (All-both (λ r. is_zero_num (coefficient x r.row.terms) ≡ true) (MeetsIn w) (MeetsIn (moved x s.factor s.positive s.shift w)) (λ r z m. record { met = below-same r.row.strict _ _ (left_side-moved x s.factor s.positive s.shift w r.row ∙ zero_value (pos s.factor) (left_side w r.row) s.shift (coefficient x r.row.terms) (zero_is _ z)) (below-scale r.row.strict s.factor _ s.positive m.met) }) (kept x rows) (filter_passes _ rows) rest)
          (All-both (IsLower x) (λ a. IsBelow a.row.strict ((pos s.factor *ℤ left_side w a.row) -ℤ (pos (size x a) *ℤ s.shift))) (MeetsIn (moved x s.factor s.positive s.shift w)) (λ r z b. record { met = below-same r.row.strict _ _ (left_side-moved x s.factor s.positive s.shift w r.row ∙ lower_value (pos s.factor) (pos (size x r)) (left_side w r.row) s.shift (coefficient x r.row.terms) (neg_abs _ z).1) b }) (lowers x rows) low s.over)
          (All-both (IsUpper x) (λ a. IsBelow a.row.strict ((pos s.factor *ℤ left_side w a.row) +ℤ (pos (size x a) *ℤ s.shift))) (MeetsIn (moved x s.factor s.positive s.shift w)) (λ r z b. record { met = below-same r.row.strict _ _ (left_side-moved x s.factor s.positive s.shift w r.row ∙ ap (λ c. (pos s.factor *ℤ left_side w r.row) +ℤ (c *ℤ s.shift)) (pos_abs _ z).1) b }) (uppers x rows) high s.under);
    }
