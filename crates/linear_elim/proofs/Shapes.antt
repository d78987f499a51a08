-- The variables of the rows of an elimination increase, and each step removes one of them.
use Rattle.std.proofs.Common.{◌≡◌, ℕ, ◌<◌, List, [], ◌∷◌, map, sym, ap, ◌∙◌, arith, true}
use Rattle.std.specs.Prelude.{ℤ, pos, ◌+ℤ◌, ◌*ℤ◌, ◌≤ℤ◌}
use Rattle.std.proofs.Math.IntN.{neg_ℤ, *ℤ-zero, *ℤ_comm}
use Rattle.std.specs.Int.RustNames.{unsigned_abs, int_div}
use borrow.Author.Differences.{ints}
use Prim.Native.Nat.{◌∣◌}
use Rattle.std.specs.List.{All}
use Rattle.std.proofs.lemmas.List.Elements.{All-nil, All-head, All-tail, All-append, All-filter, All-map, filter_passes}
use Rattle.heyvl_num.proofs.exported.Integers.{ring, ring_neg, ≤ℤ-cancel}
use Rattle.heyvl_num.specs.Value.{is_zero_num}
use Rattle.linear_rows.specs.Terms.{coefficient, is_in, IsNormal, IsOver, add_terms}
use Rattle.linear_rows.specs.Row.{Row}
use Rattle.linear_rows.proofs.exported.Between.{All-both}
use Rattle.linear_rows.proofs.exported.Moves.{coefficient-is, coefficient-add, only}
use Rattle.linear_rows.proofs.exported.Normal.{add-normal, add-all, fewer}
use Rattle.linear_rows.specs.Divisors.{common}
use Rattle.linear_elim.specs.Joins.{mixed_row, Derived, size, join, joined_row, lowest, row_divisor}
use Rattle.linear_elim.specs.Steps.{lowers, uppers, kept, pairs, eliminate_one}
use Rattle.linear_elim.proofs.Lowest.{lowest-is, times_quotient, or_one-divides, common-divides, DividesAll}
use Rattle.linear_elim.proofs.Solutions.{IsLower, IsUpper, neg_abs, pos_abs, zero_is, pairs-all}

pub cancel : (k : ℕ) (a b : ℤ) → 0 < k → pos k *ℤ a ≡ pos k *ℤ b → a ≡ b
cancel k a b p e = both (≤ℤ-cancel a b k p (le_from _ _ (turn a b e))) (≤ℤ-cancel b a k p (le_from _ _ (turn b a (sym e))))
  where
    turn : (x y : ℤ) → pos k *ℤ x ≡ pos k *ℤ y → x *ℤ pos k ≡ y *ℤ pos k
    turn x y h = *ℤ_comm x (pos k) ∙ h ∙ *ℤ_comm (pos k) y

    le_from : (x y : ℤ) → x ≡ y → x ≤ℤ y
    le_from x y h = omega (arith, ints, h)

    both : a ≤ℤ b → b ≤ℤ a → a ≡ b
    both h l = omega (arith, ints)

two_step : (p q s t : ℤ) → (p *ℤ s) +ℤ ((q *ℤ t) +ℤ pos 0) ≡ (p *ℤ s) +ℤ (q *ℤ t)
two_step p q s t = simp ring (omega (arith, ints))

pub coefficient-mixed_row : (x : ℕ) (p : ℕ) (r : Row) (q : ℕ) (s : Row) → coefficient x (mixed_row p r q s).terms ≡ (pos p *ℤ coefficient x r.terms) +ℤ (pos q *ℤ coefficient x s.terms)
unfolding mixed_row coefficient
coefficient-mixed_row x p r q s = rw (coefficient-add x (pos p) r.terms (add_terms (pos q) s.terms []), coefficient-add x (pos q) s.terms []) (two_step (pos p) (pos q) (coefficient x r.terms) (coefficient x s.terms))

divided_nonzero : (g : ℕ) (c : ℤ) → g ∣ unsigned_abs c → (c ≡ pos 0 → ⊥) → int_div c (pos g) ≡ pos 0 → ⊥
divided_nonzero g c d h e = h (sym (times_quotient g c d) ∙ ap (λ x. pos g *ℤ x) e ∙ *ℤ-zero (pos g))

pub divided-all : (P : ℕ → Type 0) (g : ℕ) (ts : List (ℕ × ℤ)) → All (λ t. P t.0) ts → All (λ (t : ℕ × ℤ). P t.0) (map (λ t. (t.0, int_div t.1 (pos g))) ts)
divided-all P g ts h = All-map (λ (t : ℕ × ℤ). P t.0) (λ (t : ℕ × ℤ). (t.0, int_div t.1 (pos g))) ts h

pub divided-normal : (g : ℕ) (ts : List (ℕ × ℤ)) → All (λ t. g ∣ unsigned_abs t.1) ts → IsNormal ts → IsNormal (map (λ t. (t.0, int_div t.1 (pos g))) ts)
divided-normal g [] d k = tt
divided-normal g (t ∷ ts) d k = (divided_nonzero g t.1 (All-head (λ t. g ∣ unsigned_abs t.1) t ts d) k.0, (divided-all (λ x. t.0 < x) g ts k.1.0, divided-normal g ts (All-tail (λ t. g ∣ unsigned_abs t.1) t ts d) k.1.1))

pub lowest-normal : (r : Row) → IsNormal r.terms → IsNormal (lowest r).terms
unfolding lowest DividesAll
lowest-normal r k = divided-normal (row_divisor r) r.terms (or_one-divides r.terms (unsigned_abs r.rest) (common r.terms (unsigned_abs r.rest)) (common-divides r.terms (unsigned_abs r.rest))).0 k

-- A row over some variables.
pub record Good (vs : List ℕ) (r : Derived) : Type 0 where
  pub normal : IsNormal r.row.terms
  pub within : IsOver vs r.row.terms

vanishes : (a b : ℕ) (c d : ℤ) → c ≡ neg_ℤ (pos a) → d ≡ pos b → (pos b *ℤ c) +ℤ (pos a *ℤ d) ≡ pos 0
vanishes a b c d e h = rw (e, h) (cancelled (pos a) (pos b))
  where
    cancelled : (x y : ℤ) → (y *ℤ neg_ℤ x) +ℤ (x *ℤ y) ≡ pos 0
    cancelled x y = simp ring_neg (omega (arith, ints))

join-lacks : (x : ℕ) (l u : Derived) → IsLower x l → IsUpper x u → coefficient x (join x l u).row.terms ≡ pos 0
unfolding join
join-lacks x l u p q =
    let t = lowest-is (joined_row x l u) in
    cancel (row_divisor (joined_row x l u)) _ _ t.positive (ap (λ z. pos (row_divisor (joined_row x l u)) *ℤ z) (coefficient-is x (lowest (joined_row x l u)).terms) ∙ t.sums (only x) ∙ sym (coefficient-is x (joined_row x l u).terms) ∙ coefficient-mixed_row x (size x u) l.row (size x l) u.row ∙ vanishes (size x l) (size x u) _ _ (neg_abs _ p).1 (pos_abs _ q).1 ∙ sym (*ℤ-zero (pos (row_divisor (joined_row x l u)))))

pub rows_normal : (p : ℕ) (r : Row) (q : ℕ) (s : Row) → IsNormal (mixed_row p r q s).terms
unfolding mixed_row
rows_normal p r q s = add-normal (pos p) r.terms (add_terms (pos q) s.terms []) (add-normal (pos q) s.terms [] tt)

rows_within : (vs : List ℕ) (p : ℕ) (r : Row) (q : ℕ) (s : Row) → IsOver vs r.terms → IsOver vs s.terms → IsOver vs (mixed_row p r q s).terms
unfolding mixed_row
rows_within vs p r q s h k = add-all (λ v. is_in v vs ≡ true) (pos p) r.terms (add_terms (pos q) s.terms []) h (add-all (λ v. is_in v vs ≡ true) (pos q) s.terms [] k (All-nil _))

lowest_within : (vs : List ℕ) (r : Row) → IsOver vs r.terms → IsOver vs (lowest r).terms
unfolding lowest
lowest_within vs r h = divided-all (λ v. is_in v vs ≡ true) (row_divisor r) r.terms h

join-good : (x : ℕ) (xs : List ℕ) (l u : Derived) → IsLower x l → IsUpper x u → Good (x ∷ xs) l → Good (x ∷ xs) u → Good xs (join x l u)
unfolding join
join-good x xs l u p q h k =
    let n = lowest-normal (joined_row x l u) (rows_normal (size x u) l.row (size x l) u.row) in
    record { normal = n; within = fewer x xs (lowest (joined_row x l u)).terms n (join-lacks x l u p q) (lowest_within (x ∷ xs) (joined_row x l u) (rows_within (x ∷ xs) (size x u) l.row (size x l) u.row h.within k.within)) }

pub step-good : (x : ℕ) (xs : List ℕ) (rows : List Derived) → All (Good (x ∷ xs)) rows → All (Good xs) (eliminate_one x rows)
step-good x xs rows h = All-append (Good xs) (kept x rows) (pairs x (lowers x rows) (uppers x rows))
    (All-both (λ r. is_zero_num (coefficient x r.row.terms) ≡ true) (Good (x ∷ xs)) (Good xs) (λ r z g. record { normal = g.normal; within = fewer x xs r.row.terms g.normal (zero_is _ z) g.within }) (kept x rows) (filter_passes _ rows) (All-filter _ (Good (x ∷ xs)) rows h))
    (pairs-all (Good xs) x (lowers x rows) (uppers x rows)
    (All-both (IsLower x) (Good (x ∷ xs)) (λ l. All (λ u. Good xs (join x l u)) (uppers x rows))
    (λ l p m. All-both (IsUpper x) (Good (x ∷ xs)) (λ u. Good xs (join x l u)) (λ u q n. join-good x xs l u p q m n) (uppers x rows) (filter_passes _ rows) (All-filter _ (Good (x ∷ xs)) rows h))
    (lowers x rows) (filter_passes _ rows) (All-filter _ (Good (x ∷ xs)) rows h)))
