-- Tidying rows changes no solution.
use Rattle.std.proofs.Common.{◌≡◌, ℕ, ◌<◌, List, [], ◌∷◌, refl, sym, ap, ◌∙◌, arith, subst, Bool, true, false, cond, not, ◌&&◌, ◌||◌}
use Rattle.std.specs.Prelude.{ℤ, pos, negsuc, ◌+ℤ◌, ◌*ℤ◌, ◌≤ℤ◌, ◌<ℤ◌, Some, None}
use borrow.Author.Differences.{ints}
use Prim.Native.Nat.{zero, suc}
use Rattle.std.specs.Int.Signed.{lt_z}
use Rattle.std.specs.List.{All, filter}
use Rattle.std.proofs.lemmas.List.Elements.{All-nil, All-cons, All-head, All-tail, All-filter}
use Rattle.heyvl_num.proofs.exported.Integers.{≤ℤ-cancel}
use Rattle.heyvl_num.specs.Value.{is_zero_num}
use Rattle.linear_rows.specs.Terms.{sum_at}
use Rattle.linear_rows.specs.Row.{Row}
use Rattle.linear_rows.specs.Points.{Point, IsBelow, Meets}
use Rattle.linear_rows.proofs.exported.Sums.{sum_at-nil}
use Rattle.linear_rows.proofs.exported.Between.{below-weak, below-strong, below-same}
use Rattle.linear_elim.specs.Joins.{Derived}
use Rattle.linear_rows.specs.SameTerms.{same_number, same_terms}
use Rattle.linear_elim.specs.Steps.{is_stronger, put_row, strongest, has_terms, tidied, is_contradiction, contradiction}
use Rattle.linear_elim.proofs.Solutions.{MeetsIn}
use Rattle.linear_rows.proofs.exported.SameTerms.{same_number-is, same_terms-is}

pub less_scaled : (a b : ℤ) (k : ℕ) → 0 < k → a <ℤ b → (a *ℤ pos k) <ℤ (b *ℤ pos k)
less_scaled a b k p h = flip (λ l. no (≤ℤ-cancel b a k p l))
  where
    no : b ≤ℤ a → ⊥
    no l = omega (arith, ints, h, l)

    flip : ((b *ℤ pos k) ≤ℤ (a *ℤ pos k) → ⊥) → (a *ℤ pos k) <ℤ (b *ℤ pos k)
    flip f = grind (arith, ints)

weaker_strictly : (s t : Bool) (u a b : ℤ) → a <ℤ b → IsBelow s (u +ℤ b) → IsBelow t (u +ℤ a)
weaker_strictly s t u a b l h = below-strong t _ (let k = below-weak s _ h in omega (arith, ints, l, k))

stronger-tells : (w : Point) (r k : Row) → k.terms ≡ r.terms → is_stronger r k ≡ true → Meets w r → Meets w k
stronger-tells w r k e h m = record { met = below-same k.strict _ _ (ap (λ ts. sum_at w.top ts +ℤ (k.rest *ℤ pos w.below)) e) (go (lt_z k.rest r.rest) refl (same_number k.rest r.rest) refl r.strict k.strict h m.met) }
  where
    u : ℤ
    u = sum_at w.top r.terms

    go : (l : Bool) → lt_z k.rest r.rest ≡ l → (q : Bool) → same_number k.rest r.rest ≡ q → (s t : Bool) → (l || (q && (s && not t))) ≡ true → IsBelow s (sum_at w.top r.terms +ℤ (r.rest *ℤ pos w.below)) → IsBelow t (sum_at w.top r.terms +ℤ (k.rest *ℤ pos w.below))
    go true l q f s t h b = weaker_strictly s t (sum_at w.top r.terms) _ _ (less_scaled k.rest r.rest w.below w.positive (omega (arith, ints, l))) b
    go false l true f true t h b = below-strong t _ (subst (λ c. (sum_at w.top r.terms +ℤ (c *ℤ pos w.below)) <ℤ pos 0) (sym (same_number-is _ _ f)) b)
    go false l true f false t h b = absurd (cc)
    go false l false f s t h b = absurd (cc)

unlike : (a b : ℤ) → lt_z a b ≡ false → same_number a b ≡ false → b <ℤ a
unlike (pos a) (pos b) e f = grind (arith, ints)
unlike (pos a) (negsuc b) e f = omega (arith, ints)
unlike (negsuc a) (pos b) e f = absurd (cc)
unlike (negsuc a) (negsuc b) e f = grind (arith, ints)

kept-tells : (w : Point) (r k : Row) → k.terms ≡ r.terms → is_stronger r k ≡ false → Meets w k → Meets w r
kept-tells w r k e h m = record { met = below-same r.strict _ _ (ap (λ ts. sum_at w.top ts +ℤ (r.rest *ℤ pos w.below)) (sym e)) (go (lt_z k.rest r.rest) refl (same_number k.rest r.rest) refl r.strict k.strict h m.met) }
  where
    go : (l : Bool) → lt_z k.rest r.rest ≡ l → (q : Bool) → same_number k.rest r.rest ≡ q → (s t : Bool) → (l || (q && (s && not t))) ≡ false → IsBelow t (sum_at w.top k.terms +ℤ (k.rest *ℤ pos w.below)) → IsBelow s (sum_at w.top k.terms +ℤ (r.rest *ℤ pos w.below))
    go true l q f s t h b = absurd (cc)
    go false l false f s t h b = weaker_strictly t s (sum_at w.top k.terms) _ _ (less_scaled r.rest k.rest w.below w.positive (unlike k.rest r.rest l f)) b
    go false l true f true true h b = subst (λ c. IsBelow true (sum_at w.top k.terms +ℤ (c *ℤ pos w.below))) (same_number-is _ _ f) b
    go false l true f true false h b = absurd (cc)
    go false l true f false t h b = subst (λ c. IsBelow false (sum_at w.top k.terms +ℤ (c *ℤ pos w.below))) (same_number-is _ _ f) (below-weak t _ b)

pub put-all : (P : Derived → Type 0) (r : Derived) (ks : List Derived) → P r → All P ks → All P (put_row r ks)
unfolding put_row
put-all P r [] p h = All-cons P r [] p h
put-all P r (k ∷ ks) p h = go (same_terms k.row.terms r.row.terms) (is_stronger r.row k.row) (put-all P r ks p (All-tail P k ks h))
  where
    go : (e s : Bool) → All P (put_row r ks) → All P (cond e (cond s r k ∷ ks) (k ∷ put_row r ks))
    go true true ih = All-cons P r ks p (All-tail P k ks h)
    go true false ih = h
    go false s ih = All-cons P k (put_row r ks) (All-head P k ks h) ih

put-out : (w : Point) (r : Derived) (ks : List Derived) → All (MeetsIn w) (put_row r ks) → MeetsIn w r × All (MeetsIn w) ks
unfolding put_row
put-out w r [] h = (All-head (MeetsIn w) r [] h, All-nil _)
put-out w r (k ∷ ks) h = go (same_terms k.row.terms r.row.terms) refl (is_stronger r.row k.row) refl (put-out w r ks) h
  where
    go : (e : Bool) → same_terms k.row.terms r.row.terms ≡ e → (s : Bool) → is_stronger r.row k.row ≡ s → (All (MeetsIn w) (put_row r ks) → MeetsIn w r × All (MeetsIn w) ks) → All (MeetsIn w) (cond e (cond s r k ∷ ks) (k ∷ put_row r ks)) → MeetsIn w r × All (MeetsIn w) (k ∷ ks)
    go true e true s ih h = let m = All-head (MeetsIn w) r ks h in (m, All-cons (MeetsIn w) k ks (stronger-tells w r.row k.row (same_terms-is _ _ e) s m) (All-tail (MeetsIn w) r ks h))
    go true e false s ih h = let m = All-head (MeetsIn w) k ks h in (kept-tells w r.row k.row (same_terms-is _ _ e) s m, All-cons (MeetsIn w) k ks m (All-tail (MeetsIn w) k ks h))
    go false e s t ih h = let q = ih (All-tail (MeetsIn w) k (put_row r ks) h) in (q.0, All-cons (MeetsIn w) k ks (All-head (MeetsIn w) k (put_row r ks) h) q.1)

pub strongest-all : (P : Derived → Type 0) (ks rs : List Derived) → All P ks → All P rs → All P (strongest ks rs)
unfolding strongest
strongest-all P ks [] h k = h
strongest-all P ks (r ∷ rs) h k = strongest-all P (put_row r ks) rs (put-all P r ks (All-head P r rs k) h) (All-tail P r rs k)

strongest-out : (w : Point) (ks rs : List Derived) → All (MeetsIn w) (strongest ks rs) → All (MeetsIn w) ks × All (MeetsIn w) rs
unfolding strongest
strongest-out w ks [] h = (h, All-nil _)
strongest-out w ks (r ∷ rs) h =
    let a = strongest-out w (put_row r ks) rs h in
    let b = put-out w r ks a.0 in
    (b.1, All-cons (MeetsIn w) r rs b.0 a.1)

pub tidied-all : (P : Derived → Type 0) (rows : List Derived) → All P rows → All P (tidied rows)
tidied-all P rows h = strongest-all P [] _ (All-nil _) (All-filter _ P rows h)

trivial : (w : Point) (r : Row) → has_terms r.terms ≡ false → is_contradiction r ≡ false → Meets w r
trivial w r e h = record { met = go r.terms e r.rest r.strict h }
  where
    constant : (c : ℤ) → sum_at w.top [] +ℤ (c *ℤ pos w.below) ≡ c *ℤ pos w.below
    constant c = ap (λ z. z +ℤ (c *ℤ pos w.below)) (sum_at-nil w.top) ∙ drop_zero (c *ℤ pos w.below)
      where
        drop_zero : (z : ℤ) → pos 0 +ℤ z ≡ z
        drop_zero z = omega (arith, ints)

    negative : (n k : ℕ) → 0 < k → (negsuc n *ℤ pos k) <ℤ pos 0
    negative n zero p = absurd (omega arith)
    negative n (suc k) p = omega (arith, ints)

    go : (ts : List (ℕ × ℤ)) → has_terms ts ≡ false → (c : ℤ) (s : Bool) → (not (has_terms ts) && (lt_z (pos 0) c || (is_zero_num c && s))) ≡ false → IsBelow s (sum_at w.top ts +ℤ (c *ℤ pos w.below))
    go (t ∷ ts) e c s h = absurd (cc)
    go [] e (pos zero) true h = absurd (cc)
    go [] e (pos zero) false h = below-same false _ _ (constant (pos zero)) (omega (arith, ints))
    go [] e (pos (suc n)) s h = absurd (grind (arith, ints))
    go [] e (negsuc n) s h = below-same s _ _ (constant (negsuc n)) (below-strong s _ (negative n w.below w.positive))

pub contradiction-none : (rows : List Derived) → contradiction rows ≡ None → All (λ r. is_contradiction r.row ≡ false) rows
unfolding contradiction
contradiction-none [] e = All-nil _
contradiction-none (r ∷ rs) e = go (is_contradiction r.row) refl (contradiction-none rs) e
  where
    go : (b : Bool) → is_contradiction r.row ≡ b → (contradiction rs ≡ None → All (λ r. is_contradiction r.row ≡ false) rs) → cond b (Some r) (contradiction rs) ≡ None → All (λ r. is_contradiction r.row ≡ false) (r ∷ rs)
    go true b ih e = absurd (cc)
    go false b ih e = All-cons (λ r. is_contradiction r.row ≡ false) r rs b (ih e)

pub contradiction-some : (P : Derived → Type 0) (rows : List Derived) (c : Derived) → contradiction rows ≡ Some c → All P rows → P c × (is_contradiction c.row ≡ true)
unfolding contradiction
contradiction-some P [] c e h = absurd (cc)
contradiction-some P (r ∷ rs) c e h = go (is_contradiction r.row) refl (λ k. contradiction-some P rs c k (All-tail P r rs h)) e
  where
    go : (b : Bool) → is_contradiction r.row ≡ b → (contradiction rs ≡ Some c → P c × (is_contradiction c.row ≡ true)) → cond b (Some r) (contradiction rs) ≡ Some c → P c × (is_contradiction c.row ≡ true)
    go true b ih e = let k : r ≡ c = cc in (subst P k (All-head P r rs h), subst (λ d. is_contradiction d.row ≡ true) k b)
    go false b ih e = ih e

refilled : (w : Point) (rows : List Derived) → All (λ r. is_contradiction r.row ≡ false) rows → All (MeetsIn w) (filter (λ r. has_terms r.row.terms) rows) → All (MeetsIn w) rows
refilled w [] n h = All-nil _
refilled w (r ∷ rs) n h = go (has_terms r.row.terms) refl (refilled w rs (All-tail (λ r. is_contradiction r.row ≡ false) r rs n)) h
  where
    rest : List Derived
    rest = filter (λ r. has_terms r.row.terms) rs

    go : (b : Bool) → has_terms r.row.terms ≡ b → (All (MeetsIn w) (filter (λ r. has_terms r.row.terms) rs) → All (MeetsIn w) rs) → All (MeetsIn w) (cond b (r ∷ filter (λ r. has_terms r.row.terms) rs) (filter (λ r. has_terms r.row.terms) rs)) → All (MeetsIn w) (r ∷ rs)
    go true b ih h = All-cons (MeetsIn w) r rs (All-head (MeetsIn w) r (filter (λ r. has_terms r.row.terms) rs) h) (ih (All-tail (MeetsIn w) r (filter (λ r. has_terms r.row.terms) rs) h))
    go false b ih h = All-cons (MeetsIn w) r rs (trivial w r.row b (All-head (λ r. is_contradiction r.row ≡ false) r rs n)) (ih h)

pub tidied-out : (w : Point) (rows : List Derived) → contradiction rows ≡ None → All (MeetsIn w) (tidied rows) → All (MeetsIn w) rows
tidied-out w rows e h = refilled w rows (contradiction-none rows e) (strongest-out w [] _ h).1
