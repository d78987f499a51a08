-- The terms of a combination, computed from those of two rows term by term.
use Rattle.std.proofs.Common.{◌≡◌, ℕ, ◌+◌, ◌-◌, ◌*◌, ◌<◌, ◌≤◌, ◌^◌, List, [], ◌∷◌, ◌++◌, append_assoc, append-nil, length, take, set, drop, get_or, refl, sym, ap, ap₂, subst, ◌∙◌, arith, true, false, cond, eqb, ltb, drop-cons, div-one, to_z, of_z, FitsSigned}
use Rattle.std.proofs.lemmas.Int.{to_z-of_z, quot_fits}
use mir.Syntax.{w64}
use Rattle.std.specs.Prelude.{ℤ, pos, negsuc, ◌+ℤ◌, ◌*ℤ◌, unsigned_abs}
use Rattle.std.specs.Int.RustNames.{int_div}
use Rattle.std.proofs.Math.IntN.{neg_ℤ}
use borrow.Author.Differences.{ints}
use Prim.Native.Nat.{zero, suc}
use Rattle.std.proofs.Math.Nat.{mul-pos}
use Rattle.std.specs.List.{All}
use Rattle.std.proofs.lemmas.List.{drop_all, get_or_at, set_at, map_more}
use Rattle.std.proofs.lemmas.List.Elements.{All-nil, All-cons, All-head, All-tail, All-weaker}
use Rattle.linear_rows.specs.Terms.{IsNormal, put_term, add_term, add_terms}
use Rattle.heyvl_num.specs.Gcd.{gcd}
use Rattle.linear_rows.specs.Divisors.{common, divided_terms}
use Rattle.linear_rows.specs.TermResults.{mixed_terms}
use Rattle.linear_rows.proofs.exported.Normal.{add-all}
use Rattle.linear_elim.specs.internal.SmallRows.{IsNextMixed}

differs : (v w : ℕ) → v < w → eqb v w ≡ false
differs v w h = grind arith

differs_above : (v w : ℕ) → w < v → eqb v w ≡ false
differs_above v w h = grind arith

under : (v w : ℕ) → v < w → ltb v w ≡ true
under v w h = grind arith

not_under : (v w : ℕ) → w < v → ltb v w ≡ false
not_under v w h = grind arith

same_var : (v w : ℕ) → v ≡ w → eqb v w ≡ true
same_var v w h = grind arith

product_nonzero : (q : ℕ) (c : ℤ) → 0 < q → (c ≡ pos 0 → ⊥) → pos q *ℤ c ≡ pos 0 → ⊥
product_nonzero zero c h n e = absurd (omega arith)
product_nonzero (suc a) (pos zero) h n e = n refl
product_nonzero (suc a) (pos (suc b)) h n e = let m : 0 < suc a * suc b = mul-pos (omega arith) (omega arith) in omega (arith, ints, m, e)
product_nonzero (suc a) (negsuc b) h n e = omega (arith, ints, e)

pub put_nonzero : (v : ℕ) (c : ℤ) (ts : List (ℕ × ℤ)) → (c ≡ pos 0 → ⊥) → put_term v c ts ≡ (v, c) ∷ ts
put_nonzero v (pos zero) ts n = absurd (n refl)
put_nonzero v (pos (suc a)) ts n = refl
put_nonzero v (negsuc a) ts n = refl

pub put_append : (v : ℕ) (c : ℤ) (ms : List (ℕ × ℤ)) → put_term v c [] ++ ms ≡ put_term v c ms
put_append v (pos zero) ms = refl
put_append v (pos (suc n)) ms = refl
put_append v (negsuc n) ms = refl

front : (v : ℕ) (c : ℤ) (ws : List (ℕ × ℤ)) → All (λ w. v < w.0) ws → add_term v c ws ≡ put_term v c ws
unfolding add_term
front v c [] h = refl
front v c (w ∷ ws) h = let l = All-head (λ (w : ℕ × ℤ). v < w.0) w ws h in ap₂ (λ a b. cond a (put_term v (c +ℤ w.1) ws) (cond b (put_term v c (w ∷ ws)) (w ∷ add_term v c ws))) (differs v w.0 l) (under v w.0 l)

past : (p : ℤ) (ts : List (ℕ × ℤ)) (u : ℕ × ℤ) (us : List (ℕ × ℤ)) → All (λ t. u.0 < t.0) ts → add_terms p ts (u ∷ us) ≡ u ∷ add_terms p ts us
unfolding add_terms add_term
past p [] u us h = refl
past p (t ∷ ts) u us h = let l = All-head (λ (t : ℕ × ℤ). u.0 < t.0) t ts h in ap (add_term t.0 (p *ℤ t.1)) (past p ts u us (All-tail (λ (t : ℕ × ℤ). u.0 < t.0) t ts h)) ∙ ap₂ (λ a b. cond a (put_term t.0 ((p *ℤ t.1) +ℤ u.1) (add_terms p ts us)) (cond b (put_term t.0 (p *ℤ t.1) (u ∷ add_terms p ts us)) (u ∷ add_term t.0 (p *ℤ t.1) (add_terms p ts us)))) (differs_above t.0 u.0 l) (not_under t.0 u.0 l)

scaled_head : (q : ℕ) (u : ℕ × ℤ) (us : List (ℕ × ℤ)) → 0 < q → IsNormal (u ∷ us) → add_terms (pos q) (u ∷ us) [] ≡ (u.0, pos q *ℤ u.1) ∷ add_terms (pos q) us []
unfolding add_terms
scaled_head q u us h k = front u.0 (pos q *ℤ u.1) (add_terms (pos q) us []) (add-all (λ v. u.0 < v) (pos q) us [] k.1.0 (All-nil _)) ∙ put_nonzero u.0 (pos q *ℤ u.1) (add_terms (pos q) us []) (product_nonzero q u.1 h k.0)

mixed_first : (p q : ℕ) (t : ℕ × ℤ) (ts us : List (ℕ × ℤ)) → IsNormal (t ∷ ts) → All (λ u. t.0 < u.0) us → mixed_terms (pos p) (t ∷ ts) (pos q) us ≡ put_term t.0 (pos p *ℤ t.1) (mixed_terms (pos p) ts (pos q) us)
unfolding add_terms
mixed_first p q t ts us k l = front t.0 (pos p *ℤ t.1) (mixed_terms (pos p) ts (pos q) us) (add-all (λ v. t.0 < v) (pos p) ts (add_terms (pos q) us []) k.1.0 (add-all (λ v. t.0 < v) (pos q) us [] l (All-nil _)))

mixed_second : (p q : ℕ) (ts : List (ℕ × ℤ)) (u : ℕ × ℤ) (us : List (ℕ × ℤ)) → 0 < q → IsNormal (u ∷ us) → All (λ t. u.0 < t.0) ts → mixed_terms (pos p) ts (pos q) (u ∷ us) ≡ put_term u.0 (pos q *ℤ u.1) (mixed_terms (pos p) ts (pos q) us)
mixed_second p q ts u us h k l = ap (add_terms (pos p) ts) (scaled_head q u us h k) ∙ past (pos p) ts (u.0, pos q *ℤ u.1) (add_terms (pos q) us []) l ∙ sym (put_nonzero u.0 (pos q *ℤ u.1) (mixed_terms (pos p) ts (pos q) us) (product_nonzero q u.1 h k.0))

mixed_both : (p q : ℕ) (t : ℕ × ℤ) (ts : List (ℕ × ℤ)) (u : ℕ × ℤ) (us : List (ℕ × ℤ)) → 0 < q → IsNormal (t ∷ ts) → IsNormal (u ∷ us) → t.0 ≡ u.0 → mixed_terms (pos p) (t ∷ ts) (pos q) (u ∷ us) ≡ put_term t.0 ((pos p *ℤ t.1) +ℤ (pos q *ℤ u.1)) (mixed_terms (pos p) ts (pos q) us)
unfolding add_terms add_term
mixed_both p q t ts u us h k l e =
    ap (λ ws. add_term t.0 (pos p *ℤ t.1) (add_terms (pos p) ts ws)) (scaled_head q u us h l)
    ∙ ap (add_term t.0 (pos p *ℤ t.1)) (past (pos p) ts (u.0, pos q *ℤ u.1) (add_terms (pos q) us []) (subst (λ v. All (λ w. v < w.0) ts) e k.1.0))
    ∙ ap (λ a. cond a (put_term t.0 ((pos p *ℤ t.1) +ℤ (pos q *ℤ u.1)) (mixed_terms (pos p) ts (pos q) us)) (cond (ltb t.0 u.0) (put_term t.0 (pos p *ℤ t.1) ((u.0, pos q *ℤ u.1) ∷ mixed_terms (pos p) ts (pos q) us)) ((u.0, pos q *ℤ u.1) ∷ add_term t.0 (pos p *ℤ t.1) (mixed_terms (pos p) ts (pos q) us)))) (same_var t.0 u.0 e)

-- ---- From places in the lists

pub from : (ts : List (ℕ × ℤ)) (i : ℕ) (d : ℕ × ℤ) → i < length ts → drop i ts ≡ get_or ts i d ∷ drop (i + 1) ts
from ts i d l = drop-cons ts i d l ∙ ap (λ n. get_or ts i d ∷ drop n ts) (next i)
  where
    next : (i : ℕ) → suc i ≡ i + 1
    next i = omega arith

pub drop_end : (ts : List (ℕ × ℤ)) (i : ℕ) → length ts ≤ i → drop i ts ≡ []
drop_end ts i h = drop_all i ts h

all_above : (v : ℕ) (ts : List (ℕ × ℤ)) (i : ℕ) (d : ℕ × ℤ) → i < length ts → IsNormal (drop i ts) → v < (get_or ts i d).0 → All (λ t. v < t.0) (drop i ts)
all_above v ts i d l k h = go (get_or ts i d) (from ts i d l) h
  where
    go : (t : ℕ × ℤ) → drop i ts ≡ t ∷ drop (i + 1) ts → v < t.0 → All (λ t. v < t.0) (drop i ts)
    go t f h = subst (λ xs. All (λ t. v < t.0) xs) (sym f) (All-cons (λ t. v < t.0) t (drop (i + 1) ts) h (All-weaker (λ u. t.0 < u.0) (λ u. v < u.0) (λ u m. omega (arith, h, m)) (drop (i + 1) ts) (subst IsNormal f k).1.0))

none_above : (v : ℕ) (ts : List (ℕ × ℤ)) (i : ℕ) → length ts ≤ i → All (λ t. v < t.0) (drop i ts)
none_above v ts i h = subst (λ xs. All (λ t. v < t.0) xs) (sym (drop_end ts i h)) (All-nil _)

after : (ts : List (ℕ × ℤ)) (i : ℕ) (d : ℕ × ℤ) → i < length ts → IsNormal (drop i ts) → IsNormal (drop (i + 1) ts)
after ts i d l k = (subst IsNormal (from ts i d l) k).1.1

from_first : (p : ℕ) (ts : List (ℕ × ℤ)) (i q : ℕ) (us : List (ℕ × ℤ)) (j : ℕ) (d : ℕ × ℤ) (c : ℤ) → i < length ts → j ≤ length us → IsNormal (drop i ts) → IsNormal (drop j us) → All (λ u. (get_or ts i d).0 < u.0) (drop j us) → c ≡ pos p *ℤ (get_or ts i d).1 → IsNextMixed p ts i q us j (get_or ts i d).0 c (i + 1) j
from_first p ts i q us j d c l m k n h e = record { split = go (get_or ts i d) (from ts i d l) h ∙ ap (λ z. put_term (get_or ts i d).0 z (mixed_terms (pos p) (drop (i + 1) ts) (pos q) (drop j us))) (sym e); left_normal = after ts i d l k; right_normal = n; left_within = omega (arith, l); right_within = m; further = omega arith }
  where
    go : (t : ℕ × ℤ) → drop i ts ≡ t ∷ drop (i + 1) ts → All (λ u. t.0 < u.0) (drop j us) → mixed_terms (pos p) (drop i ts) (pos q) (drop j us) ≡ put_term t.0 (pos p *ℤ t.1) (mixed_terms (pos p) (drop (i + 1) ts) (pos q) (drop j us))
    go t f h = ap (λ xs. mixed_terms (pos p) xs (pos q) (drop j us)) f ∙ mixed_first p q t (drop (i + 1) ts) (drop j us) (subst IsNormal f k) h

from_second : (p : ℕ) (ts : List (ℕ × ℤ)) (i q : ℕ) (us : List (ℕ × ℤ)) (j : ℕ) (d : ℕ × ℤ) (c : ℤ) → 0 < q → i ≤ length ts → j < length us → IsNormal (drop i ts) → IsNormal (drop j us) → All (λ t. (get_or us j d).0 < t.0) (drop i ts) → c ≡ pos q *ℤ (get_or us j d).1 → IsNextMixed p ts i q us j (get_or us j d).0 c i (j + 1)
from_second p ts i q us j d c o l m k n h e = record { split = go (get_or us j d) (from us j d m) h ∙ ap (λ z. put_term (get_or us j d).0 z (mixed_terms (pos p) (drop i ts) (pos q) (drop (j + 1) us))) (sym e); left_normal = k; right_normal = after us j d m n; left_within = l; right_within = omega (arith, m); further = omega arith }
  where
    go : (u : ℕ × ℤ) → drop j us ≡ u ∷ drop (j + 1) us → All (λ t. u.0 < t.0) (drop i ts) → mixed_terms (pos p) (drop i ts) (pos q) (drop j us) ≡ put_term u.0 (pos q *ℤ u.1) (mixed_terms (pos p) (drop i ts) (pos q) (drop (j + 1) us))
    go u f h = ap (λ xs. mixed_terms (pos p) (drop i ts) (pos q) xs) f ∙ mixed_second p q (drop i ts) u (drop (j + 1) us) o (subst IsNormal f n) h

pub first_lower : (p : ℕ) (ts : List (ℕ × ℤ)) (i q : ℕ) (us : List (ℕ × ℤ)) (j : ℕ) (d : ℕ × ℤ) (c : ℤ) → i < length ts → j < length us → IsNormal (drop i ts) → IsNormal (drop j us) → (get_or ts i d).0 < (get_or us j d).0 → c ≡ pos p *ℤ (get_or ts i d).1 → IsNextMixed p ts i q us j (get_or ts i d).0 c (i + 1) j
first_lower p ts i q us j d c l m k n h e = from_first p ts i q us j d c l (omega (arith, m)) k n (all_above (get_or ts i d).0 us j d m n h) e

pub first_alone : (p : ℕ) (ts : List (ℕ × ℤ)) (i q : ℕ) (us : List (ℕ × ℤ)) (j : ℕ) (d : ℕ × ℤ) (c : ℤ) → i < length ts → j ≤ length us → length us ≤ j → IsNormal (drop i ts) → IsNormal (drop j us) → c ≡ pos p *ℤ (get_or ts i d).1 → IsNextMixed p ts i q us j (get_or ts i d).0 c (i + 1) j
first_alone p ts i q us j d c l m o k n e = from_first p ts i q us j d c l m k n (none_above (get_or ts i d).0 us j o) e

pub second_lower : (p : ℕ) (ts : List (ℕ × ℤ)) (i q : ℕ) (us : List (ℕ × ℤ)) (j : ℕ) (d : ℕ × ℤ) (c : ℤ) → 0 < q → i < length ts → j < length us → IsNormal (drop i ts) → IsNormal (drop j us) → (get_or us j d).0 < (get_or ts i d).0 → c ≡ pos q *ℤ (get_or us j d).1 → IsNextMixed p ts i q us j (get_or us j d).0 c i (j + 1)
second_lower p ts i q us j d c o l m k n h e = from_second p ts i q us j d c o (omega (arith, l)) m k n (all_above (get_or us j d).0 ts i d l k h) e

pub second_alone : (p : ℕ) (ts : List (ℕ × ℤ)) (i q : ℕ) (us : List (ℕ × ℤ)) (j : ℕ) (d : ℕ × ℤ) (c : ℤ) → 0 < q → i ≤ length ts → length ts ≤ i → j < length us → IsNormal (drop i ts) → IsNormal (drop j us) → c ≡ pos q *ℤ (get_or us j d).1 → IsNextMixed p ts i q us j (get_or us j d).0 c i (j + 1)
second_alone p ts i q us j d c o l r m k n e = from_second p ts i q us j d c o l m k n (none_above (get_or us j d).0 ts i r) e

pub both_level : (p : ℕ) (ts : List (ℕ × ℤ)) (i q : ℕ) (us : List (ℕ × ℤ)) (j : ℕ) (d : ℕ × ℤ) (c : ℤ) → 0 < q → i < length ts → j < length us → IsNormal (drop i ts) → IsNormal (drop j us) → (get_or ts i d).0 ≡ (get_or us j d).0 → c ≡ (pos p *ℤ (get_or ts i d).1) +ℤ (pos q *ℤ (get_or us j d).1) → IsNextMixed p ts i q us j (get_or ts i d).0 c (i + 1) (j + 1)
both_level p ts i q us j d c o l m k n h e = record { split = go (get_or ts i d) (get_or us j d) (from ts i d l) (from us j d m) h ∙ ap (λ z. put_term (get_or ts i d).0 z (mixed_terms (pos p) (drop (i + 1) ts) (pos q) (drop (j + 1) us))) (sym e); left_normal = after ts i d l k; right_normal = after us j d m n; left_within = omega (arith, l); right_within = omega (arith, m); further = omega arith }
  where
    go : (t u : ℕ × ℤ) → drop i ts ≡ t ∷ drop (i + 1) ts → drop j us ≡ u ∷ drop (j + 1) us → t.0 ≡ u.0 → mixed_terms (pos p) (drop i ts) (pos q) (drop j us) ≡ put_term t.0 ((pos p *ℤ t.1) +ℤ (pos q *ℤ u.1)) (mixed_terms (pos p) (drop (i + 1) ts) (pos q) (drop (j + 1) us))
    go t u f g h = ap₂ (λ xs ys. mixed_terms (pos p) xs (pos q) ys) f g ∙ mixed_both p q t (drop (i + 1) ts) u (drop (j + 1) us) o (subst IsNormal f k) (subst IsNormal g n) h

pub step_so_far : (old now m k f : List (ℕ × ℤ)) (v : ℕ) (c : ℤ) → now ≡ old ++ put_term v c [] → m ≡ put_term v c k → old ++ m ≡ f → now ++ k ≡ f
step_so_far old now m k f v c e h g = ap (λ xs. xs ++ k) e ∙ append_assoc old (put_term v c []) k ∙ ap (λ xs. old ++ xs) (put_append v c k ∙ sym h) ∙ g

pub mixed-none : (p q : ℤ) → mixed_terms p [] q [] ≡ []
unfolding add_terms
mixed-none p q = refl

pub all_mixed : (p : ℕ) (ts : List (ℕ × ℤ)) (i q : ℕ) (us : List (ℕ × ℤ)) (j : ℕ) (out f : List (ℕ × ℤ)) → length ts ≤ i → length us ≤ j → out ++ mixed_terms (pos p) (drop i ts) (pos q) (drop j us) ≡ f → out ≡ f
all_mixed p ts i q us j out f l m e = sym (append-nil out) ∙ ap (λ xs. out ++ xs) (sym (ap₂ (λ xs ys. mixed_terms (pos p) xs (pos q) ys) (drop_end ts i l) (drop_end us j m) ∙ mixed-none (pos p) (pos q))) ∙ e

-- ---- Divisors

pub common_end : (ts : List (ℕ × ℤ)) (n : ℕ) → n ≡ common (drop (length ts) ts) n
unfolding common
common_end ts n = sym (ap (λ xs. common xs n) (drop_end ts (length ts) (omega arith)))

pub common_more : (ts : List (ℕ × ℤ)) (i n g m r : ℕ) (d : ℕ × ℤ) → 0 < i → i ≤ length ts → g ≡ common (drop i ts) n → m ≡ unsigned_abs (get_or ts (i - 1) d).1 → r ≡ gcd m g → r ≡ common (drop (i - 1) ts) n
unfolding common
common_more ts i n g m r d p l e h k = k ∙ ap₂ gcd h e ∙ ap (λ j. gcd (unsigned_abs (get_or ts (i - 1) d).1) (common (drop j ts) n)) back ∙ sym (ap (λ xs. common xs n) (from ts (i - 1) d (omega (arith, p, l))))
  where
    back : i ≡ i - 1 + 1
    back = omega (arith, p)

quotient_one : (c : ℤ) → int_div c (pos 1) ≡ c
quotient_one (pos n) = ap pos (div-one n)
quotient_one (negsuc n) = ap (λ m. neg_ℤ (pos m)) (div-one (suc n))

pub divided_one : (ts : List (ℕ × ℤ)) → divided_terms 1 ts ≡ ts
divided_one [] = refl
divided_one (t ∷ ts) = ap₂ (λ (c : ℤ) (us : List (ℕ × ℤ)). (t.0, c) ∷ us) (quotient_one t.1) (divided_one ts)

measured : (g : ℕ) (ts : List (ℕ × ℤ)) → length (divided_terms g ts) ≡ length ts
measured g [] = refl
measured g (t ∷ ts) = ap suc (measured g ts)

taken : (ts : List (ℕ × ℤ)) (i : ℕ) → i < length ts → length (take i ts) ≡ i
taken [] i l = absurd (omega (arith, l))
taken (t ∷ ts) zero l = refl
taken (t ∷ ts) (suc i) l = ap suc (taken ts i (omega (arith, l)))

take_end : (ts : List (ℕ × ℤ)) (i : ℕ) → length ts ≤ i → take i ts ≡ ts
take_end [] zero l = refl
take_end [] (suc i) l = refl
take_end (t ∷ ts) zero l = absurd (omega (arith, l))
take_end (t ∷ ts) (suc i) l = ap (λ us. t ∷ us) (take_end ts i (omega (arith, l)))

pub divided_step : (g : ℕ) (old cur now : List (ℕ × ℤ)) (i : ℕ) (d : ℕ × ℤ) (q : ℤ) → i < length old → cur ≡ divided_terms g (take i old) ++ drop i old → q ≡ int_div (get_or cur i d).1 (pos g) → now ≡ set cur i ((get_or cur i d).0, q) → now ≡ divided_terms g (take (i + 1) old) ++ drop (i + 1) old
divided_step g old cur now i d q l e h k =
    let c : cur ≡ divided_terms g (take i old) ++ get_or old i d ∷ drop (i + 1) old = e ∙ ap (λ xs. divided_terms g (take i old) ++ xs) (from old i d l) in
    let n : length (divided_terms g (take i old)) ≡ i = measured g (take i old) ∙ taken old i l in
    let r : get_or cur i d ≡ get_or old i d = ap (λ xs. get_or xs i d) c ∙ get_or_at (divided_terms g (take i old)) (get_or old i d) (drop (i + 1) old) d i n in
    let v : ((get_or cur i d).0, q) ≡ ((get_or old i d).0, int_div (get_or old i d).1 (pos g)) = ap (λ z. ((get_or cur i d).0, z)) h ∙ ap (λ (y : ℕ × ℤ). (y.0, int_div y.1 (pos g))) r in
    k ∙ ap₂ (λ (xs : List (ℕ × ℤ)) (y : ℕ × ℤ). set xs i y) c v
    ∙ set_at (divided_terms g (take i old)) (get_or old i d) (drop (i + 1) old) ((get_or old i d).0, int_div (get_or old i d).1 (pos g)) i n
    ∙ sym (append_assoc (divided_terms g (take i old)) (((get_or old i d).0, int_div (get_or old i d).1 (pos g)) ∷ []) (drop (i + 1) old))
    ∙ ap (λ xs. xs ++ drop (i + 1) old) (sym (map_more (λ (t : ℕ × ℤ). (t.0, int_div t.1 (pos g))) old i d l))

pub divided_end : (g : ℕ) (old cur : List (ℕ × ℤ)) (i : ℕ) → length old ≤ i → cur ≡ divided_terms g (take i old) ++ drop i old → cur ≡ divided_terms g old
divided_end g old cur i l e = e ∙ ap₂ (λ xs ys. divided_terms g xs ++ ys) (take_end old i l) (drop_end old i l) ∙ append-nil (divided_terms g old)

pub quotient_value : (z : ℤ) (g : ℕ) → FitsSigned w64 z → 0 < g → g < 2 ^ 20 → to_z w64 (of_z w64 (int_div z (to_z w64 g))) ≡ int_div z (pos g)
quotient_value z g f p h = ap (λ d. to_z w64 (of_z w64 (int_div z d))) (same g h) ∙ to_z-of_z w64 _ (quot_fits w64 z (pos g) f (omega (arith, ints, p)))
  where
    same : (n : ℕ) → n < 2 ^ 20 → to_z w64 n ≡ pos n
    same n h = omega (arith, ints, h)

pub divided_read : (g : ℕ) (old cur now : List (ℕ × ℤ)) (i : ℕ) (r : ℕ × ℤ) (q : ℤ) → i < length old → cur ≡ divided_terms g (take i old) ++ drop i old → r ≡ get_or cur i r → q ≡ int_div r.1 (pos g) → now ≡ set cur i (r.0, q) → now ≡ divided_terms g (take (i + 1) old) ++ drop (i + 1) old
divided_read g old cur now i r q l e f h k = divided_step g old cur now i r q l e (h ∙ ap (λ (y : ℕ × ℤ). int_div y.1 (pos g)) f) (k ∙ ap (λ (y : ℕ × ℤ). set cur i (y.0, q)) f)
