-- The walk of the program over the difference of two lists of terms.
use Rattle.std.proofs.Common.{◌≡◌, ℕ, ◌+◌, ◌<◌, ◌≤◌, ◌^◌, List, [], ◌∷◌, length, drop, get_or, refl, sym, ap, ap₂, ◌∙◌, subst, arith, drop-cons, Bool, true, false, cond, eqb, ltb, ◌&&◌, to_z, of_z}
use Rattle.std.specs.Prelude.{ℤ, pos, negsuc, ◌+ℤ◌, ◌-ℤ◌, ◌*ℤ◌, unsigned_abs}
use borrow.Author.Differences.{ints}
use Prim.Native.Nat.{zero, suc}
use mir.Syntax.{w64}
use Rattle.std.specs.List.{All}
use Rattle.std.specs.Int.Signed.{lt_z}
use Rattle.std.proofs.lemmas.List.{drop_all}
use Rattle.std.proofs.lemmas.List.Elements.{All-nil, All-cons, All-head, All-tail, All-weaker}
use Rattle.linear_rows.specs.Terms.{IsNormal, is_in, put_term, add_term, add_terms}
use Rattle.linear_rows.proofs.exported.Normal.{add-all}
use Rattle.linear_dominance.specs.DominatedRows.{less, are_increases, is_increase}
use Rattle.linear_dominance.specs.internal.NextLess.{IsNextLess}

-- ---- The first term of a difference

differs : (v w : ℕ) → v < w → eqb v w ≡ false
differs v w h = grind arith

differs_above : (v w : ℕ) → w < v → eqb v w ≡ false
differs_above v w h = grind arith

under : (v w : ℕ) → v < w → ltb v w ≡ true
under v w h = grind arith

not_under : (v w : ℕ) → w < v → ltb v w ≡ false
not_under v w h = grind arith

same_var : (v w : ℕ) → v ≡ w → eqb v w ≡ true
same_var v w h = grind arith

put_nonzero : (v : ℕ) (c : ℤ) (ts : List (ℕ × ℤ)) → (c ≡ pos 0 → ⊥) → put_term v c ts ≡ (v, c) ∷ ts
put_nonzero v (pos zero) ts n = absurd (n refl)
put_nonzero v (pos (suc a)) ts n = refl
put_nonzero v (negsuc a) ts n = refl

front : (v : ℕ) (c : ℤ) (ws : List (ℕ × ℤ)) → All (λ w. v < w.0) ws → add_term v c ws ≡ put_term v c ws
unfolding add_term
front v c [] h = refl
front v c (w ∷ ws) h = let l = All-head (λ (w : ℕ × ℤ). v < w.0) w ws h in ap₂ (λ a b. cond a (put_term v (c +ℤ w.1) ws) (cond b (put_term v c (w ∷ ws)) (w ∷ add_term v c ws))) (differs v w.0 l) (under v w.0 l)

past : (p : ℤ) (ts : List (ℕ × ℤ)) (u : ℕ × ℤ) (us : List (ℕ × ℤ)) → All (λ t. u.0 < t.0) ts → add_terms p ts (u ∷ us) ≡ u ∷ add_terms p ts us
unfolding add_terms add_term
past p [] u us h = refl
past p (t ∷ ts) u us h = let l = All-head (λ (t : ℕ × ℤ). u.0 < t.0) t ts h in ap (add_term t.0 (p *ℤ t.1)) (past p ts u us (All-tail (λ (t : ℕ × ℤ). u.0 < t.0) t ts h)) ∙ ap₂ (λ a b. cond a (put_term t.0 ((p *ℤ t.1) +ℤ u.1) (add_terms p ts us)) (cond b (put_term t.0 (p *ℤ t.1) (u ∷ add_terms p ts us)) (u ∷ add_term t.0 (p *ℤ t.1) (add_terms p ts us)))) (differs_above t.0 u.0 l) (not_under t.0 u.0 l)

less_first : (t : ℕ × ℤ) (ts us : List (ℕ × ℤ)) → IsNormal (t ∷ ts) → All (λ u. t.0 < u.0) us → less (t ∷ ts) us ≡ put_term t.0 t.1 (less ts us)
less_first t ts us k h = past (negsuc 0) us t ts h ∙ sym (put_nonzero t.0 t.1 (less ts us) k.0)

less_second : (ts : List (ℕ × ℤ)) (u : ℕ × ℤ) (us : List (ℕ × ℤ)) → IsNormal (u ∷ us) → All (λ t. u.0 < t.0) ts → less ts (u ∷ us) ≡ put_term u.0 (negsuc 0 *ℤ u.1) (less ts us)
unfolding add_terms
less_second ts u us k h = front u.0 (negsuc 0 *ℤ u.1) (less ts us) (add-all (λ v. u.0 < v) (negsuc 0) us ts k.1.0 h)

less_both : (t : ℕ × ℤ) (ts : List (ℕ × ℤ)) (u : ℕ × ℤ) (us : List (ℕ × ℤ)) → IsNormal (u ∷ us) → t.0 ≡ u.0 → less (t ∷ ts) (u ∷ us) ≡ put_term t.0 ((negsuc 0 *ℤ u.1) +ℤ t.1) (less ts us)
unfolding add_terms add_term
less_both t ts u us k e =
    ap (add_term u.0 (negsuc 0 *ℤ u.1)) (past (negsuc 0) us t ts (subst (λ v. All (λ w. v < w.0) us) (sym e) k.1.0))
    ∙ ap (λ a. cond a (put_term u.0 ((negsuc 0 *ℤ u.1) +ℤ t.1) (less ts us)) (cond (ltb u.0 t.0) (put_term u.0 (negsuc 0 *ℤ u.1) (t ∷ less ts us)) (t ∷ add_term u.0 (negsuc 0 *ℤ u.1) (less ts us)))) (same_var u.0 t.0 (sym e))
    ∙ ap (λ v. put_term v ((negsuc 0 *ℤ u.1) +ℤ t.1) (less ts us)) (sym e)

-- ---- From places in the lists

from : (ts : List (ℕ × ℤ)) (i : ℕ) (d : ℕ × ℤ) → i < length ts → drop i ts ≡ get_or ts i d ∷ drop (i + 1) ts
from ts i d l = drop-cons ts i d l ∙ ap (λ n. get_or ts i d ∷ drop n ts) (next i)
  where
    next : (i : ℕ) → suc i ≡ i + 1
    next i = omega arith

drop_end : (ts : List (ℕ × ℤ)) (i : ℕ) → length ts ≤ i → drop i ts ≡ []
drop_end ts i h = drop_all i ts h

all_above : (v : ℕ) (ts : List (ℕ × ℤ)) (i : ℕ) (d : ℕ × ℤ) → i < length ts → IsNormal (drop i ts) → v < (get_or ts i d).0 → All (λ t. v < t.0) (drop i ts)
all_above v ts i d l k h = go (get_or ts i d) (from ts i d l) h
  where
    go : (t : ℕ × ℤ) → drop i ts ≡ t ∷ drop (i + 1) ts → v < t.0 → All (λ t. v < t.0) (drop i ts)
    go t f h = subst (λ xs. All (λ t. v < t.0) xs) (sym f) (All-cons (λ t. v < t.0) t (drop (i + 1) ts) h (All-weaker (λ u. t.0 < u.0) (λ u. v < u.0) (λ u m. omega (arith, h, m)) (drop (i + 1) ts) (subst IsNormal f k).1.0))

none_above : (v : ℕ) (ts : List (ℕ × ℤ)) (i : ℕ) → length ts ≤ i → All (λ t. v < t.0) (drop i ts)
none_above v ts i h = subst (λ xs. All (λ t. v < t.0) xs) (sym (drop_end ts i h)) (All-nil _)

after : (ts : List (ℕ × ℤ)) (i : ℕ) (d : ℕ × ℤ) → i < length ts → IsNormal (drop i ts) → IsNormal (drop (i + 1) ts)
after ts i d l k = (subst IsNormal (from ts i d l) k).1.1

from_first : (ts : List (ℕ × ℤ)) (i : ℕ) (us : List (ℕ × ℤ)) (j : ℕ) (d : ℕ × ℤ) (c : ℤ) → i < length ts → j ≤ length us → IsNormal (drop i ts) → IsNormal (drop j us) → All (λ u. (get_or ts i d).0 < u.0) (drop j us) → c ≡ (get_or ts i d).1 → IsNextLess ts i us j (get_or ts i d).0 c (i + 1) j
from_first ts i us j d c l m k n h e = record { split = go (get_or ts i d) (from ts i d l) h ∙ ap (λ z. put_term (get_or ts i d).0 z (less (drop (i + 1) ts) (drop j us))) (sym e); left_normal = after ts i d l k; right_normal = n; left_within = omega (arith, l); right_within = m; further = omega arith }
  where
    go : (t : ℕ × ℤ) → drop i ts ≡ t ∷ drop (i + 1) ts → All (λ u. t.0 < u.0) (drop j us) → less (drop i ts) (drop j us) ≡ put_term t.0 t.1 (less (drop (i + 1) ts) (drop j us))
    go t f h = ap (λ xs. less xs (drop j us)) f ∙ less_first t (drop (i + 1) ts) (drop j us) (subst IsNormal f k) h

from_second : (ts : List (ℕ × ℤ)) (i : ℕ) (us : List (ℕ × ℤ)) (j : ℕ) (d : ℕ × ℤ) (c : ℤ) → i ≤ length ts → j < length us → IsNormal (drop i ts) → IsNormal (drop j us) → All (λ t. (get_or us j d).0 < t.0) (drop i ts) → c ≡ negsuc 0 *ℤ (get_or us j d).1 → IsNextLess ts i us j (get_or us j d).0 c i (j + 1)
from_second ts i us j d c l m k n h e = record { split = go (get_or us j d) (from us j d m) h ∙ ap (λ z. put_term (get_or us j d).0 z (less (drop i ts) (drop (j + 1) us))) (sym e); left_normal = k; right_normal = after us j d m n; left_within = l; right_within = omega (arith, m); further = omega arith }
  where
    go : (u : ℕ × ℤ) → drop j us ≡ u ∷ drop (j + 1) us → All (λ t. u.0 < t.0) (drop i ts) → less (drop i ts) (drop j us) ≡ put_term u.0 (negsuc 0 *ℤ u.1) (less (drop i ts) (drop (j + 1) us))
    go u f h = ap (less (drop i ts)) f ∙ less_second (drop i ts) u (drop (j + 1) us) (subst IsNormal f n) h

pub first_lower : (ts : List (ℕ × ℤ)) (i : ℕ) (us : List (ℕ × ℤ)) (j : ℕ) (d : ℕ × ℤ) (c : ℤ) → i < length ts → j < length us → IsNormal (drop i ts) → IsNormal (drop j us) → (get_or ts i d).0 < (get_or us j d).0 → c ≡ (get_or ts i d).1 → IsNextLess ts i us j (get_or ts i d).0 c (i + 1) j
first_lower ts i us j d c l m k n h e = from_first ts i us j d c l (omega (arith, m)) k n (all_above (get_or ts i d).0 us j d m n h) e

pub first_alone : (ts : List (ℕ × ℤ)) (i : ℕ) (us : List (ℕ × ℤ)) (j : ℕ) (d : ℕ × ℤ) (c : ℤ) → i < length ts → j ≤ length us → length us ≤ j → IsNormal (drop i ts) → IsNormal (drop j us) → c ≡ (get_or ts i d).1 → IsNextLess ts i us j (get_or ts i d).0 c (i + 1) j
first_alone ts i us j d c l m o k n e = from_first ts i us j d c l m k n (none_above (get_or ts i d).0 us j o) e

pub second_lower : (ts : List (ℕ × ℤ)) (i : ℕ) (us : List (ℕ × ℤ)) (j : ℕ) (d : ℕ × ℤ) (c : ℤ) → i < length ts → j < length us → IsNormal (drop i ts) → IsNormal (drop j us) → (get_or us j d).0 < (get_or ts i d).0 → c ≡ negsuc 0 *ℤ (get_or us j d).1 → IsNextLess ts i us j (get_or us j d).0 c i (j + 1)
second_lower ts i us j d c l m k n h e = from_second ts i us j d c (omega (arith, l)) m k n (all_above (get_or us j d).0 ts i d l k h) e

pub second_alone : (ts : List (ℕ × ℤ)) (i : ℕ) (us : List (ℕ × ℤ)) (j : ℕ) (d : ℕ × ℤ) (c : ℤ) → i ≤ length ts → length ts ≤ i → j < length us → IsNormal (drop i ts) → IsNormal (drop j us) → c ≡ negsuc 0 *ℤ (get_or us j d).1 → IsNextLess ts i us j (get_or us j d).0 c i (j + 1)
second_alone ts i us j d c l o m k n e = from_second ts i us j d c l m k n (none_above (get_or us j d).0 ts i o) e

pub both_level : (ts : List (ℕ × ℤ)) (i : ℕ) (us : List (ℕ × ℤ)) (j : ℕ) (d : ℕ × ℤ) (c : ℤ) → i < length ts → j < length us → IsNormal (drop i ts) → IsNormal (drop j us) → (get_or ts i d).0 ≡ (get_or us j d).0 → c ≡ (negsuc 0 *ℤ (get_or us j d).1) +ℤ (get_or ts i d).1 → IsNextLess ts i us j (get_or ts i d).0 c (i + 1) (j + 1)
both_level ts i us j d c l m k n h e = record { split = go (get_or ts i d) (get_or us j d) (from ts i d l) (from us j d m) h ∙ ap (λ z. put_term (get_or ts i d).0 z (less (drop (i + 1) ts) (drop (j + 1) us))) (sym e); left_normal = after ts i d l k; right_normal = after us j d m n; left_within = omega (arith, l); right_within = omega (arith, m); further = omega arith }
  where
    go : (t u : ℕ × ℤ) → drop i ts ≡ t ∷ drop (i + 1) ts → drop j us ≡ u ∷ drop (j + 1) us → t.0 ≡ u.0 → less (drop i ts) (drop j us) ≡ put_term t.0 ((negsuc 0 *ℤ u.1) +ℤ t.1) (less (drop (i + 1) ts) (drop (j + 1) us))
    go t u f g h = ap₂ less f g ∙ less_both t (drop (i + 1) ts) u (drop (j + 1) us) (subst IsNormal g n) h

-- ---- Numbers of terms

pub read_narrow : (ts : List (ℕ × ℤ)) (i : ℕ) (d : ℕ × ℤ) → i < length ts → All (λ t. unsigned_abs t.1 < 2 ^ 62) ts → unsigned_abs (get_or ts i d).1 < 2 ^ 62
read_narrow ts i d l h = h i d l

-- ---- Increases, term by term

-- The rest of the test: the remaining difference is an increase or, if there were terms before, has
-- no other terms.
abbrev pub still : Bool → List ℕ → List (ℕ × ℤ) → Bool
still differs signed ts = cond differs (are_increases signed ts) (is_increase signed ts)

less_none : less [] [] ≡ []
unfolding add_terms
less_none = refl

pub walk_ends : (b : Bool) (signed : List ℕ) (ts : List (ℕ × ℤ)) (i : ℕ) (us : List (ℕ × ℤ)) (j : ℕ) (f : Bool) → length ts ≤ i → length us ≤ j → still b signed (less (drop i ts) (drop j us)) ≡ f → b ≡ f
unfolding are_increases
walk_ends b signed ts i us j f l m e = go b ∙ sym (ap (still b signed) (ap₂ less (drop_end ts i l) (drop_end us j m) ∙ less_none)) ∙ e
  where
    go : (b : Bool) → b ≡ still b signed []
    go true = refl
    go false = refl

negative_test : (c : ℤ) → lt_z c (pos 0) ≡ true → lt_z (pos 0) c ≡ false
negative_test (pos n) h = absurd (omega (arith, ints, h))
negative_test (negsuc n) h = refl

not_zero : (c : ℤ) → lt_z c (pos 0) ≡ true → c ≡ pos 0 → ⊥
not_zero c h e = omega (arith, ints, h, e)

not_zero_above : (c : ℤ) → lt_z (pos 0) c ≡ true → c ≡ pos 0 → ⊥
not_zero_above c h e = omega (arith, ints, h, e)

still_stops : (b : Bool) (signed : List ℕ) (v : ℕ) (c : ℤ) (ts : List (ℕ × ℤ)) → (lt_z (pos 0) c && is_in v signed) ≡ false → still b signed ((v, c) ∷ ts) ≡ false
unfolding are_increases
still_stops true signed v c ts e = ap (λ a. a && are_increases signed ts) e
still_stops false signed v c ts e = ap (λ a. a && are_increases signed ts) e

still_goes : (b : Bool) (signed : List ℕ) (v : ℕ) (c : ℤ) (ts : List (ℕ × ℤ)) → (lt_z (pos 0) c && is_in v signed) ≡ true → still b signed ((v, c) ∷ ts) ≡ are_increases signed ts
unfolding are_increases
still_goes true signed v c ts e = ap (λ a. a && are_increases signed ts) e
still_goes false signed v c ts e = ap (λ a. a && are_increases signed ts) e

pub stops_negative : (b : Bool) (signed : List ℕ) (ts : List (ℕ × ℤ)) (i : ℕ) (us : List (ℕ × ℤ)) (j v : ℕ) (c : ℤ) (k l : ℕ) (f : Bool) → IsNextLess ts i us j v c k l → lt_z c (pos 0) ≡ true → still b signed (less (drop i ts) (drop j us)) ≡ f → false ≡ f
stops_negative b signed ts i us j v c k l f n h e = sym (still_stops b signed v c (less (drop k ts) (drop l us)) (ap (λ a. a && is_in v signed) (negative_test c h))) ∙ ap (still b signed) (sym (n.split ∙ put_nonzero v c (less (drop k ts) (drop l us)) (not_zero c h))) ∙ e

pub stops_unsigned : (b : Bool) (signed : List ℕ) (ts : List (ℕ × ℤ)) (i : ℕ) (us : List (ℕ × ℤ)) (j v : ℕ) (c : ℤ) (k l : ℕ) (f : Bool) → IsNextLess ts i us j v c k l → lt_z (pos 0) c ≡ true → false ≡ is_in v signed → still b signed (less (drop i ts) (drop j us)) ≡ f → false ≡ f
stops_unsigned b signed ts i us j v c k l f n h m e = sym (still_stops b signed v c (less (drop k ts) (drop l us)) (ap₂ (λ a d. a && d) h (sym m))) ∙ ap (still b signed) (sym (n.split ∙ put_nonzero v c (less (drop k ts) (drop l us)) (not_zero_above c h))) ∙ e

pub goes_signed : (b : Bool) (signed : List ℕ) (ts : List (ℕ × ℤ)) (i : ℕ) (us : List (ℕ × ℤ)) (j v : ℕ) (c : ℤ) (k l : ℕ) (f : Bool) → IsNextLess ts i us j v c k l → lt_z (pos 0) c ≡ true → true ≡ is_in v signed → still b signed (less (drop i ts) (drop j us)) ≡ f → still true signed (less (drop k ts) (drop l us)) ≡ f
goes_signed b signed ts i us j v c k l f n h m e = sym (still_goes b signed v c (less (drop k ts) (drop l us)) (ap₂ (λ a d. a && d) h (sym m))) ∙ ap (still b signed) (sym (n.split ∙ put_nonzero v c (less (drop k ts) (drop l us)) (not_zero_above c h))) ∙ e

-- ---- The numbers of the program

pub negated : (d : ℤ) → unsigned_abs d < 2 ^ 62 → to_z w64 (of_z w64 (pos 0 -ℤ to_z w64 (of_z w64 d))) ≡ negsuc 0 *ℤ d
negated d h = omega (arith, ints, h)

pub difference : (c d : ℤ) → unsigned_abs c < 2 ^ 62 → unsigned_abs d < 2 ^ 62 → to_z w64 (of_z w64 (to_z w64 (of_z w64 c) -ℤ to_z w64 (of_z w64 d))) ≡ (negsuc 0 *ℤ d) +ℤ c
difference c d h k = omega (arith, ints, h, k)
