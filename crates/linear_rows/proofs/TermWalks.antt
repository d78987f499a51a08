-- The walks of the program over lists of terms.
use Rattle.std.proofs.Common.{◌≡◌, ℕ, ◌++◌, append_assoc, append-nil, ◌+◌, ◌-◌, ◌<◌, ◌≤◌, ◌^◌, List, [], ◌∷◌, length, drop, get_or, refl, sym, ap, ap₂, ◌∙◌, arith, subst, eqb, cond, Bool, true, false, ◌&&◌, nat_lt, to_z, of_z, FitsSigned}
use Rattle.std.specs.Prelude.{ℤ, pos, negsuc, ◌+ℤ◌, ◌*ℤ◌, unsigned_abs}
use borrow.Author.Differences.{ints}
use Prim.Native.Nat.{zero, suc}
use Rattle.std.proofs.Math.Seq.{drop-cons}
use Rattle.std.proofs.lemmas.List.{drop_all}
use Rattle.std.specs.List.{All}
use Rattle.std.proofs.lemmas.List.Elements.{All-nil, All-cons, All-weaker, All-append}
use Rattle.std.proofs.lemmas.Bool.Decides.{nat_tests}
use mir.Syntax.{w128}
use Rattle.heyvl_num.proofs.exported.Integers.{one-*ℤ}
use Rattle.linear_rows.specs.Terms.{coefficient, IsNormal, put_term, add_terms}
use Rattle.std.specs.Int.RustNames.{int_div}
use Rattle.heyvl_num.specs.Gcd.{gcd}
use Rattle.linear_rows.specs.TermResults.{scaled_terms, merged_terms, are_wide, are_narrow}
use Rattle.linear_rows.specs.internal.NextTerms.{IsNextTerm}
use Rattle.linear_rows.specs.Divisors.{common, divided_terms}
use Rattle.linear_rows.proofs.Normal.{coefficient-cons, coefficient-nil, head_coef, take_first, take_second, take_both}

pub from : (ts : List (ℕ × ℤ)) (i : ℕ) (d : ℕ × ℤ) → i < length ts → drop i ts ≡ get_or ts i d ∷ drop (i + 1) ts
from ts i d l = drop-cons ts i d l ∙ ap (λ n. get_or ts i d ∷ drop n ts) (next i)
  where
    next : (i : ℕ) → suc i ≡ i + 1
    next i = omega arith

pub drop_end : (ts : List (ℕ × ℤ)) (i : ℕ) → length ts ≤ i → drop i ts ≡ []
drop_end ts i h = drop_all i ts h

pub next_term : (x : ℕ) (ts : List (ℕ × ℤ)) (i : ℕ) (d : ℕ × ℤ) (s : ℤ) → i < length ts → IsNormal (drop i ts) → ((get_or ts i d).0 ≡ x → ⊥) → coefficient x (drop i ts) ≡ s → IsNormal (drop (i + 1) ts) × (coefficient x (drop (i + 1) ts) ≡ s)
next_term x ts i d s l k n e = go (get_or ts i d) (from ts i d l) n
  where
    differ : (a b : ℕ) → (a ≡ b → ⊥) → eqb a b ≡ false
    differ a b n = grind arith

    drop_zero : (z : ℤ) → pos 0 +ℤ z ≡ z
    drop_zero z = omega (arith, ints)

    go : (t : ℕ × ℤ) → drop i ts ≡ t ∷ drop (i + 1) ts → (t.0 ≡ x → ⊥) → IsNormal (drop (i + 1) ts) × (coefficient x (drop (i + 1) ts) ≡ s)
    go t f n = ((subst IsNormal f k).1.1, sym (coefficient-cons x t (drop (i + 1) ts) ∙ ap (λ b. cond b t.1 (pos 0) +ℤ coefficient x (drop (i + 1) ts)) (differ t.0 x n) ∙ drop_zero (coefficient x (drop (i + 1) ts))) ∙ ap (coefficient x) (sym f) ∙ e)

pub this_term : (x : ℕ) (ts : List (ℕ × ℤ)) (i : ℕ) (d : ℕ × ℤ) (s : ℤ) → i < length ts → IsNormal (drop i ts) → (get_or ts i d).0 ≡ x → coefficient x (drop i ts) ≡ s → (get_or ts i d).1 ≡ s
this_term x ts i d s l k n e = go (get_or ts i d) (from ts i d l) n
  where
    go : (t : ℕ × ℤ) → drop i ts ≡ t ∷ drop (i + 1) ts → t.0 ≡ x → t.1 ≡ s
    go t f n = sym (head_coef t (drop (i + 1) ts) (subst IsNormal f k)) ∙ ap₂ coefficient n (sym f) ∙ e

pub no_term : (x : ℕ) (ts : List (ℕ × ℤ)) (i : ℕ) (s : ℤ) → length ts ≤ i → coefficient x (drop i ts) ≡ s → pos 0 ≡ s
no_term x ts i s l e = sym (coefficient-nil x) ∙ ap (coefficient x) (sym (drop_end ts i l)) ∙ e

all_above : (v : ℕ) (ts : List (ℕ × ℤ)) (i : ℕ) (d : ℕ × ℤ) → i < length ts → IsNormal (drop i ts) → v < (get_or ts i d).0 → All (λ t. v < t.0) (drop i ts)
all_above v ts i d l k h = go (get_or ts i d) (from ts i d l) h
  where
    go : (t : ℕ × ℤ) → drop i ts ≡ t ∷ drop (i + 1) ts → v < t.0 → All (λ t. v < t.0) (drop i ts)
    go t f h = subst (λ xs. All (λ t. v < t.0) xs) (sym f) (All-cons (λ t. v < t.0) t (drop (i + 1) ts) h (All-weaker (λ u. t.0 < u.0) (λ u. v < u.0) (λ u m. omega (arith, h, m)) (drop (i + 1) ts) (subst IsNormal f k).1.0))

none_above : (v : ℕ) (ts : List (ℕ × ℤ)) (i : ℕ) → length ts ≤ i → All (λ t. v < t.0) (drop i ts)
none_above v ts i h = subst (λ xs. All (λ t. v < t.0) xs) (sym (drop_end ts i h)) (All-nil _)

after : (ts : List (ℕ × ℤ)) (i : ℕ) (d : ℕ × ℤ) → i < length ts → IsNormal (drop i ts) → IsNormal (drop (i + 1) ts)
after ts i d l k = (subst IsNormal (from ts i d l) k).1.1

put_append : (v : ℕ) (c : ℤ) (ms : List (ℕ × ℤ)) → put_term v c [] ++ ms ≡ put_term v c ms
put_append v (pos zero) ms = refl
put_append v (pos (suc n)) ms = refl
put_append v (negsuc n) ms = refl

pub step_so_far : (old now m k f : List (ℕ × ℤ)) (v : ℕ) (c : ℤ) → now ≡ old ++ put_term v c [] → m ≡ put_term v c k → old ++ m ≡ f → now ++ k ≡ f
step_so_far old now m k f v c e h g = ap (λ xs. xs ++ k) e ∙ append_assoc old (put_term v c []) k ∙ ap (λ xs. old ++ xs) (put_append v c k ∙ sym h) ∙ g

from_first : (ts : List (ℕ × ℤ)) (i : ℕ) (us : List (ℕ × ℤ)) (j : ℕ) (d : ℕ × ℤ) (c : ℤ) → i < length ts → j ≤ length us → IsNormal (drop i ts) → IsNormal (drop j us) → All (λ u. (get_or ts i d).0 < u.0) (drop j us) → c ≡ (get_or ts i d).1 → IsNextTerm ts i us j (get_or ts i d).0 c (i + 1) j
from_first ts i us j d c l m k n h e = record { split = go (get_or ts i d) (from ts i d l) h ∙ ap (λ z. put_term (get_or ts i d).0 z (merged_terms (drop (i + 1) ts) (drop j us))) (one-*ℤ (get_or ts i d).1 ∙ sym e); left_normal = after ts i d l k; right_normal = n; left_within = omega (arith, l); right_within = m; further = omega arith }
  where
    go : (t : ℕ × ℤ) → drop i ts ≡ t ∷ drop (i + 1) ts → All (λ u. t.0 < u.0) (drop j us) → merged_terms (drop i ts) (drop j us) ≡ put_term t.0 (pos 1 *ℤ t.1) (merged_terms (drop (i + 1) ts) (drop j us))
    go t f h = ap (λ xs. merged_terms xs (drop j us)) f ∙ take_first (pos 1) t (drop (i + 1) ts) (drop j us) (subst IsNormal f k) n h

from_second : (ts : List (ℕ × ℤ)) (i : ℕ) (us : List (ℕ × ℤ)) (j : ℕ) (d : ℕ × ℤ) (c : ℤ) → i ≤ length ts → j < length us → IsNormal (drop i ts) → IsNormal (drop j us) → All (λ t. (get_or us j d).0 < t.0) (drop i ts) → c ≡ (get_or us j d).1 → IsNextTerm ts i us j (get_or us j d).0 c i (j + 1)
from_second ts i us j d c l m k n h e = record { split = go (get_or us j d) (from us j d m) h ∙ ap (λ z. put_term (get_or us j d).0 z (merged_terms (drop i ts) (drop (j + 1) us))) (sym e); left_normal = k; right_normal = after us j d m n; left_within = l; right_within = omega (arith, m); further = omega arith }
  where
    go : (u : ℕ × ℤ) → drop j us ≡ u ∷ drop (j + 1) us → All (λ t. u.0 < t.0) (drop i ts) → merged_terms (drop i ts) (drop j us) ≡ put_term u.0 u.1 (merged_terms (drop i ts) (drop (j + 1) us))
    go u f h = ap (λ xs. merged_terms (drop i ts) xs) f ∙ take_second (pos 1) (drop i ts) u (drop (j + 1) us) (subst IsNormal f n) h

pub first_lower : (ts : List (ℕ × ℤ)) (i : ℕ) (us : List (ℕ × ℤ)) (j : ℕ) (d : ℕ × ℤ) (c : ℤ) → i < length ts → j < length us → IsNormal (drop i ts) → IsNormal (drop j us) → (get_or ts i d).0 < (get_or us j d).0 → c ≡ (get_or ts i d).1 → IsNextTerm ts i us j (get_or ts i d).0 c (i + 1) j
first_lower ts i us j d c l m k n h e = from_first ts i us j d c l (omega (arith, m)) k n (all_above (get_or ts i d).0 us j d m n h) e

pub first_alone : (ts : List (ℕ × ℤ)) (i : ℕ) (us : List (ℕ × ℤ)) (j : ℕ) (d : ℕ × ℤ) (c : ℤ) → i < length ts → j ≤ length us → length us ≤ j → IsNormal (drop i ts) → IsNormal (drop j us) → c ≡ (get_or ts i d).1 → IsNextTerm ts i us j (get_or ts i d).0 c (i + 1) j
first_alone ts i us j d c l m o k n e = from_first ts i us j d c l m k n (none_above (get_or ts i d).0 us j o) e

pub second_lower : (ts : List (ℕ × ℤ)) (i : ℕ) (us : List (ℕ × ℤ)) (j : ℕ) (d : ℕ × ℤ) (c : ℤ) → i < length ts → j < length us → IsNormal (drop i ts) → IsNormal (drop j us) → (get_or us j d).0 < (get_or ts i d).0 → c ≡ (get_or us j d).1 → IsNextTerm ts i us j (get_or us j d).0 c i (j + 1)
second_lower ts i us j d c l m k n h e = from_second ts i us j d c (omega (arith, l)) m k n (all_above (get_or us j d).0 ts i d l k h) e

pub second_alone : (ts : List (ℕ × ℤ)) (i : ℕ) (us : List (ℕ × ℤ)) (j : ℕ) (d : ℕ × ℤ) (c : ℤ) → i ≤ length ts → length ts ≤ i → j < length us → IsNormal (drop i ts) → IsNormal (drop j us) → c ≡ (get_or us j d).1 → IsNextTerm ts i us j (get_or us j d).0 c i (j + 1)
second_alone ts i us j d c l o m k n e = from_second ts i us j d c l m k n (none_above (get_or us j d).0 ts i o) e

pub both_level : (ts : List (ℕ × ℤ)) (i : ℕ) (us : List (ℕ × ℤ)) (j : ℕ) (d : ℕ × ℤ) (c : ℤ) → i < length ts → j < length us → IsNormal (drop i ts) → IsNormal (drop j us) → (get_or ts i d).0 ≡ (get_or us j d).0 → c ≡ (get_or ts i d).1 +ℤ (get_or us j d).1 → IsNextTerm ts i us j (get_or ts i d).0 c (i + 1) (j + 1)
both_level ts i us j d c l m k n h e = record { split = go (get_or ts i d) (get_or us j d) (from ts i d l) (from us j d m) h ∙ ap (λ z. put_term (get_or ts i d).0 z (merged_terms (drop (i + 1) ts) (drop (j + 1) us))) (ap (λ y. y +ℤ (get_or us j d).1) (one-*ℤ (get_or ts i d).1) ∙ sym e); left_normal = after ts i d l k; right_normal = after us j d m n; left_within = omega (arith, l); right_within = omega (arith, m); further = omega arith }
  where
    go : (t u : ℕ × ℤ) → drop i ts ≡ t ∷ drop (i + 1) ts → drop j us ≡ u ∷ drop (j + 1) us → t.0 ≡ u.0 → merged_terms (drop i ts) (drop j us) ≡ put_term t.0 ((pos 1 *ℤ t.1) +ℤ u.1) (merged_terms (drop (i + 1) ts) (drop (j + 1) us))
    go t u f g h = ap₂ (λ xs ys. merged_terms xs ys) f g ∙ take_both (pos 1) t (drop (i + 1) ts) u (drop (j + 1) us) (subst IsNormal f k) (subst IsNormal g n) h

merged-none : merged_terms [] [] ≡ []
unfolding add_terms
merged-none = refl

pub all_merged : (ts : List (ℕ × ℤ)) (i : ℕ) (us : List (ℕ × ℤ)) (j : ℕ) (out f : List (ℕ × ℤ)) → length ts ≤ i → length us ≤ j → out ++ merged_terms (drop i ts) (drop j us) ≡ f → out ≡ f
all_merged ts i us j out f l m e = sym (append-nil out) ∙ ap (λ xs. out ++ xs) (sym (ap₂ (λ xs ys. merged_terms xs ys) (drop_end ts i l) (drop_end us j m) ∙ merged-none)) ∙ e

fits_wide : (a : ℤ) → unsigned_abs a < 2 ^ 126 → FitsSigned w128 a
fits_wide a h = omega (arith, ints, h)

pub wide_sum : (a b : ℤ) → unsigned_abs a < 2 ^ 126 → unsigned_abs b < 2 ^ 126 → to_z w128 (of_z w128 (to_z w128 (of_z w128 a) +ℤ to_z w128 (of_z w128 b))) ≡ a +ℤ b
wide_sum a b k l = omega (arith, ints, k, l)

pub read_wide : (ts : List (ℕ × ℤ)) (i : ℕ) (d : ℕ × ℤ) → i < length ts → All (λ t. unsigned_abs t.1 < 2 ^ 126) ts → unsigned_abs (get_or ts i d).1 < 2 ^ 126
read_wide ts i d l h = h i d l

pub scaled_more : (p : ℤ) (ts : List (ℕ × ℤ)) (i : ℕ) (d : ℕ × ℤ) (out now f : List (ℕ × ℤ)) (q : ℤ) → i < length ts → now ≡ out ++ ((get_or ts i d).0, q) ∷ [] → q ≡ p *ℤ (get_or ts i d).1 → out ++ scaled_terms p (drop i ts) ≡ f → now ++ scaled_terms p (drop (i + 1) ts) ≡ f
scaled_more p ts i d out now f q l e h k = ap (λ xs. xs ++ scaled_terms p (drop (i + 1) ts)) (e ∙ ap (λ z. out ++ ((get_or ts i d).0, z) ∷ []) h) ∙ append_assoc out (((get_or ts i d).0, p *ℤ (get_or ts i d).1) ∷ []) (scaled_terms p (drop (i + 1) ts)) ∙ ap (λ xs. out ++ scaled_terms p xs) (sym (from ts i d l)) ∙ k

pub scaled_all : (p : ℤ) (ts : List (ℕ × ℤ)) (i : ℕ) (out f : List (ℕ × ℤ)) → length ts ≤ i → out ++ scaled_terms p (drop i ts) ≡ f → out ≡ f
scaled_all p ts i out f l k = sym (append-nil out) ∙ ap (λ xs. out ++ scaled_terms p xs) (sym (drop_end ts i l)) ∙ k

pub wide_more : (p : ℤ) (ts : List (ℕ × ℤ)) (i : ℕ) (d : ℕ × ℤ) (b : Bool) → i < length ts → unsigned_abs (p *ℤ (get_or ts i d).1) < 2 ^ 126 → are_wide p (drop i ts) ≡ b → are_wide p (drop (i + 1) ts) ≡ b
unfolding are_wide
wide_more p ts i d b l w e = go (get_or ts i d) (from ts i d l) w
  where
    test : (n : ℕ) → n < 2 ^ 126 → nat_lt n (2 ^ 126) ≡ true
    test n h = grind (arith, nat_tests)

    go : (t : ℕ × ℤ) → drop i ts ≡ t ∷ drop (i + 1) ts → unsigned_abs (p *ℤ t.1) < 2 ^ 126 → are_wide p (drop (i + 1) ts) ≡ b
    go t f w = ap (λ c. c && are_wide p (drop (i + 1) ts)) (sym (test (unsigned_abs (p *ℤ t.1)) w)) ∙ ap (are_wide p) (sym f) ∙ e

pub wide_fails : (p : ℤ) (ts : List (ℕ × ℤ)) (i : ℕ) (d : ℕ × ℤ) (b : Bool) → i < length ts → (unsigned_abs (p *ℤ (get_or ts i d).1) < 2 ^ 126 → ⊥) → are_wide p (drop i ts) ≡ b → false ≡ b
unfolding are_wide
wide_fails p ts i d b l w e = go (get_or ts i d) (from ts i d l) w
  where
    test : (n : ℕ) → (n < 2 ^ 126 → ⊥) → nat_lt n (2 ^ 126) ≡ false
    test n h = grind (arith, nat_tests)

    go : (t : ℕ × ℤ) → drop i ts ≡ t ∷ drop (i + 1) ts → (unsigned_abs (p *ℤ t.1) < 2 ^ 126 → ⊥) → false ≡ b
    go t f w = ap (λ c. c && are_wide p (drop (i + 1) ts)) (sym (test (unsigned_abs (p *ℤ t.1)) w)) ∙ ap (are_wide p) (sym f) ∙ e

pub wide_all : (p : ℤ) (ts : List (ℕ × ℤ)) (i : ℕ) (b : Bool) → length ts ≤ i → are_wide p (drop i ts) ≡ b → true ≡ b
unfolding are_wide
wide_all p ts i b l e = ap (are_wide p) (sym (drop_end ts i l)) ∙ e

pub All-push : {A : Type 0} (P : A → Type 0) (xs : List A) (x : A) → All P xs → P x → All P (xs ++ x ∷ [])
All-push P xs x h p = All-append P xs (x ∷ []) h (All-cons P x [] p (All-nil P))

pub wide_push : (now out : List (ℕ × ℤ)) (v : ℕ) (q z : ℤ) → now ≡ out ++ (v, q) ∷ [] → q ≡ z → unsigned_abs z < 2 ^ 126 → All (λ t. unsigned_abs t.1 < 2 ^ 126) out → All (λ t. unsigned_abs t.1 < 2 ^ 126) now
wide_push now out v q z e h l k = subst (All (λ t. unsigned_abs t.1 < 2 ^ 126)) (sym e) (All-push (λ t. unsigned_abs t.1 < 2 ^ 126) out (v, q) k (subst (λ y. unsigned_abs y < 2 ^ 126) (sym h) l))

pub common_end : (ts : List (ℕ × ℤ)) (n : ℕ) → n ≡ common (drop (length ts) ts) n
unfolding common
common_end ts n = sym (ap (λ xs. common xs n) (drop_end ts (length ts) (omega arith)))

pub common_more : (ts : List (ℕ × ℤ)) (i n g m r : ℕ) (d : ℕ × ℤ) → 0 < i → i ≤ length ts → g ≡ common (drop i ts) n → m ≡ unsigned_abs (get_or ts (i - 1) d).1 → r ≡ gcd m g → r ≡ common (drop (i - 1) ts) n
unfolding common
common_more ts i n g m r d p l e h k = k ∙ ap₂ gcd h e ∙ ap (λ j. gcd (unsigned_abs (get_or ts (i - 1) d).1) (common (drop j ts) n)) back ∙ sym (ap (λ xs. common xs n) (from ts (i - 1) d (omega (arith, p, l))))
  where
    back : i ≡ i - 1 + 1
    back = omega (arith, p)

pub divided_more : (g : ℕ) (ts : List (ℕ × ℤ)) (i : ℕ) (d : ℕ × ℤ) (out now f : List (ℕ × ℤ)) (q : ℤ) → i < length ts → now ≡ out ++ ((get_or ts i d).0, q) ∷ [] → q ≡ int_div (get_or ts i d).1 (pos g) → out ++ divided_terms g (drop i ts) ≡ f → now ++ divided_terms g (drop (i + 1) ts) ≡ f
divided_more g ts i d out now f q l e h k = ap (λ xs. xs ++ divided_terms g (drop (i + 1) ts)) (e ∙ ap (λ z. out ++ ((get_or ts i d).0, z) ∷ []) h) ∙ append_assoc out (((get_or ts i d).0, int_div (get_or ts i d).1 (pos g)) ∷ []) (divided_terms g (drop (i + 1) ts)) ∙ ap (λ xs. out ++ divided_terms g xs) (sym (from ts i d l)) ∙ k

pub narrow_more : (g : ℕ) (ts : List (ℕ × ℤ)) (i : ℕ) (d : ℕ × ℤ) (b : Bool) → i < length ts → unsigned_abs (int_div (get_or ts i d).1 (pos g)) < 2 ^ 62 → are_narrow (divided_terms g (drop i ts)) ≡ b → are_narrow (divided_terms g (drop (i + 1) ts)) ≡ b
narrow_more g ts i d b l w e = go (get_or ts i d) (from ts i d l) w
  where
    test : (n : ℕ) → n < 2 ^ 62 → nat_lt n (2 ^ 62) ≡ true
    test n h = grind (arith, nat_tests)

    go : (t : ℕ × ℤ) → drop i ts ≡ t ∷ drop (i + 1) ts → unsigned_abs (int_div t.1 (pos g)) < 2 ^ 62 → are_narrow (divided_terms g (drop (i + 1) ts)) ≡ b
    go t f w = ap (λ c. c && are_narrow (divided_terms g (drop (i + 1) ts))) (sym (test (unsigned_abs (int_div t.1 (pos g))) w)) ∙ ap (λ xs. are_narrow (divided_terms g xs)) (sym f) ∙ e

pub narrow_fails : (g : ℕ) (ts : List (ℕ × ℤ)) (i : ℕ) (d : ℕ × ℤ) (b : Bool) → i < length ts → (unsigned_abs (int_div (get_or ts i d).1 (pos g)) < 2 ^ 62 → ⊥) → are_narrow (divided_terms g (drop i ts)) ≡ b → false ≡ b
narrow_fails g ts i d b l w e = go (get_or ts i d) (from ts i d l) w
  where
    test : (n : ℕ) → (n < 2 ^ 62 → ⊥) → nat_lt n (2 ^ 62) ≡ false
    test n h = grind (arith, nat_tests)

    go : (t : ℕ × ℤ) → drop i ts ≡ t ∷ drop (i + 1) ts → (unsigned_abs (int_div t.1 (pos g)) < 2 ^ 62 → ⊥) → false ≡ b
    go t f w = ap (λ c. c && are_narrow (divided_terms g (drop (i + 1) ts))) (sym (test (unsigned_abs (int_div t.1 (pos g))) w)) ∙ ap (λ xs. are_narrow (divided_terms g xs)) (sym f) ∙ e

pub narrow_all : (g : ℕ) (ts : List (ℕ × ℤ)) (i : ℕ) (b : Bool) → length ts ≤ i → are_narrow (divided_terms g (drop i ts)) ≡ b → true ≡ b
narrow_all g ts i b l e = ap (λ xs. are_narrow (divided_terms g xs)) (sym (drop_end ts i l)) ∙ e
