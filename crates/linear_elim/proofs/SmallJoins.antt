-- The combination of two rows with small numbers fits.
use Rattle.std.proofs.Common.{◌≡◌, ℕ, ◌*◌, ◌/◌, ◌<◌, ◌^◌, List, [], ◌∷◌, refl, sym, ap, ap₂, subst, ◌∙◌, arith, Bool, true, false, cond, eqb, nat_lt, div-le_self}
use Rattle.std.specs.Prelude.{ℤ, pos, negsuc, ◌+ℤ◌, ◌*ℤ◌, unsigned_abs}
use Rattle.std.specs.Int.RustNames.{int_div}
use Rattle.std.proofs.Math.IntN.{neg_ℤ}
use borrow.Author.Differences.{ints}
use Prim.Native.Nat.{zero, suc}
use Rattle.std.specs.List.{All}
use Rattle.std.proofs.lemmas.Bool.{eqb-true, and_from}
use Rattle.std.proofs.lemmas.Bool.Decides.{nat_tests}
use Rattle.std.proofs.lemmas.List.Elements.{All-nil, All-cons, All-head, All-tail, All-weaker}
use Rattle.linear_rows.specs.Terms.{coefficient, IsNormal, add_terms, is_narrow}
use Rattle.linear_rows.specs.TermResults.{mixed_terms, are_narrow}
use Rattle.linear_rows.specs.Divisors.{divisor, divided_terms}
use Rattle.linear_rows.proofs.exported.Moves.{coefficient-add}
use Rattle.linear_rows.proofs.exported.Normal.{add-normal}
use Rattle.linear_elim.specs.Joins.{Derived, size, row_divisor, lowest, mixed_row, joined_row, joined_shares, joined_over, share_divisor, join, join_fits}
use Rattle.linear_elim.specs.internal.DerivedRows.{IsDerived}
use Rattle.linear_elim.specs.internal.SmallRows.{IsSmall}
use Rattle.linear_elim.proofs.Numbers.{narrow_wide}

later : (x : ℕ) (ts : List (ℕ × ℤ)) → All (λ u. x < u.0) ts → coefficient x ts ≡ pos 0
unfolding coefficient
later x [] h = refl
later x (t ∷ ts) h = go (eqb t.0 x) refl (later x ts (All-tail (λ u. x < u.0) t ts h))
  where
    go : (e : Bool) → eqb t.0 x ≡ e → coefficient x ts ≡ pos 0 → cond e t.1 (pos 0) +ℤ coefficient x ts ≡ pos 0
    go true e ih = let l = All-head (λ u. x < u.0) t ts h in absurd (omega (arith, l, eqb-true t.0 x e))
    go false e ih = rw ih refl

plus_nothing : (z : ℤ) → z +ℤ pos 0 ≡ z
plus_nothing z = omega (arith, ints)

nothing_plus : (z : ℤ) → pos 0 +ℤ z ≡ z
nothing_plus z = omega (arith, ints)

same_var : (n : ℕ) → eqb n n ≡ true
same_var n = grind arith

first_is : (t : ℕ × ℤ) (ts : List (ℕ × ℤ)) → IsNormal (t ∷ ts) → coefficient t.0 (t ∷ ts) ≡ t.1
unfolding coefficient
first_is t ts k = ap₂ (λ b z. cond b t.1 (pos 0) +ℤ z) (same_var t.0) (later t.0 ts k.1.0) ∙ plus_nothing t.1

bounded_in : (B x : ℕ) (ts : List (ℕ × ℤ)) → 0 < B → IsNormal ts → All (λ t. unsigned_abs t.1 < B) ts → unsigned_abs (coefficient x ts) < B
unfolding coefficient
bounded_in B x [] p k h = p
bounded_in B x (t ∷ ts) p k h = go (eqb t.0 x) refl (bounded_in B x ts p k.1.1 (All-tail (λ t. unsigned_abs t.1 < B) t ts h))
  where
    go : (b : Bool) → eqb t.0 x ≡ b → unsigned_abs (coefficient x ts) < B → unsigned_abs (cond b t.1 (pos 0) +ℤ coefficient x ts) < B
    go true e ih = subst (λ z. unsigned_abs z < B) (sym (ap (λ z. t.1 +ℤ z) (later x ts (subst (λ y. All (λ u. y < u.0) ts) (eqb-true t.0 x e) k.1.0)) ∙ plus_nothing t.1)) (All-head (λ t. unsigned_abs t.1 < B) t ts h)
    go false e ih = subst (λ z. unsigned_abs z < B) (sym (nothing_plus (coefficient x ts))) ih

bounded_by : (B : ℕ) (ts : List (ℕ × ℤ)) → 0 < B → IsNormal ts → ((x : ℕ) → unsigned_abs (coefficient x ts) < B) → All (λ t. unsigned_abs t.1 < B) ts
unfolding coefficient
bounded_by B [] p k h = All-nil _
bounded_by B (t ∷ ts) p k h = All-cons (λ t. unsigned_abs t.1 < B) t ts (subst (λ z. unsigned_abs z < B) (first_is t ts k) (h t.0)) (bounded_by B ts p k.1.1 (λ x. rest x (eqb t.0 x) refl (h x)))
  where
    rest : (x : ℕ) (b : Bool) → eqb t.0 x ≡ b → unsigned_abs (coefficient x (t ∷ ts)) < B → unsigned_abs (coefficient x ts) < B
    rest x true e l = subst (λ z. unsigned_abs z < B) (sym (later x ts (subst (λ y. All (λ u. y < u.0) ts) (eqb-true t.0 x e) k.1.0))) p
    rest x false e l = subst (λ z. unsigned_abs z < B) (ap (λ b. cond b t.1 (pos 0) +ℤ coefficient x ts) e ∙ nothing_plus (coefficient x ts)) l

less_product : (p n : ℕ) → p < 2 ^ 40 → n < 2 ^ 20 → p * n < 2 ^ 60
less_product p n h k = grind arith

product_bound : (p : ℕ) (c : ℤ) → p < 2 ^ 40 → unsigned_abs c < 2 ^ 20 → unsigned_abs (pos p *ℤ c) < 2 ^ 60
product_bound p (pos n) h k = less_product p n h k
product_bound zero (negsuc n) h k = omega (arith, ints)
product_bound (suc p) (negsuc n) h k = let m = less_product (suc p) (suc n) h k in omega (arith, ints, m)

sum_bound : (a b : ℤ) → unsigned_abs a < 2 ^ 60 → unsigned_abs b < 2 ^ 60 → unsigned_abs (a +ℤ b) < 2 ^ 61
sum_bound a b h k = omega (arith, ints, h, k)

mixed_small : (p q : ℕ) (ts us : List (ℕ × ℤ)) → p < 2 ^ 40 → q < 2 ^ 40 → IsNormal ts → IsNormal us → All (λ t. unsigned_abs t.1 < 2 ^ 20) ts → All (λ t. unsigned_abs t.1 < 2 ^ 20) us → All (λ t. unsigned_abs t.1 < 2 ^ 61) (mixed_terms (pos p) ts (pos q) us)
unfolding coefficient
mixed_small p q ts us h k n m b c = bounded_by (2 ^ 61) (mixed_terms (pos p) ts (pos q) us) (omega arith) (add-normal (pos p) ts (add_terms (pos q) us []) (add-normal (pos q) us [] tt)) (λ x. subst (λ z. unsigned_abs z < 2 ^ 61) (sym (coefficient-add x (pos p) ts (add_terms (pos q) us []) ∙ ap (λ z. (pos p *ℤ coefficient x ts) +ℤ z) (coefficient-add x (pos q) us [] ∙ plus_nothing (pos q *ℤ coefficient x us)))) (sum_bound (pos p *ℤ coefficient x ts) (pos q *ℤ coefficient x us) (product_bound p (coefficient x ts) h (bounded_in (2 ^ 20) x ts (omega arith) n b)) (product_bound q (coefficient x us) k (bounded_in (2 ^ 20) x us (omega arith) m c))))

negated : (m : ℕ) → unsigned_abs (neg_ℤ (pos m)) ≡ m
negated zero = refl
negated (suc m) = refl

quotient_less : (B g : ℕ) (c : ℤ) → unsigned_abs c < B → unsigned_abs (int_div c (pos g)) < B
quotient_less B g (pos n) h = let l = div-le_self n g in omega (arith, h, l)
quotient_less B g (negsuc n) h = let l = div-le_self (suc n) g in subst (λ m. m < B) (sym (negated (suc n / g))) (omega (arith, h, l))

test_narrow : (n : ℕ) → n < 2 ^ 61 → nat_lt n (2 ^ 62) ≡ true
test_narrow n h = grind (arith, nat_tests)

divided_narrow : (g : ℕ) (ts : List (ℕ × ℤ)) → All (λ t. unsigned_abs t.1 < 2 ^ 61) ts → are_narrow (divided_terms g ts) ≡ true
divided_narrow g [] h = refl
divided_narrow g (t ∷ ts) h = and_from _ _ (test_narrow _ (quotient_less (2 ^ 61) g t.1 (All-head (λ t. unsigned_abs t.1 < 2 ^ 61) t ts h))) (divided_narrow g ts (All-tail (λ t. unsigned_abs t.1 < 2 ^ 61) t ts h))

small_multiple : (a b : ℕ) → a < 2 ^ 20 → b < 2 ^ 20 → a * b < 2 ^ 40
small_multiple a b h k = grind arith

small_over : (a b g : ℕ) → a < 2 ^ 20 → b < 2 ^ 20 → g < 2 ^ 20 → a * b * g < 2 ^ 60
small_over a b g h k l = less_product (a * b) g (small_multiple a b h k) l

test_wide : (n : ℕ) → n < 2 ^ 60 → nat_lt n (2 ^ 126) ≡ true
test_wide n h = grind (arith, nat_tests)

more_40 : (n : ℕ) → n < 2 ^ 20 → n < 2 ^ 40
more_40 n h = omega arith

more_62 : (n : ℕ) → n < 2 ^ 40 → n < 2 ^ 62
more_62 n h = omega arith

more_terms : (ts : List (ℕ × ℤ)) → All (λ t. unsigned_abs t.1 < 2 ^ 20) ts → All (λ t. unsigned_abs t.1 < 2 ^ 62) ts
more_terms ts h = All-weaker (λ t. unsigned_abs t.1 < 2 ^ 20) (λ t. unsigned_abs t.1 < 2 ^ 62) (λ t l. omega (arith, l)) ts h

small_size : (x : ℕ) (r : Derived) → IsDerived r → IsSmall r → size x r < 2 ^ 20
small_size x r h k = bounded_in (2 ^ 20) x r.row.terms (omega arith) h.is_row.normal k.terms

pub small_fits : (x : ℕ) (l u : Derived) → IsDerived l → IsDerived u → IsSmall l → IsSmall u → row_divisor (joined_row x l u) < 2 ^ 20 → join_fits x l u ≡ true
unfolding join lowest mixed_row
small_fits x l u h k s t g = and_from _ _ (and_from _ _ (and_from _ _ (narrow_wide (size x u * u.over) l.shares (more_62 _ p) (more_terms l.shares s.shares)) (narrow_wide (size x l * l.over) u.shares (more_62 _ q) (more_terms u.shares t.shares))) (test_wide (joined_over x l u) over)) (and_from _ _ (and_from _ _ (and_from _ _ row_terms row_rest) shares) (over_narrow (joined_over x l u / share_divisor x l u) (less_over (joined_over x l u) (share_divisor x l u) over)))
  where
    p : size x u * u.over < 2 ^ 40
    p = small_multiple (size x u) u.over (small_size x u k t) t.over

    q : size x l * l.over < 2 ^ 40
    q = small_multiple (size x l) l.over (small_size x l h s) s.over

    over : joined_over x l u < 2 ^ 60
    over = small_over l.over u.over (row_divisor (joined_row x l u)) s.over t.over g

    less_over : (n d : ℕ) → n < 2 ^ 60 → n / d < 2 ^ 61
    less_over n d h = let m = div-le_self n d in omega (arith, h, m)

    over_narrow : (n : ℕ) → n < 2 ^ 61 → is_narrow (pos n) ≡ true
    over_narrow n h = test_narrow n h

    row_terms : are_narrow (join x l u).row.terms ≡ true
    row_terms = divided_narrow (row_divisor (joined_row x l u)) (joined_row x l u).terms (mixed_small (size x u) (size x l) l.row.terms u.row.terms (more_40 _ (small_size x u k t)) (more_40 _ (small_size x l h s)) h.is_row.normal k.is_row.normal s.terms t.terms)

    row_rest : is_narrow (join x l u).row.rest ≡ true
    row_rest = test_narrow _ (quotient_less (2 ^ 61) (row_divisor (joined_row x l u)) (joined_row x l u).rest (sum_bound (pos (size x u) *ℤ l.row.rest) (pos (size x l) *ℤ u.row.rest) (product_bound (size x u) l.row.rest (more_40 _ (small_size x u k t)) s.rest) (product_bound (size x l) u.row.rest (more_40 _ (small_size x l h s)) t.rest)))

    shares : are_narrow (join x l u).shares ≡ true
    shares = divided_narrow (share_divisor x l u) (joined_shares x l u) (mixed_small (size x u * u.over) (size x l * l.over) l.shares u.shares p q h.shares_normal k.shares_normal s.shares t.shares)

pub terms_are : (x : ℕ) (l u : Derived) (p q : ℕ) (ts : List (ℕ × ℤ)) (c : ℤ) (g : ℕ) → p ≡ size x u → q ≡ size x l → ts ≡ mixed_terms (pos p) l.row.terms (pos q) u.row.terms → c ≡ (pos p *ℤ l.row.rest) +ℤ (pos q *ℤ u.row.rest) → g ≡ divisor ts (unsigned_abs c) → divided_terms g ts ≡ (join x l u).row.terms
unfolding join lowest mixed_row
terms_are x l u p q ts c g a b e f h = rw (h, f, e, b, a) refl

pub divisor_is : (x : ℕ) (l u : Derived) (p q : ℕ) (ts : List (ℕ × ℤ)) (c : ℤ) (g : ℕ) → p ≡ size x u → q ≡ size x l → ts ≡ mixed_terms (pos p) l.row.terms (pos q) u.row.terms → c ≡ (pos p *ℤ l.row.rest) +ℤ (pos q *ℤ u.row.rest) → g ≡ divisor ts (unsigned_abs c) → g ≡ row_divisor (joined_row x l u)
unfolding mixed_row
divisor_is x l u p q ts c g a b e f h = rw (h, f, e, b, a) refl

pub size_small : (x : ℕ) (r : Derived) (n : ℕ) → IsDerived r → IsSmall r → n ≡ size x r → n < 2 ^ 20
size_small x r n h k e = subst (λ m. m < 2 ^ 20) (sym e) (small_size x r h k)
