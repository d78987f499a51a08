-- The numbers of the program as integers.
use Rattle.std.proofs.Common.{◌≡◌, ℕ, ◌*◌, ◌<◌, ◌^◌, List, [], ◌∷◌, refl, sym, ap, ap₂, ◌∙◌, arith, to_z, of_z, Bool, true, false, ◌&&◌, ◌||◌, nat_lt}
use Rattle.std.specs.Prelude.{ℤ, pos, negsuc, ◌+ℤ◌, ◌*ℤ◌, ◌<ℤ◌, unsigned_abs, Result, Ok, Err, IfOk}
use Rattle.std.proofs.Math.Nat.{mul-pos}
use borrow.Author.Differences.{ints}
use mir.Syntax.{w128}
use Prim.Native.Nat.{zero, suc}
use Rattle.std.specs.List.{All}
use Rattle.std.proofs.lemmas.List.Elements.{All-head, All-tail}
use Rattle.std.proofs.lemmas.Bool.Decides.{nat_tests}
use Rattle.linear_rows.specs.Terms.{is_wide}
use Rattle.linear_rows.specs.TermResults.{mixed_terms, are_wide}
use Rattle.linear_rows.specs.Divisors.{divisor}
use Rattle.linear_elim.specs.Joins.{Derived, size, lowest, mixed_row, join, joined_over}
use Rattle.linear_elim.specs.internal.DerivedRows.{derived_parts, parts_fit}

pub wide_sum : (a b p q : ℤ) → a ≡ p → b ≡ q → unsigned_abs p < 2 ^ 124 → unsigned_abs q < 2 ^ 124 → to_z w128 (of_z w128 (to_z w128 (of_z w128 a) +ℤ to_z w128 (of_z w128 b))) ≡ p +ℤ q
wide_sum a b p q e h k l = rw (e, h) (plain p q k l)
  where
    plain : (p q : ℤ) → unsigned_abs p < 2 ^ 124 → unsigned_abs q < 2 ^ 124 → to_z w128 (of_z w128 (to_z w128 (of_z w128 p) +ℤ to_z w128 (of_z w128 q))) ≡ p +ℤ q
    plain p q k l = omega (arith, ints, k, l)

pub narrow_wide : (p : ℕ) (ts : List (ℕ × ℤ)) → p < 2 ^ 62 → All (λ t. unsigned_abs t.1 < 2 ^ 62) ts → are_wide (pos p) ts ≡ true
unfolding are_wide
narrow_wide p [] h k = refl
narrow_wide p (t ∷ ts) h k = ap₂ (λ a b. a && b) (test _ (bound p t.1 h (All-head (λ t. unsigned_abs t.1 < 2 ^ 62) t ts k))) (narrow_wide p ts h (All-tail (λ t. unsigned_abs t.1 < 2 ^ 62) t ts k))
  where
    test : (n : ℕ) → n < 2 ^ 126 → nat_lt n (2 ^ 126) ≡ true
    test n h = grind (arith, nat_tests)

    bound : (p : ℕ) (c : ℤ) → p < 2 ^ 62 → unsigned_abs c < 2 ^ 62 → unsigned_abs (pos p *ℤ c) < 2 ^ 126
    bound p (pos n) h k = less p n h k
      where
        less : (p n : ℕ) → p < 2 ^ 62 → n < 2 ^ 62 → p * n < 2 ^ 126
        less p n h k = grind arith
    bound zero (negsuc n) h k = omega (arith, ints)
    bound (suc p) (negsuc n) h k = let m = less (suc p) (suc n) h k in omega (arith, ints, m)
      where
        less : (p n : ℕ) → p < 2 ^ 62 → n < 2 ^ 62 → p * n < 2 ^ 126
        less p n h k = grind arith

pub joined_parts : (x : ℕ) (l u : Derived) (p q : ℕ) (ts : List (ℕ × ℤ)) (c : ℤ) (s : Bool) (g : ℕ) (ms : List (ℕ × ℤ)) (o : ℕ) → p ≡ size x u → q ≡ size x l → ts ≡ mixed_terms (pos p) l.row.terms (pos q) u.row.terms → c ≡ (pos p *ℤ l.row.rest) +ℤ (pos q *ℤ u.row.rest) → s ≡ (l.row.strict || u.row.strict) → g ≡ divisor ts (unsigned_abs c) → ms ≡ mixed_terms (pos (p * u.over)) l.shares (pos (q * l.over)) u.shares → o ≡ l.over * u.over * g → derived_parts ts c s g ms o ≡ join x l u
unfolding join lowest mixed_row
joined_parts x l u p q ts c s g ms o a b d e f h k m = rw (m, k, h, f, e, d, b, a) refl

pub joined_over_is : (x : ℕ) (l u : Derived) (p q : ℕ) (ts : List (ℕ × ℤ)) (c : ℤ) (g : ℕ) (o : ℕ) → p ≡ size x u → q ≡ size x l → ts ≡ mixed_terms (pos p) l.row.terms (pos q) u.row.terms → c ≡ (pos p *ℤ l.row.rest) +ℤ (pos q *ℤ u.row.rest) → g ≡ divisor ts (unsigned_abs c) → o ≡ l.over * u.over * g → o ≡ joined_over x l u
unfolding mixed_row
joined_over_is x l u p q ts c g o a b d e h m = rw (m, h, e, d, b, a) refl

wide_test : (o : ℕ) → o < 2 ^ 126 → is_wide (pos o) ≡ true
wide_test o h = grind (arith, nat_tests)

not_wide_test : (o : ℕ) → (o < 2 ^ 126 → ⊥) → is_wide (pos o) ≡ false
not_wide_test o h = grind (arith, nat_tests)

pub fits_from : (w : Bool) (o O : ℕ) (d e : Derived) → true ≡ w → o ≡ O → o < 2 ^ 126 → d ≡ e → parts_fit d ≡ (w && is_wide (pos O) && parts_fit e)
fits_from w o O d e h k l m = ap parts_fit m ∙ ap (λ b. b && parts_fit e) (sym (ap₂ (λ a b. a && b) (sym h) (ap (λ n. is_wide (pos n)) (sym k) ∙ wide_test o l)))

pub fails_from : (w : Bool) (n O : ℕ) (b : Bool) → n ≡ O → (n < 2 ^ 126 → ⊥) → false ≡ (w && is_wide (pos O) && b)
fails_from w n O b k l = go w ∙ ap (λ a. w && a && b) (sym (not_wide_test n l) ∙ ap (λ n. is_wide (pos n)) k)
  where
    go : (w : Bool) → false ≡ (w && false && b)
    go true = refl
    go false = refl

pub positive_wide : (a b : ℕ) → a < 2 ^ 62 → b < 2 ^ 62 → 0 < a → 0 < b → pos 0 <ℤ to_z w128 (of_z w128 (to_z w128 a *ℤ to_z w128 b))
positive_wide a b h k p q = rw (same a h, same b k) (whole (a * b) (mul-pos p q) (less a b h k))
  where
    same : (n : ℕ) → n < 2 ^ 62 → to_z w128 n ≡ pos n
    same n h = omega (arith, ints, h)

    less : (a b : ℕ) → a < 2 ^ 62 → b < 2 ^ 62 → a * b < 2 ^ 126
    less a b h k = grind arith

    whole : (n : ℕ) → 0 < n → n < 2 ^ 126 → pos 0 <ℤ to_z w128 (of_z w128 (pos n))
    whole n p h = omega (arith, ints, p, h)

pub ok_map : {A E : Type 0} (r : Result A E) (F G : A → Type 0) → ((o : A) → F o → G o) → IfOk r F → IfOk r G
ok_map (Ok x) F G f h = f x h
ok_map (Err e) F G f h = tt

pub wide_argument : (p : ℕ) (ts us : List (ℕ × ℤ)) → p < 2 ^ 62 → ts ≡ us → All (λ t. unsigned_abs t.1 < 2 ^ 62) us → are_wide (to_z w128 p) ts ≡ true
wide_argument p ts us h e k = ap₂ are_wide (same p h) e ∙ narrow_wide p us h k
  where
    same : (n : ℕ) → n < 2 ^ 62 → to_z w128 n ≡ pos n
    same n h = omega (arith, ints, h)

pub shares_fit : (x : ℕ) (l u : Derived) (p q : ℕ) (b : Bool) → p ≡ size x u → q ≡ size x l → b ≡ (are_wide (pos (p * u.over)) l.shares && are_wide (pos (q * l.over)) u.shares) → b ≡ (are_wide (pos (size x u * u.over)) l.shares && are_wide (pos (size x l * l.over)) u.shares)
shares_fit x l u p q b e h k = k ∙ ap₂ (λ m n. are_wide (pos (m * u.over)) l.shares && are_wide (pos (n * l.over)) u.shares) e h
