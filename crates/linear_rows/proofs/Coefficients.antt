-- Variables that vanish, and the parts of a contradiction.
use Rattle.std.proofs.Common.{◌≡◌, ℕ, ◌+◌, ◌<◌, ◌≤◌, ◌^◌, List, [], ◌∷◌, length, take, get_or, refl, sym, ap, ap₂, ◌∙◌, subst, arith, Bool, true, false, cond, eqb, ltb}
use Rattle.std.specs.Prelude.{ℤ, pos, ◌+ℤ◌, ◌*ℤ◌, unsigned_abs}
use Rattle.std.proofs.Math.IntN.{*ℤ-zero}
use Rattle.std.proofs.lemmas.List.{get_or_read}
use borrow.Author.Differences.{ints}
use Prim.Native.Nat.{zero, suc}
use Rattle.std.specs.List.{All}
use Rattle.std.proofs.lemmas.List.Elements.{All-nil, All-cons, All-head, All-tail}
use Rattle.linear_rows.specs.Row.{Row}
use Rattle.linear_rows.specs.Combination.{row_at, combined, IsContradiction}
use Rattle.linear_rows.specs.internal.Columns.{number_in, AreMultipliers, IsBeyondAt, Vanishes, IsUnmet}
use Rattle.linear_rows.specs.declared.multipliers.Column.TheVariants.{Coefficient}
use Rattle.linear_rows.specs.Terms.{coefficient}
use Rattle.linear_rows.proofs.Normal.{coefficient-cons, coefficient-nil}

drop_zero : (z : ℤ) → pos 0 +ℤ z ≡ z
drop_zero z = omega (arith, ints)

differ : (a b : ℕ) → (a ≡ b → ⊥) → eqb a b ≡ false
differ a b n = grind arith

-- ---- A number above all variables

pub all_next : {X : Type 0} (P Q : X → Type 0) (xs : List X) (i : ℕ) (d : X) → i < length xs → All P (take i xs) → ((x : X) → P x → Q x) → Q (get_or xs i d) → All Q (take (suc i) xs)
all_next P Q [] i d l h f q = absurd (omega arith)
all_next P Q (x ∷ xs) zero d l h f q = All-cons Q x [] q (All-nil _)
all_next P Q (x ∷ xs) (suc i) d l h f q = All-cons Q x (take (suc i) xs) (f x (All-head P x (take i xs) h)) (all_next P Q xs i d (omega arith) (All-tail P x (take i xs) h) f q)

next_place : (i : ℕ) → suc i ≡ i + 1
next_place i = omega arith

pub beyond_step : (ts : List (ℕ × ℤ)) (i bound more : ℕ) (d : ℕ × ℤ) → i < length ts → All (λ t. t.0 < bound) (take i ts) → bound ≤ more → (get_or ts i d).0 < more → All (λ t. t.0 < more) (take (i + 1) ts)
beyond_step ts i bound more d l h a b = subst (λ n. All (λ t. t.0 < more) (take n ts)) (next_place i) (all_next (λ t. t.0 < bound) (λ t. t.0 < more) ts i d l h (λ t e. omega (arith, e, a)) b)

all_raised : (bound more : ℕ) (ts : List (ℕ × ℤ)) → bound ≤ more → All (λ t. t.0 < bound) ts → All (λ t. t.0 < more) ts
all_raised bound more [] a h = All-nil _
all_raised bound more (t ∷ ts) a h = let e = All-head (λ t. t.0 < bound) t ts h in All-cons (λ t. t.0 < more) t ts (omega (arith, e, a)) (all_raised bound more ts a (All-tail (λ t. t.0 < bound) t ts h))

raised : (bound more : ℕ) (rows : List Row) (m : ℕ × ℕ) → bound ≤ more → IsBeyondAt bound rows m → IsBeyondAt more rows m
raised bound more rows m a h = record { below = all_raised bound more (row_at rows m.0).terms a h.below }

pub rows_step : (rows : List Row) (ms : List (ℕ × ℕ)) (i bound other more : ℕ) (d : ℕ × ℕ) → i < length ms → All (IsBeyondAt bound rows) (take i ms) → bound ≤ more → other ≤ more → All (λ t. t.0 < other) (row_at rows (get_or ms i d).0).terms → All (IsBeyondAt more rows) (take (i + 1) ms)
rows_step rows ms i bound other more d l h a b k = subst (λ n. All (IsBeyondAt more rows) (take n ms)) (next_place i) (all_next (IsBeyondAt bound rows) (IsBeyondAt more rows) ms i d l h (λ m e. raised bound more rows m a e) (raised other more rows (get_or ms i d) b (record { below = k })))

absent : (x bound : ℕ) (ts : List (ℕ × ℤ)) → bound ≤ x → All (λ t. t.0 < bound) ts → coefficient x ts ≡ pos 0
absent x bound [] a h = coefficient-nil x
absent x bound (t ∷ ts) a h = let e = All-head (λ t. t.0 < bound) t ts h in coefficient-cons x t ts ∙ ap (λ b. cond b t.1 (pos 0) +ℤ coefficient x ts) (differ t.0 x (λ k. absurd (omega (arith, e, a, k)))) ∙ drop_zero (coefficient x ts) ∙ absent x bound ts a (All-tail (λ t. t.0 < bound) t ts h)

times_zero : (m : ℤ) → (m *ℤ pos 0) +ℤ pos 0 ≡ pos 0
times_zero m = rw (*ℤ-zero m) refl

all_absent : (x bound : ℕ) (ms : List (ℕ × ℕ)) (rows : List Row) → bound ≤ x → All (IsBeyondAt bound rows) ms → combined (number_in (Coefficient x)) ms rows ≡ pos 0
unfolding combined
all_absent x bound [] rows a h = refl
all_absent x bound (m ∷ ms) rows a h = ap₂ (λ y z. (pos m.1 *ℤ y) +ℤ z) (absent x bound (row_at rows m.0).terms a (All-head (IsBeyondAt bound rows) m ms h).below) (all_absent x bound ms rows a (All-tail (IsBeyondAt bound rows) m ms h)) ∙ times_zero (pos m.1)

all_taken : {X : Type 0} (P : X → Type 0) (xs : List X) (k : ℕ) → All P xs → All P (take k xs)
all_taken P xs zero h = All-nil P
all_taken P [] (suc k) h = All-nil P
all_taken P (x ∷ xs) (suc k) h = All-cons P x (take k xs) (All-head P x xs h) (all_taken P xs k (All-tail P x xs h))

-- A variable at or above the bound vanishes.
pub beyond_vanishes : (x bound : ℕ) (ms : List (ℕ × ℕ)) (rows : List Row) → bound ≤ x → All (IsBeyondAt bound rows) ms → Vanishes x ms rows
beyond_vanishes x bound ms rows a h = record {
  wide = record { wide = λ k. subst (λ z. unsigned_abs z < 2 ^ 126) (sym (all_absent x bound (take k ms) rows a (all_taken (IsBeyondAt bound rows) ms k h))) (omega arith) };
  zero = all_absent x bound ms rows a h;
}

pub vanish_all : (bound : ℕ) (ms : List (ℕ × ℕ)) (rows : List Row) → All (IsBeyondAt bound rows) ms → ((x : ℕ) → x < bound → Vanishes x ms rows) → (x : ℕ) → Vanishes x ms rows
vanish_all bound ms rows h k x = go (ltb x bound) refl
  where
    under : (v w : ℕ) → ltb v w ≡ true → v < w
    under v w e = grind arith

    over : (v w : ℕ) → ltb v w ≡ false → w ≤ v
    over v w e = grind arith

    go : (b : Bool) → ltb x bound ≡ b → Vanishes x ms rows
    go true e = k x (under x bound e)
    go false e = beyond_vanishes x bound ms rows (over x bound e) h

-- ---- The three parts of a contradiction

pub contradiction_made : (ms : List (ℕ × ℕ)) (rows : List Row) → AreMultipliers (length rows) ms → ((x : ℕ) → Vanishes x ms rows) → IsUnmet ms rows → IsContradiction ms rows
contradiction_made ms rows a v u = record {
  growing = a.growing;
  within = a.within;
  positive = a.positive;
  narrow = a.narrow;
  coefficients_wide = λ x. (v x).wide;
  constants_wide = u.wide;
  no_variable = λ x. (v x).zero;
  false_constant = u.false_constant;
}

pub multipliers_of : (ms : List (ℕ × ℕ)) (rows : List Row) → IsContradiction ms rows → AreMultipliers (length rows) ms
multipliers_of ms rows h = record { growing = h.growing; within = h.within; positive = h.positive; narrow = h.narrow }

pub vanishing_of : (ms : List (ℕ × ℕ)) (rows : List Row) → IsContradiction ms rows → (x : ℕ) → Vanishes x ms rows
vanishing_of ms rows h x = record { wide = h.coefficients_wide x; zero = h.no_variable x }

pub unmet_of : (ms : List (ℕ × ℕ)) (rows : List Row) → IsContradiction ms rows → IsUnmet ms rows
unmet_of ms rows h = record { wide = h.constants_wide; false_constant = h.false_constant }

-- An element within the list does not depend on the default.
pub row_read : (rows : List Row) (i : ℕ) (r : Row) → r ≡ get_or rows i r → i < length rows → r ≡ row_at rows i
row_read rows i r e l = get_or_read rows i r l e _
