-- Rows added up one after the other.
use Rattle.std.proofs.Common.{◌≡◌, ℕ, ◌+◌, ◌<◌, ◌≤◌, ◌^◌, List, [], ◌∷◌, length, drop, take, get_or, refl, sym, ap, ◌∙◌, subst, arith, true, false, ◌||◌, to_z, of_z}
use Rattle.std.specs.Int.{w64, w128}
use Rattle.std.proofs.lemmas.Int.{to_z-of_z, fits_signed_from_abs}
use Rattle.std.specs.Prelude.{ℤ, pos, ◌+ℤ◌, ◌*ℤ◌, unsigned_abs}
use Rattle.std.proofs.Math.IntN.{+ℤ_assoc}
use borrow.Author.Differences.{ints}
use Prim.Native.Nat.{zero, suc}
use Rattle.std.specs.List.{All}
use Rattle.std.proofs.lemmas.List.Elements.{All-nil, All-cons, All-head, All-tail}
use Rattle.linear_rows.specs.Row.{Row}
use Rattle.linear_rows.specs.Combination.{row_at, combined, uses_strict, IsWideThroughout}
use Rattle.linear_rows.specs.internal.Columns.{AreMultipliers}
use Rattle.linear_rows.proofs.Positions.{from, at_end, take_none}

-- `IsWideFrom F z ms rows`: each partial sum that starts at `z` is below 2^126 in absolute value.
pub record IsWideFrom (F : Row → ℤ) (z : ℤ) (ms : List (ℕ × ℕ)) (rows : List Row) : Type 0 where
  pub wide : (k : ℕ) → unsigned_abs (z +ℤ combined F (take k ms) rows) < 2 ^ 126

-- The invariant of a loop: the sum so far, and that all partial sums fit exactly if those of the
-- rest do.
pub record Sums (F : Row → ℤ) (z : ℤ) (i : ℕ) (ms : List (ℕ × ℕ)) (rows : List Row) : Type 0 where
  pub fits : unsigned_abs z < 2 ^ 126
  pub value : z +ℤ combined F (drop i ms) rows ≡ combined F ms rows
  pub narrow : IsWideThroughout F ms rows → IsWideFrom F z (drop i ms) rows
  pub wide : IsWideFrom F z (drop i ms) rows → IsWideThroughout F ms rows

zero_left : (z : ℤ) → pos 0 +ℤ z ≡ z
zero_left z = omega (arith, ints)

zero_right : (z : ℤ) → z +ℤ pos 0 ≡ z
zero_right z = omega (arith, ints)

combined-nil : (F : Row → ℤ) (rows : List Row) → combined F [] rows ≡ pos 0
unfolding combined
combined-nil F rows = refl

combined-cons : (F : Row → ℤ) (m : ℕ × ℕ) (ms : List (ℕ × ℕ)) (rows : List Row) → combined F (m ∷ ms) rows ≡ (pos m.1 *ℤ F (row_at rows m.0)) +ℤ combined F ms rows
unfolding combined
combined-cons F m ms rows = refl

pub sums_start : (F : Row → ℤ) (ms : List (ℕ × ℕ)) (rows : List Row) → Sums F (pos 0) 0 ms rows
sums_start F ms rows = record {
  fits = omega arith;
  value = zero_left (combined F ms rows);
  narrow = λ h. record { wide = λ k. rw (zero_left (combined F (take k ms) rows)) (h.wide k) };
  wide = λ h. record { wide = λ k. subst (λ z. unsigned_abs z < 2 ^ 126) (zero_left (combined F (take k ms) rows)) (h.wide k) };
}

shifted : (F : Row → ℤ) (z : ℤ) (m : ℕ × ℕ) (ms : List (ℕ × ℕ)) (rows : List Row) → z +ℤ combined F (m ∷ ms) rows ≡ (z +ℤ (pos m.1 *ℤ F (row_at rows m.0))) +ℤ combined F ms rows
shifted F z m ms rows = ap (λ y. z +ℤ y) (combined-cons F m ms rows) ∙ sym (+ℤ_assoc z _ _)

wide_tail : (F : Row → ℤ) (z : ℤ) (m : ℕ × ℕ) (ms : List (ℕ × ℕ)) (rows : List Row) → IsWideFrom F z (m ∷ ms) rows → IsWideFrom F (z +ℤ (pos m.1 *ℤ F (row_at rows m.0))) ms rows
wide_tail F z m ms rows h = record { wide = λ k. subst (λ y. unsigned_abs y < 2 ^ 126) (shifted F z m (take k ms) rows) (h.wide (suc k)) }

wide_cons : (F : Row → ℤ) (z : ℤ) (m : ℕ × ℕ) (ms : List (ℕ × ℕ)) (rows : List Row) → unsigned_abs z < 2 ^ 126 → IsWideFrom F (z +ℤ (pos m.1 *ℤ F (row_at rows m.0))) ms rows → IsWideFrom F z (m ∷ ms) rows
wide_cons F z m ms rows f h = record { wide = go }
  where
    go : (k : ℕ) → unsigned_abs (z +ℤ combined F (take k (m ∷ ms)) rows) < 2 ^ 126
    go zero = subst (λ y. unsigned_abs y < 2 ^ 126) (sym (ap (λ y. z +ℤ y) (combined-nil F rows) ∙ zero_right z)) f
    go (suc k) = subst (λ y. unsigned_abs y < 2 ^ 126) (sym (shifted F z m (take k ms) rows)) (h.wide k)

-- The first partial sum is the start value.
begins : (F : Row → ℤ) (z : ℤ) (ms : List (ℕ × ℕ)) (rows : List Row) → IsWideFrom F z ms rows → unsigned_abs z < 2 ^ 126
begins F z ms rows h = subst (λ y. unsigned_abs y < 2 ^ 126) (ap (λ y. z +ℤ y) (combined-nil F rows) ∙ zero_right z) (h.wide 0)

pub sums_next : (F : Row → ℤ) (z y : ℤ) (i : ℕ) (ms : List (ℕ × ℕ)) (rows : List Row) (d : ℕ × ℕ) → i < length ms → Sums F z i ms rows → y ≡ z +ℤ (pos (get_or ms i d).1 *ℤ F (row_at rows (get_or ms i d).0)) → unsigned_abs y < 2 ^ 126 → Sums F y (i + 1) ms rows
sums_next F z y i ms rows d l h e f = go (get_or ms i d) (from ms i d l) e
  where
    go : (m : ℕ × ℕ) → drop i ms ≡ m ∷ drop (i + 1) ms → y ≡ z +ℤ (pos m.1 *ℤ F (row_at rows m.0)) → Sums F y (i + 1) ms rows
    go m k e = record {
      fits = f;
      value = ap (λ x. x +ℤ combined F (drop (i + 1) ms) rows) e ∙ sym (shifted F z m (drop (i + 1) ms) rows) ∙ ap (λ xs. z +ℤ combined F xs rows) (sym k) ∙ h.value;
      narrow = λ w. subst (λ x. IsWideFrom F x (drop (i + 1) ms) rows) (sym e) (wide_tail F z m (drop (i + 1) ms) rows (subst (λ xs. IsWideFrom F z xs rows) k (h.narrow w)));
      wide = λ w. h.wide (subst (λ xs. IsWideFrom F z xs rows) (sym k) (wide_cons F z m (drop (i + 1) ms) rows h.fits (subst (λ x. IsWideFrom F x (drop (i + 1) ms) rows) e w)));
    }

pub sums_stop : (F : Row → ℤ) (z : ℤ) (i : ℕ) (ms : List (ℕ × ℕ)) (rows : List Row) (d : ℕ × ℕ) → i < length ms → Sums F z i ms rows → (unsigned_abs (z +ℤ (pos (get_or ms i d).1 *ℤ F (row_at rows (get_or ms i d).0))) < 2 ^ 126 → ⊥) → IsWideThroughout F ms rows → ⊥
sums_stop F z i ms rows d l h n w = go (get_or ms i d) (from ms i d l) n
  where
    go : (m : ℕ × ℕ) → drop i ms ≡ m ∷ drop (i + 1) ms → (unsigned_abs (z +ℤ (pos m.1 *ℤ F (row_at rows m.0))) < 2 ^ 126 → ⊥) → ⊥
    go m k n = n (begins F _ (drop (i + 1) ms) rows (wide_tail F z m (drop (i + 1) ms) rows (subst (λ xs. IsWideFrom F z xs rows) k (h.narrow w))))

pub sums_end : (F : Row → ℤ) (z : ℤ) (i : ℕ) (ms : List (ℕ × ℕ)) (rows : List Row) → length ms ≤ i → Sums F z i ms rows → IsWideThroughout F ms rows × (z ≡ combined F ms rows)
sums_end F z i ms rows l h = (h.wide (record { wide = λ k. subst (λ xs. unsigned_abs (z +ℤ combined F (take k xs) rows) < 2 ^ 126) (sym (at_end ms i l)) (none k) }), sym (zero_right z) ∙ ap (λ y. z +ℤ y) (sym (combined-nil F rows)) ∙ ap (λ xs. z +ℤ combined F xs rows) (sym (at_end ms i l)) ∙ h.value)
  where
    none : (k : ℕ) → unsigned_abs (z +ℤ combined F (take k []) rows) < 2 ^ 126
    none k = subst (λ y. unsigned_abs y < 2 ^ 126) (sym (ap (λ xs. z +ℤ combined F xs rows) (take_none k) ∙ ap (λ y. z +ℤ y) (combined-nil F rows) ∙ zero_right z)) h.fits

-- ---- Strict rows

strict-cons : (m : ℕ × ℕ) (ms : List (ℕ × ℕ)) (rows : List Row) → uses_strict (m ∷ ms) rows ≡ ((row_at rows m.0).strict || uses_strict ms rows)
unfolding uses_strict
strict-cons m ms rows = refl

strict-nil : (rows : List Row) → uses_strict [] rows ≡ false
unfolding uses_strict
strict-nil rows = refl

pub strict_next : (i : ℕ) (ms : List (ℕ × ℕ)) (rows : List Row) (d : ℕ × ℕ) → i < length ms → uses_strict (drop i ms) rows ≡ uses_strict ms rows → (row_at rows (get_or ms i d).0).strict ≡ false → uses_strict (drop (i + 1) ms) rows ≡ uses_strict ms rows
strict_next i ms rows d l h n = go (get_or ms i d) (from ms i d l) n
  where
    go : (m : ℕ × ℕ) → drop i ms ≡ m ∷ drop (i + 1) ms → (row_at rows m.0).strict ≡ false → uses_strict (drop (i + 1) ms) rows ≡ uses_strict ms rows
    go m k n = sym (ap (λ b. b || uses_strict (drop (i + 1) ms) rows) n) ∙ sym (strict-cons m (drop (i + 1) ms) rows) ∙ ap (λ xs. uses_strict xs rows) (sym k) ∙ h

pub strict_found : (i : ℕ) (ms : List (ℕ × ℕ)) (rows : List Row) (d : ℕ × ℕ) → i < length ms → uses_strict (drop i ms) rows ≡ uses_strict ms rows → (row_at rows (get_or ms i d).0).strict ≡ true → true ≡ uses_strict ms rows
strict_found i ms rows d l h n = go (get_or ms i d) (from ms i d l) n
  where
    go : (m : ℕ × ℕ) → drop i ms ≡ m ∷ drop (i + 1) ms → (row_at rows m.0).strict ≡ true → true ≡ uses_strict ms rows
    go m k n = sym (ap (λ b. b || uses_strict (drop (i + 1) ms) rows) n) ∙ sym (strict-cons m (drop (i + 1) ms) rows) ∙ ap (λ xs. uses_strict xs rows) (sym k) ∙ h

pub strict_end : (i : ℕ) (ms : List (ℕ × ℕ)) (rows : List Row) → length ms ≤ i → uses_strict (drop i ms) rows ≡ uses_strict ms rows → false ≡ uses_strict ms rows
strict_end i ms rows l h = sym (strict-nil rows) ∙ ap (λ xs. uses_strict xs rows) (sym (at_end ms i l)) ∙ h

-- ---- Lists of multipliers

-- `AreFrom least count ms`: the multipliers `ms` have increasing indexes from `least` on, below
-- `count`.
abbrev pub AreFrom : ℕ → ℕ → List (ℕ × ℕ) → Type 0
AreFrom least count [] = Unit {0}
AreFrom least count (m ∷ ms) = (least ≤ m.0) × (m.0 < count) × (0 < m.1) × (m.1 < 2 ^ 62) × AreFrom (m.0 + 1) count ms

-- The invariant of a loop.
pub record Checks (least i count : ℕ) (ms : List (ℕ × ℕ)) : Type 0 where
  pub so_far : AreFrom least count (drop i ms) → AreFrom 0 count ms
  pub rest : AreFrom 0 count ms → AreFrom least count (drop i ms)

pub checks_start : (count : ℕ) (ms : List (ℕ × ℕ)) → Checks 0 0 count ms
checks_start count ms = record { so_far = λ h. h; rest = λ h. h }

pub checks_next : (least i count : ℕ) (ms : List (ℕ × ℕ)) (d : ℕ × ℕ) → i < length ms → Checks least i count ms → least ≤ (get_or ms i d).0 → (get_or ms i d).0 < count → 0 < (get_or ms i d).1 → (get_or ms i d).1 < 2 ^ 62 → Checks ((get_or ms i d).0 + 1) (i + 1) count ms
checks_next least i count ms d l h a b p q = go (get_or ms i d) (from ms i d l) a b p q
  where
    go : (m : ℕ × ℕ) → drop i ms ≡ m ∷ drop (i + 1) ms → least ≤ m.0 → m.0 < count → 0 < m.1 → m.1 < 2 ^ 62 → Checks (m.0 + 1) (i + 1) count ms
    go m k a b p q = record {
      so_far = λ w. h.so_far (subst (AreFrom least count) (sym k) (a, b, p, q, w));
      rest = λ w. (subst (AreFrom least count) k (h.rest w)).4;
    }

-- `IsNextEntry least count m`: the entry `m` may follow if the next index is at least `least`.
pub record IsNextEntry (least count : ℕ) (m : ℕ × ℕ) : Type 0 where
  pub grows : least ≤ m.0
  pub within : m.0 < count
  pub positive : 0 < m.1
  pub narrow : m.1 < 2 ^ 62

pub checks_at : (least i count : ℕ) (ms : List (ℕ × ℕ)) (d : ℕ × ℕ) → i < length ms → Checks least i count ms → AreFrom 0 count ms → IsNextEntry least count (get_or ms i d)
checks_at least i count ms d l h w = go (get_or ms i d) (from ms i d l)
  where
    go : (m : ℕ × ℕ) → drop i ms ≡ m ∷ drop (i + 1) ms → IsNextEntry least count m
    go m k = let r = subst (AreFrom least count) k (h.rest w) in record { grows = r.0; within = r.1; positive = r.2; narrow = r.3 }

pub checks_end : (least i count : ℕ) (ms : List (ℕ × ℕ)) → length ms ≤ i → Checks least i count ms → AreFrom 0 count ms
checks_end least i count ms l h = h.so_far (subst (AreFrom least count) (sym (at_end ms i l)) tt)

-- All indexes are at least the least one.
least_of : (least count : ℕ) (ms : List (ℕ × ℕ)) → AreFrom least count ms → All (λ n. least ≤ n.0) ms
least_of least count [] h = All-nil _
least_of least count (m ∷ ms) h = All-cons (λ n. least ≤ n.0) m ms h.0 (weaker ms (least_of (m.0 + 1) count ms h.4))
  where
    weaker : (ns : List (ℕ × ℕ)) → All (λ n. m.0 + 1 ≤ n.0) ns → All (λ n. least ≤ n.0) ns
    weaker [] k = All-nil _
    weaker (n ∷ ns) k = let a = All-head (λ n. m.0 + 1 ≤ n.0) n ns k in let b = h.0 in All-cons (λ n. least ≤ n.0) n ns (omega (arith, a, b)) (weaker ns (All-tail (λ n. m.0 + 1 ≤ n.0) n ns k))

pub are_multipliers : (least count : ℕ) (ms : List (ℕ × ℕ)) → AreFrom least count ms → AreMultipliers count ms
are_multipliers least count [] h = record { growing = tt; within = All-nil _; positive = All-nil _; narrow = All-nil _ }
are_multipliers least count (m ∷ ms) h = let r = are_multipliers (m.0 + 1) count ms h.4 in record {
  growing = (above ms (least_of (m.0 + 1) count ms h.4), r.growing);
  within = All-cons (λ n. n.0 < count) m ms h.1 r.within;
  positive = All-cons (λ n. 0 < n.1) m ms h.2 r.positive;
  narrow = All-cons (λ n. n.1 < 2 ^ 62) m ms h.3 r.narrow;
}
  where
    above : (ns : List (ℕ × ℕ)) → All (λ n. m.0 + 1 ≤ n.0) ns → All (λ n. m.0 < n.0) ns
    above [] k = All-nil _
    above (n ∷ ns) k = let a = All-head (λ n. m.0 + 1 ≤ n.0) n ns k in All-cons (λ n. m.0 < n.0) n ns (omega (arith, a)) (above ns (All-tail (λ n. m.0 + 1 ≤ n.0) n ns k))

pub are_from : (least count : ℕ) (ms : List (ℕ × ℕ)) → All (λ n. least ≤ n.0) ms → AreMultipliers count ms → AreFrom least count ms
are_from least count [] a h = tt
are_from least count (m ∷ ms) a h = (All-head (λ n. least ≤ n.0) m ms a, All-head (λ n. n.0 < count) m ms h.within, All-head (λ n. 0 < n.1) m ms h.positive, All-head (λ n. n.1 < 2 ^ 62) m ms h.narrow, are_from (m.0 + 1) count ms (above ms h.growing.0) (record { growing = h.growing.1; within = All-tail (λ n. n.0 < count) m ms h.within; positive = All-tail (λ n. 0 < n.1) m ms h.positive; narrow = All-tail (λ n. n.1 < 2 ^ 62) m ms h.narrow }))
  where
    above : (ns : List (ℕ × ℕ)) → All (λ n. m.0 < n.0) ns → All (λ n. m.0 + 1 ≤ n.0) ns
    above [] k = All-nil _
    above (n ∷ ns) k = let a = All-head (λ n. m.0 < n.0) n ns k in All-cons (λ n. m.0 + 1 ≤ n.0) n ns (omega (arith, a)) (above ns (All-tail (λ n. m.0 < n.0) n ns k))

pub from_any : (ms : List (ℕ × ℕ)) → All (λ n. 0 ≤ n.0) ms
from_any [] = All-nil _
from_any (m ∷ ms) = All-cons (λ n. 0 ≤ n.0) m ms (omega arith) (from_any ms)

-- ---- The numbers that the program computes

pub number_read : (F : Row → ℤ) (rows : List Row) (i : ℕ) (r : Row) (n : ℤ) → r ≡ row_at rows i → n ≡ F r → unsigned_abs n < 2 ^ 62 → to_z w64 (of_z w64 n) ≡ F (row_at rows i)
number_read F rows i r n e h k = ap (λ z. to_z w64 (of_z w64 z)) h ∙ to_z-of_z w64 (F r) (fits_signed_from_abs w64 (F r) (let l = subst (λ z. unsigned_abs z < 2 ^ 62) h k in omega (arith, l))) ∙ ap F e

pub sum_read : (n z : ℤ) → n ≡ z → unsigned_abs z < 2 ^ 126 → to_z w128 (of_z w128 n) ≡ z
sum_read n z e k = ap (λ y. to_z w128 (of_z w128 y)) e ∙ to_z-of_z w128 z (fits_signed_from_abs w128 z (omega (arith, k)))
