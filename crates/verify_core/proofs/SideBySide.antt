-- Pairs of lists of one length: what holds for each pair, one pair more, and the pair at a place.
use Rattle.std.proofs.Common.{◌≡◌, ◌<◌, ◌+◌, ℕ, refl, ap, subst, arith, List, [], ◌∷◌, ◌++◌, length, map}
use Rattle.std.specs.List.{AllZip}
use Prim.Native.Nat.{zero, suc}
use Rattle.heyvl_acts.specs.Acts.{TypedProcedure, procedure_at}
use Rattle.heyvl_acts.specs.Rules.{Each}
use Rattle.verify_core.specs.NumberedLists.{AllNumbered, row_at}
use Rattle.verify_core.specs.internal.Own.{EachNumbered}

-- ---- Each pair

pub zip_more : {A B : Type 0} (R : A → B → Type 0) (xs : List A) (ys : List B) (x : A) (y : B) → AllZip R xs ys → R x y → AllZip R (xs ++ x ∷ []) (ys ++ y ∷ [])
zip_more R [] [] x y h r = (r, tt)
zip_more R [] (b ∷ ys) x y h r = absurd h
zip_more R (a ∷ xs) [] x y h r = absurd h
zip_more R (a ∷ xs) (b ∷ ys) x y h r = (h.0, zip_more R xs ys x y h.1 r)

pub zip_seconds : {A B : Type 0} (R : A → B → Type 0) (P : B → Type 0) (xs : List A) (ys : List B) → ((x : A) (y : B) → R x y → P y) → AllZip R xs ys → Each P ys
zip_seconds R P [] [] f h = tt
zip_seconds R P [] (y ∷ ys) f h = absurd h
zip_seconds R P (x ∷ xs) [] f h = absurd h
zip_seconds R P (x ∷ xs) (y ∷ ys) f h = (f x y h.0, zip_seconds R P xs ys f h.1)

-- ---- With numbers of the pairs

pub numbered_map : {A B C : Type 0} (R : ℕ → A → B → Type 0) (S : ℕ → A → C → Type 0) (f : B → C) (k : ℕ) (xs : List A) (ys : List B) → ((n : ℕ) (x : A) (y : B) → R n x y → S n x (f y)) → AllNumbered R k xs ys → AllNumbered S k xs (map f ys)
numbered_map R S f k [] [] g h = tt
numbered_map R S f k [] (y ∷ ys) g h = absurd h
numbered_map R S f k (x ∷ xs) [] g h = absurd h
numbered_map R S f k (x ∷ xs) (y ∷ ys) g h = (g k x y h.0, numbered_map R S f (suc k) xs ys g h.1)

pub each_more : {B : Type 0} (P : ℕ → B → Type 0) (k : ℕ) (ys : List B) (n : ℕ) (y : B) → EachNumbered P k ys → n ≡ k + length ys → P n y → EachNumbered P k (ys ++ y ∷ [])
each_more P k [] n y h e p = let same : n ≡ k = omega (arith, e) in (subst (λ m. P m y) same p, tt)
each_more P k (x ∷ ys) n y h e p = (h.0, each_more P (suc k) ys n y h.1 (omega (arith, e)) p)

pub numbered_beside : {A B : Type 0} (P : ℕ → B → Type 0) (k : ℕ) (xs : List A) (ys : List B) → length ys ≡ length xs → EachNumbered P k ys → AllNumbered (λ n (x : A) (y : B). P n y) k xs ys
numbered_beside P k [] [] e h = tt
numbered_beside P k [] (y ∷ ys) e h = absurd (omega (arith, e))
numbered_beside P k (x ∷ xs) [] e h = absurd (omega (arith, e))
numbered_beside P k (x ∷ xs) (y ∷ ys) e h = (h.0, numbered_beside P (suc k) xs ys (omega (arith, e)) h.1)

pub numbered_more : {A B : Type 0} (R : ℕ → A → B → Type 0) (k : ℕ) (xs : List A) (ys : List B) (n : ℕ) (x : A) (y : B) → AllNumbered R k xs ys → n ≡ k + length xs → R n x y → AllNumbered R k (xs ++ x ∷ []) (ys ++ y ∷ [])
numbered_more R k [] [] n x y h e r = let same : n ≡ k = omega (arith, e) in (subst (λ m. R m x y) same r, tt)
numbered_more R k [] (b ∷ ys) n x y h e r = absurd h
numbered_more R k (a ∷ xs) [] n x y h e r = absurd h
numbered_more R k (a ∷ xs) (b ∷ ys) n x y h e r = (h.0, numbered_more R (suc k) xs ys n x y h.1 (omega (arith, e)) r)

pub numbered_length : {A B : Type 0} (R : ℕ → A → B → Type 0) (k : ℕ) (xs : List A) (ys : List B) → AllNumbered R k xs ys → length ys ≡ length xs
numbered_length R k [] [] h = refl
numbered_length R k [] (b ∷ ys) h = absurd h
numbered_length R k (a ∷ xs) [] h = absurd h
numbered_length R k (a ∷ xs) (b ∷ ys) h = ap (λ n. suc n) (numbered_length R (suc k) xs ys h.1)

pub first_number : (k : ℕ) → k ≡ k + zero
first_number k = omega arith

pub next_number : (k n : ℕ) → suc k + n ≡ k + suc n
next_number k n = omega arith

pub from_none : (n : ℕ) → 0 + n ≡ n
from_none n = omega arith

pub record IsPlaced {B : Type 0} (P : ℕ → B → Type 0) (count place n : ℕ) (y : B) : Type 0 where
  pub is : P n y
  pub there : place < count

placed_from : {A B : Type 0} (P : ℕ → B → Type 0) (k : ℕ) (xs : List A) (before behind : List B) (y : B) → AllNumbered (λ n (x : A) (b : B). P n b) k xs (before ++ (y ∷ behind)) → IsPlaced P (length xs) (length before) (k + length before) y
placed_from P k [] [] behind y h = absurd h
placed_from P k [] (b ∷ before) behind y h = absurd h
placed_from P k (x ∷ xs) [] behind y h = record { is = subst (λ n. P n y) (first_number k) h.0; there = omega arith }
placed_from P k (x ∷ xs) (b ∷ before) behind y h =
    let r = placed_from P (suc k) xs before behind y h.1 in
    let l = r.there in
    record { is = subst (λ n. P n y) (next_number k (length before)) r.is; there = omega (arith, l) }

pub placed : {A B : Type 0} (P : ℕ → B → Type 0) (xs : List A) (all before behind : List B) (y : B) (p : ℕ) → AllNumbered (λ n (x : A) (b : B). P n b) 0 xs all → all ≡ before ++ (y ∷ behind) → length before ≡ p → IsPlaced P (length xs) p p y
placed {A} {B} P xs all before behind y p h e place =
    let r = placed_from P 0 xs before behind y (subst (λ (l : List B). AllNumbered (λ n (x : A) (b : B). P n b) 0 xs l) e h) in
    let l = r.there in
    record { is = subst (λ n. P n y) (let f = from_none (length before) in omega (arith, f, place)) r.is; there = omega (arith, l, place) }

-- ---- A table with a row for each procedure

row_from : {B : Type 0} (R : ℕ → TypedProcedure → List B → Type 0) (k : ℕ) (qs : List TypedProcedure) (table : List (List B)) (n : ℕ) → n < length qs → AllNumbered R k qs table → R (k + n) (procedure_at qs n) (row_at table n)
row_from R k [] table n l h = absurd (omega arith)
row_from R k (q ∷ qs) [] n l h = absurd h
row_from R k (q ∷ qs) (r ∷ rs) zero l h = subst (λ i. R i q r) (first_number k) h.0
row_from R k (q ∷ qs) (r ∷ rs) (suc n) l h = subst (λ i. R i (procedure_at qs n) (row_at rs n)) (next_number k n) (row_from R (suc k) qs rs n (omega arith) h.1)

pub row_of : {B : Type 0} (R : ℕ → TypedProcedure → List B → Type 0) (ps : List TypedProcedure) (table : List (List B)) (p : ℕ) → p < length ps → AllNumbered R 0 ps table → R p (procedure_at ps p) (row_at table p)
row_of R ps table p l h = subst (λ i. R i (procedure_at ps p) (row_at table p)) (from_none p) (row_from R 0 ps table p l h)
