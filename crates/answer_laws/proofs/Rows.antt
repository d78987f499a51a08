-- Answers and rows with their numbers.
use Rattle.std.proofs.Common.{◌≡◌, ◌<◌, ◌+◌, ℕ, refl, subst, arith, List, [], ◌∷◌, ◌++◌, length}
use Prim.Native.Nat.{zero, suc}
use Rattle.heyvl_acts.specs.Acts.{TypedProcedure, procedure_at}
use Rattle.verify_core.specs.NumberedLists.{AllNumbered, row_at}
use Rattle.verify_core.specs.Outcomes.{all_outcomes, outcomes}
use Rattle.verify_core.specs.Tables.{GoalWith}
use Rattle.answer_laws.specs.Named.{Outcome}

first_number : (k : ℕ) → k ≡ k + zero
first_number k = omega arith

next_number : (k n : ℕ) → suc k + n ≡ k + suc n
next_number k n = omega arith

from_none : (n : ℕ) → 0 + n ≡ n
from_none n = omega arith

-- `P` holds for the item `y`, whose number is `n`, and `place` is below `count`.
pub record IsPlaced {B : Type 0} (P : ℕ → B → Type 0) (count place n : ℕ) (y : B) : Type 0 where
  pub is : P n y
  pub there : place < count

placed_from : {A B : Type 0} (P : ℕ → B → Type 0) (k : ℕ) (xs : List A) (before behind : List B) (y : B) → AllNumbered (λ n (x : A) (b : B). P n b) k xs (before ++ (y ∷ behind)) → IsPlaced P (length xs) (length before) (k + length before) y
placed_from P k [] [] behind y h = absurd h
placed_from P k [] (b ∷ before) behind y h = absurd h
placed_from P k (x ∷ xs) [] behind y h = record { is = subst (λ n. P n y) (first_number k) h.0; there = omega arith }
placed_from P k (x ∷ xs) (b ∷ before) behind y h =
    let r = placed_from P (suc k) xs before behind y h.1 in
    let l = r.there in
    record { is = subst (λ n. P n y) (next_number k (length before)) r.is; there = omega (arith, l) }

pub placed : {A B : Type 0} (P : ℕ → B → Type 0) (xs : List A) (all before behind : List B) (y : B) (p : ℕ) → AllNumbered (λ n (x : A) (b : B). P n b) 0 xs all → all ≡ before ++ (y ∷ behind) → length before ≡ p → IsPlaced P (length xs) p p y
placed {A} {B} P xs all before behind y p h e place =
    let r = placed_from P 0 xs before behind y (subst (λ (l : List B). AllNumbered (λ n (x : A) (b : B). P n b) 0 xs l) e h) in
    let l = r.there in
    record { is = subst (λ n. P n y) (let f = from_none (length before) in omega (arith, f, place)) r.is; there = omega (arith, l, place) }

row_from : {B : Type 0} (R : ℕ → TypedProcedure → List B → Type 0) (k : ℕ) (qs : List TypedProcedure) (table : List (List B)) (n : ℕ) → n < length qs → AllNumbered R k qs table → R (k + n) (procedure_at qs n) (row_at table n)
row_from R k [] table n l h = absurd (omega arith)
row_from R k (q ∷ qs) [] n l h = absurd h
row_from R k (q ∷ qs) (r ∷ rs) zero l h = subst (λ i. R i q r) (first_number k) h.0
row_from R k (q ∷ qs) (r ∷ rs) (suc n) l h = subst (λ i. R i (procedure_at qs n) (row_at rs n)) (next_number k n) (row_from R (suc k) qs rs n (omega arith) h.1)

pub row_of : {B : Type 0} (R : ℕ → TypedProcedure → List B → Type 0) (ps : List TypedProcedure) (table : List (List B)) (p : ℕ) → p < length ps → AllNumbered R 0 ps table → R p (procedure_at ps p) (row_at table p)
row_of R ps table p l h = subst (λ i. R i (procedure_at ps p) (row_at table p)) (from_none p) (row_from R 0 ps table p l h)

pub row_outcomes : {A : Type 0} (f : A → Outcome) (table : List (List (GoalWith A))) (p : ℕ) → row_at (all_outcomes f table) p ≡ outcomes f (row_at table p)
row_outcomes f [] p = refl
row_outcomes f (r ∷ rs) zero = refl
row_outcomes f (r ∷ rs) (suc p) = row_outcomes f rs p
