-- Two lists of one length, item by item, with the numbers of the items. This project's own.
use Rattle.std.specs.Prelude.{ℕ, List, [], ◌∷◌, get_or}
use Prim.Native.Nat.{suc}

-- The lists have one length, and `R` holds for each item's number, the item of the first list and
-- the item of the second. The first items have the number `p`.
abbrev pub AllNumbered : {A B : Type 0} → (ℕ → A → B → Type 0) → ℕ → List A → List B → Type 0
AllNumbered R p [] [] = Unit {0}
AllNumbered R p [] (y ∷ ys) = ⊥
AllNumbered R p (x ∷ xs) [] = ⊥
AllNumbered R p (x ∷ xs) (y ∷ ys) = R p x y × AllNumbered R (suc p) xs ys

-- The row of `table` with the number `p`, or `[]` if there is none.
abbrev pub row_at : {A : Type 0} → List (List A) → ℕ → List A
row_at table p = get_or table p []
