-- Fingerprints, which rows with the same terms share, and the first row with each.
use Rattle.std.specs.Prelude.{◌≡◌, ℕ, ◌+◌, ◌*◌, ◌%◌, ◌^◌, List, [], ◌∷◌, ℤ, cond, nat_eq, Option}
use Rattle.std.specs.Prelude.{Some, None}
use Rattle.std.specs.Int.{w64, cast_unsigned}
use Rattle.std.specs.Option.{option_map}
use Rattle.std.specs.HashMap.{HashMap, get}
use Prim.Native.Nat.{suc}
use Rattle.linear_elim.specs.declared.fingerprints.TheConstants.{MULTIPLIER}
use Rattle.linear_elim.specs.Joins.{Derived}

-- `hashed a x`: the number `a` with `x` hashed into it.
unfoldable pub hashed : ℕ → ℕ → ℕ
hashed a x = ((a * MULTIPLIER) % 2 ^ 64 + x) % 2 ^ 64

-- `hashed_all a ts`: the number `a` with the variable and coefficient of each term hashed into it,
-- in order.
unfoldable pub hashed_all : ℕ → List (ℕ × ℤ) → ℕ
hashed_all a [] = a
hashed_all a (t ∷ ts) = hashed_all (hashed (hashed a t.0) (cast_unsigned w64 t.1)) ts

abbrev pub fingerprint : List (ℕ × ℤ) → ℕ
fingerprint ts = hashed_all 0 ts

-- `first_with q ks`: the index of the first row with the fingerprint `q`.
unfoldable pub first_with : ℕ → List Derived → Option ℕ
first_with q [] = None
first_with q (k ∷ ks) = cond (nat_eq (fingerprint k.row.terms) q) (Some 0)
    (option_map suc (first_with q ks))

-- `ArePlaces m ks`: the map `m` has the index of the first row with each fingerprint.
abbrev pub ArePlaces : {S : Type 0} → HashMap ℕ ℕ S → List Derived → Type 0
ArePlaces m ks = (q : ℕ) → get nat_eq m q ≡ first_with q ks
