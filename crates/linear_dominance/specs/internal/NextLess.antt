-- The next term of the difference of two lists.
use Rattle.std.specs.Prelude.{◌≡◌, ℕ, ◌<◌, ◌≤◌, ◌+◌, List, ℤ, drop, length}
use Rattle.linear_rows.specs.Terms.{IsNormal, put_term}
use Rattle.linear_dominance.specs.DominatedRows.{less}

-- `IsNextLess ts i us j v c k l`: from the places `i` of `ts` and `j` of `us` on, the first term of
-- the difference is `(v, c)`, none if `c` is 0, and `k` and `l` are the places after it.
pub record IsNextLess (ts : List (ℕ × ℤ)) (i : ℕ) (us : List (ℕ × ℤ)) (j v : ℕ) (c : ℤ) (k l : ℕ)
    : Type 0 where
  pub split : less (drop i ts) (drop j us) ≡ put_term v c (less (drop k ts) (drop l us))
  pub left_normal : IsNormal (drop k ts)
  pub right_normal : IsNormal (drop l us)
  pub left_within : k ≤ length ts
  pub right_within : l ≤ length us
  pub further : i + j < k + l
