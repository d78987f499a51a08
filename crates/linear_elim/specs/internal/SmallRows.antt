-- Rows with small numbers: the intermediate numbers of their combination fit.
use Rattle.linear_elim.specs.Joins.{Derived}
use Rattle.linear_rows.specs.TermResults.{mixed_terms}
use Rattle.linear_rows.specs.Terms.{IsNormal, put_term}
use Rattle.std.specs.List.{All}
use Rattle.std.specs.Prelude.{◌≡◌, ℕ, ◌<◌, ◌≤◌, ◌+◌, ◌^◌, List, ℤ, pos, unsigned_abs, drop, length}

-- `IsSmall r`: each number of `r` is below 2^20 in absolute value.
pub record IsSmall (r : Derived) : Type 0 where
  pub terms : All (λ t. unsigned_abs t.1 < 2 ^ 20) r.row.terms
  pub rest : unsigned_abs r.row.rest < 2 ^ 20
  pub shares : All (λ s. unsigned_abs s.1 < 2 ^ 20) r.shares
  pub over : r.over < 2 ^ 20

-- `IsNextMixed p ts i q us j v c k l`: from the places `i` of `ts` and `j` of `us` on, the first
-- term of `p * ts + q * us` is `(v, c)`, none if `c` is 0, and `k` and `l` are the places after it.
pub record IsNextMixed (p : ℕ) (ts : List (ℕ × ℤ)) (i q : ℕ) (us : List (ℕ × ℤ)) (j v : ℕ) (c : ℤ)
    (k l : ℕ) : Type 0 where
  pub split : mixed_terms (pos p) (drop i ts) (pos q) (drop j us)
      ≡ put_term v c (mixed_terms (pos p) (drop k ts) (pos q) (drop l us))
  pub left_normal : IsNormal (drop k ts)
  pub right_normal : IsNormal (drop l us)
  pub left_within : k ≤ length ts
  pub right_within : l ≤ length us
  pub further : i + j < k + l
