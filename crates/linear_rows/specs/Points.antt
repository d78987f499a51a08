-- Points over one common denominator, and the rows that they satisfy. Proofs use them, because
-- their laws are about integers alone. `Solutions.antt` says the same with fractions, and is easier
-- to read.
use Rattle.std.specs.Prelude.{◌≡◌, ℕ, ◌<◌, List, ℤ, pos, ◌+ℤ◌, ◌*ℤ◌, ◌≤ℤ◌, ◌<ℤ◌, Bool, true, false}
use Rattle.std.specs.List.{All}
use Rattle.linear_rows.specs.Terms.{sum_at, is_in}
use Rattle.linear_rows.specs.Row.{Row}

-- A point: variable `v` has the value `top v / below`.
pub record Point : Type 0 where
  pub below : ℕ
  pub positive : 0 < below
  pub top : ℕ → ℤ

-- `sum_of_row below top r`: the left side of the row `r` at the values `top v / below`, times
-- `below`.
abbrev pub sum_of_row : ℕ → (ℕ → ℤ) → Row → ℤ
sum_of_row below top r = sum_at top r.terms +ℤ (r.rest *ℤ pos below)

-- `left_side w r`: the left side of the row `r` at the point `w`, times the denominator of `w`.
abbrev pub left_side : Point → Row → ℤ
left_side w r = sum_of_row w.below w.top r

-- `IsBelow strict z`: `z` is below 0 if `strict`, and at most 0 otherwise.
abbrev pub IsBelow : Bool → ℤ → Type 0
IsBelow true z = z <ℤ pos 0
IsBelow false z = z ≤ℤ pos 0

-- `IsMetAt below top r`: the values `top v / below` satisfy the row `r`.
pub record IsMetAt (below : ℕ) (top : ℕ → ℤ) (r : Row) : Type 0 where
  pub met : IsBelow r.strict (sum_of_row below top r)

-- `Meets w r`: the point `w` satisfies the row `r`.
abbrev pub Meets : Point → Row → Type 0
Meets w r = IsMetAt w.below w.top r

-- `IsMetSomewhere rows`: some point satisfies all rows.
pub record IsMetSomewhere (rows : List Row) : Type 0 where
  pub at_point : Point
  pub meets : All (Meets at_point) rows

-- `AgreesBut xs w z`: the points `w` and `z` give the same value to each variable that is not in
-- `xs`.
pub record AgreesBut (xs : List ℕ) (w z : Point) : Type 0 where
  pub same : (v : ℕ) → is_in v xs ≡ false → w.top v *ℤ pos z.below ≡ z.top v *ℤ pos w.below
