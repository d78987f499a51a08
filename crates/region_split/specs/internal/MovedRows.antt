-- Rows that are a subsequence of other rows, and multipliers with the indexes of these rows.
use Rattle.std.specs.Prelude.{◌≡◌, ℕ, ◌-◌, ◌≤◌, ◌<◌, ltb, List, map, length, drop, get_or}
use Rattle.std.specs.Prelude.{if◌then◌else◌}
use Rattle.linear_rows.specs.Row.{Row}
use Rattle.linear_rows.specs.Combination.{row_at}
use Rattle.linear_form.specs.RowListLaws.{StandAmong}

-- `ArePlacesSoFar from rows more places at`: `places` are the indexes in `more` of the first rows
-- of `rows`, at least `from` and below `at`; the remaining rows are a subsequence of `more` from
-- `at` on.
pub record ArePlacesSoFar (from : ℕ) (rows more : List Row) (places : List ℕ) (at : ℕ)
    : Type 0 where
  pub some : length places ≤ length rows
  pub begun : from ≤ at
  pub inside : at ≤ length more
  pub beyond : (k : ℕ) → k < length places → from ≤ get_or places k 0
  pub below : (k : ℕ) → k < length places → get_or places k 0 < at
  pub same : (k : ℕ) → k < length places → row_at more (get_or places k 0) ≡ row_at rows k
  pub grow : (j k : ℕ) → j < k → k < length places → get_or places j 0 < get_or places k 0
  pub others : StandAmong (drop (length places) rows) (drop at more)

-- `ArePlaces from rows more places`: `places` are the indexes of `rows` in `more`, increasing and
-- at least `from`.
pub record ArePlaces (from : ℕ) (rows more : List Row) (places : List ℕ) : Type 0 where
  pub each : length places ≡ length rows
  pub beyond : (k : ℕ) → k < length rows → from ≤ get_or places k 0
  pub within : (k : ℕ) → k < length rows → get_or places k 0 < length more
  pub same : (k : ℕ) → k < length rows → row_at more (get_or places k 0) ≡ row_at rows k
  pub grow : (j k : ℕ) → j < k → k < length rows → get_or places j 0 < get_or places k 0

-- `IsMove rows more at`: row number `k` of `rows` is row number `at k` of `more`, and `at` is
-- increasing.
pub record IsMove (rows more : List Row) (at : ℕ → ℕ) : Type 0 where
  pub within : (k : ℕ) → k < length rows → at k < length more
  pub same : (k : ℕ) → k < length rows → row_at more (at k) ≡ row_at rows k
  pub grow : (j k : ℕ) → j < k → k < length rows → at j < at k

-- `place_of kept places k`: the first `kept` rows keep their indexes, the others have those of
-- `places`.
abbrev pub place_of : ℕ → List ℕ → ℕ → ℕ
place_of kept places k = if ltb k kept then k else get_or places (k - kept) 0

abbrev pub moved_all : (ℕ → ℕ) → List (ℕ × ℕ) → List (ℕ × ℕ)
moved_all at ms = map (λ (m : ℕ × ℕ). (at m.0, m.1)) ms
