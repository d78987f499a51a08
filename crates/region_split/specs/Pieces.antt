-- Pieces of a cell. If the greedy choice for the rows of a false piece finds no integer for a
-- variable, the piece is split in two: the variable is at most an integer, or at least the next
-- one. There are at most eight splits above a piece. Source: branch and bound (Land and Doig, An
-- Automatic Method of Solving Discrete Programming Problems, 1960); where to split, and how often,
-- is this project's own.
use Rattle.std.specs.Prelude.{◌≡◌, ◌<◌, ◌≤◌, ℕ, ℤ, List, [], ◌∷◌, ◌++◌, true, false, Some}
use Prim.Native.Nat.{suc}
use Rattle.heyvl_num.specs.Rational.{Rational}
use Rattle.heyvl_num.specs.Rounding.{floorʳ}
use Rattle.heylo_formula.specs.Goals.{Goal}
use Rattle.heylo_formula.specs.declared.values.Val.{Val}
use Rattle.linear_rows.specs.GreedyPoint.{End, Interval, Greedy, ChoosesFrom}
use Rattle.linear_rows.specs.Row.{Row}
use Rattle.linear_rows.specs.Solutions.{IsSolvable}
use Rattle.linear_rows.specs.Terms.{is_narrow}
use Rattle.linear_form.specs.PathRows.{rows_of, IsPlainAt}
use Rattle.linear_form.specs.Query.{Taken, onto}
use Rattle.linear_form.specs.Splits.{split_at}
use Rattle.region_split.specs.PathPoints.{IsPointOf, Breaks}
use Rattle.region_split.specs.Walk.{IsFalse, IsRefutedCell}
use Rattle.std.specs.List.{All}

-- `BreaksAbove g ps x m`: the rows of the path `ps` with the denied goal are solvable, the greedy
-- choice for them breaks at the variable `x`, and `m` is the low end of its interval, rounded down.
pub record BreaksAbove (g : Goal) (ps : List Taken) (x : ℕ) (m : ℤ) : Type 0 where
  pub rows : List Row
  pub are_rows : rows_of g ps true ≡ Some rows
  pub solvable : IsSolvable rows
  pub earlier : List (ℕ × Rational)
  pub interval : Interval
  pub choice : ChoosesFrom rows g.types (Greedy.broke x earlier interval)
  pub low : End
  pub has_low : interval.low ≡ Some low
  pub bound : m ≡ floorʳ low.place

-- `IsSplitAt g n ps x m`: the piece `ps` after `n` splits is split; in its first half, the variable
-- `x` is at most `m`. If the interval of `x` is the open one from 1/3 to 2/3, `m` is 0.
pub record IsSplitAt (g : Goal) (n : ℕ) (ps : List Taken) (x : ℕ) (m : ℤ) : Type 0 where
  pub few : n < 8
  pub false_piece : IsFalse g ps
  pub breaks : BreaksAbove g ps x m
  pub narrow : is_narrow m ≡ true

-- `first_half ps x m`: the half of the piece `ps` in which the variable `x` is at most `m`.
abbrev pub first_half : List Taken → ℕ → ℤ → List Taken
first_half ps x m = onto ps (split_at x m) true

-- `second_half ps x m`: the half of the piece `ps` in which the variable `x` is not at most `m`.
abbrev pub second_half : List Taken → ℕ → ℤ → List Taken
second_half ps x m = onto ps (split_at x m) false

-- `AreEnds g n ps es`: `es` are the ends of the piece `ps` after `n` splits, in order. A piece
-- whose rows are refuted has none. A false piece whose greedy choice does not break, or breaks
-- after eight splits, is its own end. Any other piece has the ends of its two halves.
pub data AreEnds (g : Goal) : ℕ → List Taken → List (List Taken) → Type 0 where
  refuted : (n : ℕ) (ps : List Taken) → IsRefutedCell g ps → AreEnds g n ps []
  whole : (n : ℕ) (ps : List Taken) (point : List Val) → IsFalse g ps → IsPointOf g ps point
      → AreEnds g n ps (ps ∷ [])
  deepest : (n : ℕ) (ps : List Taken) → 8 ≤ n → IsFalse g ps → Breaks g ps
      → AreEnds g n ps (ps ∷ [])
  halves : (n : ℕ) (ps : List Taken) (x : ℕ) (m : ℤ) (es fs : List (List Taken))
      → IsSplitAt g n ps x m → AreEnds g (suc n) (first_half ps x m) es
      → AreEnds g (suc n) (second_half ps x m) fs → AreEnds g n ps (es ++ fs)

-- `HasFirstPoint g n ps point`: `point` is that of the first end of the piece `ps` at which the
-- greedy choice does not break. Nothing after this end is split.
pub data HasFirstPoint (g : Goal) : ℕ → List Taken → List Val → Type 0 where
  whole : (n : ℕ) (ps : List Taken) (point : List Val) → IsFalse g ps → IsPointOf g ps point
      → HasFirstPoint g n ps point
  first : (n : ℕ) (ps : List Taken) (x : ℕ) (m : ℤ) (point : List Val) → IsSplitAt g n ps x m
      → HasFirstPoint g (suc n) (first_half ps x m) point → HasFirstPoint g n ps point
  second : (n : ℕ) (ps : List Taken) (x : ℕ) (m : ℤ) (es : List (List Taken)) (point : List Val)
      → IsSplitAt g n ps x m → AreEnds g (suc n) (first_half ps x m) es → All (Breaks g) es
      → HasFirstPoint g (suc n) (second_half ps x m) point → HasFirstPoint g n ps point

-- `IsPieceOf g cell n ps`: the walk solves the piece `ps` of `cell`, after `n` splits: the cell
-- itself, the first half of a piece that is split, or the second half, if the greedy choice breaks
-- at each end of the first half.
pub data IsPieceOf (g : Goal) (cell : List Taken) : ℕ → List Taken → Type 0 where
  whole : IsPieceOf g cell 0 cell
  first : (n : ℕ) (ps : List Taken) (x : ℕ) (m : ℤ) → IsPieceOf g cell n ps → IsSplitAt g n ps x m
      → IsPieceOf g cell (suc n) (first_half ps x m)
  second : (n : ℕ) (ps : List Taken) (x : ℕ) (m : ℤ) (es : List (List Taken))
      → IsPieceOf g cell n ps → IsSplitAt g n ps x m → AreEnds g (suc n) (first_half ps x m) es
      → All (Breaks g) es → IsPieceOf g cell (suc n) (second_half ps x m)

-- `EndsOf g cells es`: `es` are the ends of the cells `cells`, in order. A cell at which the goal
-- holds trivially has none.
pub data EndsOf (g : Goal) : List (List Taken) → List (List Taken) → Type 0 where
  start : EndsOf g [] []
  plain : (ps : List Taken) (cells es : List (List Taken)) → IsPlainAt g ps → EndsOf g cells es
      → EndsOf g (ps ∷ cells) es
  pieces : (ps : List Taken) (cells es fs : List (List Taken)) → AreEnds g 0 ps es
      → EndsOf g cells fs → EndsOf g (ps ∷ cells) (es ++ fs)
