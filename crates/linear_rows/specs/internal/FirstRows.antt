-- The first row of a variable, when rows are added and removed.
use Rattle.std.specs.Prelude.{ℕ, Bool, Option, Some, None, ltb, if◌then◌else◌}

-- `here x row occurs`: the variable `x` and the index `row`, if `x` occurs in this row.
abbrev pub here : ℕ → ℕ → Bool → Option (ℕ × ℕ)
here x row occurs = if occurs then Some (x, row) else None

-- `before len first`: the entry `first` if its row is before `len`.
abbrev pub before : ℕ → Option (ℕ × ℕ) → Option (ℕ × ℕ)
before len None = None
before len (Some f) = if ltb f.1 len then Some f else None
