-- Lists of multipliers, each with the index of its row.
use Rattle.std.specs.Prelude.{ℕ, ◌<◌, List, [], ◌∷◌}
use Rattle.std.specs.List.{All}

-- The indices of the rows increase strictly.
abbrev pub IsGrowing : List (ℕ × ℕ) → Type 0
IsGrowing [] = Unit {0}
IsGrowing (m ∷ ms) = All (λ n. m.0 < n.0) ms × IsGrowing ms
