-- Texts cut at a separator.
use Rattle.std.specs.Prelude.{◌≡◌, ◌≢◌, ℕ, List, [], ◌∷◌}

-- The bytes have no `mark`.
abbrev pub IsFreeOf : ℕ → List ℕ → Type 0
IsFreeOf mark [] = Unit {0}
IsFreeOf mark (b ∷ bs) = (b ≢ mark) × IsFreeOf mark bs

-- The bytes are empty, or the first one is `mark`.
abbrev pub IsEndOrAt : ℕ → List ℕ → Type 0
IsEndOrAt mark [] = Unit {0}
IsEndOrAt mark (b ∷ bs) = b ≡ mark
