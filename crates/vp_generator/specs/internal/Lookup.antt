-- The number of a variable under the binders around it.
use Rattle.std.specs.Prelude.{ℕ, List, [], ◌∷◌}
use Rattle.vp_generator.specs.PrenexedForms.{Numbering, renumbered}

-- The numbering `m`, changed by each binder of the list to its new number, from the outermost to
-- the innermost.
abbrev pub numbered_under : Numbering → List (ℕ × ℕ) → Numbering
numbered_under m [] = m
numbered_under m (p ∷ ps) = numbered_under (renumbered p.0 p.1 m) ps

-- The number of a variable under the listed binders, the innermost last.
abbrev pub number_in : List (ℕ × ℕ) → Numbering
number_in ps = numbered_under (λ y. y) ps
