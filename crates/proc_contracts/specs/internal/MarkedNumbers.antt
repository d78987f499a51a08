-- Marks on numbers, and lists of marked numbers.
use Rattle.std.specs.Prelude.{◌≡◌, ◌+◌, ℕ, Bool, true, false, ◌||◌, List, [], ◌∷◌, ◌++◌, get_or}
use Rattle.std.specs.Prelude.{length}
use Prim.Native.Nat.{suc}
use Rattle.heyvl_acts.specs.Visible.{among}

-- The number of marks that are not set.
abbrev pub unset : List Bool → ℕ
unset [] = 0
unset (true ∷ rest) = unset rest
unset (false ∷ rest) = suc (unset rest)

-- The marked numbers, where the first mark belongs to `n`.
abbrev pub marked : ℕ → List Bool → List ℕ
marked n [] = []
marked n (true ∷ rest) = n ∷ marked (suc n) rest
marked n (false ∷ rest) = marked (suc n) rest

-- The marked numbers are those of the list, which has each once.
pub record AreMarked (marks : List Bool) (list : List ℕ) : Type 0 where
  pub same : (q : ℕ) → get_or marks q false ≡ among list q
  pub once : unset marks + length list ≡ length marks

-- `Grew before after asked`: the list `after` extends `before` by numbers of `asked`, and has all
-- of them.
pub record Grew (before after asked : List ℕ) : Type 0 where
  pub more : List ℕ
  pub behind : after ≡ before ++ more
  pub exact : (q : ℕ) → among after q ≡ (among before q || among asked q)
