-- Lists of names. This project's own.
use Rattle.std.specs.List.{list_any}
use Rattle.std.specs.Prelude.{Bool, List, [], false, ◌||◌, ◌∷◌, ℕ}
use Rattle.std.specs.Str.{bytes_eq}

-- Whether a name occurs twice in a list.
abbrev pub any_twice : List (List ℕ) → Bool
any_twice [] = false
any_twice (x ∷ xs) = list_any (bytes_eq x) xs || any_twice xs
