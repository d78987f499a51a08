-- The visible variables: their names in the order of the declarations, each with its number and its
-- declared type. This project's own.
use Rattle.heyvl_syntax.specs.declared.types.TypeName.{TypeName}
use Rattle.std.specs.Option.{is_none, is_some}
use Rattle.std.specs.Prelude.{Bool, List, None, Option, Some, [], false, if◌then◌else◌, map, nat_lt}
use Rattle.std.specs.Prelude.{option_map, ◌||◌, ◌∷◌, ℕ}
use Rattle.std.specs.Str.{bytes_eq}
use Rattle.typed_expressions.specs.declared.scopes.Local.{Local}

-- The visible variables by their names, each with its number and its declared type.
abbrev pub Scope : Type 0
Scope = List (List ℕ × Local)

-- The variable with the name `x`.
abbrev pub find : Scope → List ℕ → Option Local
find [] x = None
find (e ∷ es) x = if bytes_eq x e.0 then Some e.1 else find es x

-- Whether a variable with the name `x` is visible.
abbrev pub is_visible : Scope → List ℕ → Bool
is_visible sc x = is_some (find sc x)

-- `with_local x l sc`: the scope `sc` with the variable `l` under the name `x`, in place of the one
-- with this name, or at the end.
abbrev pub with_local : List ℕ → Local → Scope → Scope
with_local x l [] = (x, l) ∷ []
with_local x l (e ∷ es) = if bytes_eq x e.0 then (e.0, l) ∷ es else e ∷ with_local x l es

-- The numbers of the visible variables, in the order of the declarations.
abbrev pub numbers : Scope → List ℕ
numbers sc = map (λ e. e.1.number) sc

-- Whether one of the names is not visible.
abbrev pub any_unknown : Scope → List (List ℕ) → Bool
any_unknown sc [] = false
any_unknown sc (x ∷ xs) = is_none (find sc x) || any_unknown sc xs

-- Whether a variable is an input. The inputs have the numbers below `inputs`.
abbrev pub is_input : ℕ → Option Local → Bool
is_input inputs None = false
is_input inputs (Some l) = nat_lt l.number inputs

-- Whether one of the names is an input.
abbrev pub any_input : ℕ → Scope → List (List ℕ) → Bool
any_input inputs sc [] = false
any_input inputs sc (x ∷ xs) = is_input inputs (find sc x) || any_input inputs sc xs

-- The declared types of the names; nothing for a name that is not visible.
abbrev pub types_of_names : Scope → List (List ℕ) → List (Option TypeName)
types_of_names sc xs = map (λ x. option_map (λ l. l.ty) (find sc x)) xs
