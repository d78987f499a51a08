-- A path through a goal, with its rows.
use Rattle.std.specs.Prelude.{◌≡◌, List, [], ◌∷◌, ◌++◌, take, length, Bool, true, false, None}
use Rattle.heylo_formula.specs.Goals.{Goal}
use Rattle.heylo_formula.specs.Typing.{types_in}
use Rattle.linear_rows.specs.Row.{Row}
use Rattle.linear_values.specs.Tightening.{all_tightened}
use Rattle.linear_form.specs.Query.{Taken}
use Rattle.linear_form.specs.Paths.{IsPath}
use Rattle.linear_form.specs.PathRows.{path_claims}
use Rattle.linear_form.specs.PlainPaths.{path_of}
use Rattle.linear_form.specs.RowLists.{ArePathRows}
use Rattle.linear_form.specs.declared.paths.Taken as T
use Rattle.farkas_check.specs.declared.trail.Trail.{Trail}

-- `IsStated g ps rows stated`: `rows` are the rows of the answers of the path `ps` or, if `stated`
-- is false, one of them overflows.
abbrev pub IsStated : Goal → List Taken → List Row → Bool → Type 0
IsStated g ps rows true = ArePathRows g ps rows
IsStated g ps rows false = all_tightened (types_in g.types) (path_claims ps) ≡ None

pub record IsTrail (g : Goal) (t : Trail) : Type 0 where
  pub path : IsPath g (path_of t.path.items)
  pub rows : IsStated g (path_of t.path.items) t.rows.items t.stated

-- `IsLonger g before answer t`: the trail `t` is `before` with one more answer.
pub record IsLonger (g : Goal) (before : Trail) (answer : T.Taken) (t : Trail) : Type 0 where
  pub path : t.path.items ≡ before.path.items ++ (answer ∷ [])
  pub rows : IsStated g (path_of t.path.items) t.rows.items t.stated
  pub first : take (length before.rows.items) t.rows.items ≡ before.rows.items

-- `IsSame t back`: the trails `t` and `back` are equal.
pub record IsSame (t back : Trail) : Type 0 where
  pub path : back.path.items ≡ t.path.items
  pub rows : back.rows.items ≡ t.rows.items
  pub stated : back.stated ≡ t.stated
