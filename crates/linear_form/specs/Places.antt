-- Places on a path: evaluations of a goal that have used some of its answers. This project's own.
use Rattle.std.specs.Prelude.{◌≡◌, ◌≤◌, List, ◌++◌, take, length}
use Rattle.heylo_formula.specs.Goals.{Goal}
use Rattle.linear_form.specs.Query.{Taken, once}
use Rattle.linear_form.specs.Paths.{end_at}
use Rattle.linear_form.specs.declared.places.Place.{Place}

-- `IsOn g ps p`: the evaluation `p` of the goal `g` is on the path `ps`. The tree of `g` after the
-- first `p.at` answers is the tree `p.left`, without the Booleans that these answers have decided.
pub record IsOn (g : Goal) (ps : List Taken) (p : Place) : Type 0 where
  pub within : p.at ≤ length ps
  pub left : end_at g (take p.at ps) ≡ once (take p.at ps) p.left

-- A place on a path is on each longer path.
abbrev pub PlacesStay : Type 0
PlacesStay = (g : Goal) (ps qs : List Taken) (p : Place) → IsOn g ps p → IsOn g (ps ++ qs) p
