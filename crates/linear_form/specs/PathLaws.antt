-- The law of the length of paths.
use Rattle.std.specs.Prelude.{◌+◌, ◌≤◌, List, length}
use Rattle.heylo_formula.specs.Goals.{Goal}
use Rattle.heylo_formula.specs.Sizes.{nodes}
use Rattle.linear_form.specs.Query.{Taken}
use Rattle.linear_form.specs.Paths.{IsQuestionPath}

-- A path has at most as many comparisons as the two forms of the goal have nodes.
abbrev pub PathsAreShort : Type 0
PathsAreShort = (g : Goal) (ps : List Taken) → IsQuestionPath g ps
    → length ps ≤ nodes g.stated + nodes g.found
