-- The limits of a form that is generated, or computed for a goal. This project's own.
use Rattle.std.specs.Prelude.{◌<◌, ◌≤◌}
use Rattle.heylo_formula.specs.Formula.{Form}
use Rattle.heylo_formula.specs.Sizes.{nodes, depth}

-- The form has at most 200,000 nodes and a depth of at most 1,000.
pub record IsSmall (f : Form) : Type 0 where
  pub few : nodes f ≤ 200000
  pub shallow : depth f ≤ 1000

-- The form exceeds the limit of depth.
abbrev pub IsTooDeep : Form → Type 0
IsTooDeep f = 1000 < depth f

-- The form exceeds the limit of nodes.
abbrev pub IsTooLarge : Form → Type 0
IsTooLarge f = 200000 < nodes f
