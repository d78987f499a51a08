-- Requirements and results of the functions that generate a form in a graph. The list of nodes may
-- have grown even if they return an error.
use Rattle.std.specs.Prelude.{◌≡◌, ℕ, ◌^◌, ◌≤◌, false, Result, Ok, Err, List}
use Rattle.heylo_formula.specs.Formula.{Form}
use Rattle.heylo_formula.specs.Binders.{has_binder}
use Rattle.heylo_graph.specs.Trees.{Tree}
use Rattle.heylo_graph.specs.Nodes.{Stands}
use Rattle.heylo_graph.specs.declared.nodes.Node.{Node}
use Rattle.vp_generator.specs.GraphAnswers.{IsWithin, IsStopAt}
use Rattle.vp_generator.specs.declared.stops.VpStop.{VpStop}

-- The tree of the node `i` is a form within the limits that satisfies `Asked`. If `most` is at
-- least 2^30, it has no binder.
pub record IsReady (most : ℕ) (Asked : Form → Type 0) (ns : List Node) (i : ℕ) : Type 0 where
  pub form : Form
  pub stands : Stands ns i (Tree.formula form)
  pub asked : Asked form
  pub within : IsWithin most form
  pub plain : 2 ^ 30 ≤ most → has_binder form ≡ false

-- The tree of the node `i` is a form within the limits.
pub record IsPlaced (most : ℕ) (ns : List Node) (i : ℕ) : Type 0 where
  pub form : Form
  pub stands : Stands ns i (Tree.formula form)
  pub within : IsWithin most form

-- The tree of the returned node is `f`, which is within the limits; or `f` exceeds the limit that
-- the error names.
abbrev pub IsMade : ℕ → Form → Result ℕ VpStop → List Node → Type 0
IsMade most f (Ok i) ns = Stands ns i (Tree.formula f) × IsWithin most f
IsMade most f (Err stop) ns = IsStopAt most f stop
