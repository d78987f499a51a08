-- Formulas without binders in a graph, for which a substitution requires nothing more.
use Rattle.std.specs.Prelude.{◌≡◌, ℕ, false, List}
use Rattle.heylo_formula.specs.Formula.{Form}
use Rattle.heylo_formula.specs.Binders.{has_binder}
use Rattle.heylo_graph.specs.Trees.{Tree}
use Rattle.heylo_graph.specs.Nodes.{Stands}
use Rattle.heylo_graph.specs.declared.nodes.Node.{Node}

-- The node with the number `i` is a formula without binders.
pub record StandsPlain (ns : List Node) (i : ℕ) : Type 0 where
  pub form : Form
  pub stands : Stands ns i (Tree.formula form)
  pub plain : has_binder form ≡ false
