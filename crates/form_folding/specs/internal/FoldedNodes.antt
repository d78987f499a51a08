-- Folded forms on the way into a graph.
use Rattle.std.specs.Prelude.{ℕ, List}
use Rattle.heyvl_num.specs.Value.Value.{finite}
use Rattle.heylo_formula.specs.Formula.{Form, Cond}
use Rattle.heylo_graph.specs.Trees.{Tree}
use Rattle.heylo_graph.specs.Nodes.{Stands, IsNodeOf}
use Rattle.heylo_graph.specs.declared.nodes.Node.{Node}
use Rattle.form_folding.specs.Foldings.{FoldsTo, HasFolded, TestFoldsTo}
use Rattle.form_folding.specs.declared.folding.Folded as F

-- `HasFoldedTest ns i g`: the node with the number `i` has a tree to which the condition `g` folds.
pub record HasFoldedTest (ns : List Node) (i : ℕ) (g : Cond) : Type 0 where
  pub cond : Cond
  pub stands : Stands ns i (Tree.condition cond)
  pub folds : TestFoldsTo g cond

-- `IsFoldedNode ns n f`: over the nodes `ns`, the node `n` has a tree to which the form `f` folds.
pub record IsFoldedNode (ns : List Node) (n : Node) (f : Form) : Type 0 where
  pub form : Form
  pub node : IsNodeOf ns n (Tree.formula form)
  pub folds : FoldsTo f form

-- `IsFolded ns r f`: the form `f` folds to the number, or to the tree of the node, in `r`.
abbrev pub IsFolded : List Node → F.Folded → Form → Type 0
IsFolded ns (F.TheVariants.Number x) f = FoldsTo f (Form.number (finite x))
IsFolded ns (F.TheVariants.Node i) f = HasFolded ns i f

-- `FoldsSome ns r`: some form folds to `r`.
pub record FoldsSome (ns : List Node) (r : F.Folded) : Type 0 where
  pub form : Form
  pub folded : IsFolded ns r form
