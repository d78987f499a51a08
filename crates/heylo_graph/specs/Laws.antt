-- Laws of graphs.
use Rattle.std.specs.Prelude.{◌≡◌, ℕ, List, Some}
use Rattle.heylo_graph.specs.Trees.{Tree}
use Rattle.heylo_graph.specs.declared.nodes.Node.{Node}
use Rattle.heylo_graph.specs.Nodes.{IsGraph, AreDifferent, tree_at}

-- In a graph in which all nodes differ, two nodes with the same tree are one.
abbrev pub TreesStandOnce : Type 0
TreesStandOnce = (ns : List Node) → IsGraph ns → AreDifferent ns → (i j : ℕ) (t : Tree)
    → tree_at ns i ≡ Some t → tree_at ns j ≡ Some t → i ≡ j
