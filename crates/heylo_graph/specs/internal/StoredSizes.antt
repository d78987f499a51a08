-- The sizes that are stored beside the nodes. They do not exceed 2^63.
use Rattle.std.specs.Prelude.{◌≡◌, ℕ, ◌^◌, min, List, length, Option, Some, None, slice_get}
use Rattle.heylo_graph.specs.Trees.{Tree, nodes_of, depth_of}
use Rattle.heylo_graph.specs.declared.nodes.Node.{Node}
use Rattle.heylo_graph.specs.declared.sizes.Size.{Size}
use Rattle.heylo_graph.specs.Nodes.{tree_at, IsGraph}

-- The size of a tree.
abbrev pub size_of : Tree → Size
size_of t = record { nodes = min (2 ^ 63) (nodes_of t); depth = min (2 ^ 63) (depth_of t) }

-- The size of a child; no nodes if there is no child.
abbrev pub part_size : Option Tree → Size
part_size None = record { nodes = 0; depth = 0 }
part_size (Some t) = size_of t

-- The size of each node is that of its tree.
pub record AreSizes (ns : List Node) (sizes : List Size) : Type 0 where
  pub count : length sizes ≡ length ns
  pub each : (i : ℕ) (t : Tree) → tree_at ns i ≡ Some t → slice_get sizes i ≡ Some (size_of t)

-- The invariant of the stored nodes and sizes.
pub record IsStored (ns : List Node) (sizes : List Size) : Type 0 where
  pub graph : IsGraph ns
  pub sized : AreSizes ns sizes
