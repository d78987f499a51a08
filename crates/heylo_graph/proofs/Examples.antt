-- The definitions, computed for small lists.
use Rattle.std.proofs.Common.{◌≡◌, List, [], ◌∷◌, Some, None, true, refl}
use Rattle.heylo_formula.specs.Formula.{Form, Cond}
use Rattle.heylo_graph.specs.Trees.{Tree}
use Rattle.heylo_graph.specs.declared.nodes.Node.{Node}
use Rattle.heylo_graph.specs.Nodes.{trees_after, tree_at}

-- The sum of a variable and itself.
pair : List Node
pair = Node.Var 0 ∷ Node.Sum 0 0 ∷ []

the_sum : tree_at pair 1 ≡ Some (Tree.formula (Form.sum (Form.variable 0) (Form.variable 0)))
unfolding trees_after pair
the_sum = refl

none_behind : tree_at pair 2 ≡ None
unfolding trees_after pair
none_behind = refl

-- A child that is after the node is missing, and so the node has no tree.
part_behind : tree_at (Node.Sum 0 1 ∷ Node.Var 0 ∷ []) 0 ≡ None
unfolding trees_after
part_behind = refl

-- A child of the wrong kind.
wrong_kind : tree_at (Node.Truth true ∷ Node.Validate 0 ∷ []) 1 ≡ None
unfolding trees_after
wrong_kind = refl

right_kind : tree_at (Node.Truth true ∷ Node.Iverson 0 ∷ []) 1 ≡ Some (Tree.formula (Form.iverson (Cond.constant true)))
unfolding trees_after
right_kind = refl
