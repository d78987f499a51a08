-- Certificates as plain trees.
use Rattle.std.specs.Prelude.{ℕ, ℤ, List, ◌+◌, max}
use Rattle.goal_answers.specs.declared.trees.Tree as T
use Rattle.goal_answers.specs.declared.trees.Tree.TheOpen.{Tree-F}
use Rattle.goal_answers.specs.declared.trees.Tree.TheFolds.{fold-Tree}

-- A certificate. `split`: a comparison, with the trees for both answers. `farkas`: a leaf with
-- multipliers of rows, each with the index of its row. `plain`: a leaf at which the goal holds
-- without rows. `whole x m`: the integer variable `x`, with the trees for at most `m` and for at
-- least `m` + 1.
pub data Tree : Type 0 where
  split : Tree → Tree → Tree
  farkas : List (ℕ × ℕ) → Tree
  plain : Tree
  whole : ℕ → ℤ → Tree → Tree → Tree

-- The plain tree of a node whose subtrees are plain trees already.
abbrev pub tree_layer : Tree-F Tree → Tree
tree_layer (Tree-F.Split t u) = Tree.split t.value u.value
tree_layer (Tree-F.Farkas ms) = Tree.farkas ms.items
tree_layer Tree-F.Plain = Tree.plain
tree_layer (Tree-F.Whole x m t u) = Tree.whole x m t.value u.value

-- The plain tree of a certificate of the code.
abbrev pub tree_of : T.Tree → Tree
tree_of = fold-Tree Tree tree_layer

-- The number of nodes on a longest path from the root to a leaf. A leaf has depth 1.
abbrev pub depth : Tree → ℕ
depth (Tree.split t u) = 1 + max (depth t) (depth u)
depth (Tree.farkas ms) = 1
depth Tree.plain = 1
depth (Tree.whole x m t u) = 1 + max (depth t) (depth u)
