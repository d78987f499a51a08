-- Trees, which are forms or conditions, with the notions that both have.
use Rattle.std.specs.Prelude.{ℕ, Bool}
use Rattle.heylo_formula.specs.Formula.{Form, Cond, Term}
use Rattle.heylo_formula.specs.Sizes.{nodes, nodes_in, depth, depth_in}
use Rattle.heylo_formula.specs.Variables.{is_free, is_free_in, occurs, occurs_in}
use Rattle.heylo_formula.specs.Binders.{has_binder, has_binder_in}
use Rattle.heylo_formula.specs.Substitution.{renamed, renamed_in, subst, subst_in}

-- A form or a condition.
pub data Tree : Type 0 where
  formula : Form → Tree
  condition : Cond → Tree

-- The tree of a term.
abbrev pub tree_of_term : Term → Tree
tree_of_term (Term.truth g) = Tree.condition g
tree_of_term (Term.number f) = Tree.formula f

-- The number of nodes.
abbrev pub nodes_of : Tree → ℕ
nodes_of (Tree.formula f) = nodes f
nodes_of (Tree.condition g) = nodes_in g

-- The number of nodes on a longest path from the root to a leaf.
abbrev pub depth_of : Tree → ℕ
depth_of (Tree.formula f) = depth f
depth_of (Tree.condition g) = depth_in g

-- The variable is free in the tree.
abbrev pub is_free_tree : ℕ → Tree → Bool
is_free_tree x (Tree.formula f) = is_free x f
is_free_tree x (Tree.condition g) = is_free_in x g

-- The number occurs in the tree, as a variable or as the variable of a binder.
abbrev pub occurs_tree : ℕ → Tree → Bool
occurs_tree x (Tree.formula f) = occurs x f
occurs_tree x (Tree.condition g) = occurs_in x g

-- The tree contains a binder.
abbrev pub has_binder_tree : Tree → Bool
has_binder_tree (Tree.formula f) = has_binder f
has_binder_tree (Tree.condition g) = has_binder_in g

-- The tree with `z` in place of each free occurrence of `y`.
abbrev pub renamed_tree : ℕ → ℕ → Tree → Tree
renamed_tree y z (Tree.formula f) = Tree.formula (renamed y z f)
renamed_tree y z (Tree.condition g) = Tree.condition (renamed_in y z g)

-- The tree with the term `t` in place of each free occurrence of `x`.
abbrev pub subst_tree : ℕ → Term → Tree → Tree
subst_tree x t (Tree.formula f) = Tree.formula (subst x t f)
subst_tree x t (Tree.condition g) = Tree.condition (subst_in x t g)
