-- Tables that a pass over a graph computes: where a variable occurs, and the cached results of a
-- change.
use Rattle.heylo_formula.specs.Formula.{Form, Cond, Term}
use Rattle.heylo_formula.specs.Variables.{occurs_in_term}
use Rattle.heylo_formula.specs.Sizes.{nodes_in_term}
use Rattle.heylo_formula.specs.Substitution.{as_form, as_cond}
use Rattle.std.specs.Prelude.{◌≡◌, ℕ, ◌+◌, ◌^◌, ◌<◌, ◌≤◌, ◌==◌, ◌||◌, Bool, true, false, List}
use Rattle.std.specs.Prelude.{length, get_or, slice_get, Option, Some, None, if◌then◌else◌}
use Rattle.heylo_graph.specs.Trees.{Tree, is_free_tree, occurs_tree, has_binder_tree, nodes_of}
use Rattle.heylo_graph.specs.declared.nodes.Node.{Node}
use Rattle.heylo_graph.specs.Nodes.{tree_at, Stands}
use Rattle.heylo_graph.specs.Parts.{first, second, third}

-- The child, if there is one, has a number below `n`.
abbrev pub IsBefore : Option ℕ → ℕ → Type 0
IsBefore None n = Unit {0}
IsBefore (Some p) n = p < n

-- The child has the tree; without a child, there is no tree.
abbrev pub PartTree : (ℕ → Option Tree) → Option ℕ → Option Tree → Type 0
PartTree at None None = Unit {0}
PartTree at None (Some u) = ⊥
PartTree at (Some p) None = ⊥
PartTree at (Some p) (Some u) = at p ≡ Some u

-- ---- Where a variable occurs

-- The variable occurs in the tree if `binders`, where the variables of binders count; otherwise it
-- is free in the tree.
abbrev pub is_marked : Bool → ℕ → Tree → Bool
is_marked true x t = occurs_tree x t
is_marked false x t = is_free_tree x t

-- The mark of a node, from its variable, from the variable that it binds, and from the marks of its
-- children.
abbrev pub mark_over : Bool → ℕ → Option ℕ → Option ℕ → Bool → Bool → Bool → Bool
mark_over binders x (Some y) b p q r = x == y
mark_over binders x None (Some y) p q r = if x == y then binders else p
mark_over binders x None None p q r = p || (q || r)

-- The mark of a child is right; without a child, it is false.
abbrev pub PartIsMarked : Bool → ℕ → List Node → Option ℕ → Bool → Type 0
PartIsMarked binders x ns None b = b ≡ false
PartIsMarked binders x ns (Some i) b = (t : Tree) → tree_at ns i ≡ Some t
    → b ≡ is_marked binders x t

-- The table has the right marks of the first nodes.
pub record AreMarked (binders : Bool) (x : ℕ) (ns : List Node) (table : List Bool) : Type 0 where
  pub each : (j : ℕ) (t : Tree) → j < length table → tree_at ns j ≡ Some t
      → get_or table j false ≡ is_marked binders x t

-- ---- Changed trees

-- The tree of node `j` is the changed tree of node `i`.
pub record Moves (change : Tree → Tree) (ns : List Node) (i j : ℕ) : Type 0 where
  pub moves : (t : Tree) → tree_at ns i ≡ Some t → tree_at ns j ≡ Some (change t)

-- The tree of node `j` is the changed tree of the child, if there is one.
abbrev pub PartMoves : (Tree → Tree) → List Node → Option ℕ → ℕ → Type 0
PartMoves change ns None j = Unit {0}
PartMoves change ns (Some i) j = Moves change ns i j

-- The cached results are right: a node with a result has the result's tree as its changed tree.
pub record AreMoved (change : Tree → Tree) (ns : List Node) (notes : List (Option ℕ)) : Type 0 where
  pub each : (i j : ℕ) → get_or notes i None ≡ Some j → Moves change ns i j

-- The invariant of each call: the marks in the table are right, and so are the cached results, one
-- for each mark.
pub record IsReady (change : Tree → Tree) (x : ℕ) (ns : List Node) (table : List Bool)
    (notes : List (Option ℕ)) : Type 0 where
  pub inside : length table ≤ length ns
  pub free : AreMarked false x ns table
  pub size : length notes ≡ length table
  pub moved : AreMoved change ns notes

-- The tree that replaces a Boolean or a numeric variable.
abbrev pub put_tree : Bool → Term → Tree
put_tree true s = Tree.condition (as_cond s)
put_tree false s = Tree.formula (as_form s)

-- A binder of the variable does not capture.
abbrev pub IsCalm : Term → Option ℕ → Type 0
IsCalm s None = Unit {0}
IsCalm s (Some w) = occurs_in_term w s ≡ false

-- If the tree has a binder, it is small enough for a fresh variable: with the term it has fewer
-- than 2^31 nodes.
abbrev pub IsSmall : Term → Tree → Type 0
IsSmall s t = has_binder_tree t ≡ true → nodes_of t + nodes_in_term s < 2 ^ 31

-- The tree of the child, if there is one, is small enough for fresh variables.
abbrev pub PartIsSmall : Term → List Node → Option ℕ → Type 0
PartIsSmall s ns None = Unit {0}
PartIsSmall s ns (Some i) = (t : Tree) → tree_at ns i ≡ Some t → IsSmall s t

-- No results are cached.
pub record AreEmpty (notes : List (Option ℕ)) : Type 0 where
  pub none : (i j : ℕ) → get_or notes i None ≡ Some j → ⊥

-- `p`, `q` and `r` are the children of node `i`.
pub record IsPartsOf (ns : List Node) (i : ℕ) (p q r : Option ℕ) : Type 0 where
  pub node : Node
  pub there : slice_get ns i ≡ Some node
  pub one : p ≡ first node
  pub two : q ≡ second node
  pub three : r ≡ third node

-- `f` is the tree of node `i`, if it is a form.
pub record ReadsForm (ns : List Node) (i : ℕ) (f : Form) : Type 0 where
  pub reads : (g : Form) → Stands ns i (Tree.formula g) → f ≡ g

-- `f` is the tree of node `i`, if it is a condition.
pub record ReadsCond (ns : List Node) (i : ℕ) (f : Cond) : Type 0 where
  pub reads : (g : Cond) → Stands ns i (Tree.condition g) → f ≡ g

-- `t` is the tree of node `i`, of either kind.
pub record Reads (ns : List Node) (i : ℕ) (t : Tree) : Type 0 where
  pub reads : (u : Tree) → Stands ns i u → t ≡ u
