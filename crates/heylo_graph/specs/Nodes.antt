-- Lists of nodes as graphs, and the tree of each node. The children of a node are nodes before it
-- in the list. This project's own.
use Rattle.std.specs.Prelude.{◌≡◌, ℕ, ◌<◌, Bool, if◌then◌else◌, List, [], ◌∷◌, ◌++◌, Option, Some}
use Rattle.std.specs.Prelude.{None, slice_get, length}
use Rattle.heyvl_num.specs.ExtendedNumbers.{value_of}
use Rattle.heylo_formula.specs.Formula.{Form, Cond}
use Rattle.heylo_graph.specs.Trees.{Tree}
use Rattle.heylo_graph.specs.declared.nodes.Node.{Node}

-- The form, if there is a tree and it is a form.
abbrev pub as_form : Option Tree → Option Form
as_form (Some (Tree.formula f)) = Some f
as_form (Some (Tree.condition g)) = None
as_form None = None

-- The condition, if there is a tree and it is a condition.
abbrev pub as_cond : Option Tree → Option Cond
as_cond (Some (Tree.formula f)) = None
as_cond (Some (Tree.condition g)) = Some g
as_cond None = None

-- A form as a tree that is present.
abbrev pub a_form : Form → Option Tree
a_form f = Some (Tree.formula f)

-- A condition as a tree that is present.
abbrev pub a_cond : Cond → Option Tree
a_cond g = Some (Tree.condition g)

-- The function applied to a value that is present; otherwise none.
abbrev pub with : {A B : Type 0} → Option A → (A → Option B) → Option B
with (Some x) f = f x
with None f = None

-- `assembled at n`: the tree of the node `n`, where `at` gives the trees of its children; none if a
-- child is missing or of the wrong kind.
abbrev pub assembled : (ℕ → Option Tree) → Node → Option Tree
assembled at (Node.Const v) = a_form (Form.number (value_of v))
assembled at (Node.Var w) = a_form (Form.variable w)
assembled at (Node.Sum a b) =
    with (as_form (at a)) (λ k. with (as_form (at b)) (λ l. a_form (Form.sum k l)))
assembled at (Node.Diff a b) =
    with (as_form (at a)) (λ k. with (as_form (at b)) (λ l. a_form (Form.difference k l)))
assembled at (Node.Cut a b) =
    with (as_form (at a)) (λ k. with (as_form (at b)) (λ l. a_form (Form.cut k l)))
assembled at (Node.Scale w a) = with (as_form (at a)) (λ k. a_form (Form.scale w k))
assembled at (Node.Product a b span) =
    with (as_form (at a)) (λ k. with (as_form (at b)) (λ l. a_form (Form.product k l span)))
assembled at (Node.Min a b) =
    with (as_form (at a)) (λ k. with (as_form (at b)) (λ l. a_form (Form.min k l)))
assembled at (Node.Max a b) =
    with (as_form (at a)) (λ k. with (as_form (at b)) (λ l. a_form (Form.max k l)))
assembled at (Node.Imply a b) =
    with (as_form (at a)) (λ k. with (as_form (at b)) (λ l. a_form (Form.imply k l)))
assembled at (Node.CoImply a b) =
    with (as_form (at a)) (λ k. with (as_form (at b)) (λ l. a_form (Form.co_imply k l)))
assembled at (Node.Validate a) = with (as_form (at a)) (λ k. a_form (Form.validate k))
assembled at (Node.CoValidate a) = with (as_form (at a)) (λ k. a_form (Form.co_validate k))
assembled at (Node.Embed a) = with (as_cond (at a)) (λ k. a_form (Form.embed k))
assembled at (Node.Iverson a) = with (as_cond (at a)) (λ k. a_form (Form.iverson k))
assembled at (Node.Select a b c) = with (as_cond (at a))
    (λ k. with (as_form (at b)) (λ l. with (as_form (at c)) (λ m. a_form (Form.select k l m))))
assembled at (Node.Bind up w name ty a) =
    with (as_form (at a)) (λ k. a_form (Form.bind up w name ty k))
assembled at (Node.Truth v) = a_cond (Cond.constant v)
assembled at (Node.Flag w) = a_cond (Cond.flag w)
assembled at (Node.Not a) = with (as_cond (at a)) (λ k. a_cond (Cond.not k))
assembled at (Node.And a b) =
    with (as_cond (at a)) (λ k. with (as_cond (at b)) (λ l. a_cond (Cond.and k l)))
assembled at (Node.Or a b) =
    with (as_cond (at a)) (λ k. with (as_cond (at b)) (λ l. a_cond (Cond.or k l)))
assembled at (Node.Same a b) =
    with (as_cond (at a)) (λ k. with (as_cond (at b)) (λ l. a_cond (Cond.same k l)))
assembled at (Node.Le a b) =
    with (as_form (at a)) (λ k. with (as_form (at b)) (λ l. a_cond (Cond.le k l)))
assembled at (Node.Lt a b) =
    with (as_form (at a)) (λ k. with (as_form (at b)) (λ l. a_cond (Cond.lt k l)))
assembled at (Node.EqNum a b) =
    with (as_form (at a)) (λ k. with (as_form (at b)) (λ l. a_cond (Cond.equal k l)))
assembled at (Node.Ite a b c) = with (as_cond (at a))
    (λ k. with (as_cond (at b)) (λ l. with (as_cond (at c)) (λ m. a_cond (Cond.ite k l m))))

-- A value in a list of optional values; none beyond the end of the list.
abbrev pub joined : Option (Option Tree) → Option Tree
joined (Some t) = t
joined None = None

-- The tree with the index `i` in a list.
abbrev pub found : List (Option Tree) → ℕ → Option Tree
found ts i = joined (slice_get ts i)

-- `trees_after ts ns`: the trees `ts`, followed by those of the nodes `ns`.
unfoldable pub trees_after : List (Option Tree) → List Node → List (Option Tree)
trees_after ts [] = ts
trees_after ts (n ∷ ns) = trees_after (ts ++ assembled (found ts) n ∷ []) ns

-- The trees of all nodes.
abbrev pub trees : List Node → List (Option Tree)
trees ns = trees_after [] ns

-- `tree_at ns i`: the tree of the node with the number `i`. In the list of `Var 0` and `Sum 0 0`,
-- node 1 has the tree `x0 + x0`.
abbrev pub tree_at : List Node → ℕ → Option Tree
tree_at ns i = found (trees ns) i

-- The node with the number `i` has the tree `t`.
pub record Stands (ns : List Node) (i : ℕ) (t : Tree) : Type 0 where
  pub tree : tree_at ns i ≡ Some t

-- Some node has the tree `t`.
pub record HasTree (ns : List Node) (t : Tree) : Type 0 where
  pub number : ℕ
  pub stands : Stands ns number t

-- The node with the number `i` has a form as its tree.
pub record IsFormula (ns : List Node) (i : ℕ) : Type 0 where
  pub form : Form
  pub stands : Stands ns i (Tree.formula form)

-- With children in the list `ns`, the node `n` has the tree `t`.
pub record IsNodeOf (ns : List Node) (n : Node) (t : Tree) : Type 0 where
  pub gives : assembled (tree_at ns) n ≡ Some t

-- The children of the node are in the list, and of the right kinds.
pub record IsFitting (ns : List Node) (n : Node) : Type 0 where
  pub tree : Tree
  pub stands : assembled (tree_at ns) n ≡ Some tree

-- No node occurs twice.
pub record AreDifferent (ns : List Node) : Type 0 where
  pub differ : (i j : ℕ) (n : Node) → slice_get ns i ≡ Some n → slice_get ns j ≡ Some n → i ≡ j

-- Each node has a tree: its children are before it, and of the right kinds.
pub record IsGraph (ns : List Node) : Type 0 where
  pub each : (i : ℕ) → i < length ns → (t : Tree) × (tree_at ns i ≡ Some t)

-- The list `old` is a beginning of the list `new`.
pub record Begins (old new : List Node) : Type 0 where
  pub more : List Node
  pub whole : new ≡ old ++ more

-- The list `new` is `old` if the node was in it; otherwise it is `old` with the node appended.
pub record IsJoined (old : List Node) (n : Node) (new : List Node) : Type 0 where
  pub stood : Bool
  pub whole : new ≡ (if stood then old else old ++ n ∷ [])
