-- The effect of a change of the children on a node.
use Rattle.std.proofs.Common.{◌≡◌, ℕ, Bool, false, List, Option, Some, None, refl, ap, ◌∙◌}
use Rattle.heylo_formula.specs.Formula.{Form, Cond}
use Rattle.heylo_graph.specs.Trees.{Tree}
use Rattle.heylo_graph.specs.declared.nodes.Node.{Node}
use Rattle.heylo_graph.specs.Nodes.{as_form, as_cond, with, tree_at}
use Rattle.heylo_graph.specs.internal.Tables.{Moves}
use Rattle.heylo_graph.proofs.Trees.{form_found, cond_found}

-- A change of trees, from a change of forms and one of conditions.
abbrev pub changed : (Form → Form) → (Cond → Cond) → Tree → Tree
changed f g (Tree.formula k) = Tree.formula (f k)
changed f g (Tree.condition k) = Tree.condition (g k)

pub form_moved : (f : Form → Form) (g : Cond → Cond) (ns : List Node) (a p : ℕ) (k l : Form → Option Tree) (t v : Tree) → Moves (changed f g) ns a p → ((d : Form) → k d ≡ Some t → l (f d) ≡ Some v) → with (as_form (tree_at ns a)) k ≡ Some t → with (as_form (tree_at ns p)) l ≡ Some v
form_moved f g ns a p k l t v s next h = go (as_form (tree_at ns a)) refl h
  where
    go : (r : Option Form) → as_form (tree_at ns a) ≡ r → with r k ≡ Some t → with (as_form (tree_at ns p)) l ≡ Some v
    go (Some d) e h = ap (λ r. with (as_form r) l) (s.moves (Tree.formula d) (form_found (tree_at ns a) d e)) ∙ next d h
    go None e h = absurd (cc)

pub cond_moved : (f : Form → Form) (g : Cond → Cond) (ns : List Node) (a p : ℕ) (k l : Cond → Option Tree) (t v : Tree) → Moves (changed f g) ns a p → ((d : Cond) → k d ≡ Some t → l (g d) ≡ Some v) → with (as_cond (tree_at ns a)) k ≡ Some t → with (as_cond (tree_at ns p)) l ≡ Some v
cond_moved f g ns a p k l t v s next h = go (as_cond (tree_at ns a)) refl h
  where
    go : (r : Option Cond) → as_cond (tree_at ns a) ≡ r → with r k ≡ Some t → with (as_cond (tree_at ns p)) l ≡ Some v
    go (Some d) e h = ap (λ r. with (as_cond r) l) (s.moves (Tree.condition d) (cond_found (tree_at ns a) d e)) ∙ next d h
    go None e h = absurd (cc)

-- The change applied to a tree that is present.
abbrev pub lifted : (Tree → Tree) → Option Tree → Option Tree
lifted change (Some t) = Some (change t)
lifted change None = None

abbrev pub asked : (Tree → Bool) → Option Tree → Bool
asked f (Some t) = f t
asked f None = false
