-- Binders that capture: their bodies are small, and smaller than the binder.
use Rattle.std.proofs.Common.{◌≡◌, ℕ, ◌+◌, ◌*◌, ◌<◌, ◌^◌, true, List, Some, slice_get, length, sym, ap, subst, ◌∙◌, arith}
use Rattle.std.proofs.lemmas.Option.{slice_get_within}
use Rattle.heylo_formula.specs.Formula.{Form, Term}
use Rattle.heylo_formula.specs.Variables.{occurs_in_term}
use Rattle.heylo_formula.specs.Sizes.{nodes, nodes_in_term}
use Rattle.heylo_formula.specs.Substitution as Put
use Rattle.heylo_formula.specs.Substitution.{renamed, fresh}
use Rattle.heylo_formula.proofs.exported.Growth.{same_nodes}
use Rattle.heylo_graph.specs.Trees.{Tree, nodes_of, has_binder_tree, is_free_tree, renamed_tree, subst_tree}
use Rattle.heylo_graph.specs.declared.nodes.Node.{Node}
use Rattle.heylo_graph.specs.Nodes.{tree_at, Stands, IsFormula, IsGraph, Begins}
use Rattle.heylo_graph.specs.Parts.{binder_of, with_binder}
use Rattle.heylo_graph.specs.internal.Tables.{IsSmall, Moves}
use Rattle.heylo_graph.proofs.Trees.{tree_within, stands_assembled, stands_longer, grows_with}
use Rattle.heylo_graph.proofs.PartTrees.{some_is}
use Rattle.heylo_graph.proofs.NodeMoves.{IsChanged, same_before, same_later, tree_here}
use Rattle.heylo_graph.proofs.SmallParts.{size_at}
use Rattle.heylo_graph.proofs.PartSizes.{part_nodes}
use Rattle.heylo_graph.proofs.SubstitutedNodes.{binder_body, subst_captured}

pub record BodyFacts (s : Term) (ns : List Node) (i b : ℕ) : Type 0 where
  pub form : IsFormula ns b
  pub within : b < length ns
  pub small : (f : Form) → Stands ns b (Tree.formula f) → nodes f + nodes_in_term s < 2 ^ 31
  pub less : size_at ns b < size_at ns i

pub body_facts : (s : Term) (ns : List Node) (i : ℕ) (n : Node) (y b : ℕ) → IsGraph ns → slice_get ns i ≡ Some n → binder_of n ≡ Some (y, b) → ((t : Tree) → tree_at ns i ≡ Some t → IsSmall s t) → BodyFacts s ns i b
body_facts s ns i n y b g h e k =
    let r = g.each i (slice_get_within ns i n h) in
    let p = binder_body (tree_at ns) n y b r.0 e (stands_assembled ns i n r.0 h r.1) in
    let whole : Tree.formula (Form.bind p.up y p.name p.ty p.form) ≡ r.0 = some_is (Tree.formula (Form.bind p.up y p.name p.ty p.form)) r.0 p.whole in
    let size : nodes_of r.0 ≡ 1 + nodes p.form = ap nodes_of (sym whole) in
    let bound : has_binder_tree r.0 ≡ true = ap has_binder_tree (sym whole) in
    let small = k r.0 r.1 bound in
    let here : size_at ns i ≡ nodes_of r.0 = ap part_nodes r.1 in
    let there : size_at ns b ≡ nodes p.form = ap part_nodes p.there in
    record {
      form = record { form = p.form; stands = record { tree = p.there } };
      within = tree_within ns b (Tree.formula p.form) p.there;
      small = λ f t. let q : nodes f ≡ nodes p.form = ap nodes_of (some_is (Tree.formula f) (Tree.formula p.form) (sym t.tree ∙ p.there)) in omega (arith, small, size, q);
      less = omega (arith, here, there, size);
    }

pub record RenamedFacts (s : Term) (ns new : List Node) (i r : ℕ) : Type 0 where
  pub within : r < length new
  pub small : (t : Tree) → tree_at new r ≡ Some t → IsSmall s t
  pub less : 4 + 6 * size_at new r < 6 * size_at ns i

pub renamed_facts : (s : Term) (y z : ℕ) (ns new : List Node) (i b r : ℕ) → BodyFacts s ns i b → Begins ns new → Moves (renamed_tree y z) new b r → RenamedFacts s ns new i r
renamed_facts s y z ns new i b r h w m =
    let f = h.form.form in
    let old : tree_at ns b ≡ Some (Tree.formula f) = h.form.stands.tree in
    let now : tree_at new r ≡ Some (Tree.formula (renamed y z f)) = m.moves (Tree.formula f) (same_later ns new b w h.within ∙ old) in
    let same = same_nodes y z f in
    let small = h.small f h.form.stands in
    let less = h.less in
    let here : size_at new r ≡ nodes (renamed y z f) = ap part_nodes now in
    let there : size_at ns b ≡ nodes f = ap part_nodes old in
    record {
      within = tree_within new r (Tree.formula (renamed y z f)) now;
      small = λ t e c. let q : nodes_of t ≡ nodes (renamed y z f) = ap nodes_of (some_is t (Tree.formula (renamed y z f)) (sym e ∙ now)) in omega (arith, small, same, q);
      less = omega (arith, here, there, same, less);
    }

pub inner_stands : (x : ℕ) (s : Term) (y z : ℕ) (n0 n2 n3 : List Node) (b r j : ℕ) (f : Form) → Begins n0 n2 → Begins n2 n3 → Moves (renamed_tree y z) n2 b r → Moves (subst_tree x s) n3 r j → z ≡ fresh f s → Stands n0 b (Tree.formula f) → Stands n3 j (Tree.formula (Put.subst x s (renamed y (fresh f s) f)))
inner_stands x s y z n0 n2 n3 b r j f p q m k e h = record {
  tree = k.moves (Tree.formula (renamed y (fresh f s) f)) ((grows_with n2 n3 q).grows r (Tree.formula (renamed y (fresh f s) f)) (subst (λ w. tree_at n2 r ≡ Some (Tree.formula (renamed y w f))) e (m.moves (Tree.formula f) ((stands_longer n0 n2 b (Tree.formula f) p h).tree))));
}

pub captured_changed : (x : ℕ) (s : Term) (n0 n1 : List Node) (i : ℕ) (n : Node) (y b z r : ℕ) → IsGraph n0 → slice_get n0 i ≡ Some n → Begins n0 n1 → b < length n0 → binder_of n ≡ Some (y, b) → occurs_in_term y s ≡ true → ((t : Tree) → tree_at n0 i ≡ Some t → is_free_tree x t ≡ true) → ((f : Form) → Stands n0 b (Tree.formula f) → z ≡ fresh f s) → ((f : Form) → Stands n0 b (Tree.formula f) → Stands n1 r (Tree.formula (Put.subst x s (renamed y (fresh f s) f)))) → IsChanged (subst_tree x s) n1 n (with_binder n z r)
captured_changed x s n0 n1 i n y b z r g h w l e o f u v = record {
  changed = λ t a. subst_captured x s n1 n y b z r t e o (f t (tree_here n0 n1 i n t g h w a)) (λ k q. u k (before k q)) (λ k q. (v k (before k q)).tree) a;
}
  where
    before : (k : Form) → tree_at n1 b ≡ Some (Tree.formula k) → Stands n0 b (Tree.formula k)
    before k q = record { tree = same_before n0 n1 b (Tree.formula k) w l q }
