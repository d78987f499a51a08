-- Children are small if the node is, and smaller than the node.
use Rattle.std.proofs.Common.{◌≡◌, ℕ, ◌+◌, ◌*◌, ◌<◌, ◌||◌, Bool, true, false, List, Option, Some, None, slice_get, refl, sym, ap, subst, ◌∙◌, arith}
use Rattle.std.proofs.lemmas.Option.{slice_get_within}
use Rattle.heylo_formula.specs.Formula.{Form, Cond, Term}
use Rattle.heylo_formula.specs.Binders.{has_binder, has_binder_in}
use Rattle.heylo_graph.specs.Trees.{Tree, nodes_of, has_binder_tree}
use Rattle.heylo_graph.specs.declared.nodes.Node.{Node}
use Rattle.heylo_graph.specs.Nodes.{tree_at, Begins, IsGraph}
use Rattle.heylo_graph.specs.Parts.{first, second, third, bound_by}
use Rattle.heylo_graph.specs.internal.Tables.{PartTree, IsSmall, PartIsSmall}
use Rattle.heylo_graph.proofs.Trees.{tree_within, stands_assembled}
use Rattle.heylo_graph.proofs.PartTrees.{head_tree, first_tree, second_tree, third_tree, taken_apart, some_is}
use Rattle.heylo_graph.proofs.PartSizes.{part_nodes, nodes_over}
use Rattle.heylo_graph.proofs.NodeMoves.{same_later}

abbrev pub part_binder : Option Tree → Bool
part_binder None = false
part_binder (Some t) = has_binder_tree t

abbrev is_some : Option ℕ → Bool
is_some None = false
is_some (Some w) = true

one : (a : Bool) → a ≡ (a || (false || false))
one true = refl
one false = refl

two : (a b : Bool) → (a || b) ≡ (a || (b || false))
two true b = refl
two false true = refl
two false false = refl

binder_over : (t : Tree) → has_binder_tree t ≡ (is_some (bound_by (head_tree t)) || (part_binder (first_tree t) || (part_binder (second_tree t) || part_binder (third_tree t))))
binder_over (Tree.formula (Form.number v)) = refl
binder_over (Tree.formula (Form.variable w)) = refl
binder_over (Tree.formula (Form.sum k l)) = two (has_binder k) (has_binder l)
binder_over (Tree.formula (Form.difference k l)) = two (has_binder k) (has_binder l)
binder_over (Tree.formula (Form.cut k l)) = two (has_binder k) (has_binder l)
binder_over (Tree.formula (Form.scale w k)) = one (has_binder k)
binder_over (Tree.formula (Form.product k l span)) = two (has_binder k) (has_binder l)
binder_over (Tree.formula (Form.min k l)) = two (has_binder k) (has_binder l)
binder_over (Tree.formula (Form.max k l)) = two (has_binder k) (has_binder l)
binder_over (Tree.formula (Form.imply k l)) = two (has_binder k) (has_binder l)
binder_over (Tree.formula (Form.co_imply k l)) = two (has_binder k) (has_binder l)
binder_over (Tree.formula (Form.validate k)) = one (has_binder k)
binder_over (Tree.formula (Form.co_validate k)) = one (has_binder k)
binder_over (Tree.formula (Form.embed k)) = one (has_binder_in k)
binder_over (Tree.formula (Form.iverson k)) = one (has_binder_in k)
binder_over (Tree.formula (Form.select k l m)) = refl
binder_over (Tree.formula (Form.bind up w name ty k)) = refl
binder_over (Tree.condition (Cond.constant v)) = refl
binder_over (Tree.condition (Cond.flag w)) = refl
binder_over (Tree.condition (Cond.not k)) = one (has_binder_in k)
binder_over (Tree.condition (Cond.and k l)) = two (has_binder_in k) (has_binder_in l)
binder_over (Tree.condition (Cond.or k l)) = two (has_binder_in k) (has_binder_in l)
binder_over (Tree.condition (Cond.same k l)) = two (has_binder_in k) (has_binder_in l)
binder_over (Tree.condition (Cond.le k l)) = two (has_binder k) (has_binder l)
binder_over (Tree.condition (Cond.lt k l)) = two (has_binder k) (has_binder l)
binder_over (Tree.condition (Cond.equal k l)) = two (has_binder k) (has_binder l)
binder_over (Tree.condition (Cond.ite k l m)) = refl

or_right : (a b : Bool) → b ≡ true → (a || b) ≡ true
or_right true b h = refl
or_right false b h = h

or_left : (a b : Bool) → a ≡ true → (a || b) ≡ true
or_left a b h = ap (λ c. c || b) h

first_binder : (t : Tree) → part_binder (first_tree t) ≡ true → has_binder_tree t ≡ true
first_binder t h = binder_over t ∙ or_right (is_some (bound_by (head_tree t))) _ (or_left (part_binder (first_tree t)) _ h)

second_binder : (t : Tree) → part_binder (second_tree t) ≡ true → has_binder_tree t ≡ true
second_binder t h = binder_over t ∙ or_right (is_some (bound_by (head_tree t))) _ (or_right (part_binder (first_tree t)) _ (or_left (part_binder (second_tree t)) _ h))

third_binder : (t : Tree) → part_binder (third_tree t) ≡ true → has_binder_tree t ≡ true
third_binder t h = binder_over t ∙ or_right (is_some (bound_by (head_tree t))) _ (or_right (part_binder (first_tree t)) _ (or_right (part_binder (second_tree t)) _ h))

-- The number of nodes of the tree with an index; 0 if there is none.
abbrev pub size_at : List Node → ℕ → ℕ
size_at ns i = part_nodes (tree_at ns i)

abbrev pub part_measure : List Node → Option ℕ → ℕ
part_measure ns None = 0
part_measure ns (Some p) = 4 + 6 * size_at ns p

part_less : (ns new : List Node) (p : Option ℕ) (u : Option Tree) (m : ℕ) → Begins ns new → PartTree (tree_at ns) p u → part_nodes u < m → part_measure new p < 6 * m
part_less ns new None u m b h l = omega (arith, l)
part_less ns new (Some p) None m b h l = absurd h
part_less ns new (Some p) (Some u) m b h l = let e : size_at new p ≡ nodes_of u = ap part_nodes (same_later ns new p b (tree_within ns p u h) ∙ h) in omega (arith, e, l)

part_small : (s : Term) (ns new : List Node) (p : Option ℕ) (u : Option Tree) (t : Tree) → Begins ns new → PartTree (tree_at ns) p u → part_nodes u < nodes_of t → (part_binder u ≡ true → has_binder_tree t ≡ true) → IsSmall s t → PartIsSmall s new p
part_small s ns new None u t b h l f k = tt
part_small s ns new (Some p) None t b h l f k = absurd h
part_small s ns new (Some p) (Some u) t b h l f k = λ v e c.
    let q : v ≡ u = some_is v u (sym e ∙ same_later ns new p b (tree_within ns p u h) ∙ h) in
    let r = k (f (ap has_binder_tree (sym q) ∙ c)) in
    let w : nodes_of v ≡ nodes_of u = ap nodes_of q in
    omega (arith, r, w, l)

-- The properties of a child of a node in a longer list.
pub record SmallPart (s : Term) (ns new : List Node) (i : ℕ) (p : Option ℕ) : Type 0 where
  pub less : part_measure new p < 6 * size_at ns i
  pub small : PartIsSmall s new p

whole_size : (ns : List Node) (i : ℕ) (t : Tree) → tree_at ns i ≡ Some t → nodes_of t ≡ size_at ns i
whole_size ns i t e = ap part_nodes (sym e)

first_less : (t : Tree) → part_nodes (first_tree t) < nodes_of t
first_less t = let e = nodes_over t in omega (arith, e)

second_less : (t : Tree) → part_nodes (second_tree t) < nodes_of t
second_less t = let e = nodes_over t in omega (arith, e)

third_less : (t : Tree) → part_nodes (third_tree t) < nodes_of t
third_less t = let e = nodes_over t in omega (arith, e)

a_part : (s : Term) (ns new : List Node) (i : ℕ) (p : Option ℕ) (u : Option Tree) (t : Tree) → Begins ns new → tree_at ns i ≡ Some t → PartTree (tree_at ns) p u → part_nodes u < nodes_of t → (part_binder u ≡ true → has_binder_tree t ≡ true) → IsSmall s t → SmallPart s ns new i p
a_part s ns new i p u t b e h l f k = record { less = subst (λ m. part_measure new p < 6 * m) (whole_size ns i t e) (part_less ns new p u (nodes_of t) b h l); small = part_small s ns new p u t b h l f k }

pub first_small : (s : Term) (ns new : List Node) (i : ℕ) (n : Node) → IsGraph ns → slice_get ns i ≡ Some n → Begins ns new → ((t : Tree) → tree_at ns i ≡ Some t → IsSmall s t) → SmallPart s ns new i (first n)
first_small s ns new i n g h b k =
    let r = g.each i (slice_get_within ns i n h) in
    let x = taken_apart (tree_at ns) n r.0 (stands_assembled ns i n r.0 h r.1) in
    a_part s ns new i (first n) (first_tree r.0) r.0 b r.1 x.one (first_less r.0) (first_binder r.0) (k r.0 r.1)

pub second_small : (s : Term) (ns new : List Node) (i : ℕ) (n : Node) → IsGraph ns → slice_get ns i ≡ Some n → Begins ns new → ((t : Tree) → tree_at ns i ≡ Some t → IsSmall s t) → SmallPart s ns new i (second n)
second_small s ns new i n g h b k =
    let r = g.each i (slice_get_within ns i n h) in
    let x = taken_apart (tree_at ns) n r.0 (stands_assembled ns i n r.0 h r.1) in
    a_part s ns new i (second n) (second_tree r.0) r.0 b r.1 x.two (second_less r.0) (second_binder r.0) (k r.0 r.1)

pub third_small : (s : Term) (ns new : List Node) (i : ℕ) (n : Node) → IsGraph ns → slice_get ns i ≡ Some n → Begins ns new → ((t : Tree) → tree_at ns i ≡ Some t → IsSmall s t) → SmallPart s ns new i (third n)
third_small s ns new i n g h b k =
    let r = g.each i (slice_get_within ns i n h) in
    let x = taken_apart (tree_at ns) n r.0 (stands_assembled ns i n r.0 h r.1) in
    a_part s ns new i (third n) (third_tree r.0) r.0 b r.1 x.three (third_less r.0) (third_binder r.0) (k r.0 r.1)
