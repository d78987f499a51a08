-- The size of a tree follows from those of its children.
use Rattle.std.proofs.Common.{◌≡◌, ℕ, ◌+◌, max, Option, Some, None, refl, arith}
use Rattle.heylo_formula.specs.Formula.{Form, Cond}
use Rattle.heylo_formula.specs.Sizes.{nodes, nodes_in, depth, depth_in}
use Rattle.heylo_graph.specs.Trees.{Tree, nodes_of, depth_of}
use Rattle.heylo_graph.proofs.PartTrees.{first_tree, second_tree, third_tree}

abbrev pub part_nodes : Option Tree → ℕ
part_nodes None = 0
part_nodes (Some t) = nodes_of t

abbrev pub part_depth : Option Tree → ℕ
part_depth None = 0
part_depth (Some t) = depth_of t

one_more : (a : ℕ) → 1 + a ≡ 1 + (a + (0 + 0))
one_more a = omega arith

two_more : (a b : ℕ) → 1 + (a + b) ≡ 1 + (a + (b + 0))
two_more a b = omega arith

one_deeper : (a : ℕ) → 1 + a ≡ 1 + max a (max 0 0)
one_deeper a = omega arith

two_deeper : (a b : ℕ) → 1 + max a b ≡ 1 + max a (max b 0)
two_deeper a b = omega arith

pub nodes_over : (t : Tree) → nodes_of t ≡ 1 + (part_nodes (first_tree t) + (part_nodes (second_tree t) + part_nodes (third_tree t)))
nodes_over (Tree.formula (Form.number v)) = refl
nodes_over (Tree.formula (Form.variable w)) = refl
nodes_over (Tree.formula (Form.sum k l)) = two_more (nodes k) (nodes l)
nodes_over (Tree.formula (Form.difference k l)) = two_more (nodes k) (nodes l)
nodes_over (Tree.formula (Form.cut k l)) = two_more (nodes k) (nodes l)
nodes_over (Tree.formula (Form.scale w k)) = one_more (nodes k)
nodes_over (Tree.formula (Form.product k l span)) = two_more (nodes k) (nodes l)
nodes_over (Tree.formula (Form.min k l)) = two_more (nodes k) (nodes l)
nodes_over (Tree.formula (Form.max k l)) = two_more (nodes k) (nodes l)
nodes_over (Tree.formula (Form.imply k l)) = two_more (nodes k) (nodes l)
nodes_over (Tree.formula (Form.co_imply k l)) = two_more (nodes k) (nodes l)
nodes_over (Tree.formula (Form.validate k)) = one_more (nodes k)
nodes_over (Tree.formula (Form.co_validate k)) = one_more (nodes k)
nodes_over (Tree.formula (Form.embed k)) = one_more (nodes_in k)
nodes_over (Tree.formula (Form.iverson k)) = one_more (nodes_in k)
nodes_over (Tree.formula (Form.select k l m)) = refl
nodes_over (Tree.formula (Form.bind up w name ty k)) = one_more (nodes k)
nodes_over (Tree.condition (Cond.constant v)) = refl
nodes_over (Tree.condition (Cond.flag w)) = refl
nodes_over (Tree.condition (Cond.not k)) = one_more (nodes_in k)
nodes_over (Tree.condition (Cond.and k l)) = two_more (nodes_in k) (nodes_in l)
nodes_over (Tree.condition (Cond.or k l)) = two_more (nodes_in k) (nodes_in l)
nodes_over (Tree.condition (Cond.same k l)) = two_more (nodes_in k) (nodes_in l)
nodes_over (Tree.condition (Cond.le k l)) = two_more (nodes k) (nodes l)
nodes_over (Tree.condition (Cond.lt k l)) = two_more (nodes k) (nodes l)
nodes_over (Tree.condition (Cond.equal k l)) = two_more (nodes k) (nodes l)
nodes_over (Tree.condition (Cond.ite k l m)) = refl

pub depth_over : (t : Tree) → depth_of t ≡ 1 + max (part_depth (first_tree t)) (max (part_depth (second_tree t)) (part_depth (third_tree t)))
depth_over (Tree.formula (Form.number v)) = refl
depth_over (Tree.formula (Form.variable w)) = refl
depth_over (Tree.formula (Form.sum k l)) = two_deeper (depth k) (depth l)
depth_over (Tree.formula (Form.difference k l)) = two_deeper (depth k) (depth l)
depth_over (Tree.formula (Form.cut k l)) = two_deeper (depth k) (depth l)
depth_over (Tree.formula (Form.scale w k)) = one_deeper (depth k)
depth_over (Tree.formula (Form.product k l span)) = two_deeper (depth k) (depth l)
depth_over (Tree.formula (Form.min k l)) = two_deeper (depth k) (depth l)
depth_over (Tree.formula (Form.max k l)) = two_deeper (depth k) (depth l)
depth_over (Tree.formula (Form.imply k l)) = two_deeper (depth k) (depth l)
depth_over (Tree.formula (Form.co_imply k l)) = two_deeper (depth k) (depth l)
depth_over (Tree.formula (Form.validate k)) = one_deeper (depth k)
depth_over (Tree.formula (Form.co_validate k)) = one_deeper (depth k)
depth_over (Tree.formula (Form.embed k)) = one_deeper (depth_in k)
depth_over (Tree.formula (Form.iverson k)) = one_deeper (depth_in k)
depth_over (Tree.formula (Form.select k l m)) = refl
depth_over (Tree.formula (Form.bind up w name ty k)) = one_deeper (depth k)
depth_over (Tree.condition (Cond.constant v)) = refl
depth_over (Tree.condition (Cond.flag w)) = refl
depth_over (Tree.condition (Cond.not k)) = one_deeper (depth_in k)
depth_over (Tree.condition (Cond.and k l)) = two_deeper (depth_in k) (depth_in l)
depth_over (Tree.condition (Cond.or k l)) = two_deeper (depth_in k) (depth_in l)
depth_over (Tree.condition (Cond.same k l)) = two_deeper (depth_in k) (depth_in l)
depth_over (Tree.condition (Cond.le k l)) = two_deeper (depth k) (depth l)
depth_over (Tree.condition (Cond.lt k l)) = two_deeper (depth k) (depth l)
depth_over (Tree.condition (Cond.equal k l)) = two_deeper (depth k) (depth l)
depth_over (Tree.condition (Cond.ite k l m)) = refl
