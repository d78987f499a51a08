-- The nodes of trees, with children in a graph.
use Rattle.std.proofs.Common.{◌≡◌, ℕ, Bool, List, Option, ap, ◌∙◌, refl}
use Rattle.heyvl_num.specs.Rational.{Rational}
use Rattle.heyvl_num.specs.ExtendedNumbers.{value_of}
use Rattle.heyvl_num.specs.declared.extended_numbers.Ext.{Ext}
use Rattle.heyvl_places.specs.declared.spans.Span.{Span}
use Rattle.heylo_formula.specs.declared.types.Ty.{Ty}
use Rattle.heylo_formula.specs.Formula.{Form, Cond}
use Rattle.heylo_graph.specs.Trees.{Tree}
use Rattle.heylo_graph.specs.declared.nodes.Node.{Node}
use Rattle.heylo_graph.specs.Nodes.{as_form, as_cond, with, tree_at, Stands, IsNodeOf, IsFitting}

with_form : (ns : List Node) (a : ℕ) (f : Form) (k : Form → Option Tree) → Stands ns a (Tree.formula f) → with (as_form (tree_at ns a)) k ≡ k f
with_form ns a f k s = ap (λ r. with (as_form r) k) s.tree

with_cond : (ns : List Node) (a : ℕ) (f : Cond) (k : Cond → Option Tree) → Stands ns a (Tree.condition f) → with (as_cond (tree_at ns a)) k ≡ k f
with_cond ns a f k s = ap (λ r. with (as_cond r) k) s.tree

-- The node of a tree fits.
pub fits : (ns : List Node) (n : Node) (t : Tree) → IsNodeOf ns n t → IsFitting ns n
fits ns n t g = record { tree = t; stands = g.gives }

pub const_node : (ns : List Node) (v : Ext) → IsNodeOf ns (Node.Const v) (Tree.formula (Form.number (value_of v)))
const_node ns v = record { gives = refl }

pub var_node : (ns : List Node) (w : ℕ) → IsNodeOf ns (Node.Var w) (Tree.formula (Form.variable w))
var_node ns w = record { gives = refl }

pub sum_node : (ns : List Node) (a b : ℕ) (k : Form) (l : Form) → Stands ns a (Tree.formula k) → Stands ns b (Tree.formula l) → IsNodeOf ns (Node.Sum a b) (Tree.formula (Form.sum k l))
sum_node ns a b k l s u = record { gives = with_form ns a k _ s ∙ with_form ns b l _ u }

pub diff_node : (ns : List Node) (a b : ℕ) (k : Form) (l : Form) → Stands ns a (Tree.formula k) → Stands ns b (Tree.formula l) → IsNodeOf ns (Node.Diff a b) (Tree.formula (Form.difference k l))
diff_node ns a b k l s u = record { gives = with_form ns a k _ s ∙ with_form ns b l _ u }

pub cut_node : (ns : List Node) (a b : ℕ) (k : Form) (l : Form) → Stands ns a (Tree.formula k) → Stands ns b (Tree.formula l) → IsNodeOf ns (Node.Cut a b) (Tree.formula (Form.cut k l))
cut_node ns a b k l s u = record { gives = with_form ns a k _ s ∙ with_form ns b l _ u }

pub scale_node : (ns : List Node) (w : Rational) (a : ℕ) (k : Form) → Stands ns a (Tree.formula k) → IsNodeOf ns (Node.Scale w a) (Tree.formula (Form.scale w k))
scale_node ns w a k s = record { gives = with_form ns a k _ s }

pub product_node : (ns : List Node) (a b : ℕ) (span : Span) (k : Form) (l : Form) → Stands ns a (Tree.formula k) → Stands ns b (Tree.formula l) → IsNodeOf ns (Node.Product a b span) (Tree.formula (Form.product k l span))
product_node ns a b span k l s u = record { gives = with_form ns a k _ s ∙ with_form ns b l _ u }

pub min_node : (ns : List Node) (a b : ℕ) (k : Form) (l : Form) → Stands ns a (Tree.formula k) → Stands ns b (Tree.formula l) → IsNodeOf ns (Node.Min a b) (Tree.formula (Form.min k l))
min_node ns a b k l s u = record { gives = with_form ns a k _ s ∙ with_form ns b l _ u }

pub max_node : (ns : List Node) (a b : ℕ) (k : Form) (l : Form) → Stands ns a (Tree.formula k) → Stands ns b (Tree.formula l) → IsNodeOf ns (Node.Max a b) (Tree.formula (Form.max k l))
max_node ns a b k l s u = record { gives = with_form ns a k _ s ∙ with_form ns b l _ u }

pub imply_node : (ns : List Node) (a b : ℕ) (k : Form) (l : Form) → Stands ns a (Tree.formula k) → Stands ns b (Tree.formula l) → IsNodeOf ns (Node.Imply a b) (Tree.formula (Form.imply k l))
imply_node ns a b k l s u = record { gives = with_form ns a k _ s ∙ with_form ns b l _ u }

pub co_imply_node : (ns : List Node) (a b : ℕ) (k : Form) (l : Form) → Stands ns a (Tree.formula k) → Stands ns b (Tree.formula l) → IsNodeOf ns (Node.CoImply a b) (Tree.formula (Form.co_imply k l))
co_imply_node ns a b k l s u = record { gives = with_form ns a k _ s ∙ with_form ns b l _ u }

pub validate_node : (ns : List Node) (a : ℕ) (k : Form) → Stands ns a (Tree.formula k) → IsNodeOf ns (Node.Validate a) (Tree.formula (Form.validate k))
validate_node ns a k s = record { gives = with_form ns a k _ s }

pub co_validate_node : (ns : List Node) (a : ℕ) (k : Form) → Stands ns a (Tree.formula k) → IsNodeOf ns (Node.CoValidate a) (Tree.formula (Form.co_validate k))
co_validate_node ns a k s = record { gives = with_form ns a k _ s }

pub embed_node : (ns : List Node) (a : ℕ) (k : Cond) → Stands ns a (Tree.condition k) → IsNodeOf ns (Node.Embed a) (Tree.formula (Form.embed k))
embed_node ns a k s = record { gives = with_cond ns a k _ s }

pub iverson_node : (ns : List Node) (a : ℕ) (k : Cond) → Stands ns a (Tree.condition k) → IsNodeOf ns (Node.Iverson a) (Tree.formula (Form.iverson k))
iverson_node ns a k s = record { gives = with_cond ns a k _ s }

pub select_node : (ns : List Node) (a b c : ℕ) (k : Cond) (l : Form) (m : Form) → Stands ns a (Tree.condition k) → Stands ns b (Tree.formula l) → Stands ns c (Tree.formula m) → IsNodeOf ns (Node.Select a b c) (Tree.formula (Form.select k l m))
select_node ns a b c k l m s u x = record { gives = with_cond ns a k _ s ∙ with_form ns b l _ u ∙ with_form ns c m _ x }

pub bind_node : (ns : List Node) (up : Bool) (w : ℕ) (name : ℕ) (ty : Ty) (a : ℕ) (k : Form) → Stands ns a (Tree.formula k) → IsNodeOf ns (Node.Bind up w name ty a) (Tree.formula (Form.bind up w name ty k))
bind_node ns up w name ty a k s = record { gives = with_form ns a k _ s }

pub truth_node : (ns : List Node) (v : Bool) → IsNodeOf ns (Node.Truth v) (Tree.condition (Cond.constant v))
truth_node ns v = record { gives = refl }

pub flag_node : (ns : List Node) (w : ℕ) → IsNodeOf ns (Node.Flag w) (Tree.condition (Cond.flag w))
flag_node ns w = record { gives = refl }

pub not_node : (ns : List Node) (a : ℕ) (k : Cond) → Stands ns a (Tree.condition k) → IsNodeOf ns (Node.Not a) (Tree.condition (Cond.not k))
not_node ns a k s = record { gives = with_cond ns a k _ s }

pub and_node : (ns : List Node) (a b : ℕ) (k : Cond) (l : Cond) → Stands ns a (Tree.condition k) → Stands ns b (Tree.condition l) → IsNodeOf ns (Node.And a b) (Tree.condition (Cond.and k l))
and_node ns a b k l s u = record { gives = with_cond ns a k _ s ∙ with_cond ns b l _ u }

pub or_node : (ns : List Node) (a b : ℕ) (k : Cond) (l : Cond) → Stands ns a (Tree.condition k) → Stands ns b (Tree.condition l) → IsNodeOf ns (Node.Or a b) (Tree.condition (Cond.or k l))
or_node ns a b k l s u = record { gives = with_cond ns a k _ s ∙ with_cond ns b l _ u }

pub same_node : (ns : List Node) (a b : ℕ) (k : Cond) (l : Cond) → Stands ns a (Tree.condition k) → Stands ns b (Tree.condition l) → IsNodeOf ns (Node.Same a b) (Tree.condition (Cond.same k l))
same_node ns a b k l s u = record { gives = with_cond ns a k _ s ∙ with_cond ns b l _ u }

pub le_node : (ns : List Node) (a b : ℕ) (k : Form) (l : Form) → Stands ns a (Tree.formula k) → Stands ns b (Tree.formula l) → IsNodeOf ns (Node.Le a b) (Tree.condition (Cond.le k l))
le_node ns a b k l s u = record { gives = with_form ns a k _ s ∙ with_form ns b l _ u }

pub lt_node : (ns : List Node) (a b : ℕ) (k : Form) (l : Form) → Stands ns a (Tree.formula k) → Stands ns b (Tree.formula l) → IsNodeOf ns (Node.Lt a b) (Tree.condition (Cond.lt k l))
lt_node ns a b k l s u = record { gives = with_form ns a k _ s ∙ with_form ns b l _ u }

pub equal_node : (ns : List Node) (a b : ℕ) (k : Form) (l : Form) → Stands ns a (Tree.formula k) → Stands ns b (Tree.formula l) → IsNodeOf ns (Node.EqNum a b) (Tree.condition (Cond.equal k l))
equal_node ns a b k l s u = record { gives = with_form ns a k _ s ∙ with_form ns b l _ u }

pub ite_node : (ns : List Node) (a b c : ℕ) (k : Cond) (l : Cond) (m : Cond) → Stands ns a (Tree.condition k) → Stands ns b (Tree.condition l) → Stands ns c (Tree.condition m) → IsNodeOf ns (Node.Ite a b c) (Tree.condition (Cond.ite k l m))
ite_node ns a b c k l m s u x = record { gives = with_cond ns a k _ s ∙ with_cond ns b l _ u ∙ with_cond ns c m _ x }

pub ruleset nodes_over_parts = (const_node, var_node, sum_node, diff_node, cut_node, scale_node, product_node, min_node, max_node, imply_node, co_imply_node, validate_node, co_validate_node, embed_node, iverson_node, select_node, bind_node, truth_node, flag_node, not_node, and_node, or_node, same_node, le_node, lt_node, equal_node, ite_node)
