-- The tree that is read from a node is the tree over those that are read from its children.
use Rattle.std.proofs.Common.{◌≡◌, ℕ, Bool, List, Some, slice_get, sym, ap, ap₂, subst, ◌∙◌}
use Rattle.heyvl_num.specs.Rational.{Rational}
use Rattle.heyvl_num.specs.ExtendedNumbers.{value_of}
use Rattle.heyvl_num.specs.declared.extended_numbers.Ext.{Ext}
use Rattle.heyvl_places.specs.declared.spans.Span.{Span}
use Rattle.heylo_formula.specs.declared.types.Ty.{Ty}
use Rattle.heylo_formula.specs.Formula.{Form, Cond, Term}
use Rattle.heylo_formula.specs.Substitution as Put
use Rattle.heylo_graph.specs.Trees.{Tree, tree_of_term}
use Rattle.heylo_graph.specs.declared.nodes.Node.{Node}
use Rattle.heylo_graph.specs.Nodes.{tree_at, Stands, IsFormula}
use Rattle.heylo_graph.specs.internal.Tables.{Reads, ReadsForm, ReadsCond}
use Rattle.heylo_graph.proofs.Trees.{stands_assembled}
use Rattle.heylo_graph.proofs.PartTrees.{form_part, cond_part, some_is}

abbrev form_in : Tree → Form → Form
form_in (Tree.formula f) d = f
form_in (Tree.condition g) d = d

abbrev cond_in : Tree → Cond → Cond
cond_in (Tree.formula f) d = d
cond_in (Tree.condition g) d = g

-- The term that is read, as a form.
pub reads_form : (ns : List Node) (i : ℕ) (s : Term) (k : Form) → k ≡ Put.as_form s → Reads ns i (tree_of_term s) → ReadsForm ns i k
reads_form ns i (Term.truth g) k e h = record { reads = λ f y. absurd (let q = h.reads (Tree.formula f) y in cc) }
reads_form ns i (Term.number g) k e h = record { reads = λ f y. e ∙ ap (λ t. form_in t g) (h.reads (Tree.formula f) y) }

pub reads_cond : (ns : List Node) (i : ℕ) (s : Term) (k : Cond) → k ≡ Put.as_cond s → Reads ns i (tree_of_term s) → ReadsCond ns i k
reads_cond ns i (Term.truth g) k e h = record { reads = λ f y. e ∙ ap (λ t. cond_in t g) (h.reads (Tree.condition f) y) }
reads_cond ns i (Term.number g) k e h = record { reads = λ f y. absurd (let q = h.reads (Tree.condition f) y in cc) }

pub form_stands : (ns : List Node) (i : ℕ) (s : Term) (k : Form) → IsFormula ns i → Reads ns i (tree_of_term s) → k ≡ Put.as_form s → Stands ns i (Tree.formula k)
form_stands ns i s k f h e = subst (λ d. Stands ns i (Tree.formula d)) (sym ((reads_form ns i s k e h).reads f.form f.stands)) f.stands

pub const_reads : (ns : List Node) (i : ℕ) (v : Ext) → slice_get ns i ≡ Some (Node.Const v) → Reads ns i (Tree.formula (Form.number (value_of v)))
const_reads ns i v h = record { reads = λ d y. let z = stands_assembled ns i (Node.Const v) d h y.tree in some_is (Tree.formula (Form.number (value_of v))) d z }

pub var_reads : (ns : List Node) (i : ℕ) (w : ℕ) → slice_get ns i ≡ Some (Node.Var w) → Reads ns i (Tree.formula (Form.variable w))
var_reads ns i w h = record { reads = λ d y. let z = stands_assembled ns i (Node.Var w) d h y.tree in some_is (Tree.formula (Form.variable w)) d z }

pub sum_reads : (ns : List Node) (i : ℕ) (a b : ℕ) (k : Form) (l : Form) → slice_get ns i ≡ Some (Node.Sum a b) → ReadsForm ns a k → ReadsForm ns b l → Reads ns i (Tree.formula (Form.sum k l))
sum_reads ns i a b k l h e f = record { reads = λ d y. let z = stands_assembled ns i (Node.Sum a b) d h y.tree in let p = form_part (tree_at ns) a _ d z in let q = form_part (tree_at ns) b _ d p.rest in ap₂ (λ o x. Tree.formula (Form.sum o x)) (e.reads p.form (record { tree = p.there })) (f.reads q.form (record { tree = q.there })) ∙ some_is (Tree.formula (Form.sum p.form q.form)) d q.rest }

pub diff_reads : (ns : List Node) (i : ℕ) (a b : ℕ) (k : Form) (l : Form) → slice_get ns i ≡ Some (Node.Diff a b) → ReadsForm ns a k → ReadsForm ns b l → Reads ns i (Tree.formula (Form.difference k l))
diff_reads ns i a b k l h e f = record { reads = λ d y. let z = stands_assembled ns i (Node.Diff a b) d h y.tree in let p = form_part (tree_at ns) a _ d z in let q = form_part (tree_at ns) b _ d p.rest in ap₂ (λ o x. Tree.formula (Form.difference o x)) (e.reads p.form (record { tree = p.there })) (f.reads q.form (record { tree = q.there })) ∙ some_is (Tree.formula (Form.difference p.form q.form)) d q.rest }

pub cut_reads : (ns : List Node) (i : ℕ) (a b : ℕ) (k : Form) (l : Form) → slice_get ns i ≡ Some (Node.Cut a b) → ReadsForm ns a k → ReadsForm ns b l → Reads ns i (Tree.formula (Form.cut k l))
cut_reads ns i a b k l h e f = record { reads = λ d y. let z = stands_assembled ns i (Node.Cut a b) d h y.tree in let p = form_part (tree_at ns) a _ d z in let q = form_part (tree_at ns) b _ d p.rest in ap₂ (λ o x. Tree.formula (Form.cut o x)) (e.reads p.form (record { tree = p.there })) (f.reads q.form (record { tree = q.there })) ∙ some_is (Tree.formula (Form.cut p.form q.form)) d q.rest }

pub scale_reads : (ns : List Node) (i : ℕ) (w : Rational) (a : ℕ) (k : Form) → slice_get ns i ≡ Some (Node.Scale w a) → ReadsForm ns a k → Reads ns i (Tree.formula (Form.scale w k))
scale_reads ns i w a k h e = record { reads = λ d y. let z = stands_assembled ns i (Node.Scale w a) d h y.tree in let p = form_part (tree_at ns) a _ d z in ap (λ o. Tree.formula (Form.scale w o)) (e.reads p.form (record { tree = p.there })) ∙ some_is (Tree.formula (Form.scale w p.form)) d p.rest }

pub product_reads : (ns : List Node) (i : ℕ) (a b : ℕ) (span : Span) (k : Form) (l : Form) → slice_get ns i ≡ Some (Node.Product a b span) → ReadsForm ns a k → ReadsForm ns b l → Reads ns i (Tree.formula (Form.product k l span))
product_reads ns i a b span k l h e f = record { reads = λ d y. let z = stands_assembled ns i (Node.Product a b span) d h y.tree in let p = form_part (tree_at ns) a _ d z in let q = form_part (tree_at ns) b _ d p.rest in ap₂ (λ o x. Tree.formula (Form.product o x span)) (e.reads p.form (record { tree = p.there })) (f.reads q.form (record { tree = q.there })) ∙ some_is (Tree.formula (Form.product p.form q.form span)) d q.rest }

pub min_reads : (ns : List Node) (i : ℕ) (a b : ℕ) (k : Form) (l : Form) → slice_get ns i ≡ Some (Node.Min a b) → ReadsForm ns a k → ReadsForm ns b l → Reads ns i (Tree.formula (Form.min k l))
min_reads ns i a b k l h e f = record { reads = λ d y. let z = stands_assembled ns i (Node.Min a b) d h y.tree in let p = form_part (tree_at ns) a _ d z in let q = form_part (tree_at ns) b _ d p.rest in ap₂ (λ o x. Tree.formula (Form.min o x)) (e.reads p.form (record { tree = p.there })) (f.reads q.form (record { tree = q.there })) ∙ some_is (Tree.formula (Form.min p.form q.form)) d q.rest }

pub max_reads : (ns : List Node) (i : ℕ) (a b : ℕ) (k : Form) (l : Form) → slice_get ns i ≡ Some (Node.Max a b) → ReadsForm ns a k → ReadsForm ns b l → Reads ns i (Tree.formula (Form.max k l))
max_reads ns i a b k l h e f = record { reads = λ d y. let z = stands_assembled ns i (Node.Max a b) d h y.tree in let p = form_part (tree_at ns) a _ d z in let q = form_part (tree_at ns) b _ d p.rest in ap₂ (λ o x. Tree.formula (Form.max o x)) (e.reads p.form (record { tree = p.there })) (f.reads q.form (record { tree = q.there })) ∙ some_is (Tree.formula (Form.max p.form q.form)) d q.rest }

pub imply_reads : (ns : List Node) (i : ℕ) (a b : ℕ) (k : Form) (l : Form) → slice_get ns i ≡ Some (Node.Imply a b) → ReadsForm ns a k → ReadsForm ns b l → Reads ns i (Tree.formula (Form.imply k l))
imply_reads ns i a b k l h e f = record { reads = λ d y. let z = stands_assembled ns i (Node.Imply a b) d h y.tree in let p = form_part (tree_at ns) a _ d z in let q = form_part (tree_at ns) b _ d p.rest in ap₂ (λ o x. Tree.formula (Form.imply o x)) (e.reads p.form (record { tree = p.there })) (f.reads q.form (record { tree = q.there })) ∙ some_is (Tree.formula (Form.imply p.form q.form)) d q.rest }

pub co_imply_reads : (ns : List Node) (i : ℕ) (a b : ℕ) (k : Form) (l : Form) → slice_get ns i ≡ Some (Node.CoImply a b) → ReadsForm ns a k → ReadsForm ns b l → Reads ns i (Tree.formula (Form.co_imply k l))
co_imply_reads ns i a b k l h e f = record { reads = λ d y. let z = stands_assembled ns i (Node.CoImply a b) d h y.tree in let p = form_part (tree_at ns) a _ d z in let q = form_part (tree_at ns) b _ d p.rest in ap₂ (λ o x. Tree.formula (Form.co_imply o x)) (e.reads p.form (record { tree = p.there })) (f.reads q.form (record { tree = q.there })) ∙ some_is (Tree.formula (Form.co_imply p.form q.form)) d q.rest }

pub validate_reads : (ns : List Node) (i : ℕ) (a : ℕ) (k : Form) → slice_get ns i ≡ Some (Node.Validate a) → ReadsForm ns a k → Reads ns i (Tree.formula (Form.validate k))
validate_reads ns i a k h e = record { reads = λ d y. let z = stands_assembled ns i (Node.Validate a) d h y.tree in let p = form_part (tree_at ns) a _ d z in ap (λ o. Tree.formula (Form.validate o)) (e.reads p.form (record { tree = p.there })) ∙ some_is (Tree.formula (Form.validate p.form)) d p.rest }

pub co_validate_reads : (ns : List Node) (i : ℕ) (a : ℕ) (k : Form) → slice_get ns i ≡ Some (Node.CoValidate a) → ReadsForm ns a k → Reads ns i (Tree.formula (Form.co_validate k))
co_validate_reads ns i a k h e = record { reads = λ d y. let z = stands_assembled ns i (Node.CoValidate a) d h y.tree in let p = form_part (tree_at ns) a _ d z in ap (λ o. Tree.formula (Form.co_validate o)) (e.reads p.form (record { tree = p.there })) ∙ some_is (Tree.formula (Form.co_validate p.form)) d p.rest }

pub embed_reads : (ns : List Node) (i : ℕ) (a : ℕ) (k : Cond) → slice_get ns i ≡ Some (Node.Embed a) → ReadsCond ns a k → Reads ns i (Tree.formula (Form.embed k))
embed_reads ns i a k h e = record { reads = λ d y. let z = stands_assembled ns i (Node.Embed a) d h y.tree in let p = cond_part (tree_at ns) a _ d z in ap (λ o. Tree.formula (Form.embed o)) (e.reads p.form (record { tree = p.there })) ∙ some_is (Tree.formula (Form.embed p.form)) d p.rest }

pub iverson_reads : (ns : List Node) (i : ℕ) (a : ℕ) (k : Cond) → slice_get ns i ≡ Some (Node.Iverson a) → ReadsCond ns a k → Reads ns i (Tree.formula (Form.iverson k))
iverson_reads ns i a k h e = record { reads = λ d y. let z = stands_assembled ns i (Node.Iverson a) d h y.tree in let p = cond_part (tree_at ns) a _ d z in ap (λ o. Tree.formula (Form.iverson o)) (e.reads p.form (record { tree = p.there })) ∙ some_is (Tree.formula (Form.iverson p.form)) d p.rest }

pub select_reads : (ns : List Node) (i : ℕ) (a b c : ℕ) (k : Cond) (l : Form) (m : Form) → slice_get ns i ≡ Some (Node.Select a b c) → ReadsCond ns a k → ReadsForm ns b l → ReadsForm ns c m → Reads ns i (Tree.formula (Form.select k l m))
select_reads ns i a b c k l m h e f g = record { reads = λ d y. let z = stands_assembled ns i (Node.Select a b c) d h y.tree in let p = cond_part (tree_at ns) a _ d z in let q = form_part (tree_at ns) b _ d p.rest in let r = form_part (tree_at ns) c _ d q.rest in ap (λ o. Tree.formula (Form.select o l m)) (e.reads p.form (record { tree = p.there })) ∙ ap₂ (λ o x. Tree.formula (Form.select p.form o x)) (f.reads q.form (record { tree = q.there })) (g.reads r.form (record { tree = r.there })) ∙ some_is (Tree.formula (Form.select p.form q.form r.form)) d r.rest }

pub bind_reads : (ns : List Node) (i : ℕ) (up : Bool) (w : ℕ) (name : ℕ) (ty : Ty) (a : ℕ) (k : Form) → slice_get ns i ≡ Some (Node.Bind up w name ty a) → ReadsForm ns a k → Reads ns i (Tree.formula (Form.bind up w name ty k))
bind_reads ns i up w name ty a k h e = record { reads = λ d y. let z = stands_assembled ns i (Node.Bind up w name ty a) d h y.tree in let p = form_part (tree_at ns) a _ d z in ap (λ o. Tree.formula (Form.bind up w name ty o)) (e.reads p.form (record { tree = p.there })) ∙ some_is (Tree.formula (Form.bind up w name ty p.form)) d p.rest }

pub truth_reads : (ns : List Node) (i : ℕ) (v : Bool) → slice_get ns i ≡ Some (Node.Truth v) → Reads ns i (Tree.condition (Cond.constant v))
truth_reads ns i v h = record { reads = λ d y. let z = stands_assembled ns i (Node.Truth v) d h y.tree in some_is (Tree.condition (Cond.constant v)) d z }

pub flag_reads : (ns : List Node) (i : ℕ) (w : ℕ) → slice_get ns i ≡ Some (Node.Flag w) → Reads ns i (Tree.condition (Cond.flag w))
flag_reads ns i w h = record { reads = λ d y. let z = stands_assembled ns i (Node.Flag w) d h y.tree in some_is (Tree.condition (Cond.flag w)) d z }

pub not_reads : (ns : List Node) (i : ℕ) (a : ℕ) (k : Cond) → slice_get ns i ≡ Some (Node.Not a) → ReadsCond ns a k → Reads ns i (Tree.condition (Cond.not k))
not_reads ns i a k h e = record { reads = λ d y. let z = stands_assembled ns i (Node.Not a) d h y.tree in let p = cond_part (tree_at ns) a _ d z in ap (λ o. Tree.condition (Cond.not o)) (e.reads p.form (record { tree = p.there })) ∙ some_is (Tree.condition (Cond.not p.form)) d p.rest }

pub and_reads : (ns : List Node) (i : ℕ) (a b : ℕ) (k : Cond) (l : Cond) → slice_get ns i ≡ Some (Node.And a b) → ReadsCond ns a k → ReadsCond ns b l → Reads ns i (Tree.condition (Cond.and k l))
and_reads ns i a b k l h e f = record { reads = λ d y. let z = stands_assembled ns i (Node.And a b) d h y.tree in let p = cond_part (tree_at ns) a _ d z in let q = cond_part (tree_at ns) b _ d p.rest in ap₂ (λ o x. Tree.condition (Cond.and o x)) (e.reads p.form (record { tree = p.there })) (f.reads q.form (record { tree = q.there })) ∙ some_is (Tree.condition (Cond.and p.form q.form)) d q.rest }

pub or_reads : (ns : List Node) (i : ℕ) (a b : ℕ) (k : Cond) (l : Cond) → slice_get ns i ≡ Some (Node.Or a b) → ReadsCond ns a k → ReadsCond ns b l → Reads ns i (Tree.condition (Cond.or k l))
or_reads ns i a b k l h e f = record { reads = λ d y. let z = stands_assembled ns i (Node.Or a b) d h y.tree in let p = cond_part (tree_at ns) a _ d z in let q = cond_part (tree_at ns) b _ d p.rest in ap₂ (λ o x. Tree.condition (Cond.or o x)) (e.reads p.form (record { tree = p.there })) (f.reads q.form (record { tree = q.there })) ∙ some_is (Tree.condition (Cond.or p.form q.form)) d q.rest }

pub same_reads : (ns : List Node) (i : ℕ) (a b : ℕ) (k : Cond) (l : Cond) → slice_get ns i ≡ Some (Node.Same a b) → ReadsCond ns a k → ReadsCond ns b l → Reads ns i (Tree.condition (Cond.same k l))
same_reads ns i a b k l h e f = record { reads = λ d y. let z = stands_assembled ns i (Node.Same a b) d h y.tree in let p = cond_part (tree_at ns) a _ d z in let q = cond_part (tree_at ns) b _ d p.rest in ap₂ (λ o x. Tree.condition (Cond.same o x)) (e.reads p.form (record { tree = p.there })) (f.reads q.form (record { tree = q.there })) ∙ some_is (Tree.condition (Cond.same p.form q.form)) d q.rest }

pub le_reads : (ns : List Node) (i : ℕ) (a b : ℕ) (k : Form) (l : Form) → slice_get ns i ≡ Some (Node.Le a b) → ReadsForm ns a k → ReadsForm ns b l → Reads ns i (Tree.condition (Cond.le k l))
le_reads ns i a b k l h e f = record { reads = λ d y. let z = stands_assembled ns i (Node.Le a b) d h y.tree in let p = form_part (tree_at ns) a _ d z in let q = form_part (tree_at ns) b _ d p.rest in ap₂ (λ o x. Tree.condition (Cond.le o x)) (e.reads p.form (record { tree = p.there })) (f.reads q.form (record { tree = q.there })) ∙ some_is (Tree.condition (Cond.le p.form q.form)) d q.rest }

pub lt_reads : (ns : List Node) (i : ℕ) (a b : ℕ) (k : Form) (l : Form) → slice_get ns i ≡ Some (Node.Lt a b) → ReadsForm ns a k → ReadsForm ns b l → Reads ns i (Tree.condition (Cond.lt k l))
lt_reads ns i a b k l h e f = record { reads = λ d y. let z = stands_assembled ns i (Node.Lt a b) d h y.tree in let p = form_part (tree_at ns) a _ d z in let q = form_part (tree_at ns) b _ d p.rest in ap₂ (λ o x. Tree.condition (Cond.lt o x)) (e.reads p.form (record { tree = p.there })) (f.reads q.form (record { tree = q.there })) ∙ some_is (Tree.condition (Cond.lt p.form q.form)) d q.rest }

pub equal_reads : (ns : List Node) (i : ℕ) (a b : ℕ) (k : Form) (l : Form) → slice_get ns i ≡ Some (Node.EqNum a b) → ReadsForm ns a k → ReadsForm ns b l → Reads ns i (Tree.condition (Cond.equal k l))
equal_reads ns i a b k l h e f = record { reads = λ d y. let z = stands_assembled ns i (Node.EqNum a b) d h y.tree in let p = form_part (tree_at ns) a _ d z in let q = form_part (tree_at ns) b _ d p.rest in ap₂ (λ o x. Tree.condition (Cond.equal o x)) (e.reads p.form (record { tree = p.there })) (f.reads q.form (record { tree = q.there })) ∙ some_is (Tree.condition (Cond.equal p.form q.form)) d q.rest }

pub ite_reads : (ns : List Node) (i : ℕ) (a b c : ℕ) (k : Cond) (l : Cond) (m : Cond) → slice_get ns i ≡ Some (Node.Ite a b c) → ReadsCond ns a k → ReadsCond ns b l → ReadsCond ns c m → Reads ns i (Tree.condition (Cond.ite k l m))
ite_reads ns i a b c k l m h e f g = record { reads = λ d y. let z = stands_assembled ns i (Node.Ite a b c) d h y.tree in let p = cond_part (tree_at ns) a _ d z in let q = cond_part (tree_at ns) b _ d p.rest in let r = cond_part (tree_at ns) c _ d q.rest in ap (λ o. Tree.condition (Cond.ite o l m)) (e.reads p.form (record { tree = p.there })) ∙ ap₂ (λ o x. Tree.condition (Cond.ite p.form o x)) (f.reads q.form (record { tree = q.there })) (g.reads r.form (record { tree = r.there })) ∙ some_is (Tree.condition (Cond.ite p.form q.form r.form)) d r.rest }
