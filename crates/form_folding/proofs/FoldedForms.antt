-- Nodes over the folded parts of a form.
use Rattle.std.proofs.Common.{◌≡◌, ℕ, List, Some, true, sym, ap, ap₂, ◌∙◌, subst, Global}
use Rattle.heyvl_num.specs.Rational.{Rational, ◌+ʳ◌}
use Rattle.heyvl_num.specs.Value.Value.{finite}
use Rattle.heyvl_num.specs.declared.extended_numbers.Ext.{Ext}
use Rattle.heyvl_num.specs.declared.extended_numbers.Ext.TheVariants.{Fin}
use Rattle.std.specs.declared.boxed.Box.{Box}
use Rattle.heylo_formula.specs.Formula.{Form, Cond}
use Rattle.heylo_formula.specs.PlainTrees.{cond_of, form_of}
use Rattle.heylo_formula.specs.declared.forms.Form as P
use Rattle.heylo_formula.specs.declared.forms.Cond as C
use Rattle.heylo_formula.proofs.exported.Mirrors.{iverson_form, le_cond, lt_cond, number_form, scale_form, select_form}
use Rattle.heylo_graph.specs.Trees.{Tree}
use Rattle.heylo_graph.specs.Nodes.{assembled, tree_at, Begins, IsFitting, Stands}
use Rattle.heylo_graph.specs.declared.nodes.Node.{Node}
use Rattle.heylo_graph.proofs.exported.LongerLists.{const_node, fits, iverson_node, le_node, lt_node, scale_node, select_node, stands_longer, sum_node}
use Rattle.linear_rows.specs.Numbers as numbers
use Rattle.form_folding.specs.Foldings.{FoldsTo, HasFolded, TestFoldsTo}
use Rattle.form_folding.specs.internal.FoldedNodes.{HasFoldedTest, IsFolded, IsFoldedNode}
use Rattle.form_folding.specs.declared.folding.Folded as F

-- ---- Longer lists

pub has_longer : (old new : List Node) (i : ℕ) (f : Form) → Begins old new → HasFolded old i f → HasFolded new i f
has_longer old new i f b h = record { form = h.form; stands = stands_longer old new i (Tree.formula h.form) b h.stands; folds = h.folds }

pub test_longer : (old new : List Node) (i : ℕ) (g : Cond) → Begins old new → HasFoldedTest old i g → HasFoldedTest new i g
test_longer old new i g b h = record { cond = h.cond; stands = stands_longer old new i (Tree.condition h.cond) b h.stands; folds = h.folds }

pub folded_longer : (old new : List Node) (r : F.Folded) (f : Form) → Begins old new → IsFolded old r f → IsFolded new r f
folded_longer old new (F.TheVariants.Number x) f b h = h
folded_longer old new (F.TheVariants.Node i) f b h = has_longer old new i f b h

-- ---- Nodes with folded trees

pub form_has : (ns : List Node) (i : ℕ) (f : Form) → Stands ns i (Tree.formula f) → HasFolded ns i f
form_has ns i f s = record { form = f; stands = s; folds = FoldsTo.same f }

pub cond_has : (ns : List Node) (i : ℕ) (g : Cond) → Stands ns i (Tree.condition g) → HasFoldedTest ns i g
cond_has ns i g s = record { cond = g; stands = s; folds = TestFoldsTo.same_test g }

pub joined_has : (old new : List Node) (n : Node) (i : ℕ) (f : Form) → IsFoldedNode old n f → ((t : Tree) → assembled (tree_at old) n ≡ Some t → Stands new i t) → HasFolded new i f
joined_has old new n i f h k = record { form = h.form; stands = k (Tree.formula h.form) h.node.gives; folds = h.folds }

pub fits_for : (ns : List Node) (n : Node) (f : Form) → IsFoldedNode ns n f → IsFitting ns n
fits_for ns n f h = fits ns n (Tree.formula h.form) h.node

-- ---- Nodes over folded parts

pub number_for : (ns : List Node) (x : Rational) (f : Form) → FoldsTo f (Form.number (finite x)) → IsFoldedNode ns (Node.Const (Fin x)) f
number_for ns x f h = record { form = Form.number (finite x); node = const_node ns (Fin x); folds = h }

pub sum_for : (ns : List Node) (a b : ℕ) (f g : Form) → HasFolded ns a f → HasFolded ns b g → IsFoldedNode ns (Node.Sum a b) (Form.sum f g)
sum_for ns a b f g h k = record { form = Form.sum h.form k.form; node = sum_node ns a b h.form k.form h.stands k.stands; folds = FoldsTo.sum f g h.form k.form h.folds k.folds }

pub scale_for : (ns : List Node) (w : Rational) (a : ℕ) (f : Form) → HasFolded ns a f → IsFoldedNode ns (Node.Scale w a) (Form.scale w f)
scale_for ns w a f h = record { form = Form.scale w h.form; node = scale_node ns w a h.form h.stands; folds = FoldsTo.scale w f h.form h.folds }

pub iverson_for : (ns : List Node) (a : ℕ) (g : Cond) → HasFoldedTest ns a g → IsFoldedNode ns (Node.Iverson a) (Form.iverson g)
iverson_for ns a g h = record { form = Form.iverson h.cond; node = iverson_node ns a h.cond h.stands; folds = FoldsTo.iverson g h.cond h.folds }

pub select_for : (ns : List Node) (a b c : ℕ) (g : Cond) (f k : Form) → HasFoldedTest ns a g → HasFolded ns b f → HasFolded ns c k → IsFoldedNode ns (Node.Select a b c) (Form.select g f k)
select_for ns a b c g f k h s t = record {
  form = Form.select h.cond s.form t.form;
  node = select_node ns a b c h.cond s.form t.form h.stands s.stands t.stands;
  folds = FoldsTo.select g h.cond f k s.form t.form h.folds s.folds t.folds;
}

-- ---- Comparisons

pub le_has : (old new : List Node) (a b i : ℕ) (f g : Form) → HasFolded old a f → HasFolded old b g → ((t : Tree) → assembled (tree_at old) (Node.Le a b) ≡ Some t → Stands new i t) → HasFoldedTest new i (Cond.le f g)
le_has old new a b i f g h k j = record { cond = Cond.le h.form k.form; stands = j (Tree.condition (Cond.le h.form k.form)) (le_node old a b h.form k.form h.stands k.stands).gives; folds = TestFoldsTo.at_most f g h.form k.form h.folds k.folds }

pub lt_has : (old new : List Node) (a b i : ℕ) (f g : Form) → HasFolded old a f → HasFolded old b g → ((t : Tree) → assembled (tree_at old) (Node.Lt a b) ≡ Some t → Stands new i t) → HasFoldedTest new i (Cond.lt f g)
lt_has old new a b i f g h k j = record { cond = Cond.lt h.form k.form; stands = j (Tree.condition (Cond.lt h.form k.form)) (lt_node old a b h.form k.form h.stands k.stands).gives; folds = TestFoldsTo.less f g h.form k.form h.folds k.folds }

pub le_fits : (ns : List Node) (a b : ℕ) (f g : Form) → HasFolded ns a f → HasFolded ns b g → IsFitting ns (Node.Le a b)
le_fits ns a b f g h k = fits ns (Node.Le a b) _ (le_node ns a b h.form k.form h.stands k.stands)

pub lt_fits : (ns : List Node) (a b : ℕ) (f g : Form) → HasFolded ns a f → HasFolded ns b g → IsFitting ns (Node.Lt a b)
lt_fits ns a b f g h k = fits ns (Node.Lt a b) _ (lt_node ns a b h.form k.form h.stands k.stands)

-- ---- Sums of numbers

pub number_fits : (ns : List Node) (x : Rational) → IsFitting ns (Node.Const (Fin x))
number_fits ns x = fits ns (Node.Const (Fin x)) (Tree.formula (Form.number (finite x))) (const_node ns (Fin x))

pub sum_folded : (x y z : Rational) (f g : Form) → numbers.fits x ≡ true → numbers.fits y ≡ true → z ≡ x +ʳ y → FoldsTo f (Form.number (finite x)) → FoldsTo g (Form.number (finite y)) → FoldsTo (Form.sum f g) (Form.number (finite z))
sum_folded x y z f g h k m e d = subst (λ z. FoldsTo (Form.sum f g) (Form.number (finite z))) (sym m) (FoldsTo.numbers f g x y e d h k)

-- ---- The forms of the program

pub scale_is : (ns : List Node) (f x : P.Form) (w : Rational) (a : Box P.Form Global) (i : ℕ) → f ≡ P.TheVariants.Scale w a → x ≡ a.value → HasFolded ns i (form_of x) → IsFoldedNode ns (Node.Scale w i) (form_of f)
scale_is ns f x w a i e d h = subst (IsFoldedNode ns (Node.Scale w i)) (ap (λ y. Form.scale w (form_of y)) d ∙ sym (scale_form w a) ∙ sym (ap form_of e)) (scale_for ns w i (form_of x) h)

pub iverson_is : (ns : List Node) (f : P.Form) (x : C.Cond) (g : Box C.Cond Global) (i : ℕ) → f ≡ P.TheVariants.Iverson g → x ≡ g.value → HasFoldedTest ns i (cond_of x) → IsFoldedNode ns (Node.Iverson i) (form_of f)
iverson_is ns f x g i e d h = subst (IsFoldedNode ns (Node.Iverson i)) (ap (λ y. Form.iverson (cond_of y)) d ∙ sym (iverson_form g) ∙ sym (ap form_of e)) (iverson_for ns i (cond_of x) h)

pub select_is : (ns : List Node) (f : P.Form) (t : C.Cond) (x y : P.Form) (g : Box C.Cond Global) (a b : Box P.Form Global) (i j k : ℕ) → f ≡ P.TheVariants.Select g a b → t ≡ g.value → x ≡ a.value → y ≡ b.value → HasFoldedTest ns i (cond_of t) → HasFolded ns j (form_of x) → HasFolded ns k (form_of y) → IsFoldedNode ns (Node.Select i j k) (form_of f)
select_is ns f t x y g a b i j k e d c m h n o = subst (IsFoldedNode ns (Node.Select i j k)) (ap (λ z. Form.select (cond_of z) (form_of x) (form_of y)) d ∙ ap₂ (λ u v. Form.select (cond_of g.value) (form_of u) (form_of v)) c m ∙ sym (select_form g a b) ∙ sym (ap form_of e)) (select_for ns i j k (cond_of t) (form_of x) (form_of y) h n o)

pub number_is : (f : P.Form) (v : Ext) (x : Rational) → f ≡ P.TheVariants.Const v → v ≡ Fin x → FoldsTo (form_of f) (Form.number (finite x))
number_is f v x e d = subst (λ h. FoldsTo h (Form.number (finite x))) (sym (ap form_of (e ∙ ap P.TheVariants.Const d) ∙ number_form (Fin x))) (FoldsTo.same (Form.number (finite x)))

pub le_is : (old new : List Node) (g : C.Cond) (x y : P.Form) (a b : Box P.Form Global) (i j k : ℕ) → g ≡ C.TheVariants.Le a b → x ≡ a.value → y ≡ b.value → HasFolded old i (form_of x) → HasFolded old j (form_of y) → ((t : Tree) → assembled (tree_at old) (Node.Le i j) ≡ Some t → Stands new k t) → HasFoldedTest new k (cond_of g)
le_is old new g x y a b i j k e d c h m n = subst (HasFoldedTest new k) (ap₂ (λ u v. Cond.le (form_of u) (form_of v)) d c ∙ sym (le_cond a b) ∙ sym (ap cond_of e)) (le_has old new i j k (form_of x) (form_of y) h m n)

pub lt_is : (old new : List Node) (g : C.Cond) (x y : P.Form) (a b : Box P.Form Global) (i j k : ℕ) → g ≡ C.TheVariants.Lt a b → x ≡ a.value → y ≡ b.value → HasFolded old i (form_of x) → HasFolded old j (form_of y) → ((t : Tree) → assembled (tree_at old) (Node.Lt i j) ≡ Some t → Stands new k t) → HasFoldedTest new k (cond_of g)
lt_is old new g x y a b i j k e d c h m n = subst (HasFoldedTest new k) (ap₂ (λ u v. Cond.lt (form_of u) (form_of v)) d c ∙ sym (lt_cond a b) ∙ sym (ap cond_of e)) (lt_has old new i j k (form_of x) (form_of y) h m n)
