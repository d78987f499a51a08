-- The plain tree of each kind of node is the plain node of the plain trees of its subtrees.
use Rattle.std.proofs.Common.{◌≡◌, ℕ, Bool, sym, ap, ◌∙◌, refl}
use Rattle.std.specs.declared.boxed.Box.{Box}
use Rattle.std.specs.declared.alloc.Global.{Global}
use Rattle.heyvl_num.specs.Rational.{Rational}
use Rattle.heyvl_num.specs.ExtendedNumbers.{value_of}
use Rattle.heyvl_num.specs.declared.extended_numbers.Ext.{Ext}
use Rattle.heyvl_places.specs.declared.spans.Span.{Span}
use Rattle.heylo_formula.specs.declared.types.Ty.{Ty}
use Rattle.heylo_formula.specs.declared.forms.Form as F
use Rattle.heylo_formula.specs.declared.forms.Cond as C
use Rattle.heylo_formula.specs.declared.forms.Cond.TheOpen.{Form-F, Cond-F}
use Rattle.heylo_formula.specs.declared.forms.Cond.TheFolds.{fold-roll-Form, fold-roll-Cond}
use Rattle.heylo_formula.specs.Formula.{Form, Cond}
use Rattle.heylo_formula.specs.PlainTrees.{form_of, cond_of, form_layer, cond_layer}

pub number_form : (v : Ext) → form_of (F.Const v) ≡ Form.number (value_of v)
number_form v = ap form_of (sym (F.TheVariants.rolls-Const v)) ∙ fold-roll-Form Cond Form cond_layer form_layer (Form-F.«Form::Const» v) ∙ refl

pub variable_form : (x : ℕ) → form_of (F.Var x) ≡ Form.variable x
variable_form x = ap form_of (sym (F.TheVariants.rolls-Var x)) ∙ fold-roll-Form Cond Form cond_layer form_layer (Form-F.«Form::Var» x) ∙ refl

pub sum_form : (a : Box F.Form Global) (b : Box F.Form Global) → form_of (F.Sum a b) ≡ Form.sum (form_of a.value) (form_of b.value)
sum_form a b = ap form_of (sym (F.TheVariants.rolls-Sum a b)) ∙ fold-roll-Form Cond Form cond_layer form_layer (Form-F.Sum a b) ∙ refl

pub difference_form : (a : Box F.Form Global) (b : Box F.Form Global) → form_of (F.Diff a b) ≡ Form.difference (form_of a.value) (form_of b.value)
difference_form a b = ap form_of (sym (F.TheVariants.rolls-Diff a b)) ∙ fold-roll-Form Cond Form cond_layer form_layer (Form-F.Diff a b) ∙ refl

pub cut_form : (a : Box F.Form Global) (b : Box F.Form Global) → form_of (F.Cut a b) ≡ Form.cut (form_of a.value) (form_of b.value)
cut_form a b = ap form_of (sym (F.TheVariants.rolls-Cut a b)) ∙ fold-roll-Form Cond Form cond_layer form_layer (Form-F.Cut a b) ∙ refl

pub scale_form : (w : Rational) (a : Box F.Form Global) → form_of (F.Scale w a) ≡ Form.scale w (form_of a.value)
scale_form w a = ap form_of (sym (F.TheVariants.rolls-Scale w a)) ∙ fold-roll-Form Cond Form cond_layer form_layer (Form-F.Scale w a) ∙ refl

pub product_form : (a : Box F.Form Global) (b : Box F.Form Global) (span : Span) → form_of (F.Product a b span) ≡ Form.product (form_of a.value) (form_of b.value) span
product_form a b span = ap form_of (sym (F.TheVariants.rolls-Product a b span)) ∙ fold-roll-Form Cond Form cond_layer form_layer (Form-F.Product a b span) ∙ refl

pub min_form : (a : Box F.Form Global) (b : Box F.Form Global) → form_of (F.Min a b) ≡ Form.min (form_of a.value) (form_of b.value)
min_form a b = ap form_of (sym (F.TheVariants.rolls-Min a b)) ∙ fold-roll-Form Cond Form cond_layer form_layer (Form-F.Min a b) ∙ refl

pub max_form : (a : Box F.Form Global) (b : Box F.Form Global) → form_of (F.Max a b) ≡ Form.max (form_of a.value) (form_of b.value)
max_form a b = ap form_of (sym (F.TheVariants.rolls-Max a b)) ∙ fold-roll-Form Cond Form cond_layer form_layer (Form-F.Max a b) ∙ refl

pub imply_form : (a : Box F.Form Global) (b : Box F.Form Global) → form_of (F.Imply a b) ≡ Form.imply (form_of a.value) (form_of b.value)
imply_form a b = ap form_of (sym (F.TheVariants.rolls-Imply a b)) ∙ fold-roll-Form Cond Form cond_layer form_layer (Form-F.Imply a b) ∙ refl

pub co_imply_form : (a : Box F.Form Global) (b : Box F.Form Global) → form_of (F.CoImply a b) ≡ Form.co_imply (form_of a.value) (form_of b.value)
co_imply_form a b = ap form_of (sym (F.TheVariants.rolls-CoImply a b)) ∙ fold-roll-Form Cond Form cond_layer form_layer (Form-F.CoImply a b) ∙ refl

pub validate_form : (a : Box F.Form Global) → form_of (F.Validate a) ≡ Form.validate (form_of a.value)
validate_form a = ap form_of (sym (F.TheVariants.rolls-Validate a)) ∙ fold-roll-Form Cond Form cond_layer form_layer (Form-F.Validate a) ∙ refl

pub co_validate_form : (a : Box F.Form Global) → form_of (F.CoValidate a) ≡ Form.co_validate (form_of a.value)
co_validate_form a = ap form_of (sym (F.TheVariants.rolls-CoValidate a)) ∙ fold-roll-Form Cond Form cond_layer form_layer (Form-F.CoValidate a) ∙ refl

pub embed_form : (g : Box C.Cond Global) → form_of (F.Embed g) ≡ Form.embed (cond_of g.value)
embed_form g = ap form_of (sym (F.TheVariants.rolls-Embed g)) ∙ fold-roll-Form Cond Form cond_layer form_layer (Form-F.Embed g) ∙ refl

pub iverson_form : (g : Box C.Cond Global) → form_of (F.Iverson g) ≡ Form.iverson (cond_of g.value)
iverson_form g = ap form_of (sym (F.TheVariants.rolls-Iverson g)) ∙ fold-roll-Form Cond Form cond_layer form_layer (Form-F.Iverson g) ∙ refl

pub select_form : (g : Box C.Cond Global) (a : Box F.Form Global) (b : Box F.Form Global) → form_of (F.Select g a b) ≡ Form.select (cond_of g.value) (form_of a.value) (form_of b.value)
select_form g a b = ap form_of (sym (F.TheVariants.rolls-Select g a b)) ∙ fold-roll-Form Cond Form cond_layer form_layer (Form-F.Select g a b) ∙ refl

pub bind_form : (up : Bool) (y : ℕ) (name : ℕ) (ty : Ty) (a : Box F.Form Global) → form_of (F.Bind up y name ty a) ≡ Form.bind up y name ty (form_of a.value)
bind_form up y name ty a = ap form_of (sym (F.TheVariants.rolls-Bind up y name ty a)) ∙ fold-roll-Form Cond Form cond_layer form_layer (Form-F.Bind up y name ty a) ∙ refl

pub constant_cond : (b : Bool) → cond_of (C.Const b) ≡ Cond.constant b
constant_cond b = ap cond_of (sym (C.TheVariants.rolls-Const b)) ∙ fold-roll-Cond Cond Form cond_layer form_layer (Cond-F.«Cond::Const» b) ∙ refl

pub flag_cond : (x : ℕ) → cond_of (C.Var x) ≡ Cond.flag x
flag_cond x = ap cond_of (sym (C.TheVariants.rolls-Var x)) ∙ fold-roll-Cond Cond Form cond_layer form_layer (Cond-F.«Cond::Var» x) ∙ refl

pub not_cond : (g : Box C.Cond Global) → cond_of (C.Not g) ≡ Cond.not (cond_of g.value)
not_cond g = ap cond_of (sym (C.TheVariants.rolls-Not g)) ∙ fold-roll-Cond Cond Form cond_layer form_layer (Cond-F.Not g) ∙ refl

pub and_cond : (g : Box C.Cond Global) (h : Box C.Cond Global) → cond_of (C.And g h) ≡ Cond.and (cond_of g.value) (cond_of h.value)
and_cond g h = ap cond_of (sym (C.TheVariants.rolls-And g h)) ∙ fold-roll-Cond Cond Form cond_layer form_layer (Cond-F.And g h) ∙ refl

pub or_cond : (g : Box C.Cond Global) (h : Box C.Cond Global) → cond_of (C.Or g h) ≡ Cond.or (cond_of g.value) (cond_of h.value)
or_cond g h = ap cond_of (sym (C.TheVariants.rolls-Or g h)) ∙ fold-roll-Cond Cond Form cond_layer form_layer (Cond-F.Or g h) ∙ refl

pub same_cond : (g : Box C.Cond Global) (h : Box C.Cond Global) → cond_of (C.Same g h) ≡ Cond.same (cond_of g.value) (cond_of h.value)
same_cond g h = ap cond_of (sym (C.TheVariants.rolls-Same g h)) ∙ fold-roll-Cond Cond Form cond_layer form_layer (Cond-F.Same g h) ∙ refl

pub le_cond : (a : Box F.Form Global) (b : Box F.Form Global) → cond_of (C.Le a b) ≡ Cond.le (form_of a.value) (form_of b.value)
le_cond a b = ap cond_of (sym (C.TheVariants.rolls-Le a b)) ∙ fold-roll-Cond Cond Form cond_layer form_layer (Cond-F.Le a b) ∙ refl

pub lt_cond : (a : Box F.Form Global) (b : Box F.Form Global) → cond_of (C.Lt a b) ≡ Cond.lt (form_of a.value) (form_of b.value)
lt_cond a b = ap cond_of (sym (C.TheVariants.rolls-Lt a b)) ∙ fold-roll-Cond Cond Form cond_layer form_layer (Cond-F.Lt a b) ∙ refl

pub equal_cond : (a : Box F.Form Global) (b : Box F.Form Global) → cond_of (C.EqNum a b) ≡ Cond.equal (form_of a.value) (form_of b.value)
equal_cond a b = ap cond_of (sym (C.TheVariants.rolls-EqNum a b)) ∙ fold-roll-Cond Cond Form cond_layer form_layer (Cond-F.EqNum a b) ∙ refl

pub ite_cond : (g : Box C.Cond Global) (h : Box C.Cond Global) (k : Box C.Cond Global) → cond_of (C.Ite g h k) ≡ Cond.ite (cond_of g.value) (cond_of h.value) (cond_of k.value)
ite_cond g h k = ap cond_of (sym (C.TheVariants.rolls-Ite g h k)) ∙ fold-roll-Cond Cond Form cond_layer form_layer (Cond-F.Ite g h k) ∙ refl
