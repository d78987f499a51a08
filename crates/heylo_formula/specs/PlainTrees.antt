-- The plain trees of the forms, conditions and terms of the code.
use Rattle.heyvl_num.specs.ExtendedNumbers.{value_of}
use Rattle.heylo_formula.specs.declared.forms.Form as F
use Rattle.heylo_formula.specs.declared.forms.Cond as C
use Rattle.heylo_formula.specs.declared.forms.Cond.TheOpen.{Form-F, Cond-F}
use Rattle.heylo_formula.specs.declared.forms.Cond.TheFolds.{fold-Form, fold-Cond}
use Rattle.heylo_formula.specs.declared.terms.Term as T
use Rattle.heylo_formula.specs.Formula.{Form, Cond, Term}

-- The plain tree of a form whose subtrees are plain trees already.
abbrev pub form_layer : Form-F Cond Form → Form
form_layer (Form-F.«Form::Const» v) = Form.number (value_of v)
form_layer (Form-F.«Form::Var» x) = Form.variable x
form_layer (Form-F.Sum a b) = Form.sum a.value b.value
form_layer (Form-F.Diff a b) = Form.difference a.value b.value
form_layer (Form-F.Cut a b) = Form.cut a.value b.value
form_layer (Form-F.Scale w a) = Form.scale w a.value
form_layer (Form-F.Product a b span) = Form.product a.value b.value span
form_layer (Form-F.Min a b) = Form.min a.value b.value
form_layer (Form-F.Max a b) = Form.max a.value b.value
form_layer (Form-F.Imply a b) = Form.imply a.value b.value
form_layer (Form-F.CoImply a b) = Form.co_imply a.value b.value
form_layer (Form-F.Validate a) = Form.validate a.value
form_layer (Form-F.CoValidate a) = Form.co_validate a.value
form_layer (Form-F.Embed g) = Form.embed g.value
form_layer (Form-F.Iverson g) = Form.iverson g.value
form_layer (Form-F.Select g a b) = Form.select g.value a.value b.value
form_layer (Form-F.Bind up y name ty a) = Form.bind up y name ty a.value

-- The plain tree of a condition whose subtrees are plain trees already.
abbrev pub cond_layer : Cond-F Cond Form → Cond
cond_layer (Cond-F.«Cond::Const» b) = Cond.constant b
cond_layer (Cond-F.«Cond::Var» x) = Cond.flag x
cond_layer (Cond-F.Not g) = Cond.not g.value
cond_layer (Cond-F.And g h) = Cond.and g.value h.value
cond_layer (Cond-F.Or g h) = Cond.or g.value h.value
cond_layer (Cond-F.Same g h) = Cond.same g.value h.value
cond_layer (Cond-F.Le a b) = Cond.le a.value b.value
cond_layer (Cond-F.Lt a b) = Cond.lt a.value b.value
cond_layer (Cond-F.EqNum a b) = Cond.equal a.value b.value
cond_layer (Cond-F.Ite g h k) = Cond.ite g.value h.value k.value

-- The plain tree of a form.
abbrev pub form_of : F.Form → Form
form_of = fold-Form Cond Form cond_layer form_layer

-- The plain tree of a condition.
abbrev pub cond_of : C.Cond → Cond
cond_of = fold-Cond Cond Form cond_layer form_layer

-- The plain tree of a term.
abbrev pub term_of : T.Term → Term
term_of (T.TheVariants.Truth g) = Term.truth (cond_of g)
term_of (T.TheVariants.Num f) = Term.number (form_of f)
