-- The result of the code for each kind of node is that of the substitution.
use Rattle.std.proofs.Common.{◌≡◌, ℕ, ◌+◌, Bool, true, false, cond, ◌==◌, ◌&&◌, sym, ap, ap₂, ◌∙◌, arith}
use Rattle.std.specs.Prelude.{Result, Ok, Err, IfOk}
use Rattle.std.specs.declared.alloc.AllocError.{AllocError}
use Rattle.std.specs.declared.boxed.Box.{Box}
use Rattle.std.specs.declared.alloc.Global.{Global}
use Rattle.heyvl_num.specs.Rational.{Rational}
use Rattle.heyvl_num.specs.declared.extended_numbers.Ext.{Ext}
use Rattle.heyvl_places.specs.declared.spans.Span.{Span}
use Rattle.heylo_formula.specs.declared.types.Ty.{Ty}
use Rattle.heylo_formula.specs.declared.forms.Form as F
use Rattle.heylo_formula.specs.declared.forms.Cond as C
use Rattle.heylo_formula.specs.Formula.{Form, Cond, Term}
use Rattle.heylo_formula.specs.Variables.{is_free, occurs_in_term}
use Rattle.heylo_formula.specs.Sizes.{nodes}
use Rattle.heylo_formula.specs.PlainTrees.{form_of, cond_of}
use Rattle.heylo_formula.specs.Substitution.{renamed, fresh, as_form, as_cond, subst, subst_in}
use Rattle.heylo_formula.proofs.RenamedValues.{same_nodes}
use Rattle.heylo_formula.proofs.Mirrors.{number_form, variable_form, sum_form, difference_form, cut_form, scale_form, product_form, min_form, max_form, imply_form, co_imply_form, validate_form, co_validate_form, embed_form, iverson_form, select_form, bind_form, constant_cond, flag_cond, not_cond, and_cond, or_cond, same_cond, le_cond, lt_cond, equal_cond, ite_cond}
use Rattle.heylo_formula.proofs.SubstitutionSteps.{subst_number, subst_variable, subst_sum, subst_difference, subst_cut, subst_scale, subst_product, subst_min, subst_max, subst_imply, subst_co_imply, subst_validate, subst_co_validate, subst_embed, subst_iverson, subst_select, subst_bind, subst_in_constant, subst_in_flag, subst_in_not, subst_in_and, subst_in_or, subst_in_same, subst_in_le, subst_in_lt, subst_in_equal, subst_in_ite}

pub number_put : (x : ℕ) (t : Term) (f : F.Form) (v : Ext) → f ≡ F.Const v → form_of (F.Const v) ≡ subst x t (form_of f)
number_put x t f v e = number_form v ∙ sym (subst_number x t _) ∙ ap (subst x t) (sym (number_form v)) ∙ ap (λ g. subst x t (form_of g)) (sym e)

pub variable_put : (x : ℕ) (t : Term) (f : F.Form) (w : ℕ) → f ≡ F.Var w → (r : Result F.Form AllocError) → IfOk r (λ z. form_of z ≡ cond (x == w) (as_form t) (Form.variable w)) → IfOk r (λ z. form_of z ≡ subst x t (form_of f))
variable_put x t f w e (Ok z) h = h ∙ sym (subst_variable x t w) ∙ ap (subst x t) (sym (variable_form w)) ∙ ap (λ g. subst x t (form_of g)) (sym e)
variable_put x t f w e (Err z) h = h

pub sum_put : (x : ℕ) (t : Term) (f : F.Form) (a : Box F.Form Global) (b : Box F.Form Global) (l0 : Box F.Form Global) (l1 : Box F.Form Global) (a0 : F.Form) (a1 : F.Form) → f ≡ F.Sum a b → a0 ≡ a.value → a1 ≡ b.value → form_of l0.value ≡ subst x t (form_of a0) → form_of l1.value ≡ subst x t (form_of a1) → form_of (F.Sum l0 l1) ≡ subst x t (form_of f)
sum_put x t f a b l0 l1 a0 a1 e q0 q1 h0 h1 = sum_form l0 l1 ∙ ap₂ (λ p q. Form.sum p q) (h0 ∙ ap (λ z. subst x t (form_of z)) q0) (h1 ∙ ap (λ z. subst x t (form_of z)) q1) ∙ sym (subst_sum x t (form_of a.value) (form_of b.value)) ∙ ap (subst x t) (sym (sum_form a b)) ∙ ap (λ g. subst x t (form_of g)) (sym e)

pub difference_put : (x : ℕ) (t : Term) (f : F.Form) (a : Box F.Form Global) (b : Box F.Form Global) (l0 : Box F.Form Global) (l1 : Box F.Form Global) (a0 : F.Form) (a1 : F.Form) → f ≡ F.Diff a b → a0 ≡ a.value → a1 ≡ b.value → form_of l0.value ≡ subst x t (form_of a0) → form_of l1.value ≡ subst x t (form_of a1) → form_of (F.Diff l0 l1) ≡ subst x t (form_of f)
difference_put x t f a b l0 l1 a0 a1 e q0 q1 h0 h1 = difference_form l0 l1 ∙ ap₂ (λ p q. Form.difference p q) (h0 ∙ ap (λ z. subst x t (form_of z)) q0) (h1 ∙ ap (λ z. subst x t (form_of z)) q1) ∙ sym (subst_difference x t (form_of a.value) (form_of b.value)) ∙ ap (subst x t) (sym (difference_form a b)) ∙ ap (λ g. subst x t (form_of g)) (sym e)

pub cut_put : (x : ℕ) (t : Term) (f : F.Form) (a : Box F.Form Global) (b : Box F.Form Global) (l0 : Box F.Form Global) (l1 : Box F.Form Global) (a0 : F.Form) (a1 : F.Form) → f ≡ F.Cut a b → a0 ≡ a.value → a1 ≡ b.value → form_of l0.value ≡ subst x t (form_of a0) → form_of l1.value ≡ subst x t (form_of a1) → form_of (F.Cut l0 l1) ≡ subst x t (form_of f)
cut_put x t f a b l0 l1 a0 a1 e q0 q1 h0 h1 = cut_form l0 l1 ∙ ap₂ (λ p q. Form.cut p q) (h0 ∙ ap (λ z. subst x t (form_of z)) q0) (h1 ∙ ap (λ z. subst x t (form_of z)) q1) ∙ sym (subst_cut x t (form_of a.value) (form_of b.value)) ∙ ap (subst x t) (sym (cut_form a b)) ∙ ap (λ g. subst x t (form_of g)) (sym e)

pub scale_put : (x : ℕ) (t : Term) (f : F.Form) (w : Rational) (a : Box F.Form Global) (l0 : Box F.Form Global) (a0 : F.Form) → f ≡ F.Scale w a → a0 ≡ a.value → form_of l0.value ≡ subst x t (form_of a0) → form_of (F.Scale w l0) ≡ subst x t (form_of f)
scale_put x t f w a l0 a0 e q0 h0 = scale_form w l0 ∙ ap (λ p. Form.scale w p) (h0 ∙ ap (λ z. subst x t (form_of z)) q0) ∙ sym (subst_scale x t w (form_of a.value)) ∙ ap (subst x t) (sym (scale_form w a)) ∙ ap (λ g. subst x t (form_of g)) (sym e)

pub product_put : (x : ℕ) (t : Term) (f : F.Form) (a : Box F.Form Global) (b : Box F.Form Global) (span : Span) (l0 : Box F.Form Global) (l1 : Box F.Form Global) (a0 : F.Form) (a1 : F.Form) → f ≡ F.Product a b span → a0 ≡ a.value → a1 ≡ b.value → form_of l0.value ≡ subst x t (form_of a0) → form_of l1.value ≡ subst x t (form_of a1) → form_of (F.Product l0 l1 span) ≡ subst x t (form_of f)
product_put x t f a b span l0 l1 a0 a1 e q0 q1 h0 h1 = product_form l0 l1 span ∙ ap₂ (λ p q. Form.product p q span) (h0 ∙ ap (λ z. subst x t (form_of z)) q0) (h1 ∙ ap (λ z. subst x t (form_of z)) q1) ∙ sym (subst_product x t (form_of a.value) (form_of b.value) span) ∙ ap (subst x t) (sym (product_form a b span)) ∙ ap (λ g. subst x t (form_of g)) (sym e)

pub min_put : (x : ℕ) (t : Term) (f : F.Form) (a : Box F.Form Global) (b : Box F.Form Global) (l0 : Box F.Form Global) (l1 : Box F.Form Global) (a0 : F.Form) (a1 : F.Form) → f ≡ F.Min a b → a0 ≡ a.value → a1 ≡ b.value → form_of l0.value ≡ subst x t (form_of a0) → form_of l1.value ≡ subst x t (form_of a1) → form_of (F.Min l0 l1) ≡ subst x t (form_of f)
min_put x t f a b l0 l1 a0 a1 e q0 q1 h0 h1 = min_form l0 l1 ∙ ap₂ (λ p q. Form.min p q) (h0 ∙ ap (λ z. subst x t (form_of z)) q0) (h1 ∙ ap (λ z. subst x t (form_of z)) q1) ∙ sym (subst_min x t (form_of a.value) (form_of b.value)) ∙ ap (subst x t) (sym (min_form a b)) ∙ ap (λ g. subst x t (form_of g)) (sym e)

pub max_put : (x : ℕ) (t : Term) (f : F.Form) (a : Box F.Form Global) (b : Box F.Form Global) (l0 : Box F.Form Global) (l1 : Box F.Form Global) (a0 : F.Form) (a1 : F.Form) → f ≡ F.Max a b → a0 ≡ a.value → a1 ≡ b.value → form_of l0.value ≡ subst x t (form_of a0) → form_of l1.value ≡ subst x t (form_of a1) → form_of (F.Max l0 l1) ≡ subst x t (form_of f)
max_put x t f a b l0 l1 a0 a1 e q0 q1 h0 h1 = max_form l0 l1 ∙ ap₂ (λ p q. Form.max p q) (h0 ∙ ap (λ z. subst x t (form_of z)) q0) (h1 ∙ ap (λ z. subst x t (form_of z)) q1) ∙ sym (subst_max x t (form_of a.value) (form_of b.value)) ∙ ap (subst x t) (sym (max_form a b)) ∙ ap (λ g. subst x t (form_of g)) (sym e)

pub imply_put : (x : ℕ) (t : Term) (f : F.Form) (a : Box F.Form Global) (b : Box F.Form Global) (l0 : Box F.Form Global) (l1 : Box F.Form Global) (a0 : F.Form) (a1 : F.Form) → f ≡ F.Imply a b → a0 ≡ a.value → a1 ≡ b.value → form_of l0.value ≡ subst x t (form_of a0) → form_of l1.value ≡ subst x t (form_of a1) → form_of (F.Imply l0 l1) ≡ subst x t (form_of f)
imply_put x t f a b l0 l1 a0 a1 e q0 q1 h0 h1 = imply_form l0 l1 ∙ ap₂ (λ p q. Form.imply p q) (h0 ∙ ap (λ z. subst x t (form_of z)) q0) (h1 ∙ ap (λ z. subst x t (form_of z)) q1) ∙ sym (subst_imply x t (form_of a.value) (form_of b.value)) ∙ ap (subst x t) (sym (imply_form a b)) ∙ ap (λ g. subst x t (form_of g)) (sym e)

pub co_imply_put : (x : ℕ) (t : Term) (f : F.Form) (a : Box F.Form Global) (b : Box F.Form Global) (l0 : Box F.Form Global) (l1 : Box F.Form Global) (a0 : F.Form) (a1 : F.Form) → f ≡ F.CoImply a b → a0 ≡ a.value → a1 ≡ b.value → form_of l0.value ≡ subst x t (form_of a0) → form_of l1.value ≡ subst x t (form_of a1) → form_of (F.CoImply l0 l1) ≡ subst x t (form_of f)
co_imply_put x t f a b l0 l1 a0 a1 e q0 q1 h0 h1 = co_imply_form l0 l1 ∙ ap₂ (λ p q. Form.co_imply p q) (h0 ∙ ap (λ z. subst x t (form_of z)) q0) (h1 ∙ ap (λ z. subst x t (form_of z)) q1) ∙ sym (subst_co_imply x t (form_of a.value) (form_of b.value)) ∙ ap (subst x t) (sym (co_imply_form a b)) ∙ ap (λ g. subst x t (form_of g)) (sym e)

pub validate_put : (x : ℕ) (t : Term) (f : F.Form) (a : Box F.Form Global) (l0 : Box F.Form Global) (a0 : F.Form) → f ≡ F.Validate a → a0 ≡ a.value → form_of l0.value ≡ subst x t (form_of a0) → form_of (F.Validate l0) ≡ subst x t (form_of f)
validate_put x t f a l0 a0 e q0 h0 = validate_form l0 ∙ ap (λ p. Form.validate p) (h0 ∙ ap (λ z. subst x t (form_of z)) q0) ∙ sym (subst_validate x t (form_of a.value)) ∙ ap (subst x t) (sym (validate_form a)) ∙ ap (λ g. subst x t (form_of g)) (sym e)

pub co_validate_put : (x : ℕ) (t : Term) (f : F.Form) (a : Box F.Form Global) (l0 : Box F.Form Global) (a0 : F.Form) → f ≡ F.CoValidate a → a0 ≡ a.value → form_of l0.value ≡ subst x t (form_of a0) → form_of (F.CoValidate l0) ≡ subst x t (form_of f)
co_validate_put x t f a l0 a0 e q0 h0 = co_validate_form l0 ∙ ap (λ p. Form.co_validate p) (h0 ∙ ap (λ z. subst x t (form_of z)) q0) ∙ sym (subst_co_validate x t (form_of a.value)) ∙ ap (subst x t) (sym (co_validate_form a)) ∙ ap (λ g. subst x t (form_of g)) (sym e)

pub embed_put : (x : ℕ) (t : Term) (f : F.Form) (g : Box C.Cond Global) (l0 : Box C.Cond Global) (a0 : C.Cond) → f ≡ F.Embed g → a0 ≡ g.value → cond_of l0.value ≡ subst_in x t (cond_of a0) → form_of (F.Embed l0) ≡ subst x t (form_of f)
embed_put x t f g l0 a0 e q0 h0 = embed_form l0 ∙ ap (λ p. Form.embed p) (h0 ∙ ap (λ z. subst_in x t (cond_of z)) q0) ∙ sym (subst_embed x t (cond_of g.value)) ∙ ap (subst x t) (sym (embed_form g)) ∙ ap (λ g. subst x t (form_of g)) (sym e)

pub iverson_put : (x : ℕ) (t : Term) (f : F.Form) (g : Box C.Cond Global) (l0 : Box C.Cond Global) (a0 : C.Cond) → f ≡ F.Iverson g → a0 ≡ g.value → cond_of l0.value ≡ subst_in x t (cond_of a0) → form_of (F.Iverson l0) ≡ subst x t (form_of f)
iverson_put x t f g l0 a0 e q0 h0 = iverson_form l0 ∙ ap (λ p. Form.iverson p) (h0 ∙ ap (λ z. subst_in x t (cond_of z)) q0) ∙ sym (subst_iverson x t (cond_of g.value)) ∙ ap (subst x t) (sym (iverson_form g)) ∙ ap (λ g. subst x t (form_of g)) (sym e)

pub select_put : (x : ℕ) (t : Term) (f : F.Form) (g : Box C.Cond Global) (a : Box F.Form Global) (b : Box F.Form Global) (l0 : Box C.Cond Global) (l1 : Box F.Form Global) (l2 : Box F.Form Global) (a0 : C.Cond) (a1 : F.Form) (a2 : F.Form) → f ≡ F.Select g a b → a0 ≡ g.value → a1 ≡ a.value → a2 ≡ b.value → cond_of l0.value ≡ subst_in x t (cond_of a0) → form_of l1.value ≡ subst x t (form_of a1) → form_of l2.value ≡ subst x t (form_of a2) → form_of (F.Select l0 l1 l2) ≡ subst x t (form_of f)
select_put x t f g a b l0 l1 l2 a0 a1 a2 e q0 q1 q2 h0 h1 h2 = select_form l0 l1 l2 ∙ ap₂ (λ p (q : Form × Form). Form.select p q.0 q.1) (h0 ∙ ap (λ z. subst_in x t (cond_of z)) q0) (ap₂ (λ p q. (p, q)) (h1 ∙ ap (λ z. subst x t (form_of z)) q1) (h2 ∙ ap (λ z. subst x t (form_of z)) q2)) ∙ sym (subst_select x t (cond_of g.value) (form_of a.value) (form_of b.value)) ∙ ap (subst x t) (sym (select_form g a b)) ∙ ap (λ g. subst x t (form_of g)) (sym e)

pub constant_put : (x : ℕ) (t : Term) (f : C.Cond) (b : Bool) → f ≡ C.Const b → cond_of (C.Const b) ≡ subst_in x t (cond_of f)
constant_put x t f b e = constant_cond b ∙ sym (subst_in_constant x t _) ∙ ap (subst_in x t) (sym (constant_cond b)) ∙ ap (λ g. subst_in x t (cond_of g)) (sym e)

pub flag_put : (x : ℕ) (t : Term) (f : C.Cond) (w : ℕ) → f ≡ C.Var w → (r : Result C.Cond AllocError) → IfOk r (λ z. cond_of z ≡ cond (x == w) (as_cond t) (Cond.flag w)) → IfOk r (λ z. cond_of z ≡ subst_in x t (cond_of f))
flag_put x t f w e (Ok z) h = h ∙ sym (subst_in_flag x t w) ∙ ap (subst_in x t) (sym (flag_cond w)) ∙ ap (λ g. subst_in x t (cond_of g)) (sym e)
flag_put x t f w e (Err z) h = h

pub not_in_put : (x : ℕ) (t : Term) (f : C.Cond) (g : Box C.Cond Global) (l0 : Box C.Cond Global) (a0 : C.Cond) → f ≡ C.Not g → a0 ≡ g.value → cond_of l0.value ≡ subst_in x t (cond_of a0) → cond_of (C.Not l0) ≡ subst_in x t (cond_of f)
not_in_put x t f g l0 a0 e q0 h0 = not_cond l0 ∙ ap (λ p. Cond.not p) (h0 ∙ ap (λ z. subst_in x t (cond_of z)) q0) ∙ sym (subst_in_not x t (cond_of g.value)) ∙ ap (subst_in x t) (sym (not_cond g)) ∙ ap (λ g. subst_in x t (cond_of g)) (sym e)

pub and_in_put : (x : ℕ) (t : Term) (f : C.Cond) (g : Box C.Cond Global) (h : Box C.Cond Global) (l0 : Box C.Cond Global) (l1 : Box C.Cond Global) (a0 : C.Cond) (a1 : C.Cond) → f ≡ C.And g h → a0 ≡ g.value → a1 ≡ h.value → cond_of l0.value ≡ subst_in x t (cond_of a0) → cond_of l1.value ≡ subst_in x t (cond_of a1) → cond_of (C.And l0 l1) ≡ subst_in x t (cond_of f)
and_in_put x t f g h l0 l1 a0 a1 e q0 q1 h0 h1 = and_cond l0 l1 ∙ ap₂ (λ p q. Cond.and p q) (h0 ∙ ap (λ z. subst_in x t (cond_of z)) q0) (h1 ∙ ap (λ z. subst_in x t (cond_of z)) q1) ∙ sym (subst_in_and x t (cond_of g.value) (cond_of h.value)) ∙ ap (subst_in x t) (sym (and_cond g h)) ∙ ap (λ g. subst_in x t (cond_of g)) (sym e)

pub or_in_put : (x : ℕ) (t : Term) (f : C.Cond) (g : Box C.Cond Global) (h : Box C.Cond Global) (l0 : Box C.Cond Global) (l1 : Box C.Cond Global) (a0 : C.Cond) (a1 : C.Cond) → f ≡ C.Or g h → a0 ≡ g.value → a1 ≡ h.value → cond_of l0.value ≡ subst_in x t (cond_of a0) → cond_of l1.value ≡ subst_in x t (cond_of a1) → cond_of (C.Or l0 l1) ≡ subst_in x t (cond_of f)
or_in_put x t f g h l0 l1 a0 a1 e q0 q1 h0 h1 = or_cond l0 l1 ∙ ap₂ (λ p q. Cond.or p q) (h0 ∙ ap (λ z. subst_in x t (cond_of z)) q0) (h1 ∙ ap (λ z. subst_in x t (cond_of z)) q1) ∙ sym (subst_in_or x t (cond_of g.value) (cond_of h.value)) ∙ ap (subst_in x t) (sym (or_cond g h)) ∙ ap (λ g. subst_in x t (cond_of g)) (sym e)

pub same_in_put : (x : ℕ) (t : Term) (f : C.Cond) (g : Box C.Cond Global) (h : Box C.Cond Global) (l0 : Box C.Cond Global) (l1 : Box C.Cond Global) (a0 : C.Cond) (a1 : C.Cond) → f ≡ C.Same g h → a0 ≡ g.value → a1 ≡ h.value → cond_of l0.value ≡ subst_in x t (cond_of a0) → cond_of l1.value ≡ subst_in x t (cond_of a1) → cond_of (C.Same l0 l1) ≡ subst_in x t (cond_of f)
same_in_put x t f g h l0 l1 a0 a1 e q0 q1 h0 h1 = same_cond l0 l1 ∙ ap₂ (λ p q. Cond.same p q) (h0 ∙ ap (λ z. subst_in x t (cond_of z)) q0) (h1 ∙ ap (λ z. subst_in x t (cond_of z)) q1) ∙ sym (subst_in_same x t (cond_of g.value) (cond_of h.value)) ∙ ap (subst_in x t) (sym (same_cond g h)) ∙ ap (λ g. subst_in x t (cond_of g)) (sym e)

pub le_in_put : (x : ℕ) (t : Term) (f : C.Cond) (a : Box F.Form Global) (b : Box F.Form Global) (l0 : Box F.Form Global) (l1 : Box F.Form Global) (a0 : F.Form) (a1 : F.Form) → f ≡ C.Le a b → a0 ≡ a.value → a1 ≡ b.value → form_of l0.value ≡ subst x t (form_of a0) → form_of l1.value ≡ subst x t (form_of a1) → cond_of (C.Le l0 l1) ≡ subst_in x t (cond_of f)
le_in_put x t f a b l0 l1 a0 a1 e q0 q1 h0 h1 = le_cond l0 l1 ∙ ap₂ (λ p q. Cond.le p q) (h0 ∙ ap (λ z. subst x t (form_of z)) q0) (h1 ∙ ap (λ z. subst x t (form_of z)) q1) ∙ sym (subst_in_le x t (form_of a.value) (form_of b.value)) ∙ ap (subst_in x t) (sym (le_cond a b)) ∙ ap (λ g. subst_in x t (cond_of g)) (sym e)

pub lt_in_put : (x : ℕ) (t : Term) (f : C.Cond) (a : Box F.Form Global) (b : Box F.Form Global) (l0 : Box F.Form Global) (l1 : Box F.Form Global) (a0 : F.Form) (a1 : F.Form) → f ≡ C.Lt a b → a0 ≡ a.value → a1 ≡ b.value → form_of l0.value ≡ subst x t (form_of a0) → form_of l1.value ≡ subst x t (form_of a1) → cond_of (C.Lt l0 l1) ≡ subst_in x t (cond_of f)
lt_in_put x t f a b l0 l1 a0 a1 e q0 q1 h0 h1 = lt_cond l0 l1 ∙ ap₂ (λ p q. Cond.lt p q) (h0 ∙ ap (λ z. subst x t (form_of z)) q0) (h1 ∙ ap (λ z. subst x t (form_of z)) q1) ∙ sym (subst_in_lt x t (form_of a.value) (form_of b.value)) ∙ ap (subst_in x t) (sym (lt_cond a b)) ∙ ap (λ g. subst_in x t (cond_of g)) (sym e)

pub equal_in_put : (x : ℕ) (t : Term) (f : C.Cond) (a : Box F.Form Global) (b : Box F.Form Global) (l0 : Box F.Form Global) (l1 : Box F.Form Global) (a0 : F.Form) (a1 : F.Form) → f ≡ C.EqNum a b → a0 ≡ a.value → a1 ≡ b.value → form_of l0.value ≡ subst x t (form_of a0) → form_of l1.value ≡ subst x t (form_of a1) → cond_of (C.EqNum l0 l1) ≡ subst_in x t (cond_of f)
equal_in_put x t f a b l0 l1 a0 a1 e q0 q1 h0 h1 = equal_cond l0 l1 ∙ ap₂ (λ p q. Cond.equal p q) (h0 ∙ ap (λ z. subst x t (form_of z)) q0) (h1 ∙ ap (λ z. subst x t (form_of z)) q1) ∙ sym (subst_in_equal x t (form_of a.value) (form_of b.value)) ∙ ap (subst_in x t) (sym (equal_cond a b)) ∙ ap (λ g. subst_in x t (cond_of g)) (sym e)

pub ite_in_put : (x : ℕ) (t : Term) (f : C.Cond) (g : Box C.Cond Global) (h : Box C.Cond Global) (k : Box C.Cond Global) (l0 : Box C.Cond Global) (l1 : Box C.Cond Global) (l2 : Box C.Cond Global) (a0 : C.Cond) (a1 : C.Cond) (a2 : C.Cond) → f ≡ C.Ite g h k → a0 ≡ g.value → a1 ≡ h.value → a2 ≡ k.value → cond_of l0.value ≡ subst_in x t (cond_of a0) → cond_of l1.value ≡ subst_in x t (cond_of a1) → cond_of l2.value ≡ subst_in x t (cond_of a2) → cond_of (C.Ite l0 l1 l2) ≡ subst_in x t (cond_of f)
ite_in_put x t f g h k l0 l1 l2 a0 a1 a2 e q0 q1 q2 h0 h1 h2 = ite_cond l0 l1 l2 ∙ ap₂ (λ p (q : Cond × Cond). Cond.ite p q.0 q.1) (h0 ∙ ap (λ z. subst_in x t (cond_of z)) q0) (ap₂ (λ p q. (p, q)) (h1 ∙ ap (λ z. subst_in x t (cond_of z)) q1) (h2 ∙ ap (λ z. subst_in x t (cond_of z)) q2)) ∙ sym (subst_in_ite x t (cond_of g.value) (cond_of h.value) (cond_of k.value)) ∙ ap (subst_in x t) (sym (ite_cond g h k)) ∙ ap (λ g. subst_in x t (cond_of g)) (sym e)

unequal : (x w : ℕ) → ¬ (x ≡ w) → (x == w) ≡ false
unequal x w h = grind arith

equal : (x w : ℕ) → x ≡ w → (x == w) ≡ true
equal x w h = grind arith

bind_step : (x : ℕ) (t : Term) (f : F.Form) (up : Bool) (w name : ℕ) (ty : Ty) (a : Box F.Form Global) → f ≡ F.Bind up w name ty a → subst x t (form_of f) ≡ cond (x == w) (Form.bind up w name ty (form_of a.value)) (cond (occurs_in_term w t && is_free x (form_of a.value)) (Form.bind up (fresh (form_of a.value) t) name ty (subst x t (renamed w (fresh (form_of a.value) t) (form_of a.value)))) (Form.bind up w name ty (subst x t (form_of a.value))))
bind_step x t f up w name ty a e = ap (λ g. subst x t (form_of g)) e ∙ ap (subst x t) (bind_form up w name ty a) ∙ subst_bind x t up w name ty (form_of a.value)

-- A binder of the variable is kept as it is.
pub bind_left : (x : ℕ) (t : Term) (f : F.Form) (up : Bool) (w name : ℕ) (ty : Ty) (a l : Box F.Form Global) (d : F.Form) → f ≡ F.Bind up w name ty a → x ≡ w → d ≡ a.value → form_of l.value ≡ form_of d → form_of (F.Bind up w name ty l) ≡ subst x t (form_of f)
bind_left x t f up w name ty a l d e q k er = bind_form up w name ty l ∙ ap (Form.bind up w name ty) (er ∙ ap form_of k) ∙ sym (ap (λ b. cond b (Form.bind up w name ty (form_of a.value)) (cond (occurs_in_term w t && is_free x (form_of a.value)) (Form.bind up (fresh (form_of a.value) t) name ty (subst x t (renamed w (fresh (form_of a.value) t) (form_of a.value)))) (Form.bind up w name ty (subst x t (form_of a.value))))) (equal x w q)) ∙ sym (bind_step x t f up w name ty a e)

-- A binder that captures is renamed, another one is kept.
bind_put : (x : ℕ) (t : Term) (f : F.Form) (up : Bool) (w name : ℕ) (ty : Ty) (a : Box F.Form Global) (z : ℕ) (body : Form) (l : Box F.Form Global) → f ≡ F.Bind up w name ty a → (x == w) ≡ false → cond (occurs_in_term w t && is_free x (form_of a.value)) (Form.bind up (fresh (form_of a.value) t) name ty (subst x t (renamed w (fresh (form_of a.value) t) (form_of a.value)))) (Form.bind up w name ty (subst x t (form_of a.value))) ≡ Form.bind up z name ty body → form_of l.value ≡ body → form_of (F.Bind up z name ty l) ≡ subst x t (form_of f)
bind_put x t f up w name ty a z body l e n h k = bind_form up z name ty l ∙ ap (Form.bind up z name ty) k ∙ sym h ∙ sym (ap (λ b. cond b (Form.bind up w name ty (form_of a.value)) (cond (occurs_in_term w t && is_free x (form_of a.value)) (Form.bind up (fresh (form_of a.value) t) name ty (subst x t (renamed w (fresh (form_of a.value) t) (form_of a.value)))) (Form.bind up w name ty (subst x t (form_of a.value))))) n) ∙ sym (bind_step x t f up w name ty a e)

pub bind_renamed : (x : ℕ) (t : Term) (f : F.Form) (up : Bool) (w name : ℕ) (ty : Ty) (a : Box F.Form Global) (z : ℕ) (l : Box F.Form Global) (d2 d3 body : F.Form) → f ≡ F.Bind up w name ty a → ¬ (x ≡ w) → (occurs_in_term w t && is_free x (form_of a.value)) ≡ true → d2 ≡ a.value → d3 ≡ a.value → z ≡ fresh (form_of d2) t → form_of body ≡ renamed w z (form_of d3) → form_of l.value ≡ subst x t (form_of body) → form_of (F.Bind up z name ty l) ≡ subst x t (form_of f)
bind_renamed x t f up w name ty a z l d2 d3 body e n held k2 k3 ez ebody er =
    bind_put x t f up w name ty a z (subst x t (form_of body)) l e (unequal x w n)
    (ap (λ b. cond b (Form.bind up (fresh (form_of a.value) t) name ty (subst x t (renamed w (fresh (form_of a.value) t) (form_of a.value)))) (Form.bind up w name ty (subst x t (form_of a.value)))) held
    ∙ ap (λ y. Form.bind up y name ty (subst x t (renamed w y (form_of a.value)))) (ap (λ g. fresh (form_of g) t) (sym k2) ∙ sym ez)
    ∙ ap (λ g. Form.bind up z name ty (subst x t g)) (ap (λ g. renamed w z (form_of g)) (sym k3) ∙ sym ebody))
    er

pub bind_kept : (x : ℕ) (t : Term) (f : F.Form) (up : Bool) (w name : ℕ) (ty : Ty) (a : Box F.Form Global) (l : Box F.Form Global) (d2 : F.Form) → f ≡ F.Bind up w name ty a → ¬ (x ≡ w) → (occurs_in_term w t && is_free x (form_of a.value)) ≡ false → d2 ≡ a.value → form_of l.value ≡ subst x t (form_of d2) → form_of (F.Bind up w name ty l) ≡ subst x t (form_of f)
bind_kept x t f up w name ty a l d2 e n failed k2 er =
    bind_put x t f up w name ty a w (subst x t (form_of d2)) l e (unequal x w n)
    (ap (λ b. cond b (Form.bind up (fresh (form_of a.value) t) name ty (subst x t (renamed w (fresh (form_of a.value) t) (form_of a.value)))) (Form.bind up w name ty (subst x t (form_of a.value)))) failed
    ∙ ap (λ g. Form.bind up w name ty (subst x t (form_of g))) (sym k2))
    er

pub nodes_below : (f : F.Form) (up : Bool) (w name : ℕ) (ty : Ty) (a : Box F.Form Global) (z : ℕ) (b d : F.Form) → f ≡ F.Bind up w name ty a → d ≡ a.value → form_of b ≡ renamed w z (form_of d) → nodes (form_of f) ≡ nodes (form_of b) + 1
nodes_below f up w name ty a z b d e k h = ap (λ g. nodes (form_of g)) e ∙ ap nodes (bind_form up w name ty a) ∙ plus_one (nodes (form_of a.value)) ∙ ap (λ n. n + 1) (ap (λ g. nodes (form_of g)) (sym k) ∙ sym (same_nodes w z (form_of d)) ∙ ap nodes (sym h))
  where
    plus_one : (n : ℕ) → 1 + n ≡ n + 1
    plus_one n = omega arith
