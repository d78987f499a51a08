-- Operators preserve the invariant of linear values: increasing variables, no zeros, small numbers.
use Rattle.std.proofs.Common.{◌≡◌, ℕ, [], ◌∷◌, refl, Bool, true, false, cond}
use Rattle.std.specs.Prelude.{Some, None}
use Rattle.heyvl_num.specs.Gcd.{gcd, gcd_steps}
use Rattle.heyvl_num.specs.Rational.{Rational, ratio, zeroʳ, oneʳ}
use Rattle.heyvl_num.specs.Value.{Value, is_zeroʳ}
use Rattle.heyvl_num.specs.Value.Value.{finite, infinite}
use Rattle.heyvl_num.proofs.exported.Values.{is_zero-one}
use Rattle.heylo_formula.specs.Formula.{Form}
use Rattle.linear_values.specs.Lin.{Lin, Terms, constant, variable, plus, minus, scaled, is_sized, AreNormal, Linear}
use Rattle.linear_rows.specs.Numbers.{fits}
use Rattle.linear_form.specs.Query.{next}
use Rattle.linear_form.specs.Query.Query.{done, bits}
use Rattle.linear_form.specs.Questions as q
use Rattle.linear_form.specs.Questions.{sized, is_below, evaluate, test}
use Rattle.linear_form.specs.QuestionLaws.{EachResult}
use Rattle.linear_values.specs.Kept.{IsKeptValue}
use Rattle.linear_form.proofs.EachResults.{each_next, each_after, each_both}
use Rattle.linear_values.proofs.exported.KeptTerms.{of_two, plus_normal, scaled_normal, minus_normal}

-- ---- Operators

pub sized_kept : (a : Lin) → AreNormal a.terms → EachResult IsKeptValue (sized (Some a))
sized_kept a h = go (is_sized a) refl
  where
    go : (b : Bool) → is_sized a ≡ b → EachResult IsKeptValue (cond b (done (Some a)) bits)
    go true e = record { sized = e; normal = h }
    go false e = tt

pub zero_kept : IsKeptValue q.zero
unfolding zeroʳ ratio gcd gcd_steps fits is_sized
zero_kept = record { sized = refl; normal = tt }

pub one_kept : IsKeptValue q.one
unfolding oneʳ ratio gcd gcd_steps fits is_sized
one_kept = record { sized = refl; normal = tt }

variable_sized : (x : ℕ) → is_sized (variable x) ≡ true
unfolding zeroʳ oneʳ ratio gcd gcd_steps fits is_sized
variable_sized x = refl

pub variable_kept : (x : ℕ) → IsKeptValue (Some (variable x))
variable_kept x = record { sized = variable_sized x; normal = (is_zero-one, (tt, tt)) }

picked : (a : Lin) (strict : Bool) (x y : Linear) → IsKeptValue x → IsKeptValue y → EachResult IsKeptValue (next (is_below a strict) (λ t. done (cond t x y)))
picked a strict x y h k = each_after (is_below a strict) _ IsKeptValue (λ t. of_two IsKeptValue t x y h k)

pub sum_kept : (x y : Linear) → IsKeptValue x → IsKeptValue y → EachResult IsKeptValue (q.sum x y)
sum_kept (Some a) (Some b) h k = sized_kept (plus a b) (plus_normal a b h.normal)
sum_kept (Some a) None h k = tt
sum_kept None (Some b) h k = tt
sum_kept None None h k = tt

pub difference_kept : (x y : Linear) → IsKeptValue x → IsKeptValue y → EachResult IsKeptValue (q.difference x y)
difference_kept (Some a) (Some b) h k = sized_kept (minus a b) (minus_normal a b h.normal)
difference_kept (Some a) None h k = zero_kept
difference_kept None y h k = tt

pub cut_kept : (x y : Linear) → IsKeptValue x → IsKeptValue y → EachResult IsKeptValue (q.cut x y)
cut_kept (Some a) (Some b) h k = each_after (is_below (minus b a) false) _ IsKeptValue (λ t. of_two (EachResult IsKeptValue) t (sized (Some (minus a b))) (done q.zero) (sized_kept (minus a b) (minus_normal a b h.normal)) zero_kept)
cut_kept (Some a) None h k = zero_kept
cut_kept None (Some b) h k = tt
cut_kept None None h k = zero_kept

pub scale_kept : (w : Rational) (x : Linear) → IsKeptValue x → EachResult IsKeptValue (q.scale w x)
scale_kept w (Some a) h = sized_kept (scaled w a) (scaled_normal w a h.normal)
scale_kept w None h = of_two IsKeptValue (is_zeroʳ w) q.zero None zero_kept tt

finite_product_kept : (ts us : Terms) (a b : Lin) → AreNormal a.terms → AreNormal b.terms → EachResult IsKeptValue (q.finite_product ts us a b)
finite_product_kept [] us a b h k = sized_kept (scaled a.rest b) (scaled_normal a.rest b k)
finite_product_kept (t ∷ ts) [] a b h k = sized_kept (scaled b.rest a) (scaled_normal b.rest a h)
finite_product_kept (t ∷ ts) (u ∷ us) a b h k = tt

pub product_kept : (x y : Linear) → IsKeptValue x → IsKeptValue y → EachResult IsKeptValue (q.product x y)
product_kept (Some a) (Some b) h k = finite_product_kept a.terms b.terms a b h.normal k.normal
product_kept (Some a) None h k = picked a false q.zero None zero_kept tt
product_kept None (Some b) h k = picked b false q.zero None zero_kept tt
product_kept None None h k = tt

pub min_kept : (x y : Linear) → IsKeptValue x → IsKeptValue y → EachResult IsKeptValue (q.min x y)
min_kept (Some a) (Some b) h k = picked (minus a b) false (Some a) (Some b) h k
min_kept (Some a) None h k = h
min_kept None (Some b) h k = k
min_kept None None h k = tt

pub max_kept : (x y : Linear) → IsKeptValue x → IsKeptValue y → EachResult IsKeptValue (q.max x y)
max_kept (Some a) (Some b) h k = picked (minus a b) false (Some b) (Some a) k h
max_kept (Some a) None h k = tt
max_kept None (Some b) h k = tt
max_kept None None h k = tt

pub imply_kept : (x y : Linear) → IsKeptValue x → IsKeptValue y → EachResult IsKeptValue (q.imply x y)
imply_kept (Some a) (Some b) h k = picked (minus a b) false None (Some b) tt k
imply_kept (Some a) None h k = tt
imply_kept None (Some b) h k = k
imply_kept None None h k = tt

pub co_imply_kept : (x y : Linear) → IsKeptValue x → IsKeptValue y → EachResult IsKeptValue (q.co_imply x y)
co_imply_kept (Some a) (Some b) h k = picked (minus b a) false q.zero (Some b) zero_kept k
co_imply_kept (Some a) None h k = tt
co_imply_kept None (Some b) h k = zero_kept
co_imply_kept None None h k = zero_kept

pub validate_kept : (x : Linear) → IsKeptValue x → IsKeptValue (q.validate x)
validate_kept (Some a) h = zero_kept
validate_kept None h = tt

pub co_validate_kept : (x : Linear) → IsKeptValue x → EachResult IsKeptValue (q.co_validate x)
co_validate_kept (Some a) h = picked a false q.zero None zero_kept tt
co_validate_kept None h = tt

pub number_kept : (v : Value) → EachResult IsKeptValue (sized (q.number v))
number_kept (finite x) = sized_kept (constant x) tt
number_kept infinite = tt

pub form_kept : (f : Form) → EachResult IsKeptValue (evaluate f)
form_kept (Form.number v) = number_kept v
form_kept (Form.variable x) = variable_kept x
form_kept (Form.sum a b) = each_both (evaluate a) (evaluate b) q.sum IsKeptValue IsKeptValue (form_kept a) (form_kept b) sum_kept
form_kept (Form.difference a b) = each_both (evaluate a) (evaluate b) q.difference IsKeptValue IsKeptValue (form_kept a) (form_kept b) difference_kept
form_kept (Form.cut a b) = each_both (evaluate a) (evaluate b) q.cut IsKeptValue IsKeptValue (form_kept a) (form_kept b) cut_kept
form_kept (Form.scale w a) = each_next (evaluate a) (q.scale w) IsKeptValue IsKeptValue (form_kept a) (scale_kept w)
form_kept (Form.product a b span) = each_both (evaluate a) (evaluate b) q.product IsKeptValue IsKeptValue (form_kept a) (form_kept b) product_kept
form_kept (Form.min a b) = each_both (evaluate a) (evaluate b) q.min IsKeptValue IsKeptValue (form_kept a) (form_kept b) min_kept
form_kept (Form.max a b) = each_both (evaluate a) (evaluate b) q.max IsKeptValue IsKeptValue (form_kept a) (form_kept b) max_kept
form_kept (Form.imply a b) = each_both (evaluate a) (evaluate b) q.imply IsKeptValue IsKeptValue (form_kept a) (form_kept b) imply_kept
form_kept (Form.co_imply a b) = each_both (evaluate a) (evaluate b) q.co_imply IsKeptValue IsKeptValue (form_kept a) (form_kept b) co_imply_kept
form_kept (Form.validate a) = each_next (evaluate a) _ IsKeptValue IsKeptValue (form_kept a) validate_kept
form_kept (Form.co_validate a) = each_next (evaluate a) q.co_validate IsKeptValue IsKeptValue (form_kept a) co_validate_kept
form_kept (Form.embed g) = each_after (test g) _ IsKeptValue (λ t. of_two IsKeptValue t None q.zero tt zero_kept)
form_kept (Form.iverson g) = each_after (test g) _ IsKeptValue (λ t. of_two IsKeptValue t q.one q.zero one_kept zero_kept)
form_kept (Form.select g a b) = each_after (test g) _ IsKeptValue (λ t. of_two (EachResult IsKeptValue) t (evaluate a) (evaluate b) (form_kept a) (form_kept b))
form_kept (Form.bind up x name ty a) = tt
