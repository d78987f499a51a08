-- A form without variables outside conditions has constant values.
use Rattle.std.proofs.Common.{◌≡◌, [], ◌∷◌, refl, ap, ap₂, Bool, true, false, cond, ◌||◌}
use Rattle.std.specs.Prelude.{Some, None}
use Rattle.heyvl_num.specs.Rational.{Rational, zeroʳ, ◌*ʳ◌}
use Rattle.heyvl_num.specs.Value.{Value, is_zeroʳ}
use Rattle.heyvl_num.specs.Value.Value.{finite, infinite}
use Rattle.heylo_formula.specs.Formula.{Form}
use Rattle.linear_values.specs.Lin.{Lin, Terms, constant, merged, times, plus, minus, scaled, is_sized, Linear}
use Rattle.linear_rows.specs.Numbers.{minus_oneʳ}
use Rattle.linear_form.specs.Query.{next}
use Rattle.linear_form.specs.Query.Query.{done, bits}
use Rattle.linear_form.specs.Questions as q
use Rattle.linear_form.specs.Questions.{sized, is_below, evaluate, test}
use Rattle.heylo_formula.specs.NumericVariables.{has_variable}
use Rattle.linear_form.specs.QuestionLaws.{EachResult, IsConstant}
use Rattle.linear_form.proofs.EachResults.{each_next, each_after, each_both}
use Rattle.linear_values.proofs.exported.KeptTerms.{of_two}

plus_constant : (a b : Lin) → a.terms ≡ [] → b.terms ≡ [] → (plus a b).terms ≡ []
unfolding plus
plus_constant a b e f = ap₂ (λ ts us. merged ts us) f e

scaled_constant : (w : Rational) (a : Lin) → a.terms ≡ [] → (scaled w a).terms ≡ []
unfolding scaled
scaled_constant w a e = go (is_zeroʳ w)
  where
    go : (b : Bool) → (cond b (constant zeroʳ) (record { terms = times w a.terms; rest = w *ʳ a.rest })).terms ≡ []
    go true = refl
    go false = ap (λ ts. times w ts) e

minus_constant : (a b : Lin) → a.terms ≡ [] → b.terms ≡ [] → (minus a b).terms ≡ []
unfolding minus
minus_constant a b e f = plus_constant a (scaled minus_oneʳ b) e (scaled_constant minus_oneʳ b f)

sized_constant : (x : Linear) → IsConstant x → EachResult IsConstant (sized x)
sized_constant None h = tt
sized_constant (Some a) h = go (is_sized a)
  where
    go : (b : Bool) → EachResult IsConstant (cond b (done (Some a)) bits)
    go true = h
    go false = tt

picked : (a : Lin) (strict : Bool) (x y : Linear) → IsConstant x → IsConstant y → EachResult IsConstant (next (is_below a strict) (λ t. done (cond t x y)))
picked a strict x y h k = each_after (is_below a strict) _ IsConstant (λ t. of_two IsConstant t x y h k)

sum_constant : (x y : Linear) → IsConstant x → IsConstant y → EachResult IsConstant (q.sum x y)
sum_constant (Some a) (Some b) h k = sized_constant (Some (plus a b)) (plus_constant a b h k)
sum_constant (Some a) None h k = tt
sum_constant None (Some b) h k = tt
sum_constant None None h k = tt

difference_constant : (x y : Linear) → IsConstant x → IsConstant y → EachResult IsConstant (q.difference x y)
difference_constant (Some a) (Some b) h k = sized_constant (Some (minus a b)) (minus_constant a b h k)
difference_constant (Some a) None h k = refl
difference_constant None y h k = tt

cut_constant : (x y : Linear) → IsConstant x → IsConstant y → EachResult IsConstant (q.cut x y)
cut_constant (Some a) (Some b) h k = each_after (is_below (minus b a) false) _ IsConstant (λ t. of_two (EachResult IsConstant) t (sized (Some (minus a b))) (done q.zero) (sized_constant (Some (minus a b)) (minus_constant a b h k)) refl)
cut_constant (Some a) None h k = refl
cut_constant None (Some b) h k = tt
cut_constant None None h k = refl

scale_constant : (w : Rational) (x : Linear) → IsConstant x → EachResult IsConstant (q.scale w x)
scale_constant w (Some a) h = sized_constant (Some (scaled w a)) (scaled_constant w a h)
scale_constant w None h = of_two IsConstant (is_zeroʳ w) q.zero None refl tt

finite_product_constant : (ts us : Terms) (a b : Lin) → a.terms ≡ [] → b.terms ≡ [] → EachResult IsConstant (q.finite_product ts us a b)
finite_product_constant [] us a b h k = sized_constant (Some (scaled a.rest b)) (scaled_constant a.rest b k)
finite_product_constant (t ∷ ts) [] a b h k = sized_constant (Some (scaled b.rest a)) (scaled_constant b.rest a h)
finite_product_constant (t ∷ ts) (u ∷ us) a b h k = tt

product_constant : (x y : Linear) → IsConstant x → IsConstant y → EachResult IsConstant (q.product x y)
product_constant (Some a) (Some b) h k = finite_product_constant a.terms b.terms a b h k
product_constant (Some a) None h k = picked a false q.zero None refl tt
product_constant None (Some b) h k = picked b false q.zero None refl tt
product_constant None None h k = tt

min_constant : (x y : Linear) → IsConstant x → IsConstant y → EachResult IsConstant (q.min x y)
min_constant (Some a) (Some b) h k = picked (minus a b) false (Some a) (Some b) h k
min_constant (Some a) None h k = h
min_constant None (Some b) h k = k
min_constant None None h k = tt

max_constant : (x y : Linear) → IsConstant x → IsConstant y → EachResult IsConstant (q.max x y)
max_constant (Some a) (Some b) h k = picked (minus a b) false (Some b) (Some a) k h
max_constant (Some a) None h k = tt
max_constant None (Some b) h k = tt
max_constant None None h k = tt

imply_constant : (x y : Linear) → IsConstant x → IsConstant y → EachResult IsConstant (q.imply x y)
imply_constant (Some a) (Some b) h k = picked (minus a b) false None (Some b) tt k
imply_constant (Some a) None h k = tt
imply_constant None (Some b) h k = k
imply_constant None None h k = tt

co_imply_constant : (x y : Linear) → IsConstant x → IsConstant y → EachResult IsConstant (q.co_imply x y)
co_imply_constant (Some a) (Some b) h k = picked (minus b a) false q.zero (Some b) refl k
co_imply_constant (Some a) None h k = tt
co_imply_constant None (Some b) h k = refl
co_imply_constant None None h k = refl

validate_constant : (x : Linear) → IsConstant x → IsConstant (q.validate x)
validate_constant (Some a) h = refl
validate_constant None h = tt

co_validate_constant : (x : Linear) → IsConstant x → EachResult IsConstant (q.co_validate x)
co_validate_constant (Some a) h = picked a false q.zero None refl tt
co_validate_constant None h = tt

number_constant : (v : Value) → IsConstant (q.number v)
number_constant (finite x) = refl
number_constant infinite = tt

left_of : (a b : Bool) → (a || b) ≡ false → a ≡ false
left_of true b e = e
left_of false b e = refl

right_of : (a b : Bool) → (a || b) ≡ false → b ≡ false
right_of true b e = absurd (cc)
right_of false b e = e

pub constant_form : (f : Form) → has_variable f ≡ false → EachResult IsConstant (evaluate f)
constant_form (Form.number v) e = sized_constant (q.number v) (number_constant v)
constant_form (Form.variable x) e = absurd (cc)
constant_form (Form.sum a b) e = each_both (evaluate a) (evaluate b) q.sum IsConstant IsConstant (constant_form a (left_of _ _ e)) (constant_form b (right_of (has_variable a) _ e)) sum_constant
constant_form (Form.difference a b) e = each_both (evaluate a) (evaluate b) q.difference IsConstant IsConstant (constant_form a (left_of _ _ e)) (constant_form b (right_of (has_variable a) _ e)) difference_constant
constant_form (Form.cut a b) e = each_both (evaluate a) (evaluate b) q.cut IsConstant IsConstant (constant_form a (left_of _ _ e)) (constant_form b (right_of (has_variable a) _ e)) cut_constant
constant_form (Form.scale w a) e = each_next (evaluate a) (q.scale w) IsConstant IsConstant (constant_form a e) (scale_constant w)
constant_form (Form.product a b span) e = each_both (evaluate a) (evaluate b) q.product IsConstant IsConstant (constant_form a (left_of _ _ e)) (constant_form b (right_of (has_variable a) _ e)) product_constant
constant_form (Form.min a b) e = each_both (evaluate a) (evaluate b) q.min IsConstant IsConstant (constant_form a (left_of _ _ e)) (constant_form b (right_of (has_variable a) _ e)) min_constant
constant_form (Form.max a b) e = each_both (evaluate a) (evaluate b) q.max IsConstant IsConstant (constant_form a (left_of _ _ e)) (constant_form b (right_of (has_variable a) _ e)) max_constant
constant_form (Form.imply a b) e = each_both (evaluate a) (evaluate b) q.imply IsConstant IsConstant (constant_form a (left_of _ _ e)) (constant_form b (right_of (has_variable a) _ e)) imply_constant
constant_form (Form.co_imply a b) e = each_both (evaluate a) (evaluate b) q.co_imply IsConstant IsConstant (constant_form a (left_of _ _ e)) (constant_form b (right_of (has_variable a) _ e)) co_imply_constant
constant_form (Form.validate a) e = each_next (evaluate a) _ IsConstant IsConstant (constant_form a e) validate_constant
constant_form (Form.co_validate a) e = each_next (evaluate a) q.co_validate IsConstant IsConstant (constant_form a e) co_validate_constant
constant_form (Form.embed g) e = each_after (test g) _ IsConstant (λ t. of_two IsConstant t None q.zero tt refl)
constant_form (Form.iverson g) e = each_after (test g) _ IsConstant (λ t. of_two IsConstant t q.one q.zero refl refl)
constant_form (Form.select g a b) e = each_after (test g) _ IsConstant (λ t. of_two (EachResult IsConstant) t (evaluate a) (evaluate b) (constant_form a (left_of _ _ e)) (constant_form b (right_of (has_variable a) _ e)))
constant_form (Form.bind up x name ty a) e = tt
