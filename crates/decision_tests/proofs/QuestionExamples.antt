-- The comparisons of forms and conditions, computed at values found by hand.
use Rattle.std.proofs.Common.{◌≡◌, refl, [], ◌∷◌, true, false}
use Rattle.std.specs.Prelude.{pos, negsuc, Some, None}
use Rattle.heyvl_places.specs.declared.spans.Span.{Span}
use Rattle.heyvl_num.specs.Gcd.{gcd, gcd_steps}
use Rattle.heyvl_num.specs.Rational.{ratio, zeroʳ, oneʳ, leqʳ, ◌+ʳ◌, ◌*ʳ◌}
use Rattle.heyvl_num.specs.Value.{is_zeroʳ}
use Rattle.heyvl_num.specs.Value.Value.{finite}
use Rattle.heylo_formula.specs.Formula.{Form, Cond}
use Rattle.heylo_formula.specs.Goals.{Goal}
use Rattle.linear_values.specs.Lin.{Lin, constant, variable, plus, minus, scaled, is_sized, Linear}
use Rattle.linear_rows.specs.Numbers.{minus_oneʳ, fits}
use Rattle.linear_form.specs.Query.{Atom, once}
use Rattle.linear_form.specs.Query.Query.{done, bits, ask}
use Rattle.linear_form.specs.Questions.{zero, one, sum, difference, cut, scale, product, min, max, imply, co_imply, validate, co_validate, at_most, less, equal, evaluate, test, questions}

x : Linear
x = Some (variable 0)

y : Linear
y = Some (variable 1)

two : Linear
two = Some (constant (ratio (pos 2) 1))

five : Linear
five = Some (constant (ratio (pos 5) 1))

x_plus_y : Lin
x_plus_y = record { terms = (0, oneʳ) ∷ ((1, oneʳ) ∷ []); rest = zeroʳ }

x_minus_y : Lin
x_minus_y = record { terms = (0, oneʳ) ∷ ((1, minus_oneʳ) ∷ []); rest = zeroʳ }

y_minus_x : Lin
y_minus_x = record { terms = (0, minus_oneʳ) ∷ ((1, oneʳ) ∷ []); rest = zeroʳ }

twice_x : Lin
twice_x = record { terms = (0, ratio (pos 2) 1) ∷ []; rest = zeroʳ }

-- The sum is infinity if one of the values is.
sums : (sum x y ≡ done (Some x_plus_y)) × (sum x None ≡ done None) × (sum None y ≡ done None) × (sum None None ≡ done None) × (sum two five ≡ done (Some (constant (ratio (pos 7) 1))))
unfolding x y two five x_plus_y plus is_sized fits is_zeroʳ ratio gcd gcd_steps zeroʳ oneʳ ◌+ʳ◌
sums = (refl, refl, refl, refl, refl)

differences : (difference x y ≡ done (Some x_minus_y)) × (difference x x ≡ done zero) × (difference two five ≡ done (Some (constant (ratio (negsuc 2) 1))))
unfolding x y two five x_minus_y minus plus scaled minus_oneʳ is_sized fits is_zeroʳ ratio gcd gcd_steps zeroʳ oneʳ ◌+ʳ◌ ◌*ʳ◌
differences = (refl, refl, refl)

-- 0 times a value is 0, even if the value is infinity.
multiples : (scale (ratio (pos 2) 1) x ≡ done (Some twice_x)) × (scale zeroʳ x ≡ done zero) × (scale (ratio (pos 2) 1) None ≡ done None) × (scale zeroʳ None ≡ done zero)
unfolding x twice_x scaled is_sized fits is_zeroʳ ratio gcd gcd_steps zeroʳ oneʳ ◌*ʳ◌
multiples = (refl, refl, refl, refl)

-- Is y at most x? Then x - y, otherwise 0.
cuts : (cut x y ≡ ask (Atom.row y_minus_x false) (done (Some x_minus_y)) (done zero)) × (cut five two ≡ done (Some (constant (ratio (pos 3) 1)))) × (cut two five ≡ done zero)
unfolding x y two five x_minus_y y_minus_x minus plus scaled minus_oneʳ is_sized fits is_zeroʳ leqʳ ratio gcd gcd_steps zeroʳ oneʳ ◌+ʳ◌ ◌*ʳ◌
cuts = (refl, refl, refl)

-- One of two finite factors is constant.
products : (product two x ≡ done (Some twice_x)) × (product x two ≡ done (Some twice_x)) × (product zero x ≡ done zero) × (product two five ≡ done (Some (constant (ratio (pos 10) 1))))
unfolding x two five twice_x scaled is_sized fits is_zeroʳ ratio gcd gcd_steps zeroʳ oneʳ ◌*ʳ◌
products = (refl, refl, refl, refl)

-- A variable times infinity is compared with 0, a constant is not.
products_with_infinity : (product x None ≡ ask (Atom.row (variable 0) false) (done zero) (done None)) × (product None y ≡ ask (Atom.row (variable 1) false) (done zero) (done None)) × (product zero None ≡ done zero) × (product None zero ≡ done zero) × (product two None ≡ done None) × (product None two ≡ done None) × (product None None ≡ done None)
unfolding x y two is_sized fits leqʳ ratio gcd gcd_steps zeroʳ oneʳ
products_with_infinity = (refl, refl, refl, refl, refl, refl, refl)

-- Is x at most y? Then x, otherwise y.
minima : (min x y ≡ ask (Atom.row x_minus_y false) (done x) (done y)) × (min x None ≡ done x) × (min None y ≡ done y) × (min None None ≡ done None) × (min two five ≡ done two) × (min five two ≡ done two)
unfolding x y two five x_minus_y minus plus scaled minus_oneʳ is_sized fits is_zeroʳ leqʳ ratio gcd gcd_steps zeroʳ oneʳ ◌+ʳ◌ ◌*ʳ◌
minima = (refl, refl, refl, refl, refl, refl)

-- Is x at most y? Then y, otherwise x.
maxima : (max x y ≡ ask (Atom.row x_minus_y false) (done y) (done x)) × (max x None ≡ done None) × (max None y ≡ done None) × (max None None ≡ done None) × (max two five ≡ done five) × (max five two ≡ done five)
unfolding x y two five x_minus_y minus plus scaled minus_oneʳ is_sized fits is_zeroʳ leqʳ ratio gcd gcd_steps zeroʳ oneʳ ◌+ʳ◌ ◌*ʳ◌
maxima = (refl, refl, refl, refl, refl, refl)

-- Is x at most y? Then infinity, otherwise y.
implications : (imply x y ≡ ask (Atom.row x_minus_y false) (done None) (done y)) × (imply x None ≡ done None) × (imply None y ≡ done y) × (imply None None ≡ done None) × (imply two two ≡ done None) × (imply five two ≡ done two)
unfolding x y two five x_minus_y minus plus scaled minus_oneʳ is_sized fits is_zeroʳ leqʳ ratio gcd gcd_steps zeroʳ oneʳ ◌+ʳ◌ ◌*ʳ◌
implications = (refl, refl, refl, refl, refl, refl)

-- Is y at most x? Then 0, otherwise y.
co_implications : (co_imply x y ≡ ask (Atom.row y_minus_x false) (done zero) (done y)) × (co_imply x None ≡ done None) × (co_imply None y ≡ done zero) × (co_imply None None ≡ done zero) × (co_imply two two ≡ done zero) × (co_imply two five ≡ done five)
unfolding x y two five y_minus_x minus plus scaled minus_oneʳ is_sized fits is_zeroʳ leqʳ ratio gcd gcd_steps zeroʳ oneʳ ◌+ʳ◌ ◌*ʳ◌
co_implications = (refl, refl, refl, refl, refl, refl)

validations : (validate x ≡ zero) × (validate None ≡ None) × (co_validate x ≡ ask (Atom.row (variable 0) false) (done zero) (done None)) × (co_validate None ≡ done None) × (co_validate zero ≡ done zero) × (co_validate two ≡ done None)
unfolding x two is_sized fits leqʳ ratio gcd gcd_steps zeroʳ oneʳ
validations = (refl, refl, refl, refl, refl, refl)

-- x <= y compares x - y with 0, not strictly; x < y strictly; x = y compares in both orders.
comparisons : (at_most x y ≡ ask (Atom.row x_minus_y false) (done true) (done false)) × (less x y ≡ ask (Atom.row x_minus_y true) (done true) (done false)) × (equal x y ≡ ask (Atom.row x_minus_y false) (ask (Atom.row y_minus_x false) (done true) (done false)) (done false)) × (less x x ≡ done false) × (at_most two two ≡ done true) × (less two two ≡ done false) × (less two five ≡ done true) × (equal two two ≡ done true) × (equal two five ≡ done false) × (equal five two ≡ done false)
unfolding x y two five x_minus_y y_minus_x minus plus scaled minus_oneʳ is_sized fits is_zeroʳ leqʳ ratio gcd gcd_steps zeroʳ oneʳ ◌+ʳ◌ ◌*ʳ◌
comparisons = (refl, refl, refl, refl, refl, refl, refl, refl, refl, refl)

-- The right part is evaluated only if it matters; `same` evaluates both parts.
conditions : (test (Cond.flag 3) ≡ ask (Atom.truth 3) (done true) (done false)) × (test (Cond.constant true) ≡ done true) × (test (Cond.not (Cond.flag 3)) ≡ ask (Atom.truth 3) (done false) (done true)) × (test (Cond.and (Cond.flag 3) (Cond.flag 4)) ≡ ask (Atom.truth 3) (ask (Atom.truth 4) (done true) (done false)) (done false)) × (test (Cond.or (Cond.flag 3) (Cond.flag 4)) ≡ ask (Atom.truth 3) (done true) (ask (Atom.truth 4) (done true) (done false))) × (test (Cond.same (Cond.flag 3) (Cond.flag 4)) ≡ ask (Atom.truth 3) (ask (Atom.truth 4) (done true) (done false)) (ask (Atom.truth 4) (done false) (done true))) × (test (Cond.ite (Cond.flag 3) (Cond.flag 4) (Cond.flag 5)) ≡ ask (Atom.truth 3) (ask (Atom.truth 4) (done true) (done false)) (ask (Atom.truth 5) (done true) (done false))) × (test (Cond.ite (Cond.constant true) (Cond.flag 4) (Cond.flag 5)) ≡ ask (Atom.truth 4) (done true) (done false))
conditions = (refl, refl, refl, refl, refl, refl, refl, refl)

-- A condition selects one of two forms, and only this one is evaluated.
chosen_forms : (evaluate (Form.embed (Cond.flag 3)) ≡ ask (Atom.truth 3) (done None) (done zero)) × (evaluate (Form.iverson (Cond.flag 3)) ≡ ask (Atom.truth 3) (done one) (done zero)) × (evaluate (Form.select (Cond.flag 3) (Form.variable 0) (Form.co_validate (Form.variable 1))) ≡ ask (Atom.truth 3) (done x) (ask (Atom.row (variable 1) false) (done zero) (done None)))
unfolding x is_sized fits ratio gcd gcd_steps zeroʳ oneʳ
chosen_forms = (refl, refl, refl)

-- Both parts of an operator are evaluated, from left to right, even if one is 0.
parts_in_order : ((span : Span) → evaluate (Form.product (Form.number (finite zeroʳ)) (Form.iverson (Cond.flag 3)) span) ≡ ask (Atom.truth 3) (done zero) (done zero)) × (evaluate (Form.min (Form.iverson (Cond.flag 3)) (Form.embed (Cond.flag 4))) ≡ ask (Atom.truth 3) (ask (Atom.truth 4) (done one) (done zero)) (ask (Atom.truth 4) (done zero) (done zero)))
unfolding minus plus scaled minus_oneʳ is_sized fits is_zeroʳ leqʳ ratio gcd gcd_steps zeroʳ oneʳ ◌+ʳ◌ ◌*ʳ◌
parts_in_order = (λ span. refl, refl)

-- A Boolean is asked once, a comparison again.
asked_once : (once [] (test (Cond.and (Cond.flag 3) (Cond.flag 3))) ≡ ask (Atom.truth 3) (done true) (done false)) × (once [] (test (Cond.or (Cond.flag 3) (Cond.not (Cond.flag 3)))) ≡ ask (Atom.truth 3) (done true) (done true)) × (once [] (test (Cond.same (Cond.flag 3) (Cond.flag 4))) ≡ test (Cond.same (Cond.flag 3) (Cond.flag 4)))
asked_once = (refl, refl, refl)

asked_again : once [] (test (Cond.and (Cond.le (Form.variable 0) (Form.variable 1)) (Cond.le (Form.variable 0) (Form.variable 1)))) ≡ ask (Atom.row x_minus_y false) (ask (Atom.row x_minus_y false) (done true) (done false)) (done false)
unfolding x_minus_y minus plus scaled minus_oneʳ is_sized fits is_zeroʳ ratio gcd gcd_steps zeroʳ oneʳ ◌+ʳ◌ ◌*ʳ◌
asked_again = refl

-- The stated bound is [b3]; the computed form is the minimum of [b3] and infinity or 0 by b4.
goal : Goal
goal = record { upper = true; stated = Form.iverson (Cond.flag 3); found = Form.min (Form.iverson (Cond.flag 3)) (Form.embed (Cond.flag 4)); types = []; names = []; own = 0 }

-- The computed form uses the answers for the stated bound.
of_a_goal : questions goal ≡ ask (Atom.truth 3) (ask (Atom.truth 4) (done (one, one)) (done (one, zero))) (ask (Atom.truth 4) (done (zero, zero)) (done (zero, zero)))
unfolding goal minus plus scaled minus_oneʳ is_sized fits is_zeroʳ leqʳ ratio gcd gcd_steps zeroʳ oneʳ ◌+ʳ◌ ◌*ʳ◌
of_a_goal = refl

-- 2^62 overflows, as a value and as the difference of a comparison: 1 and 1 - 2^62.
bounds : (evaluate (Form.number (finite (ratio (pos 4611686018427387903) 1))) ≡ done (Some (constant (ratio (pos 4611686018427387903) 1)))) × (evaluate (Form.number (finite (ratio (pos 4611686018427387904) 1))) ≡ bits) × (sum (Some (constant (ratio (pos 4611686018427387903) 1))) (Some (constant oneʳ)) ≡ bits) × (min (Some (constant oneʳ)) (Some (constant (ratio (negsuc 4611686018427387902) 1))) ≡ bits) × (min (Some (constant zeroʳ)) (Some (constant (ratio (negsuc 4611686018427387902) 1))) ≡ done (Some (constant (ratio (negsuc 4611686018427387902) 1)))) × (scale (ratio (pos 4611686018427387904) 1) x ≡ bits) × (scale (ratio (pos 4611686018427387904) 1) zero ≡ done zero)
unfolding x minus plus scaled minus_oneʳ is_sized fits is_zeroʳ leqʳ ratio gcd gcd_steps zeroʳ oneʳ ◌+ʳ◌ ◌*ʳ◌
bounds = (refl, refl, refl, refl, refl, refl, refl)
