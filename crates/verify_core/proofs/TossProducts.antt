-- The products that a flip adds are never the first nonlinear product.
use Rattle.std.proofs.Common.{◌≡◌, ℕ, refl, Bool, true, false, ◌&&◌, ◌||◌}
use Rattle.std.specs.Option.{option_or}
use Rattle.std.specs.Prelude.{Option, Some, None, pos}
use Rattle.heyvl_num.specs.Rational.{ratio}
use Rattle.heyvl_num.specs.Value.Value.{finite}
use Rattle.heyvl_places.specs.declared.spans.Span.{Span}
use Rattle.heylo_formula.specs.Formula.{Form, Cond, Term}
use Rattle.heylo_formula.specs.NumericVariables.{has_variable}
use Rattle.heylo_formula.specs.Substitution as Replaced
use Rattle.linear_form.specs.Nonlinear.{first_product, product_at}
use Rattle.vp_generator.specs.GeneratedForms.{toss_form}
use Rattle.verify_core.specs.TossProducts.{TossProductsAreLinear}

-- The parts of the form of a flip: whether its weight has a variable, and the first products of the
-- weight and of both sides.
none_of_its_own : (varies : Bool) → varies ≡ false → (f a b : Option Span) (s t : Bool) (span : Span) → option_or (option_or (option_or f None) (option_or (product_at ((varies || false) && s) span) a)) (option_or (option_or None (option_or f None)) (option_or (product_at ((false || (varies || false)) && t) span) b)) ≡ option_or f (option_or a b)
none_of_its_own true e f a b s t span = absurd (cc)
none_of_its_own false e None None b s t span = refl
none_of_its_own false e None (Some r) b s t span = refl
none_of_its_own false e (Some r) a b s t span = refl

pub toss_products_are_linear : TossProductsAreLinear
toss_products_are_linear types x f span k h =
    let heads = Replaced.subst x (Term.truth (Cond.constant true)) k in
    let tails = Replaced.subst x (Term.truth (Cond.constant false)) k in
    none_of_its_own (has_variable f) h.1.1 (first_product f) (first_product heads) (first_product tails) (has_variable heads) (has_variable tails) span

-- ---- A flip at 7 before the square of the variable 1; its weight compares the square at 3 with 2

abbrev at_place : ℕ → Span
at_place n = record { from = n; to = n }

abbrev square : ℕ → Form
square n = Form.product (Form.variable 1) (Form.variable 1) (at_place n)

two : Form
two = Form.number (finite (ratio (pos 2) 1))

in_the_formula : first_product (toss_form 0 (Form.iverson (Cond.lt (square 3) two)) (at_place 7) (square 9)) ≡ Some (at_place 3)
unfolding Replaced.subst two
in_the_formula = refl

behind_it : first_product (toss_form 0 (Form.iverson (Cond.lt (Form.variable 1) two)) (at_place 7) (square 9)) ≡ Some (at_place 9)
unfolding Replaced.subst two
behind_it = refl

nowhere_else : first_product (toss_form 0 (Form.iverson (Cond.lt (Form.variable 1) two)) (at_place 7) (Form.select (Cond.flag 0) (Form.variable 1) two)) ≡ None
unfolding two Replaced.subst
nowhere_else = refl
