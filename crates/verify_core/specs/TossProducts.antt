-- The products that a flip adds to a form. They are linear, as the weight has no numeric variable
-- outside conditions. This project's own.
use Rattle.std.specs.Option.{option_or}
use Rattle.std.specs.Prelude.{◌≡◌, ℕ, true, false}
use Rattle.heyvl_places.specs.declared.spans.Span.{Span}
use Rattle.heylo_formula.specs.Formula.{Form, Cond, Term}
use Rattle.heylo_formula.specs.Substitution.{subst}
use Rattle.heylo_formula.specs.Typing.{Types}
use Rattle.heyvl_acts.specs.WellTypedActs.{IsProbability}
use Rattle.linear_form.specs.Nonlinear.{first_product}
use Rattle.vp_generator.specs.GeneratedForms.{toss_form}

-- The first nonlinear product of the form of a flip is one of its weight `f`, or else one of `k`
-- with true for the variable, or else one of `k` with false for it. It is never one of the two
-- products that the flip adds.
abbrev pub TossProductsAreLinear : Type 0
TossProductsAreLinear = (types : Types) (x : ℕ) (f : Form) (span : Span) (k : Form)
    → IsProbability types f
    → first_product (toss_form x f span k)
    ≡ option_or (first_product f)
    (option_or (first_product (subst x (Term.truth (Cond.constant true)) k))
    (first_product (subst x (Term.truth (Cond.constant false)) k)))
