-- Tosses as draws of true and false, with weights that depend on the state. This project's own.
use Rattle.std.specs.Prelude.{true, false, List, [], ◌∷◌}
use Rattle.heyvl_num.specs.Rational.{Rational, oneʳ, ◌-ʳ◌}
use Rattle.heyvl_num.specs.Value.{oneᵛ}
use Rattle.heyvl_num.specs.ValueOperators.{minᵛ}
use Rattle.heylo_formula.specs.Choices.{Choices}
use Rattle.heylo_formula.specs.Formula.{Form, Cond, Term}
use Rattle.heylo_formula.specs.Meaning.{value}
use Rattle.heylo_formula.specs.Operators.{finite_part}
use Rattle.heylo_formula.specs.State.{Env}

-- The probability of true: the smaller of the form's value and 1.
abbrev pub toss_weight : Form → Env → Rational
toss_weight f s = finite_part (minᵛ (value f s Choices.stop) oneᵛ)

-- True with the weight `w`, and false with the rest.
abbrev pub flip_parts : Rational → List (Rational × Term)
flip_parts w = (w, Term.truth (Cond.constant true)) ∷ (oneʳ -ʳ w, Term.truth (Cond.constant false))
    ∷ []

-- The alternatives of a toss in a state.
abbrev pub toss_parts : Form → Env → List (Rational × Term)
toss_parts f s = flip_parts (toss_weight f s)
