-- The conditions, formulas and terms of elaborated expressions. This project's own.
use Rattle.heylo_formula.specs.Formula.{Cond, Form, Term}
use Rattle.heyvl_num.specs.Value.Value.{infinite}
use Rattle.heyvl_syntax.specs.Expressions.{Expression}
use Rattle.std.specs.Prelude.{List, None, Option, Some, false, map, ℕ}
use Rattle.typed_expressions.specs.Scopes.{Scope}
use Rattle.typed_expressions.specs.Table.{Meaning}
use Rattle.typed_expressions.specs.TypedExpressions.{elaborate}

-- The condition of an elaborated expression; `false` if it is not a condition.
abbrev pub condition : Option Meaning → Cond
condition (Some (Meaning.truth g)) = g
condition (Some (Meaning.number t a)) = Cond.constant false
condition (Some Meaning.real) = Cond.constant false
condition None = Cond.constant false

-- The formula of an elaborated expression; infinity if it is not a number.
abbrev pub form : Option Meaning → Form
form (Some (Meaning.truth g)) = Form.number infinite
form (Some (Meaning.number t a)) = a
form (Some Meaning.real) = Form.number infinite
form None = Form.number infinite

-- The term of an elaborated expression, which is a condition or a formula; infinity if there is
-- none.
abbrev pub term : Option Meaning → Term
term (Some (Meaning.truth g)) = Term.truth g
term (Some (Meaning.number t a)) = Term.number a
term (Some Meaning.real) = Term.number (Form.number infinite)
term None = Term.number (Form.number infinite)

-- The terms of expressions, in their order.
abbrev pub terms : ℕ → Scope → List Expression → List Term
terms n sc es = map (λ e. term (elaborate n sc e)) es
