-- The meaning of the expressions of a program of guarded commands. A state has a value for each
-- declared variable, in the order of the declarations. An expression means what its form of HeyLo
-- means if only the declared variables are visible. This project's own.
use Rattle.heylo_formula.specs.Choices.{Choices}
use Rattle.heylo_formula.specs.Meaning.{holds, term_value, value}
use Rattle.heylo_formula.specs.State.{IsTyped, environment}
use Rattle.heylo_formula.specs.declared.types.Ty.{Ty}
use Rattle.heylo_formula.specs.declared.values.Val.{Val}
use Rattle.heyvl_acts.specs.Tosses.{toss_weight}
use Rattle.heyvl_num.specs.Rational.{Rational}
use Rattle.heyvl_num.specs.Value.{Value}
use Rattle.heyvl_syntax.specs.Expressions.{Expression}
use Rattle.typed_expressions.specs.Scopes.{Scope, find}
use Rattle.static_rules.specs.StatementActs.{number_or_zero}
use Rattle.typed_expressions.specs.Values.{condition, form, term}
use Rattle.typed_expressions.specs.TypedExpressions.{elaborate}
use Rattle.static_rules.specs.Variables.{behind_parameters}
use Rattle.guarded_commands.specs.Translation.{output}
use Rattle.guarded_commands.specs.declared.programs.Declaration.{Declaration}
use Rattle.guarded_commands.specs.declared.programs.VariableType.TheVariants as types
use Rattle.guarded_commands.specs.declared.programs.VariableType.{VariableType}
use Rattle.std.specs.Prelude.{Bool, List, [], map, ℕ}

-- The declared variables with their names, numbered from 0.
abbrev pub own_scope : List Declaration → Scope
own_scope ds = behind_parameters 0 [] (map output ds)

-- The HeyLo type of the variables of a type.
abbrev pub type_of : VariableType → Ty
type_of types.Bool = Ty.Bool
type_of types.Nat = Ty.UInt
type_of types.Real = Ty.UReal

-- `s` has a value of the right type for each declared variable.
abbrev pub IsGuardedState : List Declaration → List Val → Type 0
IsGuardedState ds s = IsTyped (map (λ d. type_of d.ty) ds) s

-- The place of the variable `x` in a state.
abbrev pub index_in : Scope → List ℕ → ℕ
index_in sc x = number_or_zero (find sc x)

-- Whether the guard `g` holds in the state `s`.
abbrev pub is_true : Scope → Expression → List Val → Bool
is_true sc g s = holds (condition (elaborate 0 sc g)) (environment s) Choices.stop

-- The number that the expression `e` denotes in the state `s`.
abbrev pub amount : Scope → Expression → List Val → Value
amount sc e s = value (form (elaborate 0 sc e)) (environment s) Choices.stop

-- The value that an assignment of the expression `e` gives to its variable, in the state `s`.
abbrev pub new_value : Scope → Expression → List Val → Val
new_value sc e s = term_value (term (elaborate 0 sc e)) (environment s)

-- The probability of the first block of a choice: the smaller one of 1 and the number that the
-- expression `p` denotes.
abbrev pub chance : Scope → Expression → List Val → Rational
chance sc p s = toss_weight (form (elaborate 0 sc p)) (environment s)
