-- The variables that declarations introduce, and those of the leading quantifiers of expressions.
-- This project's own.
use Rattle.heylo_formula.specs.NamedVariables.{Variable}
use Rattle.heylo_formula.specs.declared.types.Ty.{Ty}
use Rattle.heyvl_syntax.specs.Expressions.{Expression}
use Rattle.heyvl_syntax.specs.declared.types.TypeName.{TypeName}
use Rattle.std.specs.Prelude.{List, None, Option, Some, [], ◌++◌, ◌∷◌, ℕ}
use Rattle.typed_expressions.specs.Table.{declarable}

-- The type of a variable; `Bool` if the declared type is none that a variable may have, which is an
-- error.
abbrev pub type_or_bool : Option Ty → Ty
type_or_bool (Some ty) = ty
type_or_bool None = Ty.Bool

-- The variable that is declared with the name `x` and the type `t`.
abbrev pub declared : List ℕ → TypeName → Variable
declared x t = record { name = x; ty = type_or_bool (declarable t) }

-- The variables of the leading quantifiers of an expression: of the quantifier that is the whole
-- expression, and of those that lead its body.
abbrev pub front_variables : Expression → List Variable
front_variables (Expression.bound up x t a s) = declared x t ∷ front_variables a
front_variables (Expression.number v s) = []
front_variables (Expression.truth b s) = []
front_variables (Expression.infinity s) = []
front_variables (Expression.name x s) = []
front_variables (Expression.group a s) = []
front_variables (Expression.bracket a s) = []
front_variables (Expression.embed a s) = []
front_variables (Expression.unary op a s) = []
front_variables (Expression.binary op a b s) = []
front_variables (Expression.choice a b c s) = []

-- The variables of the leading quantifiers of expressions, one expression after the other.
abbrev pub fronts_variables : List Expression → List Variable
fronts_variables [] = []
fronts_variables (e ∷ es) = front_variables e ++ fronts_variables es
