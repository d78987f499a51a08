-- The law of elaborated expressions: they are well typed, and not much larger than the expressions.
use Rattle.heylo_formula.specs.Sizes.{nodes, nodes_in}
use Rattle.heylo_formula.specs.Typing.{Types, is_well_typed, type_of}
use Rattle.heyvl_syntax.specs.Expressions.{Expression}
use Rattle.heyvl_syntax.specs.Sizes.{nodes as expression_nodes}
use Rattle.std.specs.Prelude.{List, Some, true, ◌*◌, ◌<◌, ◌≡◌, ◌≤◌, ℕ}
use Rattle.typed_expressions.specs.Scopes.{Scope, find}
use Rattle.typed_expressions.specs.Table.{Meaning, declarable}
use Rattle.typed_expressions.specs.TypedExpressions.{elaborate}
use Rattle.typed_expressions.specs.declared.scopes.Local.{Local}

-- `Agrees types n sc`: each visible variable of `sc` has its declared type in `types`, which is one
-- that a variable may have, and a number below `n`, the number of the next variable.
pub record Agrees (types : Types) (n : ℕ) (sc : Scope) : Type 0 where
  pub declared : (x : List ℕ) (l : Local) → find sc x ≡ Some l
      → declarable l.ty ≡ Some (types l.number)
  pub below : (x : List ℕ) (l : Local) → find sc x ≡ Some l → l.number < n

-- A condition is well typed, and a formula is well typed and has the given type. A variable of type
-- `Real` never is.
abbrev pub IsTyped : Types → Meaning → Type 0
IsTyped types (Meaning.truth g) = is_well_typed types g ≡ true
IsTyped types (Meaning.number t a) = type_of types a ≡ Some t
IsTyped types Meaning.real = ⊥

-- The number of nodes of the condition or formula; 0 for a variable of type `Real`.
abbrev pub size : Meaning → ℕ
size (Meaning.truth g) = nodes_in g
size (Meaning.number t a) = nodes a
size Meaning.real = 0

-- An elaborated expression is well typed, and has at most twice as many nodes as the expression.
abbrev pub ExpressionsAreTyped : Type 0
ExpressionsAreTyped = (types : Types) (n : ℕ) (sc : Scope) → Agrees types n sc
    → (e : Expression) (m : Meaning) → elaborate n sc e ≡ Some m
    → IsTyped types m × (size m ≤ 2 * expression_nodes e)
