-- The elaboration of expressions, and the findings in them. `n` is the number of the next variable,
-- and `sc` the scope.
use Rattle.heyvl_places.specs.declared.spans.Span.{Span}
use Rattle.heyvl_syntax.specs.Expressions.{Expression}
use Rattle.heyvl_syntax.specs.declared.operators.BinaryOp.{BinaryOp}
use Rattle.std.specs.Option.{is_none}
use Rattle.std.specs.Prelude.{Bool, List, None, Option, Some, [], false, not, option_map, suc, true}
use Rattle.std.specs.Prelude.{◌++◌, ◌||◌, ◌∷◌, ℕ}
use Rattle.typed_expressions.specs.Findings.{Finding, at}
use Rattle.typed_expressions.specs.Scopes.{Scope, find, is_visible, with_local}
use Rattle.typed_expressions.specs.Table.{Meaning, binary, bracket, choice, constant, divisor}
use Rattle.typed_expressions.specs.Table.{embedding, factor, given, infinity, literal, meets}
use Rattle.typed_expressions.specs.Table.{quantified, quotient, unary, variable}
use Rattle.typed_expressions.specs.declared.demands.Demand.{Demand}
use Rattle.typed_expressions.specs.declared.demands.Front.{Front}

-- The place of an expression.
abbrev pub place : Expression → Span
place (Expression.number n s) = s
place (Expression.truth b s) = s
place (Expression.infinity s) = s
place (Expression.name x s) = s
place (Expression.group a s) = s
place (Expression.bracket a s) = s
place (Expression.embed a s) = s
place (Expression.unary op a s) = s
place (Expression.binary op a b s) = s
place (Expression.choice a b c s) = s
place (Expression.bound up x t a s) = s

-- An operator between two operands that are elaborated to `x` and `y`. In a division the second
-- operand `e` has to be a number literal, and `y` is not used.
abbrev pub operated : BinaryOp → Span → Expression → Meaning → Meaning → Option Meaning
operated BinaryOp.Slash s e x y = quotient (factor (divisor e)) x
operated op s e x y = binary op s x y

-- `elaborate n sc e`: the elaborated expression of `e`; nothing if a name is not visible, or if the
-- condition of a row of the table fails. Example: if `x` is a `UInt` with the number 0, `x + 1` is
-- elaborated to the sum of variable 0 and 1, of type `UInt`.
abbrev pub elaborate : ℕ → Scope → Expression → Option Meaning
elaborate n sc (Expression.number v s) = literal v
elaborate n sc (Expression.truth b s) = Some (constant b)
elaborate n sc (Expression.infinity s) = Some infinity
elaborate n sc (Expression.name x s) = option_map variable (find sc x)
elaborate n sc (Expression.group a s) = elaborate n sc a
elaborate n sc (Expression.bracket a s) = given (elaborate n sc a) bracket
elaborate n sc (Expression.embed a s) = given (elaborate n sc a) embedding
elaborate n sc (Expression.unary op a s) = given (elaborate n sc a) (unary op)
elaborate n sc (Expression.binary op a b s) =
    given (elaborate n sc a) (λ x. given (elaborate n sc b) (operated op s b x))
elaborate n sc (Expression.choice a b c s) = given (elaborate n sc a)
    (λ x. given (elaborate n sc b) (λ y. given (elaborate n sc c) (choice x y)))
elaborate n sc (Expression.bound up x t a s) = given
    (elaborate (suc n) (with_local x (record { number = n; ty = t }) sc) a) (quantified up n t)

-- ---- The rules of one node

-- Whether an expression is a name that is not visible.
abbrev pub is_unknown : Scope → Expression → Bool
is_unknown sc (Expression.name x s) = is_none (find sc x)
is_unknown sc e = false

-- Whether an expression is a quantifier whose name is already visible.
abbrev pub is_given_twice : Scope → Expression → Bool
is_given_twice sc (Expression.bound up x t a s) = is_visible sc x
is_given_twice sc e = false

-- Whether an elaborated expression is missing, or is not of a type that `d` allows.
abbrev pub lacks : Demand → Option Meaning → Bool
lacks d None = true
lacks d (Some m) = not (meets d m)

-- Whether an operator is `/` and its second operand is not a number literal other than 0.
abbrev pub divides_by : BinaryOp → Expression → Bool
divides_by BinaryOp.Slash b = is_none (divisor b)
divides_by op b = false

-- Whether an expression is a division whose divisor is not a number literal other than 0.
abbrev pub divides_wrong : Expression → Bool
divides_wrong (Expression.binary op a b s) = divides_by op b
divides_wrong e = false

-- Whether a quantifier may occur at this place; `up` holds for `sup`.
abbrev pub allows : Front → Bool → Bool
allows Front.Closed up = false
allows Front.Sup up = up
allows Front.Inf up = not up

-- Whether an expression is a quantifier at a place where it may not occur.
abbrev pub is_misplaced : Front → Expression → Bool
is_misplaced f (Expression.bound up x t a s) = not (allows f up)
is_misplaced f e = false

-- The findings at the node of an expression itself.
abbrev pub own : Front → Demand → ℕ → Scope → Expression → List Finding
own f d n sc e = at (place e)
    ((10, is_unknown sc e)
    ∷ (11, is_given_twice sc e)
    ∷ (12, lacks d (elaborate n sc e))
    ∷ (16, divides_wrong e)
    ∷ (23, is_misplaced f e)
    ∷ [])

-- ---- All nodes

-- The findings in an expression of which `d` is demanded: those in its parts in their order, then
-- those at its node. The body of a leading quantifier may begin with a quantifier too; no other
-- part may.
abbrev pub findings : Front → Demand → ℕ → Scope → Expression → List Finding
findings f d n sc (Expression.number v s) = own f d n sc (Expression.number v s)
findings f d n sc (Expression.truth b s) = own f d n sc (Expression.truth b s)
findings f d n sc (Expression.infinity s) = own f d n sc (Expression.infinity s)
findings f d n sc (Expression.name x s) = own f d n sc (Expression.name x s)
findings f d n sc (Expression.group a s) =
    findings Front.Closed Demand.Any n sc a ++ own f d n sc (Expression.group a s)
findings f d n sc (Expression.bracket a s) =
    findings Front.Closed Demand.Any n sc a ++ own f d n sc (Expression.bracket a s)
findings f d n sc (Expression.embed a s) =
    findings Front.Closed Demand.Any n sc a ++ own f d n sc (Expression.embed a s)
findings f d n sc (Expression.unary op a s) =
    findings Front.Closed Demand.Any n sc a ++ own f d n sc (Expression.unary op a s)
findings f d n sc (Expression.binary op a b s) = findings Front.Closed Demand.Any n sc a
    ++ findings Front.Closed Demand.Any n sc b ++ own f d n sc (Expression.binary op a b s)
findings f d n sc (Expression.choice a b c s) = findings Front.Closed Demand.Any n sc a
    ++ findings Front.Closed Demand.Any n sc b ++ findings Front.Closed Demand.Any n sc c
    ++ own f d n sc (Expression.choice a b c s)
findings f d n sc (Expression.bound up x t a s) = findings f Demand.Any (suc n)
    (with_local x (record { number = n; ty = t }) sc) a
    ++ own f d n sc (Expression.bound up x t a s)

-- The findings in an expression in which no quantifier may occur.
abbrev pub closed_findings : Demand → ℕ → Scope → Expression → List Finding
closed_findings d n sc e = findings Front.Closed d n sc e

-- ---- Quantifiers

-- Whether an expression has a quantifier anywhere.
abbrev pub has_quantifier : Expression → Bool
has_quantifier (Expression.number v s) = false
has_quantifier (Expression.truth b s) = false
has_quantifier (Expression.infinity s) = false
has_quantifier (Expression.name x s) = false
has_quantifier (Expression.group a s) = has_quantifier a
has_quantifier (Expression.bracket a s) = has_quantifier a
has_quantifier (Expression.embed a s) = has_quantifier a
has_quantifier (Expression.unary op a s) = has_quantifier a
has_quantifier (Expression.binary op a b s) = has_quantifier a || has_quantifier b
has_quantifier (Expression.choice a b c s) =
    has_quantifier a || has_quantifier b || has_quantifier c
has_quantifier (Expression.bound up x t a s) = true
