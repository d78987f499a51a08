-- Expressions as plain trees, and the plain tree of an expression of the code.
use Rattle.heyvl_places.specs.declared.spans.Span.{Span}
use Rattle.heyvl_syntax.specs.declared.expressions.Expr.TheFolds.{fold-Expr}
use Rattle.heyvl_syntax.specs.declared.expressions.Expr.TheOpen.{Expr-F as Layer}
use Rattle.heyvl_syntax.specs.declared.expressions.Expr.{Expr}
use Rattle.heyvl_syntax.specs.declared.literals.Lit.{Lit}
use Rattle.heyvl_syntax.specs.declared.operators.BinaryOp.{BinaryOp}
use Rattle.heyvl_syntax.specs.declared.operators.UnaryOp.{UnaryOp}
use Rattle.heyvl_syntax.specs.declared.types.TypeName.{TypeName}
use Rattle.std.specs.Prelude.{Bool, List, map, ℕ}

-- An expression. Each node has its place in the bytes. The flag of `bound` is true for `sup`, and
-- false for `inf`.
pub data Expression : Type 0 where
  number : Lit → Span → Expression
  truth : Bool → Span → Expression
  infinity : Span → Expression
  name : List ℕ → Span → Expression
  group : Expression → Span → Expression
  bracket : Expression → Span → Expression
  embed : Expression → Span → Expression
  unary : UnaryOp → Expression → Span → Expression
  binary : BinaryOp → Expression → Expression → Span → Expression
  choice : Expression → Expression → Expression → Span → Expression
  bound : Bool → List ℕ → TypeName → Expression → Span → Expression

-- The plain tree of a node whose subtrees are plain trees already.
abbrev pub expression_layer : Layer Expression → Expression
expression_layer (Layer.Number n s) = Expression.number n s
expression_layer (Layer.Truth b s) = Expression.truth b s
expression_layer (Layer.Infinity s) = Expression.infinity s
expression_layer (Layer.Name x s) = Expression.name x s
expression_layer (Layer.Group a s) = Expression.group a.value s
expression_layer (Layer.Bracket a s) = Expression.bracket a.value s
expression_layer (Layer.Embed a s) = Expression.embed a.value s
expression_layer (Layer.Unary op a s) = Expression.unary op a.value s
expression_layer (Layer.Binary op a b s) = Expression.binary op a.value b.value s
expression_layer (Layer.Choice a b c s) = Expression.choice a.value b.value c.value s
expression_layer (Layer.Bound up x t a s) = Expression.bound up x t a.value s

-- The plain tree of an expression.
abbrev pub expression : Expr → Expression
expression = fold-Expr Expression expression_layer

-- The plain trees of expressions, in their order.
abbrev pub expressions : List Expr → List Expression
expressions = map expression
