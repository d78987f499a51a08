-- Equations of the plain trees of expressions and statements, one for each variant.
use Rattle.heyvl_places.specs.declared.checks.CheckKind.{CheckKind}
use Rattle.heyvl_places.specs.declared.spans.Span.{Span}
use Rattle.heyvl_syntax.specs.Expressions.{Expression, expression}
use Rattle.heyvl_syntax.specs.Statements.{Statement, arms, block, guarded, loop_rules}
use Rattle.heyvl_syntax.specs.Statements.{optional_right, right_side, statement}
use Rattle.heyvl_syntax.specs.declared.expressions.Expr.TheVariants as exprs
use Rattle.heyvl_syntax.specs.declared.expressions.Expr.{Expr}
use Rattle.heyvl_syntax.specs.declared.literals.Lit.{Lit}
use Rattle.heyvl_syntax.specs.declared.operators.BinaryOp.{BinaryOp}
use Rattle.heyvl_syntax.specs.declared.operators.UnaryOp.{UnaryOp}
use Rattle.heyvl_syntax.specs.declared.statements.Arm.{Arm}
use Rattle.heyvl_syntax.specs.declared.statements.Right.{Right}
use Rattle.heyvl_syntax.specs.declared.statements.Rule.{Rule}
use Rattle.heyvl_syntax.specs.declared.statements.Stmt.TheVariants as stmts
use Rattle.heyvl_syntax.specs.declared.statements.Stmt.{Stmt}
use Rattle.heyvl_syntax.specs.declared.types.TypeName.{TypeName}
use Rattle.std.specs.Prelude.{Bool, List, Option, Vec, ◌≡◌, ℕ}
use Rattle.std.specs.declared.alloc.Global.{Global}
use Rattle.std.specs.declared.boxed.Box.{Box}

-- The plain tree of each variant of an expression.
pub record PlainExpressions : Type 0 where
  pub number : (n : Lit) (s : Span) → expression (exprs.Number n s) ≡ Expression.number n s
  pub truth : (v : Bool) (s : Span) → expression (exprs.Truth v s) ≡ Expression.truth v s
  pub infinity : (s : Span) → expression (exprs.Infinity s) ≡ Expression.infinity s
  pub name : (x : List ℕ) (s : Span) → expression (exprs.Name x s) ≡ Expression.name x s
  pub group : (a : Box Expr Global) (s : Span)
      → expression (exprs.Group a s) ≡ Expression.group (expression a.value) s
  pub bracket : (a : Box Expr Global) (s : Span)
      → expression (exprs.Bracket a s) ≡ Expression.bracket (expression a.value) s
  pub embed : (a : Box Expr Global) (s : Span)
      → expression (exprs.Embed a s) ≡ Expression.embed (expression a.value) s
  pub unary : (op : UnaryOp) (a : Box Expr Global) (s : Span)
      → expression (exprs.Unary op a s) ≡ Expression.unary op (expression a.value) s
  pub binary : (op : BinaryOp) (a b : Box Expr Global) (s : Span)
      → expression (exprs.Binary op a b s)
      ≡ Expression.binary op (expression a.value) (expression b.value) s
  pub choice : (a b c : Box Expr Global) (s : Span)
      → expression (exprs.Choice a b c s)
      ≡ Expression.choice (expression a.value) (expression b.value) (expression c.value) s
  pub bound : (up : Bool) (x : List ℕ) (t : TypeName) (a : Box Expr Global) (s : Span)
      → expression (exprs.Bound up x t a s) ≡ Expression.bound up x t (expression a.value) s

-- The plain tree of each variant of a statement, and of an arm.
pub record PlainStatements : Type 0 where
  pub var : (x : List ℕ) (t : TypeName) (r : Option Right) (s : Span)
      → statement (stmts.Var x t r s) ≡ Statement.var x t (optional_right r) s
  pub assign : (xs : Vec (List ℕ) Global) (r : Right) (s : Span)
      → statement (stmts.Assign xs r s) ≡ Statement.assign xs.items (right_side r) s
  pub check : (kind : CheckKind) (a : Expr) (s : Span)
      → statement (stmts.Check kind a s) ≡ Statement.check kind (expression a) s
  pub validate : (co : Bool) (s : Span) → statement (stmts.Validate co s) ≡ Statement.validate co s
  pub havoc : (co : Bool) (xs : Vec (List ℕ) Global) (s : Span)
      → statement (stmts.Havoc co xs s) ≡ Statement.havoc co xs.items s
  pub reward : (a : Expr) (s : Span)
      → statement (stmts.Reward a s) ≡ Statement.reward (expression a) s
  pub branch : (xs : Vec Arm Global) (b : Vec Stmt Global) (s : Span)
      → statement (stmts.If xs b s) ≡ Statement.branch (arms xs.items) (block b.items) s
  pub pick : (up : Bool) (a b : Vec Stmt Global) (s : Span)
      → statement (stmts.Pick up a b s) ≡ Statement.pick up (block a.items) (block b.items) s
  pub loop : (rs : Vec Rule Global) (g : Expr) (b : Vec Stmt Global) (s : Span)
      → statement (stmts.While rs g b s)
      ≡ Statement.loop (loop_rules rs.items) (expression g) (block b.items) s
  pub guarded : (a : Arm) → guarded a ≡ (expression a.guard, block a.body.items)
