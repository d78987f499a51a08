-- The equations of plain trees.
use Rattle.heyvl_syntax.specs.Expressions.{expression}
use Rattle.heyvl_syntax.specs.PlainTrees.{PlainExpressions, PlainStatements}
use Rattle.heyvl_syntax.specs.Statements.{statement}
use Rattle.heyvl_syntax.specs.declared.expressions.Expr.TheFolds.{fold-roll-Expr}
use Rattle.heyvl_syntax.specs.declared.expressions.Expr.TheVariants as exprs
use Rattle.heyvl_syntax.specs.declared.statements.Stmt.TheFolds.{fold-roll-Arm, fold-roll-Stmt}
use Rattle.heyvl_syntax.specs.declared.statements.Stmt.TheVariants as stmts
use Rattle.std.proofs.Common.{ap, sym, ◌∙◌}

pub plain_expressions : PlainExpressions
plain_expressions = record {
  number = λ n s. ap expression (sym (exprs.rolls-Number n s)) ∙ fold-roll-Expr _ _ _;
  truth = λ v s. ap expression (sym (exprs.rolls-Truth v s)) ∙ fold-roll-Expr _ _ _;
  infinity = λ s. ap expression (sym (exprs.rolls-Infinity s)) ∙ fold-roll-Expr _ _ _;
  name = λ x s. ap expression (sym (exprs.rolls-Name x s)) ∙ fold-roll-Expr _ _ _;
  group = λ a s. ap expression (sym (exprs.rolls-Group a s)) ∙ fold-roll-Expr _ _ _;
  bracket = λ a s. ap expression (sym (exprs.rolls-Bracket a s)) ∙ fold-roll-Expr _ _ _;
  embed = λ a s. ap expression (sym (exprs.rolls-Embed a s)) ∙ fold-roll-Expr _ _ _;
  unary = λ op a s. ap expression (sym (exprs.rolls-Unary op a s)) ∙ fold-roll-Expr _ _ _;
  binary = λ op a b s. ap expression (sym (exprs.rolls-Binary op a b s)) ∙ fold-roll-Expr _ _ _;
  choice = λ a b c s. ap expression (sym (exprs.rolls-Choice a b c s)) ∙ fold-roll-Expr _ _ _;
  bound = λ up x t a s. ap expression (sym (exprs.rolls-Bound up x t a s)) ∙ fold-roll-Expr _ _ _;
}

pub plain_statements : PlainStatements
plain_statements = record {
  var = λ x t r s. ap statement (sym (stmts.rolls-Var x t r s)) ∙ fold-roll-Stmt _ _ _ _ _;
  assign = λ xs r s. ap statement (sym (stmts.rolls-Assign xs r s)) ∙ fold-roll-Stmt _ _ _ _ _;
  check = λ kind a s. ap statement (sym (stmts.rolls-Check kind a s)) ∙ fold-roll-Stmt _ _ _ _ _;
  validate = λ co s. ap statement (sym (stmts.rolls-Validate co s)) ∙ fold-roll-Stmt _ _ _ _ _;
  havoc = λ co xs s. ap statement (sym (stmts.rolls-Havoc co xs s)) ∙ fold-roll-Stmt _ _ _ _ _;
  reward = λ a s. ap statement (sym (stmts.rolls-Reward a s)) ∙ fold-roll-Stmt _ _ _ _ _;
  branch = λ xs b s. ap statement (sym (stmts.rolls-If xs b s)) ∙ fold-roll-Stmt _ _ _ _ _;
  pick = λ up a b s. ap statement (sym (stmts.rolls-Pick up a b s)) ∙ fold-roll-Stmt _ _ _ _ _;
  loop = λ rs g b s. ap statement (sym (stmts.rolls-While rs g b s)) ∙ fold-roll-Stmt _ _ _ _ _;
  guarded = λ a. fold-roll-Arm _ _ _ _ _;
}
