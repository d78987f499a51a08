-- The size of a file: the number of nodes of its expressions. This project's own.
use Rattle.heyvl_syntax.specs.Expressions.{Expression}
use Rattle.heyvl_syntax.specs.Grammar.{IsFile}
use Rattle.heyvl_syntax.specs.Procedures.{Procedure}
use Rattle.heyvl_syntax.specs.Statements.{Arms, Block, LoopRule, RightSide, Statement}
use Rattle.heyvl_syntax.specs.declared.tokens.Token.{Token}
use Rattle.std.specs.List.{sum_by}
use Rattle.std.specs.Prelude.{List, None, Option, Some, length, ◌+◌, ◌≤◌, ℕ}

-- The number of nodes of an expression.
abbrev pub nodes : Expression → ℕ
nodes (Expression.number n s) = 1
nodes (Expression.truth b s) = 1
nodes (Expression.infinity s) = 1
nodes (Expression.name x s) = 1
nodes (Expression.group a s) = 1 + nodes a
nodes (Expression.bracket a s) = 1 + nodes a
nodes (Expression.embed a s) = 1 + nodes a
nodes (Expression.unary op a s) = 1 + nodes a
nodes (Expression.binary op a b s) = 1 + nodes a + nodes b
nodes (Expression.choice a b c s) = 1 + nodes a + nodes b + nodes c
nodes (Expression.bound up x t a s) = 1 + nodes a

-- The number of nodes of a list of expressions.
abbrev pub nodes_of_all : List Expression → ℕ
nodes_of_all = sum_by nodes

-- The number of nodes of the expressions of a right side.
abbrev pub nodes_of_right : RightSide → ℕ
nodes_of_right (RightSide.plain a) = nodes a
nodes_of_right (RightSide.flip p) = nodes p
nodes_of_right (RightSide.unif a b) = nodes a + nodes b
nodes_of_right (RightSide.choose parts) = sum_by (λ part. nodes part.0 + nodes part.1) parts
nodes_of_right (RightSide.call f arguments) = nodes_of_all arguments

-- The number of nodes of the expressions of a right side; 0 if there is none.
abbrev pub nodes_of_optional : Option RightSide → ℕ
nodes_of_optional None = 0
nodes_of_optional (Some r) = nodes_of_right r

-- The number of nodes of the expressions of a loop annotation.
abbrev pub nodes_of_rule : LoopRule → ℕ
nodes_of_rule (LoopRule.invariant i s) = nodes i
nodes_of_rule (LoopRule.k_induction k i s) = nodes k + nodes i
nodes_of_rule (LoopRule.ranking e r s) = nodes e + nodes r

abbrev mutual
  -- The number of nodes of the expressions of a statement.
  pub nodes_of_statement : Statement → ℕ
  nodes_of_statement (Statement.var x t r s) = nodes_of_optional r
  nodes_of_statement (Statement.assign xs r s) = nodes_of_right r
  nodes_of_statement (Statement.check kind a s) = nodes a
  nodes_of_statement (Statement.validate co s) = 0
  nodes_of_statement (Statement.havoc co xs s) = 0
  nodes_of_statement (Statement.reward a s) = nodes a
  nodes_of_statement (Statement.branch arms other s) = nodes_of_arms arms + nodes_of_block other
  nodes_of_statement (Statement.pick up a b s) = nodes_of_block a + nodes_of_block b
  nodes_of_statement (Statement.loop rules g b s) =
      sum_by nodes_of_rule rules + nodes g + nodes_of_block b

  -- The number of nodes of the expressions of a block.
  pub nodes_of_block : Block → ℕ
  nodes_of_block Block.done = 0
  nodes_of_block (Block.next x xs) = nodes_of_statement x + nodes_of_block xs

  -- The number of nodes of the expressions of arms, including their guards.
  pub nodes_of_arms : Arms → ℕ
  nodes_of_arms Arms.no_arm = 0
  nodes_of_arms (Arms.arm g b more) = nodes g + nodes_of_block b + nodes_of_arms more

-- The number of nodes of the expressions of a body; 0 if there is none.
abbrev pub nodes_of_body : Option Block → ℕ
nodes_of_body None = 0
nodes_of_body (Some b) = nodes_of_block b

-- The number of nodes of the expressions of a procedure.
abbrev pub nodes_of_procedure : Procedure → ℕ
nodes_of_procedure p = nodes_of_all p.pres + nodes_of_all p.posts + nodes_of_body p.body

-- The number of nodes of all expressions of a file.
abbrev pub expression_nodes : List Procedure → ℕ
expression_nodes = sum_by nodes_of_procedure

-- The expressions of a file have together at most as many nodes as the file has tokens.
abbrev pub ExpressionsAreFew : Type 0
ExpressionsAreFew = (file : List Procedure) (tokens : List Token) → IsFile file tokens
    → expression_nodes file ≤ length tokens
