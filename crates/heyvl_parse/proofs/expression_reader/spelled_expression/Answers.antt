use Rattle.heyvl_parse.proofs.RightLaws.{expr_laws}
use Rattle.heyvl_parse.proofs.WholeLaws.{ended_laws, fault_clause, found_clause}
use Rattle.heyvl_parse.proofs.expression_reader.spelled_expression.Goals as goal
use Rattle.heyvl_parse.specs.internal.ExpressionReaders.{only_expr}
use Rattle.heyvl_syntax.specs.Expressions.{expression}
use Rattle.heyvl_syntax.specs.Grammar.{IsFull}

pub returns-clause-found : goal.returns-clause-found
returns-clause-found c = found_clause IsFull only_expr (λ n. ended_laws (expr_laws n)) expression c.args.tokens.now c.alone.result c.alone.ensures.value

pub returns-clause-fault : goal.returns-clause-fault
returns-clause-fault c = fault_clause IsFull only_expr (λ n. ended_laws (expr_laws n)) expression c.args.tokens.now c.alone.result c.alone.ensures.value
