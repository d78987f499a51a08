use Rattle.heyvl_parse.proofs.Readings.{unique}
use Rattle.heyvl_parse.proofs.SpellingLaws.{only_expression, only_expression_fault}
use Rattle.heyvl_parse.proofs.parser.parse_expr.Goals as goal

pub returns-clause-only : goal.returns-clause-only
returns-clause-only c = only_expression c.args.tokens.now unique c.expression_or_fault.result c.expression_or_fault.ensures.found c.expression_or_fault.ensures.fault

pub returns-clause-only_fault : goal.returns-clause-only_fault
returns-clause-only_fault c = only_expression_fault c.args.tokens.now c.expression_or_fault.result c.expression_or_fault.ensures.found c.expression_or_fault.ensures.fault
