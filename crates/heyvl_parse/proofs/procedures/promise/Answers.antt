use Rattle.heyvl_parse.proofs.SequelLaws.{beside_gives, beside_short}
use Rattle.heyvl_parse.proofs.procedures.promise.Goals as goal
use Rattle.heyvl_parse.specs.readers.Combinators.{optional}
use Rattle.heyvl_parse.specs.readers.ReadParts.{is_mark}
use Rattle.heyvl_parse.specs.internal.Statements.{braced, stmts}
use Rattle.heyvl_syntax.specs.Expressions.{expressions}
use Rattle.heyvl_syntax.specs.Procedures.{optional_block}
use Rattle.heyvl_syntax.specs.declared.expressions.Expr.{Expr}
use Rattle.heyvl_syntax.specs.declared.marks.Mark.TheVariants as marks
use Rattle.std.proofs.Common.{Global, Vec, arith, length}

pub returns-clause-value : goal.returns-clause-value
returns-clause-value c = λ n h. rw (c.in_ok-found.ensures.value n h) (beside_gives (λ (x : Vec Expr Global × Vec Expr Global). (expressions x.0.items, expressions x.1.items)) optional_block c.in_ok-found.found c.body.result c.beside.result (optional (is_mark marks.BraceLeft) (braced (stmts n)) c.in_ok-found.rest.now) c.beside.ensures (c.body.ensures.value n (omega (arith, c.in_ok-found.ensures.shorter))))

pub returns-clause-shorter : goal.returns-clause-shorter
returns-clause-shorter c = beside_short c.in_ok-found.found c.body.result c.beside.result (length c.args.tokens.now) (length c.in_ok-found.rest.now) c.beside.ensures c.in_ok-found.ensures.shorter c.body.ensures.shorter
