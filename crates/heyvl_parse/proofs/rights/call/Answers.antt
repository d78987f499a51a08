use Rattle.heyvl_parse.proofs.SequelLaws.{beside_gives, beside_shorter}
use Rattle.heyvl_parse.proofs.rights.call.Goals as goal
use Rattle.heyvl_parse.specs.internal.Rights.{arguments}
use Rattle.heyvl_syntax.specs.Expressions.{expressions}
use Rattle.heyvl_syntax.specs.declared.expressions.Expr.{Expr}
use Rattle.std.proofs.Common.{Global, List, Vec, arith, length, ℕ}

pub returns-clause-value : goal.returns-clause-value
returns-clause-value c = λ n h. rw (c.in_ok-name.ensures.value) (beside_gives (λ (x : List ℕ). x) (λ (x : Vec Expr Global). expressions x.items) c.in_ok-name.name c.arguments.result c.beside.result (arguments n c.in_ok-name.rest.now) c.beside.ensures (c.arguments.ensures.value n (omega (arith, c.in_ok-name.ensures.shorter))))

pub returns-clause-shorter : goal.returns-clause-shorter
returns-clause-shorter c = beside_shorter c.in_ok-name.name c.arguments.result c.beside.result (length c.args.tokens.now) (length c.in_ok-name.rest.now) c.beside.ensures (omega (arith, c.in_ok-name.ensures.shorter)) c.arguments.ensures.shorter
