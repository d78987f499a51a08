use Rattle.heyvl_parse.specs.readers.ReadParts.{expr}
use Rattle.heyvl_parse.proofs.SequelLaws.{beside_gives, beside_shorter}
use Rattle.heyvl_parse.proofs.procedures.clause.Goals as goal
use Rattle.heyvl_syntax.specs.Expressions.{expression}
use Rattle.std.proofs.Common.{Bool, arith, length}
use Rattle.std.proofs.lemmas.Grind.{common_steps}

pub returns-in_err-post-clause-value : goal.returns-in_err-post-clause-value
returns-in_err-post-clause-value c = λ n h. grind (arith, common_steps, c.in_err-post.ensures.value)

pub returns-clause-value : goal.returns-clause-value
returns-clause-value c = λ n h. rw (c.in_ok-post.ensures.value) (beside_gives (λ (x : Bool). x) expression c.in_ok-post.post c.whole.result c.beside.result (expr n c.in_ok-post.rest.now) c.beside.ensures (c.whole.ensures.value n (omega (arith, c.in_ok-post.ensures.shorter))))

pub returns-clause-shorter : goal.returns-clause-shorter
returns-clause-shorter c = beside_shorter c.in_ok-post.post c.whole.result c.beside.result (length c.args.tokens.now) (length c.in_ok-post.rest.now) c.beside.ensures (omega (arith, c.in_ok-post.ensures.shorter)) c.whole.ensures.shorter
