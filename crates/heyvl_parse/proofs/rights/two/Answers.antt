use Rattle.heyvl_parse.proofs.SequelLaws.{beside_gives, beside_shorter, parted_by}
use Rattle.heyvl_parse.proofs.rights.two.Goals as goal
use Rattle.heyvl_parse.specs.readers.Combinators.{trail}
use Rattle.heyvl_parse.specs.readers.ReadParts.{expr, is_mark}
use Rattle.heyvl_syntax.specs.Expressions.{expression}
use Rattle.heyvl_syntax.specs.declared.marks.Mark.TheVariants as marks
use Rattle.std.proofs.Common.{arith, length}
use Rattle.std.proofs.lemmas.Grind.{common_steps}

pub returns-in_err-first-clause-value : goal.returns-in_err-first-clause-value
returns-in_err-first-clause-value c = λ n h. rw (c.in_ok-rest.ensures.value, parted_by (expr n) (is_mark marks.Comma) (trail (expr n) (is_mark marks.ParenRight)) c.in_ok-rest.rest.now) (grind (arith, common_steps, c.in_err-first.ensures.value n (omega (arith, c.in_ok-rest.ensures.shorter))))

pub returns-clause-value : goal.returns-clause-value
returns-clause-value c = λ n h. rw (c.in_ok-rest.ensures.value, parted_by (expr n) (is_mark marks.Comma) (trail (expr n) (is_mark marks.ParenRight)) c.in_ok-rest.rest.now, c.in_ok-first.ensures.value n (omega (arith, c.in_ok-rest.ensures.shorter))) (beside_gives expression expression c.in_ok-first.first c.expr_before-2.result c.beside.result (trail (expr n) (is_mark marks.ParenRight) c.in_ok-first.rest.now) c.beside.ensures (c.expr_before-2.ensures.value n (omega (arith, c.in_ok-rest.ensures.shorter, c.in_ok-first.ensures.shorter))))

pub returns-clause-shorter : goal.returns-clause-shorter
returns-clause-shorter c = beside_shorter c.in_ok-first.first c.expr_before-2.result c.beside.result (length c.args.tokens.now) (length c.in_ok-first.rest.now) c.beside.ensures (omega (arith, c.in_ok-rest.ensures.shorter, c.in_ok-first.ensures.shorter)) c.expr_before-2.ensures.shorter
