use Rattle.heyvl_parse.proofs.SequelLaws.{beside_gives, beside_shorter, parted_by}
use Rattle.heyvl_parse.proofs.rights.weighted.Goals as goal
use Rattle.heyvl_parse.specs.readers.ReadParts.{expr, is_mark}
use Rattle.heyvl_syntax.specs.Expressions.{expression}
use Rattle.heyvl_syntax.specs.declared.marks.Mark.TheVariants as marks
use Rattle.std.proofs.Common.{arith, length}
use Rattle.std.proofs.lemmas.Grind.{common_steps}

pub returns-in_err-weight-clause-value : goal.returns-in_err-weight-clause-value
returns-in_err-weight-clause-value c = λ n h. rw (parted_by (expr n) (is_mark marks.Colon) (expr n) c.args.tokens.now) (grind (arith, common_steps, c.in_err-weight.ensures.value n h))

pub returns-clause-value : goal.returns-clause-value
returns-clause-value c = λ n h. rw (parted_by (expr n) (is_mark marks.Colon) (expr n) c.args.tokens.now, c.in_ok-weight.ensures.value n h) (beside_gives expression expression c.in_ok-weight.weight c.whole.result c.beside.result (expr n c.in_ok-weight.rest.now) c.beside.ensures (c.whole.ensures.value n (omega (arith, c.in_ok-weight.ensures.shorter))))

pub returns-clause-shorter : goal.returns-clause-shorter
returns-clause-shorter c = beside_shorter c.in_ok-weight.weight c.whole.result c.beside.result (length c.args.tokens.now) (length c.in_ok-weight.rest.now) c.beside.ensures (omega (arith, c.in_ok-weight.ensures.shorter)) c.whole.ensures.shorter
