use Rattle.heyvl_parse.proofs.SequelLaws.{closed_gives}
use Rattle.heyvl_parse.proofs.rights.expr_before.Goals as goal
use Rattle.heyvl_parse.specs.readers.Combinators.{sign}
use Rattle.heyvl_parse.specs.readers.ReadParts.{is_mark}
use Rattle.heyvl_syntax.specs.Expressions.{expression}

pub returns-clause-value : goal.returns-clause-value
returns-clause-value c = λ n h. rw (c.in_ok-found.ensures.value n h) (closed_gives expression c.in_ok-found.found c.closed.result (sign (is_mark c.args.mark) c.in_ok-found.rest.now) c.closed.ensures.value)
