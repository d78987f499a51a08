use Rattle.heyvl_parse.proofs.LeafLaws.{alone_whole}
use Rattle.heyvl_parse.proofs.expressions.whole.Goals as goal
use Rattle.std.proofs.Common.{sym}

pub returns-then-is_alone-clause-value : goal.returns-then-is_alone-clause-value
returns-then-is_alone-clause-value c = λ n h. rw (alone_whole c.args.tokens.now (sym c.if-is_alone.ensures) n h) c.leaf.ensures.value
