use Rattle.guarded_commands.proofs.ReservedPlaces.{unreserved_all, unreserved_more}
use Rattle.guarded_commands.proofs.reserved_names.reserved_at.Goals as goal
use Rattle.std.proofs.Common.{sym, ◌∙◌}

pub tokens-preserved : goal.tokens-preserved
tokens-preserved c = unreserved_more c.args.declarations c.tokens.index c.args.tokens.now c.index-tokens-index.result c.tokens-test.true c.index-tokens-index.is (sym c.is_reserved.ensures ∙ c.if-is_reserved.false) c.tokens.invariant

pub returns : goal.returns
returns c = unreserved_all c.args.declarations c.tokens.index c.args.tokens.now c.tokens-test.false c.tokens.invariant
