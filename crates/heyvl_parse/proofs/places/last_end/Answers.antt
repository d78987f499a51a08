use Rattle.heyvl_parse.proofs.Ends.{ends_nowhere, ends_with}
use Rattle.heyvl_parse.proofs.places.last_end.Goals as goal
use Rattle.std.proofs.Common.{sym}

pub returns-in-None : goal.returns-in-None
returns-in-None c = sym (ends_nowhere c.args.tokens.now c.in-None.ensures.cases)

pub returns-in-Some : goal.returns-in-Some
returns-in-Some c = sym (ends_with c.args.tokens.now _ _ c.in-Some.ensures.cases.0)
