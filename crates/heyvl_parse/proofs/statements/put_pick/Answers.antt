use Rattle.heyvl_parse.proofs.statements.put_pick.Goals as goal
use Rattle.std.proofs.Common.{refl}
use Rattle.std.proofs.lemmas.List.{map-append}
use Rattle.heyvl_syntax.proofs.exported.PlainTreesAre.{plain_statements}
use Rattle.heyvl_syntax.specs.Statements.{statement}

pub returns : goal.returns
returns c = rw (c.push_reserved.ensures.items, map-append statement) (rw (plain_statements.pick c.args.parts.0 c.args.parts.1 c.args.parts.2 c.args.place) refl)
