use Rattle.heyvl_parse.proofs.simple.validate.Goals as goal
use Rattle.std.proofs.Common.{refl}
use Rattle.std.proofs.lemmas.List.{map-append}
use Rattle.heyvl_syntax.proofs.exported.PlainTreesAre.{plain_statements}
use Rattle.heyvl_syntax.specs.Statements.{statement}

pub returns-clause-value : goal.returns-clause-value
returns-clause-value c = rw (c.in_ok-co.ensures.value, c.push_reserved.ensures.items, c.in_ok-reserve.ensures.items, map-append statement) (rw (plain_statements.validate c.in_ok-co.co c.span_between.result, c.span_between.ensures) refl)
