use Rattle.heyvl_syntax.proofs.Tables.{key_found}
use Rattle.heyvl_syntax.proofs.keys.key_of.Goals as goal

pub returns-in-Some : goal.returns-in-Some
returns-in-Some c =
    key_found c.args.text.now c.in-Some.first.now c.in-Some.field-0-1.now c.keys_from.result.now c.key_among.result c.in-Some.ensures.cases.0 c.keys_from.ensures c.key_among.ensures
