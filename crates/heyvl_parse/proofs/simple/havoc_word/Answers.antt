use Rattle.heyvl_parse.proofs.Keys.{keyed, keyless}
use Rattle.heyvl_parse.proofs.simple.havoc_word.Goals as goal
use Rattle.heyvl_parse.specs.internal.Statements.{key_havoc}
use Rattle.std.proofs.Common.{arith}
use Rattle.std.proofs.lemmas.Grind.{common_steps}

pub returns-in_err-key-clause-value : goal.returns-in_err-key-clause-value
returns-in_err-key-clause-value c = grind (arith, common_steps, keyless key_havoc c.in_err-key.field-0.0 c.args.tokens.now c.in_err-key.ensures.value)

pub returns-clause-value : goal.returns-clause-value
returns-clause-value c = rw (keyed key_havoc c.args.tokens.now c.in_ok-key.rest.now c.in_ok-key.key c.in_ok-key.ensures.value, ← c.havoc_of.ensures) c.known.ensures.value
