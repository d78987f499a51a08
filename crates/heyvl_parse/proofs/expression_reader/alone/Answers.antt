use Rattle.heyvl_parse.proofs.WholeLaws.{ended_bad, ended_fails, ended_good}
use Rattle.heyvl_parse.proofs.expression_reader.alone.Goals as goal
use Rattle.heyvl_parse.specs.readers.ReadParts.{expr}
use Rattle.heyvl_syntax.specs.Expressions.{expression}
use Rattle.std.proofs.Common.{arith, refl}
use Rattle.std.proofs.lemmas.Grind.{common_steps}

pub returns-in_err-found : goal.returns-in_err-found
returns-in_err-found c = record {
  value = λ n h. grind (arith, common_steps, ended_fails c.in_err-found.field-0.0 (expr n) c.args.tokens.now (c.in_err-found.ensures.value n h));
}

pub returns-in-None : goal.returns-in-None
returns-in-None c = record {
  value = λ n h. ended_good (expr n) c.args.tokens.now c.in_ok-found.rest.now (expression c.in_ok-found.found) (c.in_ok-found.ensures.value n h) c.in-None.ensures.cases;
}

pub returns-in-Some : goal.returns-in-Some
returns-in-Some c = record {
  value = λ n h. (c.in_ok-found.rest.now, ended_bad (expr n) c.args.tokens.now c.in_ok-found.rest.now _ _ (expression c.in_ok-found.found) (c.in_ok-found.ensures.value n h) c.in-Some.ensures.cases.0, refl);
}
