use Rattle.heyvl_parse.proofs.simple.call_alone.Goals as goal
use Rattle.std.proofs.Common.{arith, refl}
use Rattle.std.proofs.lemmas.Grind.{common_steps}
use Rattle.std.proofs.lemmas.List.{map-append}
use Rattle.heyvl_syntax.proofs.exported.PlainTreesAre.{plain_statements}
use Rattle.heyvl_syntax.specs.Statements.{statement}
use Rattle.heyvl_syntax.specs.declared.statements.Right.TheVariants as rights

pub returns-in_err-made-clause-value : goal.returns-in_err-made-clause-value
returns-in_err-made-clause-value c = λ n h. grind (arith, common_steps, c.in_err-made.ensures.value n h)

pub returns-clause-value : goal.returns-clause-value
returns-clause-value c = λ n h. rw (c.in_ok-made.ensures.value n h, c.push_reserved.ensures.items, c.in_ok-reserve.ensures.items, map-append statement) (rw (plain_statements.assign c.new.result (rights.Call c.in_ok-made.made.0 c.in_ok-made.made.1) c.span_between.result, c.span_between.ensures, c.new.ensures.items) refl)
