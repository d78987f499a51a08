use Rattle.heyvl_parse.proofs.simple.havoc.Goals as goal
use Rattle.std.proofs.Common.{arith, refl}
use Rattle.std.proofs.lemmas.Grind.{common_steps}
use Rattle.std.proofs.lemmas.List.{map-append}
use Rattle.heyvl_syntax.proofs.exported.PlainTreesAre.{plain_statements}
use Rattle.heyvl_syntax.specs.Statements.{statement}

pub returns-in_err-targets-clause-value : goal.returns-in_err-targets-clause-value
returns-in_err-targets-clause-value c = λ n h. rw (c.in_ok-co.ensures.value) (grind (arith, common_steps, c.in_err-targets.ensures.value n (omega (arith, c.in_ok-co.ensures.shorter))))

pub returns-clause-value : goal.returns-clause-value
returns-clause-value c = λ n h. rw (c.in_ok-co.ensures.value, c.in_ok-targets.ensures.value n (omega (arith, c.in_ok-co.ensures.shorter)), c.push_reserved.ensures.items, c.in_ok-reserve.ensures.items, map-append statement) (rw (plain_statements.havoc c.in_ok-co.co c.in_ok-targets.targets c.span_between.result, c.span_between.ensures) refl)
