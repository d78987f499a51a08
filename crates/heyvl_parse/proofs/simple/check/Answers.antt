use Rattle.heyvl_parse.proofs.simple.check.Goals as goal
use Rattle.std.proofs.Common.{arith, refl}
use Rattle.std.proofs.lemmas.Grind.{common_steps}
use Rattle.std.proofs.lemmas.List.{map-append}
use Rattle.heyvl_syntax.proofs.exported.PlainTreesAre.{plain_statements}
use Rattle.heyvl_syntax.specs.Statements.{statement}

pub returns-in_err-claim-clause-value : goal.returns-in_err-claim-clause-value
returns-in_err-claim-clause-value c = λ n h. rw (c.in_ok-kind.ensures.value) (grind (arith, common_steps, c.in_err-claim.ensures.value n (omega (arith, c.in_ok-kind.ensures.shorter))))

pub returns-clause-value : goal.returns-clause-value
returns-clause-value c = λ n h. rw (c.in_ok-kind.ensures.value, c.in_ok-claim.ensures.value n (omega (arith, c.in_ok-kind.ensures.shorter)), c.push_reserved.ensures.items, c.in_ok-reserve.ensures.items, map-append statement) (rw (plain_statements.check c.in_ok-kind.kind c.in_ok-claim.claim c.span_between.result, c.span_between.ensures) refl)
