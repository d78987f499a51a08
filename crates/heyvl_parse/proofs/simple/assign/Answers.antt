use Rattle.heyvl_parse.proofs.simple.assign.Goals as goal
use Rattle.heyvl_parse.proofs.LeafLaws.{alone_right}
use Rattle.heyvl_parse.specs.readers.Combinators.{taken}
use Rattle.heyvl_parse.specs.readers.ReadParts.{Bad, Got, Out, Read, ◌>>=◌}
use Rattle.heyvl_parse.specs.internal.Rights.{right}
use Rattle.heyvl_parse.specs.internal.Statements.{assign_tree, valued}
use Rattle.heyvl_syntax.specs.Productions.{extent}
use Rattle.heyvl_syntax.specs.Statements.{RightSide}
use Rattle.heyvl_syntax.specs.declared.tokens.Token.{Token}
use Rattle.std.proofs.Common.{List, arith, refl, sym, ◌≡◌, ℕ}
use Rattle.std.proofs.lemmas.Grind.{common_steps}
use Rattle.std.proofs.lemmas.List.{map-append}
use Rattle.heyvl_syntax.proofs.exported.PlainTreesAre.{plain_statements}
use Rattle.heyvl_syntax.specs.Statements.{statement}
use Rattle.heyvl_syntax.specs.declared.statements.Right.TheVariants as rights

tied : (targets : List (List ℕ)) (ts : List Token) (read : Read RightSide) → ((read >>= λ y r. Got (targets, y) r) >>= λ p r. Got (assign_tree p (extent (taken ts r))) r) ≡ valued targets ts read
tied targets ts (Got x r) = refl
tied targets ts (Bad r) = refl
tied targets ts Out = refl

pub returns-then-is_call-clause-value : goal.returns-then-is_call-clause-value
returns-then-is_call-clause-value c = λ n h. rw (← c.if-is_call.ensures) (c.call_alone.ensures.value n h)

pub returns-in_err-targets-clause-value : goal.returns-in_err-targets-clause-value
returns-in_err-targets-clause-value c = λ n h. rw (← c.if-is_call.ensures) (grind (arith, common_steps, c.in_err-targets.ensures.value n h))

pub returns-in_err-side-clause-value : goal.returns-in_err-side-clause-value
returns-in_err-side-clause-value c = λ n h. rw (← c.if-is_call.ensures, c.in_ok-targets.ensures.value n h) (grind (arith, common_steps, c.in_err-side.ensures.value))

pub returns-clause-value : goal.returns-clause-value
returns-clause-value c = λ n h. rw (← c.if-is_call.ensures, c.in_ok-targets.ensures.value n h, c.in_ok-side.ensures.value, tied c.in_ok-targets.targets.items c.args.tokens.now (right n c.in_ok-side.side.now)) (rw c.in_ok-reserve.ensures.items at (c.assign_right.ensures.value n (omega (arith, c.in_ok-targets.ensures.shorter, c.in_ok-side.ensures.shorter))))

pub returns-in_err-value-clause-value : goal.returns-in_err-value-clause-value
returns-in_err-value-clause-value c = λ n h. rw (← c.if-is_call.ensures, c.in_ok-targets.ensures.value n h, c.in_ok-side.ensures.value, alone_right c.in_ok-side.side.now (sym c.if-is_alone.ensures) n (omega (arith, c.in_ok-targets.ensures.shorter, c.in_ok-side.ensures.shorter))) (grind (arith, common_steps, c.in_err-value.ensures.value))

pub returns-then-is_alone-clause-value : goal.returns-then-is_alone-clause-value
returns-then-is_alone-clause-value c = λ n h. rw (← c.if-is_call.ensures, c.in_ok-targets.ensures.value n h, c.in_ok-side.ensures.value, alone_right c.in_ok-side.side.now (sym c.if-is_alone.ensures) n (omega (arith, c.in_ok-targets.ensures.shorter, c.in_ok-side.ensures.shorter)), c.in_ok-value.ensures.value, c.push_reserved.ensures.items, c.in_ok-reserve.ensures.items, map-append statement) (rw (plain_statements.assign c.in_ok-targets.targets (rights.Plain c.in_ok-value.value) c.span_between-place.result, c.span_between-place.ensures) refl)
