use Rattle.heyvl_parse.proofs.simple.var.Goals as goal
use Rattle.heyvl_parse.proofs.TypedNames.{typed_then}
use Rattle.heyvl_parse.specs.readers.Combinators.{optional}
use Rattle.heyvl_parse.specs.readers.ReadParts.{is_mark}
use Rattle.heyvl_parse.specs.internal.Statements.{given}
use Rattle.heyvl_syntax.specs.declared.marks.Mark.TheVariants as marks
use Rattle.std.proofs.Common.{arith, refl}
use Rattle.std.proofs.lemmas.Grind.{common_steps}
use Rattle.std.proofs.lemmas.List.{map-append}
use Rattle.heyvl_syntax.proofs.exported.PlainTreesAre.{plain_statements}
use Rattle.heyvl_syntax.specs.Statements.{statement}

pub returns-in_err-typed-clause-value : goal.returns-in_err-typed-clause-value
returns-in_err-typed-clause-value c = λ n h. rw (c.in_ok-rest.ensures.value, typed_then (optional (is_mark marks.Assign) (given n)) c.in_ok-rest.rest.now) (grind (arith, common_steps, c.in_err-typed.ensures.value))

pub returns-in_err-given-clause-value : goal.returns-in_err-given-clause-value
returns-in_err-given-clause-value c = λ n h. rw (c.in_ok-rest.ensures.value, typed_then (optional (is_mark marks.Assign) (given n)) c.in_ok-rest.rest.now, c.in_ok-typed.ensures.value) (grind (arith, common_steps, c.in_err-given.ensures.value n (omega (arith, c.in_ok-rest.ensures.shorter, c.in_ok-typed.ensures.shorter))))

pub returns-clause-value : goal.returns-clause-value
returns-clause-value c = λ n h. rw (c.in_ok-rest.ensures.value, typed_then (optional (is_mark marks.Assign) (given n)) c.in_ok-rest.rest.now, c.in_ok-typed.ensures.value, c.in_ok-given.ensures.value n (omega (arith, c.in_ok-rest.ensures.shorter, c.in_ok-typed.ensures.shorter)), c.push_reserved.ensures.items, c.in_ok-reserve.ensures.items, map-append statement) (rw (plain_statements.var c.in_ok-typed.typed.0 c.in_ok-typed.typed.1 c.in_ok-given.given c.span_between.result, c.span_between.ensures) refl)
