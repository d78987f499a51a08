use Rattle.heyvl_parse.proofs.SequelLaws.{closed_gives}
use Rattle.heyvl_parse.proofs.procedures.params.Goals as goal
use Rattle.heyvl_parse.specs.readers.Combinators.{sign}
use Rattle.heyvl_parse.specs.readers.ReadParts.{is_mark}
use Rattle.heyvl_syntax.specs.declared.procedures.Param.{Param}
use Rattle.heyvl_syntax.specs.declared.marks.Mark.TheVariants as marks
use Rattle.std.proofs.Common.{Global, Vec, arith}
use Rattle.std.proofs.lemmas.Grind.{common_steps}

pub returns-in_err-found-clause-value : goal.returns-in_err-found-clause-value
returns-in_err-found-clause-value c = λ n h. rw (c.in_ok-rest.ensures.value) (grind (arith, common_steps, c.in_err-found.ensures.value n (omega (arith, c.in_ok-rest.ensures.shorter))))

pub returns-clause-value : goal.returns-clause-value
returns-clause-value c = λ n h. rw (c.in_ok-rest.ensures.value, c.in_ok-found.ensures.value n (omega (arith, c.in_ok-rest.ensures.shorter))) (closed_gives (λ (x : Vec (Param) Global). x.items) c.in_ok-found.found c.closed.result (sign (is_mark marks.ParenRight) c.in_ok-found.rest.now) c.closed.ensures.value)
