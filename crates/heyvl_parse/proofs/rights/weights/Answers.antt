use Rattle.heyvl_parse.proofs.SequelLaws.{closed_gives}
use Rattle.heyvl_parse.proofs.rights.weights.Goals as goal
use Rattle.heyvl_parse.specs.readers.Combinators.{sign}
use Rattle.heyvl_parse.specs.readers.ReadParts.{is_mark}
use Rattle.heyvl_syntax.specs.Statements.{choices}
use Rattle.heyvl_syntax.specs.declared.expressions.Expr.{Expr}
use Rattle.heyvl_syntax.specs.declared.marks.Mark.TheVariants as marks
use Rattle.std.proofs.Common.{Global, Vec, arith}
use Rattle.std.proofs.lemmas.Grind.{common_steps}

pub returns-in_err-parts-clause-value : goal.returns-in_err-parts-clause-value
returns-in_err-parts-clause-value c = λ n h. rw (c.in_ok-rest.ensures.value) (grind (arith, common_steps, c.in_err-parts.ensures.value n (omega (arith, c.in_ok-rest.ensures.shorter))))

pub returns-clause-value : goal.returns-clause-value
returns-clause-value c = λ n h. rw (c.in_ok-rest.ensures.value, c.in_ok-parts.ensures.value n (omega (arith, c.in_ok-rest.ensures.shorter))) (closed_gives (λ (x : Vec (Expr × Expr) Global). choices x.items) c.in_ok-parts.parts c.closed.result (sign (is_mark marks.BraceRight) c.in_ok-parts.rest.now) c.closed.ensures.value)
