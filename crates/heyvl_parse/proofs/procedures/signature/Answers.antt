use Rattle.heyvl_parse.proofs.SequelLaws.{beside_gives, beside_shorter}
use Rattle.heyvl_parse.proofs.procedures.signature.Goals as goal
use Rattle.heyvl_parse.specs.readers.Combinators.{lead}
use Rattle.heyvl_parse.specs.internal.Procedures.{params}
use Rattle.heyvl_parse.specs.readers.ReadParts.{is_mark, pair}
use Rattle.heyvl_syntax.specs.declared.marks.Mark.TheVariants as marks
use Rattle.heyvl_syntax.specs.declared.procedures.Param.{Param}
use Rattle.std.proofs.Common.{Global, List, Vec, arith, length, ℕ}
use Rattle.std.proofs.lemmas.Grind.{common_steps}

pub returns-in_err-name-clause-value : goal.returns-in_err-name-clause-value
returns-in_err-name-clause-value c = λ n h. grind (arith, common_steps, c.in_err-name.ensures.value)

pub returns-clause-value : goal.returns-clause-value
returns-clause-value c = λ n h. rw (c.in_ok-name.ensures.value) (beside_gives (λ (x : List ℕ). x) (λ (x : Vec Param Global × Vec Param Global). (x.0.items, x.1.items)) c.in_ok-name.name c.ends.result c.beside.result (pair (params n) (lead (is_mark marks.Arrow) (params n)) c.in_ok-name.rest.now) c.beside.ensures (c.ends.ensures.value n (omega (arith, c.in_ok-name.ensures.shorter))))

pub returns-clause-shorter : goal.returns-clause-shorter
returns-clause-shorter c = beside_shorter c.in_ok-name.name c.ends.result c.beside.result (length c.args.tokens.now) (length c.in_ok-name.rest.now) c.beside.ensures (omega (arith, c.in_ok-name.ensures.shorter)) c.ends.ensures.shorter
