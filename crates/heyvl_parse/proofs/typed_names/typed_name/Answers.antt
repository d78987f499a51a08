use Rattle.heyvl_parse.proofs.SequelLaws.{beside_gives, beside_shorter, parted_by}
use Rattle.heyvl_parse.proofs.typed_names.typed_name.Goals as goal
use Rattle.heyvl_parse.specs.readers.ReadParts.{is_mark, type_name, word}
use Rattle.heyvl_syntax.specs.declared.marks.Mark.TheVariants as marks
use Rattle.heyvl_syntax.specs.declared.types.TypeName.{TypeName}
use Rattle.std.proofs.Common.{List, arith, length, ℕ}
use Rattle.std.proofs.lemmas.Grind.{common_steps}

pub returns-in_err-name-clause-value : goal.returns-in_err-name-clause-value
returns-in_err-name-clause-value c = grind (arith, common_steps, c.in_err-name.ensures.value)

pub returns-in_err-name-2-clause-value : goal.returns-in_err-name-2-clause-value
returns-in_err-name-2-clause-value c = rw (parted_by word (is_mark marks.Colon) type_name c.args.tokens.now, c.in_ok-name.ensures.value) (grind (arith, common_steps, c.in_err-name-2.ensures.value))

pub returns-clause-value : goal.returns-clause-value
returns-clause-value c = rw (parted_by word (is_mark marks.Colon) type_name c.args.tokens.now, c.in_ok-name.ensures.value, c.in_ok-name-2.ensures.value) (beside_gives (λ (x : List ℕ). x) (λ (x : TypeName). x) c.in_ok-name-2.name c.type_name.result c.beside.result (type_name c.in_ok-name-2.rest.now) c.beside.ensures c.type_name.ensures.value)

pub returns-clause-shorter : goal.returns-clause-shorter
returns-clause-shorter c = beside_shorter c.in_ok-name-2.name c.type_name.result c.beside.result (length c.args.tokens.now) (length c.in_ok-name-2.rest.now) c.beside.ensures (omega (arith, c.in_ok-name.ensures.shorter, c.in_ok-name-2.ensures.shorter)) c.type_name.ensures.shorter
