use Rattle.heyvl_parse.proofs.SequelLaws.{beside_gives, beside_shorter}
use Rattle.heyvl_parse.proofs.procedures.opening.Goals as goal
use Rattle.heyvl_parse.specs.readers.Combinators.{kind}
use Rattle.heyvl_parse.specs.internal.Procedures.{proc_of}
use Rattle.heyvl_syntax.specs.declared.procedures.Note.{Note}
use Rattle.std.proofs.Common.{Bool, Option, arith, length}

pub returns-clause-value : goal.returns-clause-value
returns-clause-value c = rw (c.in_ok-note.ensures.value) (beside_gives (λ (x : Option Note). x) (λ (x : Bool). x) c.in_ok-note.note c.proc_key.result c.beside.result (kind proc_of c.in_ok-note.rest.now) c.beside.ensures c.proc_key.ensures.value)

pub returns-clause-shorter : goal.returns-clause-shorter
returns-clause-shorter c = beside_shorter c.in_ok-note.note c.proc_key.result c.beside.result (length c.args.tokens.now) (length c.in_ok-note.rest.now) c.beside.ensures (omega (arith, c.in_ok-note.ensures.shorter)) c.proc_key.ensures.shorter
