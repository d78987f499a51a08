-- Abbreviations for worked texts as plain trees. A place is given by its first byte alone.
use Rattle.heyvl_places.specs.declared.spans.Span.{Span}
use Rattle.heyvl_syntax.specs.Expressions.{Expression}
use Rattle.heyvl_syntax.specs.Procedures.{Procedure}
use Rattle.heyvl_syntax.specs.Statements.{Block, Statement}
use Rattle.heyvl_syntax.specs.declared.operators.BinaryOp.{BinaryOp}
use Rattle.heyvl_syntax.specs.declared.procedures.Note.{Note}
use Rattle.heyvl_syntax.specs.declared.procedures.Param.{Param}
use Rattle.heyvl_syntax.specs.declared.types.TypeName.{TypeName}
use Rattle.std.specs.Prelude.{Bool, List, Option, Some, [], pos, ◌∷◌, ℕ}
use Rattle.typed_expressions.specs.Findings.{Finding}

abbrev pub sp : ℕ → Span
sp n = record { from = n; to = n }

-- The error with this number at a column, counted from 1.
abbrev pub fault : ℕ → ℕ → Option Finding
fault n from = Some (n, sp from)

abbrev pub num : ℕ → ℕ → Expression
num n s = Expression.number (record { digits = pos n; places = 0 }) (sp s)

abbrev pub var : List ℕ → ℕ → Expression
var x s = Expression.name x (sp s)

abbrev pub over : ℕ → Expression → Expression → Expression
over s a b = Expression.binary BinaryOp.Slash a b (sp s)

abbrev pub block : List Statement → Block
block [] = Block.done
block (s ∷ ss) = Block.next s (block ss)

abbrev pub param : List ℕ → TypeName → ℕ → Param
param x t s = record { name = x; ty = t; span = sp s }

-- A coproc or proc with its name, parameters, pre clauses, post clauses and a body.
abbrev pub procedure : Bool → Option Note → List ℕ → List Param → List Param → List Expression → List Expression → Option Block → ℕ → Procedure
procedure co note name inputs outputs pres posts body s = record { co = co; note = note; name = name; inputs = inputs; outputs = outputs; pres = pres; posts = posts; body = body; span = sp s }
