-- Procedures and files as plain trees, and the plain tree of a file of the code.
use Rattle.heyvl_places.specs.declared.spans.Span.{Span}
use Rattle.heyvl_syntax.specs.Expressions.{Expression, expressions}
use Rattle.heyvl_syntax.specs.Statements.{Block, block}
use Rattle.heyvl_syntax.specs.declared.procedures.File.{File}
use Rattle.heyvl_syntax.specs.declared.procedures.Note.{Note}
use Rattle.heyvl_syntax.specs.declared.procedures.Param.{Param}
use Rattle.heyvl_syntax.specs.declared.procedures.Proc.{Proc}
use Rattle.heyvl_syntax.specs.declared.statements.Stmt.{Stmt}
use Rattle.std.specs.Prelude.{Bool, List, None, Option, Some, Vec, map, ℕ}
use Rattle.std.specs.declared.alloc.Global.{Global}

-- A procedure: a coproc if `co` is true, otherwise a proc.
pub record Procedure : Type 0 where
  pub co : Bool
  pub note : Option Note
  pub name : List ℕ
  pub inputs : List Param
  pub outputs : List Param
  pub pres : List Expression
  pub posts : List Expression
  pub body : Option Block
  pub span : Span

-- The plain tree of a body, if there is one.
abbrev pub optional_block : Option (Vec Stmt Global) → Option Block
optional_block None = None
optional_block (Some b) = Some (block b.items)

-- The plain tree of a procedure.
abbrev pub procedure : Proc → Procedure
procedure p = record {
  co = p.co;
  note = p.note;
  name = p.name;
  inputs = p.inputs.items;
  outputs = p.outputs.items;
  pres = expressions p.pres.items;
  posts = expressions p.posts.items;
  body = optional_block p.body;
  span = p.span;
}

-- The plain trees of the procedures of a file.
abbrev pub procedures : File → List Procedure
procedures file = map procedure file.procs.items
