-- Reading whole files, with a given reader of blocks.
use Rattle.heyvl_parse.specs.readers.Combinators.{each, either, ended, is_there}
use Rattle.heyvl_parse.specs.internal.Procedures.{proc_of, procedure}
use Rattle.heyvl_parse.specs.readers.ReadParts.{Read, is_mark, ◌>>=◌}
use Rattle.heyvl_syntax.specs.Procedures.{Procedure}
use Rattle.heyvl_syntax.specs.Statements.{Block}
use Rattle.heyvl_syntax.specs.declared.marks.Mark.TheVariants as marks
use Rattle.heyvl_syntax.specs.declared.tokens.Token.{Token}
use Rattle.heyvl_syntax.specs.declared.tokens.TokenKind.{TokenKind}
use Rattle.std.specs.Prelude.{Bool, List, ℕ}

abbrev pub is_proc : TokenKind → Bool
is_proc k = is_there (proc_of k)

-- Whether a token of this kind begins a procedure.
abbrev pub begins : TokenKind → Bool
begins = either (is_mark marks.AtSign) is_proc

-- `proc*`, as long as a procedure begins.
abbrev pub procs : (List Token → Read Block) → ℕ → List Token → Read (List Procedure)
procs block n ts = each begins (procedure block n) n ts

-- `file`
abbrev pub file : (List Token → Read Block) → ℕ → List Token → Read (List Procedure)
file block n ts = procs block n ts >>= ended
