-- Reading procedures, with a given reader of blocks.
use Rattle.heyvl_parse.specs.readers.Combinators.{each, is_there, kind, lead, list0, optional}
use Rattle.heyvl_parse.specs.readers.Combinators.{spanned, trail}
use Rattle.heyvl_parse.specs.readers.ReadParts.{Read, expr, is_mark, mapped, pair, type_name, word}
use Rattle.heyvl_places.specs.declared.spans.Span.{Span}
use Rattle.heyvl_syntax.specs.Expressions.{Expression}
use Rattle.heyvl_syntax.specs.Grammar.{Clause, posts, pres}
use Rattle.heyvl_syntax.specs.Procedures.{Procedure}
use Rattle.heyvl_syntax.specs.Statements.{Block}
use Rattle.heyvl_syntax.specs.declared.keys.Key.TheVariants as keys
use Rattle.heyvl_syntax.specs.declared.keys.Key.{Key}
use Rattle.heyvl_syntax.specs.declared.marks.Mark.TheVariants as marks
use Rattle.heyvl_syntax.specs.declared.procedures.Note.TheVariants as notes
use Rattle.heyvl_syntax.specs.declared.procedures.Note.{Note}
use Rattle.heyvl_syntax.specs.declared.procedures.Param.{Param}
use Rattle.heyvl_syntax.specs.declared.tokens.Token.{Token}
use Rattle.heyvl_syntax.specs.declared.tokens.TokenKind.TheVariants as kinds
use Rattle.heyvl_syntax.specs.declared.tokens.TokenKind.{TokenKind}
use Rattle.heyvl_syntax.specs.declared.types.TypeName.{TypeName}
use Rattle.std.specs.Cmp.Lexicographic.{pointwise}
use Rattle.std.specs.Prelude.{Bool, List, None, Option, Some, codes, cond, false, nat_eq, true, ℕ}

abbrev pub word_note : List ℕ → Option Note
word_note w =
    cond (pointwise nat_eq w (codes "wlp")) (Some notes.Wlp)
    (cond (pointwise nat_eq w (codes "wp")) (Some notes.Wp)
    (cond (pointwise nat_eq w (codes "ert")) (Some notes.Ert) None))

-- The note that an identifier names.
abbrev pub note_of : TokenKind → Option Note
note_of (kinds.Word w) = word_note w
note_of (kinds.Key k) = None
note_of (kinds.Number n) = None
note_of (kinds.Mark m) = None

-- `note`
abbrev pub note : List Token → Read Note
note ts = lead (is_mark marks.AtSign) (kind note_of) ts

abbrev pub key_proc : Key → Option Bool
key_proc keys.Proc = Some false
key_proc keys.CoProc = Some true
key_proc _ = None

-- True for `coproc`, and false for `proc`.
abbrev pub proc_of : TokenKind → Option Bool
proc_of (kinds.Key k) = key_proc k
proc_of (kinds.Word w) = None
proc_of (kinds.Number n) = None
proc_of (kinds.Mark m) = None

-- `note? ('proc'|'coproc')`
abbrev pub opening : List Token → Read (Option Note × Bool)
opening ts = pair (optional (is_mark marks.AtSign) note) (kind proc_of) ts

abbrev pub param_tree : List ℕ × TypeName → Span → Param
param_tree p s = record { name = p.0; ty = p.1; span = s }

-- `param`
abbrev pub param : List Token → Read Param
param ts = spanned param_tree (pair word (lead (is_mark marks.Colon) type_name)) ts

-- `'(' list0(param) ')'`
abbrev pub params : ℕ → List Token → Read (List Param)
params n ts = lead (is_mark marks.ParenLeft) (trail (list0 param n) (is_mark marks.ParenRight)) ts

-- `W '(' list0(param) ')' '->' '(' list0(param) ')'`
abbrev pub signature : ℕ → List Token → Read (List ℕ × (List Param × List Param))
signature n ts = pair word (pair (params n) (lead (is_mark marks.Arrow) (params n))) ts

abbrev pub key_clause : Key → Option Bool
key_clause keys.Pre = Some false
key_clause keys.Post = Some true
key_clause _ = None

-- True for `post`, and false for `pre`.
abbrev pub clause_of : TokenKind → Option Bool
clause_of (kinds.Key k) = key_clause k
clause_of (kinds.Word w) = None
clause_of (kinds.Number n) = None
clause_of (kinds.Mark m) = None

abbrev pub is_clause : TokenKind → Bool
is_clause k = is_there (clause_of k)

abbrev pub clause_by : Bool → Expression → Clause
clause_by true a = Clause.post a
clause_by false a = Clause.pre a

abbrev pub clause_tree : Bool × Expression → Clause
clause_tree p = clause_by p.0 p.1

-- `clause`
abbrev pub clause : ℕ → List Token → Read Clause
clause n ts = mapped clause_tree (pair (kind clause_of) (expr n)) ts

-- `clause*`
abbrev pub clauses : ℕ → List Token → Read (List Clause)
clauses n ts = each is_clause (clause n) n ts

-- The pre clauses of `cs`, and its post clauses.
abbrev pub divide : List Clause → List Expression × List Expression
divide cs = (pres cs, posts cs)

abbrev pub divided : ℕ → List Token → Read (List Expression × List Expression)
divided n ts = mapped divide (clauses n) ts

-- `clause* block?`
abbrev pub promise : (List Token → Read Block) → ℕ → List Token
    → Read ((List Expression × List Expression) × Option Block)
promise block n ts = pair (divided n) (optional (is_mark marks.BraceLeft) block) ts

abbrev pub Parts : Type 0
Parts = (Option Note × Bool)
    × ((List ℕ × (List Param × List Param)) × ((List Expression × List Expression) × Option Block))

abbrev pub procedure_tree : Parts → Span → Procedure
procedure_tree p s = record {
  co = p.0.1;
  note = p.0.0;
  name = p.1.0.0;
  inputs = p.1.0.1.0;
  outputs = p.1.0.1.1;
  pres = p.1.1.0.0;
  posts = p.1.1.0.1;
  body = p.1.1.1;
  span = s;
}

-- `proc`
abbrev pub procedure : (List Token → Read Block) → ℕ → List Token → Read Procedure
procedure block n ts = spanned procedure_tree
    (pair opening (pair (signature n) (promise block n))) ts
