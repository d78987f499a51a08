-- Worked examples of the grammar of procedures and files: small texts with the trees that they
-- spell.
use Rattle.heyvl_syntax.proofs.Texts.{a, b, c, key, leaf, name, sign, span, text, token, word}
use Rattle.heyvl_syntax.specs.Grammar.{Clause, IsClauses, IsFile, IsNote, IsParam, IsProc, note_word, proc_key}
use Rattle.heyvl_syntax.specs.Procedures.{Procedure}
use Rattle.heyvl_syntax.specs.Productions.{IsList0}
use Rattle.heyvl_syntax.specs.Statements.{Block}
use Rattle.heyvl_syntax.specs.declared.keys.Key.TheVariants as keys
use Rattle.heyvl_syntax.specs.declared.marks.Mark.TheVariants as marks
use Rattle.heyvl_syntax.specs.declared.procedures.Note.TheVariants as notes
use Rattle.heyvl_syntax.specs.declared.procedures.Note.{Note}
use Rattle.heyvl_syntax.specs.declared.procedures.Param.{Param}
use Rattle.heyvl_syntax.specs.declared.tokens.TokenKind.{TokenKind}
use Rattle.heyvl_syntax.specs.declared.types.TypeName.TheVariants as types
use Rattle.std.proofs.Common.{Bool, List, None, Some, [], codes, false, refl, true, ◌+◌, ◌++◌, ◌∷◌, ℕ}

-- '@' ('wlp'|'wp'|'ert')
note_rows : (note : Note) → IsNote note (text (sign marks.AtSign ∷ word (note_word note) ∷ []))
note_rows note = (_, _, token, token, refl)

-- W ':' type, where the first token begins at the given byte.
param : List ℕ → ℕ → Param
param x i = record { name = x; ty = types.Bool; span = span i (i + 3) }

param_kinds : List ℕ → List TokenKind
param_kinds x = word x ∷ sign marks.Colon ∷ key keys.BoolWord ∷ []

param_row : IsParam (param a 0) (text (param_kinds a))
unfolding param param_kinds
param_row = ((_, _, token, (_, _, token, token, refl), refl), refl)

-- list0(param), of none, one and two.
no_params : IsList0 IsParam [] []
no_params = refl

one_param : IsList0 IsParam (param a 0 ∷ []) (text (param_kinds a))
unfolding param param_kinds
one_param = (_, _, ((_, _, token, (_, _, token, token, refl), refl), refl), refl, refl)

two_params : IsList0 IsParam (param a 0 ∷ param b 4 ∷ []) (text (param_kinds a ++ sign marks.Comma ∷ param_kinds b))
unfolding param param_kinds
two_params =
    (_, _, ((_, _, token, (_, _, token, token, refl), refl), refl), (_, _, token, (_, _, ((_, _, token, (_, _, token, token, refl), refl), refl), refl, refl), refl), refl)

-- clause*: clauses of both kinds in any order; each kind keeps its own order.
clause_rows :
    IsClauses (name a 1 ∷ name c 5 ∷ []) (name b 3 ∷ []) (text (key keys.Pre ∷ word a ∷ key keys.Post ∷ word b ∷ key keys.Pre ∷ word c ∷ []))
clause_rows =
    (Clause.pre (name a 1) ∷ Clause.post (name b 3) ∷ Clause.pre (name c 5) ∷ [], (_, _, (_, _, token, leaf, refl), (_, _, (_, _, token, leaf, refl), (_, _, (_, _, token, leaf, refl), refl, refl), refl), refl), refl, refl)

-- A procedure without a note, inputs, outputs, clauses and body: its place ends with its last
-- parenthesis.
bare_kinds : Bool → List TokenKind
bare_kinds co =
    key (proc_key co) ∷ word a ∷ sign marks.ParenLeft ∷ sign marks.ParenRight ∷ sign marks.Arrow ∷ sign marks.ParenLeft ∷ sign marks.ParenRight ∷ []

bare : Bool → ℕ → Procedure
bare co i = record { co = co; note = None; name = a; inputs = []; outputs = []; pres = []; posts = []; body = None; span = span i (i + 7) }

bare_procedure : (co : Bool) → IsProc (bare co 0) (text (bare_kinds co))
unfolding bare bare_kinds
bare_procedure co =
    ((_, _, refl, (_, _, token, (_, _, token, (_, _, token, (_, _, refl, (_, _, token, (_, _, token, (_, _, token, (_, _, refl, (_, _, token, (_, _, ([], refl, refl, refl), refl, refl), refl), refl), refl), refl), refl), refl), refl), refl), refl), refl), refl)

-- A procedure with all its parts: its place begins at its note.
whole : Procedure
whole = record {
  co = false;
  note = Some notes.Wlp;
  name = a;
  inputs = param b 5 ∷ [];
  outputs = param c 11 ∷ [];
  pres = name b 16 ∷ [];
  posts = name c 18 ∷ [];
  body = Some Block.done;
  span = span 0 21;
}

whole_kinds : List TokenKind
whole_kinds =
    sign marks.AtSign ∷ word (codes "wlp") ∷ key keys.Proc ∷ word a
    ∷ sign marks.ParenLeft ∷ word b ∷ sign marks.Colon ∷ key keys.BoolWord ∷ sign marks.ParenRight ∷ sign marks.Arrow
    ∷ sign marks.ParenLeft ∷ word c ∷ sign marks.Colon ∷ key keys.BoolWord ∷ sign marks.ParenRight
    ∷ key keys.Pre ∷ word b ∷ key keys.Post ∷ word c ∷ sign marks.BraceLeft ∷ sign marks.BraceRight ∷ []

whole_procedure : IsProc whole (text whole_kinds)
unfolding whole whole_kinds param
whole_procedure =
    ((_, _, (_, _, token, token, refl), (_, _, token, (_, _, token, (_, _, token, (_, _, (_, _, ((_, _, token, (_, _, token, token, refl), refl), refl), refl, refl), (_, _, token, (_, _, token, (_, _, token, (_, _, (_, _, ((_, _, token, (_, _, token, token, refl), refl), refl), refl, refl), (_, _, token, (_, _, (Clause.pre (name b 16) ∷ Clause.post (name c 18) ∷ [], (_, _, (_, _, token, leaf, refl), (_, _, (_, _, token, leaf, refl), refl, refl), refl), refl, refl), (_, _, token, (_, _, refl, token, refl), refl), refl), refl), refl), refl), refl), refl), refl), refl), refl), refl), refl), refl)

-- proc*: the empty file, and two procedures.
empty_file : IsFile [] []
empty_file = refl

two_procedures : IsFile (bare true 0 ∷ bare false 7 ∷ []) (text (bare_kinds true ++ bare_kinds false))
unfolding bare bare_kinds
two_procedures =
    (_, _, ((_, _, refl, (_, _, token, (_, _, token, (_, _, token, (_, _, refl, (_, _, token, (_, _, token, (_, _, token, (_, _, refl, (_, _, token, (_, _, ([], refl, refl, refl), refl, refl), refl), refl), refl), refl), refl), refl), refl), refl), refl), refl), refl), (_, _, ((_, _, refl, (_, _, token, (_, _, token, (_, _, token, (_, _, refl, (_, _, token, (_, _, token, (_, _, token, (_, _, refl, (_, _, token, (_, _, ([], refl, refl, refl), refl, refl), refl), refl), refl), refl), refl), refl), refl), refl), refl), refl), refl), refl, refl), refl)
