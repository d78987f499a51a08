-- The laws of the reader of files, from those of the reader of blocks; and the index at which
-- tokens are refused.
use Rattle.heyvl_parse.proofs.Lawful.{Laws, each_laws}
use Rattle.heyvl_parse.proofs.ProcedureLaws.{on_procedure, procedure_laws}
use Rattle.heyvl_parse.proofs.WholeLaws.{ended_laws, every_kind}
use Rattle.heyvl_parse.specs.readers.Combinators.{either, no_kind, starts}
use Rattle.heyvl_parse.specs.internal.FileReaders.{begins, file, procs}
use Rattle.heyvl_parse.specs.readers.ReadParts.{Read}
use Rattle.heyvl_syntax.specs.Grammar.{IsBlock, IsFile, IsNote, IsProc, proc_key}
use Rattle.heyvl_syntax.specs.Procedures.{Procedure}
use Rattle.heyvl_syntax.specs.Productions.{IsKey, IsOptional, ◌then◌}
use Rattle.heyvl_syntax.specs.Statements.{Block}
use Rattle.heyvl_syntax.specs.declared.keys.Key.TheVariants as keys
use Rattle.heyvl_syntax.specs.declared.marks.Mark.TheVariants as marks
use Rattle.heyvl_syntax.specs.declared.procedures.Note.{Note}
use Rattle.heyvl_syntax.specs.declared.tokens.Token.{Token}
use Rattle.heyvl_syntax.specs.declared.tokens.TokenKind.TheVariants as kinds
use Rattle.heyvl_syntax.specs.declared.tokens.TokenKind.{TokenKind}
use Rattle.std.proofs.Common.{Bool, List, None, Option, Some, arith, false, refl, true, ◌≡◌, ℕ}

key_begins : (co : Bool) → begins (kinds.Key (proc_key co)) ≡ true
key_begins true = refl
key_begins false = refl

proc_starts : (p : Procedure) (text : List Token) → IsProc p text → starts begins text ≡ true
proc_starts p text (h, placed) = by_note p.note _ h
  where
    by_note : (o : Option Note) (P : List Token → Type 0) → (IsOptional IsNote o then IsKey (proc_key p.co) then P) text → starts begins text ≡ true
    by_note None P (one, two, nothing, (three, four, (s, h), q, e2), e) = rw (e, nothing, e2, h) (key_begins p.co)
    by_note (Some x) P (one, two, (three, four, (s, h), q, e2), r, e) = rw (e, e2, h) refl

begins_free : (k : TokenKind) → begins k ≡ true → on_procedure k ≡ false
begins_free (kinds.Key keys.Proc) e = refl
begins_free (kinds.Key keys.CoProc) e = refl
begins_free (kinds.Key _) e = cc
begins_free (kinds.Mark marks.AtSign) e = refl
begins_free (kinds.Mark _) e = cc
begins_free (kinds.Word w) e = cc
begins_free (kinds.Number n) e = cc

procs_laws : {n : ℕ} {block : List Token → Read Block} → Laws n IsBlock no_kind block → Laws n IsFile (either on_procedure begins) (procs block n)
procs_laws {n} lb = each_laws begins (procedure_laws lb) proc_starts begins_free n (omega arith)

pub file_laws : {n : ℕ} {block : List Token → Read Block} → Laws n IsBlock no_kind block → Laws n IsFile every_kind (file block n)
file_laws lb = ended_laws (procs_laws lb)
