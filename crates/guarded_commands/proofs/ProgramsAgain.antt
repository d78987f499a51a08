-- The coproc of a program is spelled again, and so its canonical text spells it.
use Rattle.heyvl_print.specs.Laws.{LexedTokensArePrintable, PrintableFilesSpell, TextIgnoresPlaces}
use Rattle.heyvl_print.specs.Printable.{ArePrintable, IsPrintable}
use Rattle.heyvl_print.specs.WithoutPlaces.{SameButPlaces, bare_param, bare_procedure}
use Rattle.heyvl_places.specs.declared.spans.Span.{Span}
use Rattle.heyvl_syntax.specs.Expressions.{Expression}
use Rattle.heyvl_syntax.specs.Grammar.{Clause, IsClauses, IsFull, IsParam, IsProc, Spells, type_key}
use Rattle.heyvl_syntax.specs.Procedures.{Procedure}
use Rattle.heyvl_syntax.specs.Productions.{IsEach, IsKey, IsList0, IsMark, IsMore, IsName, extent, ◌then◌}
use Rattle.heyvl_syntax.specs.Statements.{Block}
use Rattle.heyvl_syntax.specs.declared.keys.Key.TheVariants as keys
use Rattle.heyvl_syntax.specs.declared.marks.Mark.TheVariants as marks
use Rattle.heyvl_syntax.specs.declared.procedures.Param.{Param}
use Rattle.heyvl_syntax.specs.declared.tokens.Token.{Token}
use Rattle.heyvl_syntax.specs.declared.tokens.TokenKind.TheVariants as kinds
use Rattle.guarded_commands.proofs.AgainTexts.{Again, Has, back_of, braced, front_of, key, mark, name_printable, nothing, ◌next◌, word}
use Rattle.guarded_commands.proofs.CommandsAgain.{AllAgain, all_append, assign_again, block_again, commands_again}
use Rattle.guarded_commands.proofs.ExpressionsAgain.{ExprAgain, kept, name_again, started}
use Rattle.guarded_commands.proofs.MadeWords.{input_printable, main_printable}
use Rattle.guarded_commands.specs.Grammar.{IsCommands, IsDeclaration, IsProg, type_word}
use Rattle.guarded_commands.specs.Programs.{ProgramTree}
use Rattle.guarded_commands.specs.Translation.{at_start, first_place, input, input_name, output, start, statements, translated}
use Rattle.guarded_commands.specs.Translations.{TranslationsSpell}
use Rattle.guarded_commands.specs.declared.programs.Declaration.{Declaration}
use Rattle.std.proofs.Common.{List, None, Some, [], ap, codes, map, refl, subst, sym, true, ◌++◌, ◌∙◌, ◌∷◌, ℕ}

-- The names of the declarations are printable.
abbrev NamesPrintable : List Declaration → Type 0
NamesPrintable [] = Unit {0}
NamesPrintable (d ∷ ds) = IsPrintable (kinds.Word d.name) × NamesPrintable ds

names_printable : (ds : List Declaration) (ts : List Token) → IsEach IsDeclaration ds ts → ArePrintable ts → NamesPrintable ds
names_printable [] ts h p = tt
names_printable (d ∷ ds) ts h p =
    let one = front_of (IsDeclaration d) (IsEach IsDeclaration ds) ts h p in
    let rest = back_of (IsDeclaration d) (IsEach IsDeclaration ds) ts h p in
    let behind = back_of (IsName (type_word d.ty)) (IsName d.name then IsMark marks.Semi) one.text one.is.0 one.printable in
    let named = front_of (IsName d.name) (IsMark marks.Semi) behind.text behind.is behind.printable in
    (name_printable d.name named.text named.is named.printable, names_printable ds rest.text rest.is rest.printable)

-- Parameters with these names.
abbrev ParamAgain : Param → Type 0
ParamAgain = Again bare_param IsParam

param_again : (q : Param) → IsPrintable (kinds.Word q.name) → ParamAgain q
param_again q h =
    let t = word q.name h next mark marks.Colon next key (type_key q.ty) in
    record {
      item = record { name = q.name; ty = q.ty; span = extent t.text };
      same = refl;
      tokens = record { text = t.text; is = (t.is, refl); printable = t.printable };
    }

abbrev EachAgain : (Declaration → Param) → List Declaration → Type 0
EachAgain f [] = Unit {0}
EachAgain f (d ∷ ds) = ParamAgain (f d) × EachAgain f ds

inputs_again : (ds : List Declaration) → NamesPrintable ds → EachAgain input ds
inputs_again [] h = tt
inputs_again (d ∷ ds) h = (param_again (input d) (input_printable d.name h.0.0), inputs_again ds h.1)

outputs_again : (ds : List Declaration) → NamesPrintable ds → EachAgain output ds
outputs_again [] h = tt
outputs_again (d ∷ ds) h = (param_again (output d) h.0, outputs_again ds h.1)

more_again : (f : Declaration → Param) (ds : List Declaration) → EachAgain f ds → Again (map bare_param) (IsMore IsParam) (map f ds)
more_again f [] h = record { item = []; same = refl; tokens = nothing }
more_again f (d ∷ ds) h =
    let one = h.0 in
    let rest = more_again f ds h.1 in
    record { item = one.item ∷ rest.item; same = rw (one.same, rest.same) refl; tokens = mark marks.Comma next one.tokens next rest.tokens }

list_again : (f : Declaration → Param) (ds : List Declaration) → EachAgain f ds → Again (map bare_param) (IsList0 IsParam) (map f ds)
list_again f [] h = record { item = []; same = refl; tokens = nothing }
list_again f (d ∷ ds) h =
    let one = h.0 in
    let rest = more_again f ds h.1 in
    record { item = one.item ∷ rest.item; same = rw (one.same, rest.same) refl; tokens = one.tokens next rest.tokens }

starts_again : (ds : List Declaration) → NamesPrintable ds → AllAgain (map start ds)
starts_again [] h = tt
starts_again (d ∷ ds) h =
    (assign_again d.name (Expression.name (input_name d.name) d.span) d.span h.0 (name_again (input_name d.name) d.span 9 (input_printable d.name h.0.0)), starts_again ds h.1)

-- One pre clause and one post clause.
clauses_again : (a b : Expression) → Has (IsFull a) → Has (IsFull b) → Has (IsClauses (a ∷ []) (b ∷ []))
clauses_again a b h k =
    let t = (key keys.Pre next h) next (key keys.Post next k) next nothing in
    record { text = t.text; is = (Clause.pre a ∷ Clause.post b ∷ [], t.is, refl, refl); printable = t.printable }

-- The conditions on the parts of a program.
record Parts (p : ProgramTree) : Type 0 where
  names : NamesPrintable p.declarations
  pre : ExprAgain (at_start p.pre) 9
  post : ExprAgain p.post 9
  body : AllAgain (statements 1 p.body)

parts_again : (p : ProgramTree) (ts : List Token) → IsProg p ts → ArePrintable ts → Parts p
parts_again p ts h ready =
    let ds = front_of (IsEach IsDeclaration p.declarations) (IsKey keys.Pre then IsFull p.pre then IsMark marks.Semi then IsKey keys.Post then IsFull p.post then IsMark marks.Semi then IsCommands p.body) ts h ready in
    let r1 = back_of (IsEach IsDeclaration p.declarations) (IsKey keys.Pre then IsFull p.pre then IsMark marks.Semi then IsKey keys.Post then IsFull p.post then IsMark marks.Semi then IsCommands p.body) ts h ready in
    let r2 = back_of (IsKey keys.Pre) (IsFull p.pre then IsMark marks.Semi then IsKey keys.Post then IsFull p.post then IsMark marks.Semi then IsCommands p.body) r1.text r1.is r1.printable in
    let pre = front_of (IsFull p.pre) (IsMark marks.Semi then IsKey keys.Post then IsFull p.post then IsMark marks.Semi then IsCommands p.body) r2.text r2.is r2.printable in
    let r3 = back_of (IsFull p.pre) (IsMark marks.Semi then IsKey keys.Post then IsFull p.post then IsMark marks.Semi then IsCommands p.body) r2.text r2.is r2.printable in
    let r4 = back_of (IsMark marks.Semi) (IsKey keys.Post then IsFull p.post then IsMark marks.Semi then IsCommands p.body) r3.text r3.is r3.printable in
    let r5 = back_of (IsKey keys.Post) (IsFull p.post then IsMark marks.Semi then IsCommands p.body) r4.text r4.is r4.printable in
    let post = front_of (IsFull p.post) (IsMark marks.Semi then IsCommands p.body) r5.text r5.is r5.printable in
    let r6 = back_of (IsFull p.post) (IsMark marks.Semi then IsCommands p.body) r5.text r5.is r5.printable in
    let body = back_of (IsMark marks.Semi) (IsCommands p.body) r6.text r6.is r6.printable in
    record {
      names = names_printable p.declarations ds.text ds.is ds.printable;
      pre = started p.pre 9 pre.text pre.is pre.printable;
      post = kept p.post 9 post.text post.is post.printable;
      body = commands_again 1 p.body body.text body.is body.printable;
    }

-- The coproc of these parts.
abbrev made : List Param → List Param → Expression → Expression → Block → Span → Procedure
made inputs outputs pre post body place = record {
  co = true;
  note = None;
  name = codes "main";
  inputs = inputs;
  outputs = outputs;
  pres = pre ∷ [];
  posts = post ∷ [];
  body = Some body;
  span = place;
}

procedure_again : (place : Span) (p : ProgramTree) → Parts p → Again bare_procedure IsProc (translated place p)
procedure_again place p h =
    let ins = list_again input p.declarations (inputs_again p.declarations h.names) in
    let outs = list_again output p.declarations (outputs_again p.declarations h.names) in
    let body = block_again (map start p.declarations ++ statements 1 p.body) (all_append (map start p.declarations) (statements 1 p.body) (starts_again p.declarations h.names) h.body) in
    let t = nothing next key keys.CoProc next word (codes "main") main_printable next mark marks.ParenLeft next ins.tokens next mark marks.ParenRight next mark marks.Arrow
    next mark marks.ParenLeft next outs.tokens next mark marks.ParenRight next clauses_again h.pre.item h.post.item h.pre.tokens h.post.tokens next braced body.tokens in
    record {
      item = made ins.item outs.item h.pre.item h.post.item body.item (extent t.text);
      same = rw (ins.same, outs.same, h.pre.same, h.post.same, body.same) refl;
      tokens = record { text = t.text; is = (t.is, refl); printable = t.printable };
    }

pub translations_spell : PrintableFilesSpell → LexedTokensArePrintable → TextIgnoresPlaces → TranslationsSpell
translations_spell spells lexed ignores bytes tokens file lexes is_translation =
    let p = is_translation.program in
    let parts = parts_again p tokens is_translation.translatable.spelled.grammar (lexed bytes tokens lexes) in
    let one = procedure_again (first_place tokens) p parts in
    let text = one.tokens next nothing in
    let same : SameButPlaces file (one.item ∷ []) = ap (map bare_procedure) is_translation.is_file ∙ ap (λ q. q ∷ []) one.same in
    let other = spells text.text (one.item ∷ []) text.printable text.is in
    (other.0, subst (λ (bytes : List ℕ). Spells bytes other.0) (sym (ignores file (one.item ∷ []) same)) other.1, same ∙ other.2)
