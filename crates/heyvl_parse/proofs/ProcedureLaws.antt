-- The laws of the reader of procedures, from those of the reader of blocks.
use Rattle.heyvl_parse.proofs.Lawful.{Both, Laws, each_laws, either_second, lead_laws, list0_laws, mapped_laws, optional_laws, laws_stop, pair_free, pair_laws, some_both, spanned_laws, starts_first}
use Rattle.heyvl_parse.proofs.Right.{Some_text, nowhere, some_type, some_word}
use Rattle.heyvl_parse.proofs.RightLaws.{expr_laws, mark_test, some_full, some_lead, word_laws}
use Rattle.heyvl_parse.proofs.KeyLaws.{OfKind, kind_laws, led_starts, type_laws}
use Rattle.heyvl_parse.specs.readers.Combinators.{either, is_operator, kind, lead, no_kind, starts}
use Rattle.heyvl_parse.specs.internal.Procedures.{Parts, clause, clause_by, clause_of, clause_tree, clauses, divide, divided, is_clause, key_clause, key_proc, note, note_of, opening, param, param_tree, params, proc_of, procedure, procedure_tree, promise, signature}
use Rattle.heyvl_parse.specs.readers.ReadParts.{Read, expr, is_mark, pair, type_name, word}
use Rattle.heyvl_syntax.specs.Expressions.{Expression}
use Rattle.heyvl_syntax.specs.Grammar.{Clause, IsBlock, IsClause, IsClauses, IsFull, IsNote, IsParam, IsProc, IsType, note_word, posts, pres, proc_key}
use Rattle.heyvl_syntax.specs.Procedures.{Procedure}
use Rattle.heyvl_syntax.specs.Productions.{IsEach, IsKey, IsList0, IsMark, IsName, IsOne, IsOptional, at, extent, ◌then◌}
use Rattle.heyvl_syntax.specs.Statements.{Block}
use Rattle.heyvl_syntax.specs.declared.keys.Key.TheVariants as keys
use Rattle.heyvl_syntax.specs.declared.keys.Key.{Key}
use Rattle.heyvl_syntax.specs.declared.marks.Mark.TheVariants as marks
use Rattle.heyvl_syntax.specs.declared.procedures.Note.TheVariants as notes
use Rattle.heyvl_syntax.specs.declared.procedures.Note.{Note}
use Rattle.heyvl_syntax.specs.declared.procedures.Param.{Param}
use Rattle.heyvl_syntax.specs.declared.tokens.Token.{Token}
use Rattle.heyvl_syntax.specs.declared.tokens.TokenKind.TheVariants as kinds
use Rattle.heyvl_syntax.specs.declared.tokens.TokenKind.{TokenKind}
use Rattle.heyvl_syntax.specs.declared.types.TypeName.{TypeName}
use Rattle.std.proofs.Common.{Bool, List, None, Option, Some, [], ap, append_assoc, arith, codes, cond, false, nat_eq, refl, sym, true, ◌++◌, ◌∷◌, ◌≡◌, ℕ}
use Rattle.std.specs.Cmp.Lexicographic.{pointwise, same_text}

led_free : (P : List Token → Type 0) (kind : TokenKind) (stop : TokenKind → Bool) → stop kind ≡ false → (text rest : List Token) → (IsOne kind then P) text → starts stop (text ++ rest) ≡ false
led_free P kind stop free text rest (one, two, (s, h), p, e) = rw (e, h) free

-- Notes
note_sound : (k : TokenKind) → OfKind (λ x. kinds.Word (note_word x)) k (note_of k)
note_sound (kinds.Key k) = tt
note_sound (kinds.Number n) = tt
note_sound (kinds.Mark m) = tt
note_sound (kinds.Word w) = wlp (pointwise nat_eq w (codes "wlp")) refl
  where
    ert : (b : Bool) → pointwise nat_eq w (codes "ert") ≡ b → OfKind (λ x. kinds.Word (note_word x)) (kinds.Word w) (cond b (Some notes.Ert) None)
    ert true e = ap kinds.Word (same_text w (codes "ert") (sym e))
    ert false e = tt

    wp : (b : Bool) → pointwise nat_eq w (codes "wp") ≡ b → OfKind (λ x. kinds.Word (note_word x)) (kinds.Word w) (cond b (Some notes.Wp) (cond (pointwise nat_eq w (codes "ert")) (Some notes.Ert) None))
    wp true e = ap kinds.Word (same_text w (codes "wp") (sym e))
    wp false e = ert (pointwise nat_eq w (codes "ert")) refl

    wlp : (b : Bool) → pointwise nat_eq w (codes "wlp") ≡ b → OfKind (λ x. kinds.Word (note_word x)) (kinds.Word w) (cond b (Some notes.Wlp) (cond (pointwise nat_eq w (codes "wp")) (Some notes.Wp) (cond (pointwise nat_eq w (codes "ert")) (Some notes.Ert) None)))
    wlp true e = ap kinds.Word (same_text w (codes "wlp") (sym e))
    wlp false e = wp (pointwise nat_eq w (codes "wp")) refl

note_same : (x : Note) → note_of (kinds.Word (note_word x)) ≡ Some x
note_same notes.Wlp = refl
note_same notes.Wp = refl
note_same notes.Ert = refl

some_note_word : Some_text (λ x. IsName (note_word x))
some_note_word = (notes.Wp, at (kinds.Word (note_word notes.Wp)) nowhere ∷ [], (nowhere, refl))

note_laws : (n : ℕ) → Laws n IsNote no_kind note
note_laws n = lead_laws (mark_test marks.AtSign) (kind_laws n note_of (λ x. kinds.Word (note_word x)) note_sound note_same notes.Wp) some_note_word

-- `proc` and `coproc`
proc_sound : (k : TokenKind) → OfKind (λ co. kinds.Key (proc_key co)) k (proc_of k)
proc_sound (kinds.Key k) = of_key k
  where
    of_key : (k : Key) → OfKind (λ co. kinds.Key (proc_key co)) (kinds.Key k) (key_proc k)
    of_key keys.Proc = refl
    of_key keys.CoProc = refl
    of_key _ = tt
proc_sound (kinds.Word w) = tt
proc_sound (kinds.Number n) = tt
proc_sound (kinds.Mark m) = tt

proc_same : (co : Bool) → proc_of (kinds.Key (proc_key co)) ≡ Some co
proc_same true = refl
proc_same false = refl

abbrev IsProcKey : Bool → List Token → Type 0
IsProcKey co = IsKey (proc_key co)

proc_key_laws : (n : ℕ) → Laws n IsProcKey no_kind (kind proc_of)
proc_key_laws n = kind_laws n proc_of (λ co. kinds.Key (proc_key co)) proc_sound proc_same true

some_proc_key : Some_text IsProcKey
some_proc_key = (true, at (kinds.Key keys.CoProc) nowhere ∷ [], (nowhere, refl))

no_note : (co : Bool) → either no_kind (is_mark marks.AtSign) (kinds.Key (proc_key co)) ≡ false
no_note true = refl
no_note false = refl

abbrev IsOpening : Option Note × Bool → List Token → Type 0
IsOpening = Both (IsOptional IsNote) IsProcKey

opening_laws : (n : ℕ) → Laws n IsOpening no_kind opening
opening_laws n = pair_laws (optional_laws (is_mark marks.AtSign) (note_laws n) (λ x text h. led_starts _ (mark_test marks.AtSign) text h)) (proc_key_laws n) some_proc_key (λ co text rest (s, e) quiet. rw e (no_note co))

some_opening : Some_text IsOpening
some_opening = some_both (None, [], refl) some_proc_key

-- Parameters
abbrev ParamParts : List ℕ × TypeName → List Token → Type 0
ParamParts p = IsName p.0 then IsMark marks.Colon then IsType p.1

some_typed : Some_text (λ t. IsMark marks.Colon then IsType t)
some_typed = some_lead (kinds.Mark marks.Colon) some_type

param_parts_laws : (n : ℕ) → Laws n ParamParts no_kind (pair word (lead (is_mark marks.Colon) type_name))
param_parts_laws n = pair_free (word_laws n) (lead_laws (mark_test marks.Colon) (type_laws n) some_type) some_typed

param_laws : (n : ℕ) → Laws n IsParam no_kind param
param_laws n = spanned_laws param_tree IsParam (param_parts_laws n) (λ x text h. (h, refl)) (λ p text (h, e). ((p.name, p.ty), ap (λ s. param_tree (p.name, p.ty) s) e, h))

some_param : Some_text IsParam
some_param = let (x, text, h) = some_both {P = IsName} some_word some_typed in (param_tree x (extent text), text, (h, refl))

no_close : (x : Param) (text rest : List Token) → IsParam x text → starts (is_mark marks.ParenRight) (text ++ rest) ≡ false
no_close x text rest (h, e) = led_free _ (kinds.Word x.name) (is_mark marks.ParenRight) refl text rest h

abbrev IsParams : List Param → List Token → Type 0
IsParams ps = IsMark marks.ParenLeft then IsList0 IsParam ps then IsMark marks.ParenRight

some_inside : Some_text (λ ps. IsList0 IsParam ps then IsMark marks.ParenRight)
some_inside = ([], at (kinds.Mark marks.ParenRight) nowhere ∷ [], ([], at (kinds.Mark marks.ParenRight) nowhere ∷ [], refl, (nowhere, refl), refl))

params_laws : (n : ℕ) → Laws n IsParams no_kind (params n)
params_laws n = lead_laws (mark_test marks.ParenLeft) (list0_laws (param_laws n) some_param refl refl no_close) some_inside

some_params : Some_text IsParams
some_params = some_lead (kinds.Mark marks.ParenLeft) some_inside

abbrev IsSignature : List ℕ × (List Param × List Param) → List Token → Type 0
IsSignature p = IsName p.0 then (IsParams p.1.0 then (IsMark marks.Arrow then IsParams p.1.1))

some_outputs : Some_text (λ ps. IsMark marks.Arrow then IsParams ps)
some_outputs = some_lead (kinds.Mark marks.Arrow) some_params

some_signature : Some_text IsSignature
some_signature = some_both {P = IsName} some_word (some_both some_params some_outputs)

signature_laws : (n : ℕ) → Laws n IsSignature no_kind (signature n)
signature_laws n = pair_free (word_laws n) (pair_free (params_laws n) (lead_laws (mark_test marks.Arrow) (params_laws n) some_params) some_outputs) (some_both some_params some_outputs)

-- Clauses
abbrev clause_key : Bool → Key
clause_key true = keys.Post
clause_key false = keys.Pre

clause_sound : (k : TokenKind) → OfKind (λ post. kinds.Key (clause_key post)) k (clause_of k)
clause_sound (kinds.Key k) = of_key k
  where
    of_key : (k : Key) → OfKind (λ post. kinds.Key (clause_key post)) (kinds.Key k) (key_clause k)
    of_key keys.Pre = refl
    of_key keys.Post = refl
    of_key _ = tt
clause_sound (kinds.Word w) = tt
clause_sound (kinds.Number n) = tt
clause_sound (kinds.Mark m) = tt

clause_same : (post : Bool) → clause_of (kinds.Key (clause_key post)) ≡ Some post
clause_same true = refl
clause_same false = refl

abbrev ClauseParts : Bool × Expression → List Token → Type 0
ClauseParts p = IsKey (clause_key p.0) then IsFull p.1

clause_parts_laws : (n : ℕ) → Laws n ClauseParts is_operator (pair (kind clause_of) (expr n))
clause_parts_laws n = pair_free (kind_laws n clause_of (λ post. kinds.Key (clause_key post)) clause_sound clause_same true) (expr_laws n) some_full

clause_laws : (n : ℕ) → Laws n IsClause is_operator (clause n)
clause_laws n = mapped_laws clause_tree IsClause (clause_parts_laws n) (λ p text h. into p.0 p.1 text h) out
  where
    into : (b : Bool) (a : Expression) (text : List Token) → ClauseParts (b, a) text → IsClause (clause_by b a) text
    into true a text h = h
    into false a text h = h

    out : (c : Clause) (text : List Token) → IsClause c text → (p : Bool × Expression) × (c ≡ clause_tree p) × ClauseParts p text
    out (Clause.pre a) text h = ((false, a), refl, h)
    out (Clause.post a) text h = ((true, a), refl, h)

clause_starts : (c : Clause) (text : List Token) → IsClause c text → starts is_clause text ≡ true
clause_starts (Clause.pre a) text (one, two, (s, h), p, e) = rw (e, h) refl
clause_starts (Clause.post a) text (one, two, (s, h), p, e) = rw (e, h) refl

clause_free : (k : TokenKind) → is_clause k ≡ true → is_operator k ≡ false
clause_free (kinds.Key keys.Pre) e = refl
clause_free (kinds.Key keys.Post) e = refl
clause_free (kinds.Key _) e = cc
clause_free (kinds.Word w) e = cc
clause_free (kinds.Number n) e = cc
clause_free (kinds.Mark m) e = cc

abbrev on_clauses : TokenKind → Bool
on_clauses = either is_operator is_clause

clauses_laws : (n : ℕ) → Laws n (IsEach IsClause) on_clauses (clauses n)
clauses_laws n = each_laws is_clause (clause_laws n) clause_starts clause_free n (omega arith)

abbrev IsDivided : List Expression × List Expression → List Token → Type 0
IsDivided p = IsClauses p.0 p.1

divided_laws : (n : ℕ) → Laws n IsDivided on_clauses (divided n)
divided_laws n = mapped_laws divide IsDivided (clauses_laws n) (λ cs text h. (cs, h, refl, refl)) (λ p text (cs, h, one, two). (cs, both p cs one two, h))
  where
    both : (p : List Expression × List Expression) (cs : List Clause) → pres cs ≡ p.0 → posts cs ≡ p.1 → p ≡ divide cs
    both (a, b) cs one two = rw (one, two) refl

some_divided : Some_text IsDivided
some_divided = (([], []), [], ([], refl, refl, refl))

-- The kinds that continue a procedure.
abbrev pub on_procedure : TokenKind → Bool
on_procedure = either on_clauses (is_mark marks.BraceLeft)

abbrev IsPromise : (List Expression × List Expression) × Option Block → List Token → Type 0
IsPromise = Both IsDivided (IsOptional IsBlock)

block_starts : (b : Block) (text : List Token) → IsBlock b text → starts (is_mark marks.BraceLeft) text ≡ true
block_starts b text h = led_starts _ (mark_test marks.BraceLeft) text h

behind_clauses : (b : Option Block) (text rest : List Token) → IsOptional IsBlock b text → starts on_procedure rest ≡ false → starts on_clauses (text ++ rest) ≡ false
behind_clauses None text rest h quiet = rw h (starts_first on_clauses (is_mark marks.BraceLeft) rest quiet)
behind_clauses (Some b) text rest h quiet = led_free _ (kinds.Mark marks.BraceLeft) on_clauses refl text rest h

promise_laws : {n : ℕ} {block : List Token → Read Block} → Laws n IsBlock no_kind block → Laws n IsPromise on_procedure (promise block n)
promise_laws {n} {block} lb =
    pair_laws (divided_laws n) (laws_stop on_procedure wide (optional_laws (is_mark marks.BraceLeft) lb block_starts)) (None, [], refl) behind_clauses
  where
    wide : (k : TokenKind) → on_procedure k ≡ false → either no_kind (is_mark marks.BraceLeft) k ≡ false
    wide k e = either_second on_clauses (is_mark marks.BraceLeft) k e

some_promise : Some_text IsPromise
some_promise = some_both some_divided (None, [], refl)

abbrev IsParts : Parts → List Token → Type 0
IsParts = Both IsOpening (Both IsSignature IsPromise)

parts_laws : {n : ℕ} {block : List Token → Read Block} → Laws n IsBlock no_kind block → Laws n IsParts on_procedure (pair opening (pair (signature n) (promise block n)))
parts_laws {n} lb = pair_free (opening_laws n) (pair_free (signature_laws n) (promise_laws lb) some_promise) (some_both some_signature some_promise)

-- The parts of a procedure, grouped as they are read.
module _ (note key name left inputs right arrow before outputs close clauses body : List Token → Type 0) where
  abbrev Grouped : List Token → Type 0
  Grouped = (note then key) then ((name then ((left then (inputs then right)) then (arrow then (before then (outputs then close))))) then (clauses then body))

  abbrev Flat : List Token → Type 0
  Flat = note then key then name then left then inputs then right then arrow then before then outputs then close then clauses then body

  flatten : (ts : List Token) → Grouped ts → Flat ts
  flatten ts (t1, t2, (n, k, hn, hk, e1), (t3, t4, (w, t5, hw, (t6, t7, (l, t8, hl, (i, r, hi, hr, e8), e6), (x, t9, hx, (p, t10, hp, (o, c, ho, hc, e10), e9), e7), e5), e3), (cs, b, hcs, hb, e4), e2), e) = (
    n,
    _,
    hn,
    (k, _, hk, (w, _, hw, (l, _, hl, (i, _, hi, (r, _, hr, (x, _, hx, (p, _, hp, (o, _, ho, (c, _, hc, (cs, b, hcs, hb, refl), refl), refl), refl), refl), refl), refl), refl), refl), refl),
    rw (e, e1, e2, e3, e4, e5, e6, e7, e8, e9, e10) (simp append_assoc),
  )

  gather : (ts : List Token) → Flat ts → Grouped ts
  gather ts (n, t1, hn, (k, t2, hk, (w, t3, hw, (l, t4, hl, (i, t5, hi, (r, t6, hr, (x, t7, hx, (p, t8, hp, (o, t9, ho, (c, t10, hc, (cs, b, hcs, hb, e10), e9), e8), e7), e6), e5), e4), e3), e2), e1), e) = (
    n ++ k,
    _,
    (n, k, hn, hk, refl),
    (w ++ ((l ++ (i ++ r)) ++ (x ++ (p ++ (o ++ c)))), cs ++ b, (w, _, hw, (l ++ (i ++ r), _, (l, i ++ r, hl, (i, r, hi, hr, refl), refl), (x, _, hx, (p, _, hp, (o, c, ho, hc, refl), refl), refl), refl), refl), (cs, b, hcs, hb, refl), refl),
    rw (e, e1, e2, e3, e4, e5, e6, e7, e8, e9, e10) (simp append_assoc),
  )

abbrev parts_of : Procedure → Parts
parts_of p = ((p.note, p.co), ((p.name, (p.inputs, p.outputs)), ((p.pres, p.posts), p.body)))

pub procedure_laws : {n : ℕ} {block : List Token → Read Block} → Laws n IsBlock no_kind block → Laws n IsProc on_procedure (procedure block n)
procedure_laws {n} {block} lb = spanned_laws procedure_tree IsProc (parts_laws lb) into out
  where
    into : (p : Parts) (text : List Token) → IsParts p text → IsProc (procedure_tree p (extent text)) text
    into p text h = (flatten _ _ _ _ _ _ _ _ _ _ _ _ text h, refl)

    out : (p : Procedure) (text : List Token) → IsProc p text → (q : Parts) × (p ≡ procedure_tree q (extent text)) × IsParts q text
    out p text (h, e) = (parts_of p, ap (λ s. procedure_tree (parts_of p) s) e, gather _ _ _ _ _ _ _ _ _ _ _ _ text h)
