-- The pieces of procedures and files spell them again.
use Rattle.heyvl_print.proofs.ExpressionsAgain.{again, in_parens, r_free, r_key, r_key_alone, r_word, r_word_alone}
use Rattle.heyvl_print.proofs.TreePieces.{Prints, Reprints, any, both, printable_back, printable_front, r_blank, r_both, r_feed, r_line, r_made, r_margin, r_one, r_token, remade}
use Rattle.heyvl_print.proofs.StatementsAgain.{block_again, list0_again, nothing, r_nothing}
use Rattle.heyvl_print.specs.Canonical.{body_lines, file_lines, head_line, note_line, param_pieces, post_line, pre_line, procedure_lines}
use Rattle.heyvl_print.specs.Pieces.{Piece, blank, each, feed, text_of, token}
use Rattle.heyvl_print.specs.Printable.{ArePrintable}
use Rattle.heyvl_print.specs.WithoutPlaces.{bare_body, bare_expression, bare_expressions, bare_param, bare_procedure, no_place, without_places}
use Rattle.heyvl_syntax.proofs.exported.Sequences.{then_assoc}
use Rattle.heyvl_syntax.proofs.exported.TokenReads.{ends_number, free_reads, spaced_reads}
use Rattle.heyvl_syntax.specs.Expressions.{Expression}
use Rattle.heyvl_syntax.specs.Grammar.{Clause, IsBlock, IsClause, IsClauses, IsFile, IsFull, IsNote, IsParam, IsProc, note_word, posts, pres, proc_key, type_key}
use Rattle.heyvl_syntax.specs.Procedures.{Procedure}
use Rattle.heyvl_syntax.specs.Productions.{IsEach, IsKey, IsList0, IsMark, IsName, IsOptional, extent, ◌then◌}
use Rattle.heyvl_syntax.specs.Statements.{Block}
use Rattle.heyvl_syntax.specs.declared.keys.Key.TheVariants as keys
use Rattle.heyvl_syntax.specs.declared.marks.Mark.TheVariants as marks
use Rattle.heyvl_syntax.specs.declared.procedures.Note.{Note}
use Rattle.heyvl_syntax.specs.declared.procedures.Param.{Param}
use Rattle.heyvl_syntax.specs.declared.tokens.Token.{Token}
use Rattle.heyvl_syntax.specs.declared.tokens.TokenKind.TheVariants as kinds
use Rattle.std.proofs.Common.{Bool, List, None, Option, Some, [], ap, append_assoc, map, refl, subst, sym, ◌++◌, ◌∙◌, ◌∷◌, ℕ}

param_again : (p : Param) → Reprints ends_number bare_param IsParam p (param_pieces p)
param_again p =
    r_made (λ y us. record { name = p.name; ty = p.ty; span = extent us }) (λ y us g. (g, refl)) (λ y us g. refl) (λ ts g. g.0)
    (r_word p.name (λ rest passes. refl) (r_free marks.Colon refl (r_blank (r_key_alone (type_key p.ty)))))

note_again : (note : Option Note) → Reprints any (λ (y : Option Note). y) (IsOptional IsNote) note (note_line note)
note_again None = r_nothing (λ us h. h)
note_again (Some note) = r_made (λ y us. Some note) (λ y us g. g) (λ y us g. refl) (λ ts g. g) (r_free marks.AtSign refl (r_line (λ rest. refl) (r_word_alone (note_word note))))

body_again : (b : Option Block) → Reprints any bare_body (IsOptional IsBlock) b (body_lines b)
body_again None = r_nothing (λ us h. h)
body_again (Some b) =
    r_made (λ y us. Some y) (λ y us g. g) (λ y us g. ap (λ z. Some z) g) (λ ts g. g)
    (r_free marks.BraceLeft refl (r_feed (r_made (λ y us. y.0) (λ y us g. g) (λ y us g. ap (λ z. z.0) g) (λ ts g. g)
    (r_both (block_again 2 b) (λ rest passes. refl) (r_line (λ rest. refl) (r_one {test = ends_number} (kinds.Mark marks.BraceRight) (λ p rest passes. free_reads marks.BraceRight (text_of rest) refl)))))))

-- The clauses, the pre clauses first.
abbrev Pre : Expression → List Token → Type 0
Pre a = IsKey keys.Pre then IsFull a

abbrev Post : Expression → List Token → Type 0
Post a = IsKey keys.Post then IsFull a

pre_again : (a : Expression) → Reprints any bare_expression Pre a (pre_line a)
pre_again a = r_margin 2 (r_key keys.Pre (λ rest passes. refl) (r_blank (r_line (λ rest. refl) (again a 9))))

post_again : (a : Expression) → Reprints any bare_expression Post a (post_line a)
post_again a = r_margin 2 (r_key keys.Post (λ rest passes. refl) (r_blank (r_line (λ rest. refl) (again a 9))))

pres_print : (clauses : List Clause) (ts : List Token) → IsEach IsClause clauses ts → ArePrintable ts → Prints any bare_expressions (IsEach Pre) (pres clauses) (each pre_line (pres clauses))
pres_print [] ts h p = nothing (λ us g. g)
pres_print (Clause.pre a ∷ clauses) ts h p =
    remade (λ y us. y.0 ∷ y.1) (λ y us g. g) (λ y us g. ap (λ z. z.0 ∷ z.1) g)
    (both ((pre_again a).from h.0 h.2 (printable_front ts h.0 h.1 h.4 p)) (pres_print clauses h.1 h.3 (printable_back ts h.0 h.1 h.4 p)) (λ rest passes. refl))
pres_print (Clause.post a ∷ clauses) ts h p = pres_print clauses h.1 h.3 (printable_back ts h.0 h.1 h.4 p)

posts_print : (clauses : List Clause) (ts : List Token) → IsEach IsClause clauses ts → ArePrintable ts → Prints any bare_expressions (IsEach Post) (posts clauses) (each post_line (posts clauses))
posts_print [] ts h p = nothing (λ us g. g)
posts_print (Clause.post a ∷ clauses) ts h p =
    remade (λ y us. y.0 ∷ y.1) (λ y us g. g) (λ y us g. ap (λ z. z.0 ∷ z.1) g)
    (both ((post_again a).from h.0 h.2 (printable_front ts h.0 h.1 h.4 p)) (posts_print clauses h.1 h.3 (printable_back ts h.0 h.1 h.4 p)) (λ rest passes. refl))
posts_print (Clause.pre a ∷ clauses) ts h p = posts_print clauses h.1 h.3 (printable_back ts h.0 h.1 h.4 p)

after_pres : (before after : List Expression) (us : List Token) → (IsEach Pre before then IsEach Post after) us → IsClauses before after us
after_pres [] [] us (xs, ys, p, q, e) = ([], e ∙ ap (λ z. z ++ ys) p ∙ q, refl, refl)
after_pres [] (b ∷ bs) us (xs, ys, p, q, e) =
    let rest = after_pres [] bs q.1 ([], q.1, refl, q.3, refl) in
    (Clause.post b ∷ rest.0, (q.0, q.1, q.2, rest.1, e ∙ ap (λ z. z ++ ys) p ∙ q.4), rest.2, ap (λ z. b ∷ z) rest.3)
after_pres (b ∷ bs) after us (xs, ys, p, q, e) =
    let rest = after_pres bs after (p.1 ++ ys) (p.1, ys, p.3, q, refl) in
    (Clause.pre b ∷ rest.0, (p.0, p.1 ++ ys, p.2, rest.1, e ∙ ap (λ z. z ++ ys) p.4 ∙ append_assoc p.0 p.1 ys), ap (λ z. b ∷ z) rest.2, rest.3)

clauses_again : (before after : List Expression) → Reprints {A = List Expression × List Expression} {B = List Expression × List Expression} any (λ p. (bare_expressions p.0, bare_expressions p.1)) (λ p. IsClauses p.0 p.1) (before, after) (each pre_line before ++ each post_line after)
clauses_again before after = record {
  from = λ ts h p.
      let left : Prints any bare_expressions (IsEach Pre) before (each pre_line before) = subst (λ (z : List Expression). Prints any bare_expressions (IsEach Pre) z (each pre_line z)) h.2 (pres_print h.0 ts h.1 p) in
      let right : Prints any bare_expressions (IsEach Post) after (each post_line after) = subst (λ (z : List Expression). Prints any bare_expressions (IsEach Post) z (each post_line z)) h.3 (posts_print h.0 ts h.1 p) in
      remade (λ y us. y) (λ y us g. after_pres y.0 y.1 us g) (λ y us g. g) (both left right (λ rest passes. refl));
}

then_back : (P Q R : List Token → Type 0) (ts : List Token) → (P then Q then R) ts → ((P then Q) then R) ts
then_back P Q R ts (xs, ys, p, (us, vs, q, r, d), e) = (xs ++ us, vs, (xs, us, p, q, refl), r, e ∙ ap (λ z. xs ++ z) d ∙ sym (append_assoc xs us vs))

inside : (P Q R : List Token → Type 0) → ((ts : List Token) → Q ts → R ts) → (ts : List Token) → (P then Q) ts → (P then R) ts
inside P Q R f ts (xs, ys, p, q, e) = (xs, ys, p, f ys q, e)

-- The head, with its parts grouped.
abbrev Parens : List Param → List Token → Type 0
Parens ps = IsMark marks.ParenLeft then IsList0 IsParam ps then IsMark marks.ParenRight

abbrev Head : Bool → List ℕ → List Param × List Param → List Token → Type 0
Head co name p = IsKey (proc_key co) then IsName name then Parens p.0 then IsMark marks.Arrow then Parens p.1

arrow_then : {A B : Type 0} {e : A → B} {P : A → List Token → Type 0} {x : A} {ps : List Piece} → Reprints any e P x ps → Reprints any e (λ y. IsMark marks.Arrow then P y) x (token (kinds.Mark marks.Arrow) ∷ blank ∷ ps)
arrow_then {ps = ps} one = r_token (kinds.Mark marks.Arrow) (λ p rest passes. spaced_reads marks.Arrow (text_of (ps ++ rest))) (r_blank one)

head_again : (p : Procedure) → Reprints {A = List Param × List Param} {B = List Param × List Param} any (λ y. (map bare_param y.0, map bare_param y.1)) (Head p.co p.name) (p.inputs, p.outputs) (head_line p)
head_again p =
    r_key (proc_key p.co) (λ rest passes. refl) (r_blank (r_word p.name (λ rest passes. refl)
    (r_both {test = any} (in_parens (list0_again param_again p.inputs)) (λ rest passes. refl) (r_blank (arrow_then (r_line {test = any} (λ rest. refl) (in_parens (list0_again param_again p.outputs))))))))

-- The two groupings of the head and what follows it.
abbrev Flat : Bool → List ℕ → List Param × List Param → (List Token → Type 0) → List Token → Type 0
Flat co name p R =
    IsKey (proc_key co) then IsName name then IsMark marks.ParenLeft then IsList0 IsParam p.0 then IsMark marks.ParenRight then IsMark marks.Arrow
    then IsMark marks.ParenLeft then IsList0 IsParam p.1 then IsMark marks.ParenRight then R

flat_parens : (ps : List Param) (R : List Token → Type 0) (ts : List Token) → (Parens ps then R) ts → (IsMark marks.ParenLeft then IsList0 IsParam ps then IsMark marks.ParenRight then R) ts
flat_parens ps R ts h = inside _ _ _ (λ us g. then_assoc _ _ _ us g) ts (then_assoc _ _ _ ts h)

deep_parens : (ps : List Param) (R : List Token → Type 0) (ts : List Token) → (IsMark marks.ParenLeft then IsList0 IsParam ps then IsMark marks.ParenRight then R) ts → (Parens ps then R) ts
deep_parens ps R ts h = then_back _ _ _ ts (inside _ _ _ (λ us g. then_back _ _ _ us g) ts h)

flat_head : (co : Bool) (name : List ℕ) (p : List Param × List Param) (R : List Token → Type 0) (ts : List Token) → (Head co name p then R) ts → Flat co name p R ts
flat_head co name p R ts h =
    inside _ _ _ (λ us g. inside _ _ _ (λ vs k. flat_parens p.0 _ vs (inside _ _ _ (λ ws m. inside _ _ _ (λ xs n. flat_parens p.1 R xs n) ws (then_assoc _ _ _ ws m)) vs (then_assoc _ _ _ vs k))) us (then_assoc _ _ _ us g)) ts (then_assoc _ _ _ ts h)

deep_head : (co : Bool) (name : List ℕ) (p : List Param × List Param) (R : List Token → Type 0) (ts : List Token) → Flat co name p R ts → (Head co name p then R) ts
deep_head co name p R ts h =
    then_back _ _ _ ts (inside _ _ _ (λ us g. then_back _ _ _ us (inside _ _ _ (λ vs k. then_back _ _ _ vs (inside _ _ _ (λ ws m. then_back _ _ _ ws (inside _ _ _ (λ xs n. deep_parens p.1 R xs n) ws m)) vs (deep_parens p.0 _ vs k))) us g)) ts h)

proc_again : (p : Procedure) → Reprints any bare_procedure IsProc p (procedure_lines p)
proc_again p =
    r_made (λ y us. record { co = p.co; note = y.0; name = p.name; inputs = y.1.0.0; outputs = y.1.0.1; pres = y.1.1.0.0; posts = y.1.1.0.1; body = y.1.1.1; span = extent us })
    (λ y us g. (inside _ _ _ (λ vs k. flat_head p.co p.name y.1.0 (IsClauses y.1.1.0.0 y.1.1.0.1 then IsOptional IsBlock y.1.1.1) vs k) us g, refl))
    (λ y us g. ap (λ z. record { co = p.co; note = z.0; name = p.name; inputs = z.1.0.0; outputs = z.1.0.1; pres = z.1.1.0.0; posts = z.1.1.0.1; body = z.1.1.1; span = no_place }) g)
    (λ ts g. inside _ _ _ (λ vs k. deep_head p.co p.name (p.inputs, p.outputs) (IsClauses p.pres p.posts then IsOptional IsBlock p.body) vs k) ts g.0)
    (r_both (note_again p.note) (λ rest passes. refl) (r_both (head_again p) (λ rest passes. refl)
    (subst (λ (ps : List Piece). Reprints {A = (List Expression × List Expression) × Option Block} {B = (List Expression × List Expression) × Option Block} any
    (λ y. ((bare_expressions y.0.0, bare_expressions y.0.1), bare_body y.1)) (λ y. IsClauses y.0.0 y.0.1 then IsOptional IsBlock y.1) ((p.pres, p.posts), p.body) ps)
    (append_assoc (each pre_line p.pres) (each post_line p.posts) (body_lines p.body))
    (r_both (clauses_again p.pres p.posts) (λ rest passes. refl) (body_again p.body)))))

others_again : (file : List Procedure) → Reprints any without_places IsFile file (each (λ p. feed ++ procedure_lines p) file)
others_again [] = r_nothing (λ us h. h)
others_again (p ∷ ps) = r_made (λ y us. y.0 ∷ y.1) (λ y us g. g) (λ y us g. ap (λ z. z.0 ∷ z.1) g) (λ ts g. g) (r_feed (r_both (proc_again p) (λ rest passes. refl) (others_again ps)))

pub file_again : (file : List Procedure) → Reprints any without_places IsFile file (file_lines file)
file_again [] = r_nothing (λ us h. h)
file_again (p ∷ ps) = r_made (λ y us. y.0 ∷ y.1) (λ y us g. g) (λ y us g. ap (λ z. z.0 ∷ z.1) g) (λ ts g. g) (r_both (proc_again p) (λ rest passes. refl) (others_again ps))
