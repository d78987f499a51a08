-- The laws of the readers of blocks.
use Rattle.heyvl_parse.proofs.BranchLaws.{then_back}
use Rattle.heyvl_parse.proofs.Lawful.{Laws, each_laws, laws_less, lead_more, mapped_laws, starts_first, starts_front, starts_second, trail_laws}
use Rattle.heyvl_parse.proofs.Local.{Local, LocalAt, local_bind}
use Rattle.heyvl_parse.proofs.Right.{Right, Some_text, is_mark_true, nowhere}
use Rattle.heyvl_parse.proofs.RightLaws.{mark_test}
use Rattle.heyvl_parse.proofs.StatementLaws.{on_stmt, stmt_begins, stmt_laws}
use Rattle.heyvl_parse.specs.readers.Combinators.{either, no_kind, starts}
use Rattle.heyvl_parse.specs.readers.ReadParts.{Bad, Got, Out, Read, is_mark, ◌>>=◌}
use Rattle.heyvl_parse.specs.internal.Rights.{two}
use Rattle.heyvl_parse.specs.internal.Statements.{BlockReader, braced, entry, is_opening, key_opening, mark_opening, opens, skip, stmt, stmts}
use Rattle.heyvl_syntax.proofs.exported.Sequences.{then_assoc}
use Rattle.heyvl_syntax.specs.Grammar.{IsBlock, IsStmt, IsStmts}
use Rattle.heyvl_syntax.specs.Productions.{AreSemis, IsEach, at, ◌then◌}
use Rattle.heyvl_syntax.specs.Statements.{Block, Statement, block_of}
use Rattle.heyvl_syntax.specs.declared.keys.Key.TheVariants as keys
use Rattle.heyvl_syntax.specs.declared.keys.Key.{Key}
use Rattle.heyvl_syntax.specs.declared.marks.Mark.TheVariants as marks
use Rattle.heyvl_syntax.specs.declared.marks.Mark.{Mark}
use Rattle.heyvl_syntax.specs.declared.tokens.Token.{Token}
use Rattle.heyvl_syntax.specs.declared.tokens.TokenKind.TheVariants as kinds
use Rattle.heyvl_syntax.specs.declared.tokens.TokenKind.{TokenKind}
use Rattle.std.proofs.Common.{Bool, List, [], ap, append_assoc, arith, cond, false, length, refl, subst, suc, sym, true, zero, ◌++◌, ◌<◌, ◌∙◌, ◌∷◌, ◌≡◌, ℕ}
use Rattle.std.proofs.lemmas.List.{append-nil}

skipped : (ts : List Token) → (semis : List Token) × AreSemis semis × (ts ≡ semis ++ skip ts)
skipped [] = ([], tt, refl)
skipped (t ∷ ts) = pick (is_mark marks.Semi t.kind) refl (skipped ts)
  where
    pick : (b : Bool) → is_mark marks.Semi t.kind ≡ b → ((semis : List Token) × AreSemis semis × (ts ≡ semis ++ skip ts)) → (semis : List Token) × AreSemis semis × (t ∷ ts ≡ semis ++ cond b (skip ts) (t ∷ ts))
    pick true e (semis, all, same) = (t ∷ semis, (is_mark_true marks.Semi t.kind e, all), ap (λ z. t ∷ z) same)
    pick false e rest = ([], tt, refl)

skip_semis : (semis rest : List Token) → AreSemis semis → starts (is_mark marks.Semi) rest ≡ false → skip (semis ++ rest) ≡ rest
skip_semis [] [] all quiet = refl
skip_semis [] (t ∷ ts) all quiet = rw quiet refl
skip_semis (t ∷ ts) rest (one, all) quiet = rw one (skip_semis ts rest all quiet)

local_skips : (x : Statement) → Local (λ z. Got x (skip z))
local_skips x [] = ([], refl, λ t r0 r' eq. cc)
local_skips x (u ∷ us) = pick (is_mark marks.Semi u.kind) refl (local_skips x us)
  where
    pick : (b : Bool) → is_mark marks.Semi u.kind ≡ b → LocalAt (λ z. Got x (skip z)) us (Got x (skip us)) → LocalAt (λ z. Got x (skip z)) (u ∷ us) (Got x (cond b (skip us) (u ∷ us)))
    pick true e (text, h, move) = (u ∷ text, ap (λ z. u ∷ z) h, λ t r0 r' eq. rw e (move t r0 r' eq))
    pick false e rest = ([], refl, λ t r0 r' eq. let same : u ≡ t = cc in rw (subst (λ (z : Token). is_mark marks.Semi z.kind ≡ false) same e) refl)

-- `stmt ';'*`
abbrev IsEntry : Statement → List Token → Type 0
IsEntry x = IsStmt x then AreSemis

abbrev on_entry : TokenKind → Bool
on_entry = either on_stmt (is_mark marks.Semi)

entry_laws : (n : ℕ) (block : BlockReader) → Laws n IsBlock no_kind block → Laws n IsEntry on_entry (entry n block)
entry_laws n block lb = record {
  right = λ ts. rights ts (stmt n block ts) ((stmt_laws n block lb).right ts);
  local = local_bind (stmt n block) (λ x r. Got x (skip r)) (stmt_laws n block lb).local local_skips;
  complete = done;
}
  where
    rights : (ts : List Token) (res : Read Statement) → Right IsStmt ts res → Right IsEntry ts (res >>= λ x r. Got x (skip r))
    rights ts (Got x r) (text, e, h) =
        let (semis, all, same) = skipped r in
        (text ++ semis, e ∙ ap (λ z. text ++ z) same ∙ sym (append_assoc text semis (skip r)), (text, semis, h, all, refl))
    rights ts (Bad r) (text, more, x, e, h) = (text, more, x, e, (text ++ more, [], h, tt, sym (append-nil (text ++ more))))
    rights ts Out h = tt

    quiet_semis : (semis rest : List Token) → AreSemis semis → starts on_entry rest ≡ false → starts on_stmt (semis ++ rest) ≡ false
    quiet_semis [] rest all quiet = starts_first on_stmt (is_mark marks.Semi) rest quiet
    quiet_semis (t ∷ ts) rest (one, all) quiet = rw one refl

    done : (x : Statement) (text rest : List Token) → IsEntry x text → length (text ++ rest) < n → starts on_entry rest ≡ false → entry n block (text ++ rest) ≡ Got x rest
    done x text rest (one, two, h, semis, e) len quiet =
        let cut : text ++ rest ≡ one ++ (two ++ rest) = ap (λ z. z ++ rest) e ∙ append_assoc one two rest in
        let long : length (one ++ (two ++ rest)) < n = rw cut at len in
        rw (cut, (stmt_laws n block lb).complete x one (two ++ rest) h long (quiet_semis two rest semis quiet), skip_semis two rest semis (starts_second on_stmt (is_mark marks.Semi) rest quiet)) refl

opening_free : (k : TokenKind) → is_opening k ≡ true → on_entry k ≡ false
opening_free (kinds.Word w) e = refl
opening_free (kinds.Number n) e = cc
opening_free (kinds.Key k) e = go k e
  where
    go : (k : Key) → opens (key_opening k) ≡ true → on_entry (kinds.Key k) ≡ false
    go keys.Var e = refl
    go keys.Assert e = refl
    go keys.Assume e = refl
    go keys.CoAssert e = refl
    go keys.CoAssume e = refl
    go keys.Validate e = refl
    go keys.CoValidate e = refl
    go keys.Havoc e = refl
    go keys.CoHavoc e = refl
    go keys.Reward e = refl
    go keys.Tick e = refl
    go keys.If e = refl
    go keys.While e = refl
    go _ e = cc
opening_free (kinds.Mark m) e = go m e
  where
    go : (m : Mark) → opens (mark_opening m) ≡ true → on_entry (kinds.Mark m) ≡ false
    go marks.AtSign e = refl
    go _ e = cc

entry_begins : (n : ℕ) (block : BlockReader) → Laws n IsBlock no_kind block → (x : Statement) (text : List Token) → IsEntry x text → starts is_opening text ≡ true
entry_begins n block lb x text (one, two, h, semis, e) = rw e (starts_front is_opening one two (stmt_begins n block lb x one h))

each_stmts : (xs : List Statement) (text : List Token) → IsEach IsEntry xs text → IsStmts (block_of xs) text
each_stmts [] text h = h
each_stmts (x ∷ xs) text (one, two, h, q, e) = then_assoc (IsStmt x) AreSemis (IsStmts (block_of xs)) text (one, two, h, each_stmts xs two q, e)

stmts_each : (b : Block) (text : List Token) → IsStmts b text → (xs : List Statement) × (b ≡ block_of xs) × IsEach IsEntry xs text
stmts_each Block.done text h = ([], refl, h)
stmts_each (Block.next x b) text h =
    let (one, two, entry, others, e) = then_back (IsStmt x) AreSemis (IsStmts b) text h in
    let (xs, same, q) = stmts_each b two others in
    (x ∷ xs, ap (λ z. Block.next x z) same, (one, two, entry, q, e))

abbrev on_stmts : TokenKind → Bool
on_stmts = either on_entry is_opening

some_stmts : Some_text IsStmts
some_stmts = (Block.done, [], refl)

braced_laws : (n : ℕ) (inside : BlockReader) → Laws n IsStmts on_stmts inside → Laws (suc n) IsBlock no_kind (braced inside)
braced_laws n inside l = lead_more (mark_test marks.BraceLeft) (trail_laws (mark_test marks.BraceRight) l refl) (Block.done, at (kinds.Mark marks.BraceRight) nowhere ∷ [], ([], at (kinds.Mark marks.BraceRight) nowhere ∷ [], refl, (nowhere, refl), refl))

stmts_laws : (n : ℕ) → Laws n IsStmts on_stmts (stmts n)
stmts_laws zero = record { right = λ ts. tt; local = λ ts. tt; complete = λ x text rest h len quiet. absurd (omega arith) }
stmts_laws (suc m) =
    let lb : Laws (suc m) IsBlock no_kind (braced (stmts m)) = braced_laws m (stmts m) (stmts_laws m) in
    mapped_laws block_of IsStmts (each_laws is_opening (entry_laws (suc m) (braced (stmts m)) lb) (entry_begins (suc m) (braced (stmts m)) lb) opening_free (suc m) (omega arith)) each_stmts stmts_each

pub block_laws : (n : ℕ) → Laws n IsBlock no_kind (braced (stmts n))
block_laws n = laws_less n (omega arith) (braced_laws n (stmts n) (stmts_laws n))
