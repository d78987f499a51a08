-- The laws of the readers of expressions and right sides.
use Rattle.heyvl_parse.proofs.Complete.{Quiet, mark_same}
use Rattle.heyvl_parse.proofs.Ends.{last_of}
use Rattle.heyvl_parse.proofs.Lawful.{IsTest, Laws, chosen_local, lead_laws, list0_laws, list_laws, local_same, pair_free, pair_laws, some_both, some_list, starts_first, starts_second, trail_laws}
use Rattle.heyvl_parse.proofs.Local.{AllLocal, Local, LocalAt, Moves, local_bind, local_got, local_mapped, local_more, local_one, local_reading}
use Rattle.heyvl_parse.proofs.Readings.{reads}
use Rattle.heyvl_parse.proofs.Right.{Right, RightAt, Some_text, is_mark_true, nowhere, right_map, right_reading, right_word, some_expr}
use Rattle.heyvl_parse.specs.readers.Combinators.{either, is_key, is_operator, is_there, lead, no_kind, starts}
use Rattle.heyvl_parse.specs.readers.ReadParts.{Bad, Got, Out, Read, Reader, Whole, expr, full, is_mark, mapped, more, operator_of, pair, placed, ranked, reading, word, ◌>>=◌}
use Rattle.heyvl_parse.specs.internal.Rights.{arguments, call, call_tree, called_behind, enclosed_expr, is_a_word, is_call, key_right, kind_right, no_call, right, right_by, right_if, right_start, two, unif_tree, weighted, weights}
use Rattle.heyvl_parse.specs.declared.rights.RightStart.TheVariants as starts_as
use Rattle.heyvl_parse.specs.declared.rights.RightStart.{RightStart}
use Rattle.heyvl_syntax.specs.Expressions.{Expression}
use Rattle.heyvl_syntax.specs.Grammar.{IsCall, IsFull, IsRight, IsWeighted}
use Rattle.heyvl_syntax.specs.Productions.{IsKey, IsList, IsList0, IsMark, IsName, IsOne, at, ◌then◌}
use Rattle.heyvl_syntax.specs.Statements.{RightSide}
use Rattle.heyvl_syntax.specs.contracts.keys.Key.{the_type as the_keys}
use Rattle.heyvl_syntax.specs.declared.keys.Key.TheVariants as keys
use Rattle.heyvl_syntax.specs.declared.keys.Key.{Key}
use Rattle.heyvl_syntax.specs.declared.marks.Mark.TheVariants as marks
use Rattle.heyvl_syntax.specs.declared.marks.Mark.{Mark}
use Rattle.heyvl_syntax.specs.declared.operators.BinaryOp.{BinaryOp}
use Rattle.heyvl_places.specs.declared.spans.Span.{Span}
use Rattle.heyvl_syntax.specs.declared.tokens.Token.{Token}
use Rattle.heyvl_syntax.specs.declared.tokens.TokenKind.TheVariants as kinds
use Rattle.heyvl_syntax.specs.declared.tokens.TokenKind.{TokenKind}
use Rattle.std.proofs.Common.{Bool, List, None, Option, Some, [], ap, arith, false, length, length-append, refl, subst, suc, sym, true, zero, ◌++◌, ◌<◌, ◌∙◌, ◌∷◌, ◌≡◌, ◌≤◌, ℕ}
use denote.Enum.Bare.{same_true}

pub mark_test : (m : Mark) → IsTest (kinds.Mark m) (is_mark m)
mark_test m = record { only = is_mark_true m; holds = mark_same m nowhere }

key_same : (k : Key) → is_key k (kinds.Key k) ≡ true
key_same keys.Proc = refl
key_same _ = refl

is_key_true : (k : Key) (kind : TokenKind) → is_key k kind ≡ true → kind ≡ kinds.Key k
is_key_true k (kinds.Key l) e = ap kinds.Key (same_true the_keys tt l k e)
is_key_true k (kinds.Word w) e = cc
is_key_true k (kinds.Number n) e = cc
is_key_true k (kinds.Mark m) e = cc

pub key_test : (k : Key) → IsTest (kinds.Key k) (is_key k)
key_test k = record { only = is_key_true k; holds = key_same k }

quiet_of : (rest : List Token) → starts is_operator rest ≡ false → Quiet 9 rest
quiet_of [] e j lt = refl
quiet_of (t ∷ ts) e j lt = go (operator_of t.kind) e
  where
    go : (o : Option BinaryOp) → is_there o ≡ false → placed t.span ts (ranked j o) ≡ None
    go None e = refl
    go (Some op) e = cc

pub expr_laws : (n : ℕ) → Laws n IsFull is_operator (expr n)
expr_laws n = record {
  right = λ ts. right_reading n Whole ts;
  local = local_reading n Whole;
  complete = λ x text rest h len quiet. reads n text rest x len h (quiet_of rest quiet);
}

pub some_full : Some_text IsFull
some_full = some_expr 9

-- The kinds that begin no expression.
abbrev pub IsBarred : (TokenKind → Bool) → Type 0
IsBarred test = (k : TokenKind) → test k ≡ true → (s : Span) (ts : List Token) (n : ℕ) → reading (suc n) Whole (at k s ∷ ts) ≡ Bad (at k s ∷ ts)

pub barred : (test : TokenKind → Bool) → IsBarred test → (x : Expression) (text rest : List Token) → IsFull x text → starts test (text ++ rest) ≡ false
barred test bar x [] rest h = absurd (omega (arith, (last_of x 9 [] h).0))
barred test bar x (t ∷ ts) rest h = pick (test t.kind) refl
  where
    pick : (b : Bool) → test t.kind ≡ b → test t.kind ≡ false
    pick false e = e
    pick true e =
        let n : ℕ = suc (length (t ∷ (ts ++ []))) in
        let got : reading n Whole (t ∷ (ts ++ [])) ≡ Got x [] = reads n (t ∷ ts) [] x (omega arith) h (λ j lt. refl) in
        let bad = bar t.kind e t.span (ts ++ []) (length (t ∷ (ts ++ []))) in
        cc

close_barred : IsBarred (is_mark marks.ParenRight)
close_barred k e s ts n = rw (is_mark_true marks.ParenRight k e) refl

pub word_laws : (n : ℕ) → Laws n IsName no_kind word
word_laws n = record {
  right = right_word;
  local = local_one _;
  complete = λ x text rest (s, e) len quiet. rw e refl;
}

pub arguments_laws : (n : ℕ) → Laws n (λ xs. IsMark marks.ParenLeft then IsList0 IsFull xs then IsMark marks.ParenRight) no_kind (arguments n)
arguments_laws n = lead_laws (mark_test marks.ParenLeft) (list0_laws (expr_laws n) some_full refl refl (barred (is_mark marks.ParenRight) close_barred)) some_inside
  where
    some_inside : Some_text (λ xs. IsList0 IsFull xs then IsMark marks.ParenRight)
    some_inside = ([], at (kinds.Mark marks.ParenRight) nowhere ∷ [], ([], at (kinds.Mark marks.ParenRight) nowhere ∷ [], refl, (nowhere, refl), refl))

some_arguments : Some_text (λ xs. IsMark marks.ParenLeft then IsList0 IsFull xs then IsMark marks.ParenRight)
some_arguments = ([], at (kinds.Mark marks.ParenLeft) nowhere ∷ (at (kinds.Mark marks.ParenRight) nowhere ∷ []), (at (kinds.Mark marks.ParenLeft) nowhere ∷ [], at (kinds.Mark marks.ParenRight) nowhere ∷ [], (nowhere, refl), ([], at (kinds.Mark marks.ParenRight) nowhere ∷ [], refl, (nowhere, refl), refl), refl))

pub call_laws : (n : ℕ) → Laws n (λ p. IsCall p.0 p.1) no_kind (call n)
call_laws n = pair_free (word_laws n) (arguments_laws n) some_arguments

pub some_trail : {A : Type 0} {P : A → List Token → Type 0} (kind : TokenKind) → Some_text P → Some_text (λ x. P x then IsOne kind)
some_trail kind (x, text, p) = (x, text ++ (at kind nowhere ∷ []), (text, at kind nowhere ∷ [], p, (nowhere, refl), refl))

pub some_lead : {A : Type 0} {P : A → List Token → Type 0} (kind : TokenKind) → Some_text P → Some_text (λ x. IsOne kind then P x)
some_lead kind (x, text, p) = (x, at kind nowhere ∷ text, (at kind nowhere ∷ [], text, (nowhere, refl), p, refl))

pub enclosed_laws : (n : ℕ) → Laws n (λ a. IsMark marks.ParenLeft then IsFull a then IsMark marks.ParenRight) no_kind (enclosed_expr n)
enclosed_laws n = lead_laws (mark_test marks.ParenLeft) (trail_laws (mark_test marks.ParenRight) (expr_laws n) refl) (some_trail (kinds.Mark marks.ParenRight) some_full)

pub some_enclosed : Some_text (λ a. IsMark marks.ParenLeft then IsFull a then IsMark marks.ParenRight)
some_enclosed = some_lead (kinds.Mark marks.ParenLeft) (some_trail (kinds.Mark marks.ParenRight) some_full)

abbrev pub IsTwo : Expression × Expression → List Token → Type 0
IsTwo p = IsMark marks.ParenLeft then IsFull p.0 then IsMark marks.Comma then IsFull p.1 then IsMark marks.ParenRight

pub ended_by : (P : List Token → Type 0) (stop : TokenKind → Bool) (kind : TokenKind) → stop kind ≡ false → (text rest : List Token) → (IsOne kind then P) text → starts stop (text ++ rest) ≡ false
ended_by P stop kind free text rest (one, two, (s, h), p, e) = rw (e, h) free

some_second : Some_text (λ b. IsMark marks.Comma then IsFull b then IsMark marks.ParenRight)
some_second = some_lead (kinds.Mark marks.Comma) (some_trail (kinds.Mark marks.ParenRight) some_full)

pub two_laws : (n : ℕ) → Laws n IsTwo no_kind (two n)
two_laws n =
    lead_laws (mark_test marks.ParenLeft)
    (pair_laws (expr_laws n) (lead_laws (mark_test marks.Comma) (trail_laws (mark_test marks.ParenRight) (expr_laws n) refl) (some_trail (kinds.Mark marks.ParenRight) some_full)) some_second (λ y text rest h quiet. ended_by _ is_operator (kinds.Mark marks.Comma) refl text rest h))
    (some_both some_full some_second)

pub some_two : Some_text IsTwo
some_two = some_lead (kinds.Mark marks.ParenLeft) (some_both some_full some_second)

some_value : Some_text (λ b. IsMark marks.Colon then IsFull b)
some_value = some_lead (kinds.Mark marks.Colon) some_full

weighted_laws : (n : ℕ) → Laws n IsWeighted is_operator (weighted n)
weighted_laws n = pair_laws (expr_laws n) (lead_laws (mark_test marks.Colon) (expr_laws n) some_full) some_value (λ y text rest h quiet. ended_by _ is_operator (kinds.Mark marks.Colon) refl text rest h)

some_weighted : Some_text IsWeighted
some_weighted = some_both some_full some_value

abbrev IsWeights : List (Expression × Expression) → List Token → Type 0
IsWeights parts = IsMark marks.BraceLeft then IsList IsWeighted parts then IsMark marks.BraceRight

weights_laws : (n : ℕ) → Laws n IsWeights no_kind (weights n)
weights_laws n = lead_laws (mark_test marks.BraceLeft) (trail_laws (mark_test marks.BraceRight) (list_laws (weighted_laws n) some_weighted refl) refl) (some_trail (kinds.Mark marks.BraceRight) (some_list some_weighted))

some_weights : Some_text IsWeights
some_weights = some_lead (kinds.Mark marks.BraceLeft) (some_trail (kinds.Mark marks.BraceRight) (some_list some_weighted))

-- The three right sides that a keyword begins, a call and an expression.
abbrev Flipped : Expression → List Token → Type 0
Flipped p = IsKey keys.Flip then IsMark marks.ParenLeft then IsFull p then IsMark marks.ParenRight

abbrev Unified : Expression × Expression → List Token → Type 0
Unified p = IsKey keys.Unif then IsTwo p

abbrev Chosen : List (Expression × Expression) → List Token → Type 0
Chosen parts = IsKey keys.Choose then IsWeights parts

flip_laws : (n : ℕ) → Laws n Flipped no_kind (lead (is_key keys.Flip) (enclosed_expr n))
flip_laws n = lead_laws (key_test keys.Flip) (enclosed_laws n) some_enclosed

unif_laws : (n : ℕ) → Laws n Unified no_kind (lead (is_key keys.Unif) (two n))
unif_laws n = lead_laws (key_test keys.Unif) (two_laws n) some_two

choose_laws : (n : ℕ) → Laws n Chosen no_kind (lead (is_key keys.Choose) (weights n))
choose_laws n = lead_laws (key_test keys.Choose) (weights_laws n) some_weights

right_no_call : (n : ℕ) (start : RightStart) → RightAt IsRight (right_by n start)
right_no_call n starts_as.Flip ts = right_map Flipped IsRight RightSide.flip ts _ (λ x text h. h) ((flip_laws n).right ts)
right_no_call n starts_as.Unif ts = right_map Unified IsRight unif_tree ts _ (λ x text h. h) ((unif_laws n).right ts)
right_no_call n starts_as.Choose ts = right_map Chosen IsRight RightSide.choose ts _ (λ x text h. h) ((choose_laws n).right ts)
right_no_call n starts_as.Plain ts = right_map IsFull IsRight RightSide.plain ts _ (λ x text h. h) ((expr_laws n).right ts)

right_rights : (n : ℕ) → RightAt IsRight (right n)
right_rights n ts = go (is_call ts)
  where
    go : (b : Bool) → Right IsRight ts (right_if n b ts)
    go true = right_map (λ p. IsCall p.0 p.1) IsRight call_tree ts _ (λ x text h. h) ((call_laws n).right ts)
    go false = right_no_call n (right_start ts) ts

local_by : (n : ℕ) (start : RightStart) → Local (right_by n start)
local_by n starts_as.Flip = local_mapped RightSide.flip (lead (is_key keys.Flip) (enclosed_expr n)) (flip_laws n).local
local_by n starts_as.Unif = local_mapped unif_tree (lead (is_key keys.Unif) (two n)) (unif_laws n).local
local_by n starts_as.Choose = local_mapped RightSide.choose (lead (is_key keys.Choose) (weights n)) (choose_laws n).local
local_by n starts_as.Plain = local_mapped RightSide.plain (expr n) (expr_laws n).local

local_no_call : (n : ℕ) → Local (no_call n)
local_no_call n = chosen_local right_start (right_by n) (no_call n) (λ ts. refl) (λ t r r'. refl) (local_by n)

-- A reader that takes a token if the tokens begin with an identifier.
abbrev pub Within : {A : Type 0} → List Token → Read A → Type 0
Within us (Got x r) = length r ≤ length us
Within us (Bad r) = length r ≤ length us
Within us Out = Unit {0}

abbrev pub Takes : {A : Type 0} → (List Token → Read A) → Type 0
Takes f = (w : List ℕ) (s : Span) (us : List Token) → Within us (f (at (kinds.Word w) s ∷ us))

pub takes_mapped : {A B : Type 0} (h : A → B) (f : List Token → Read A) → Takes f → Takes (mapped h f)
takes_mapped {A} {B} h f takes w s us = go (f (at (kinds.Word w) s ∷ us)) (takes w s us)
  where
    go : (res : Read A) → Within us res → Within us (res >>= λ x r. Got (h x) r)
    go (Got x r) le = le
    go (Bad r) le = le
    go Out le = tt

pub within_local : {A : Type 0} (f : List Token → Read A) (us : List Token) (res : Read A) → LocalAt f us res → Within us res
within_local f us (Got x r) (text, e, move) = omega (arith, ap length e, length-append text r)
within_local f us (Bad r) (text, e, move) = omega (arith, ap length e, length-append text r)
within_local f us Out h = tt

pub takes_word : {B : Type 0} (g : List Token → Read B) → Local g → Takes (pair word g)
takes_word {B} g lg w s us = within_local (mapped (λ y. (w, y)) g) us (mapped (λ y. (w, y)) g us) (local_mapped (λ y. (w, y)) g lg us)

-- The reading after an operand.
tail : Reader → ℕ → Expression → List Token → Read Expression
tail self zero e ts = Got e ts
tail self (suc k) e ts = tail self k e ts >>= more self (suc k)

full_tail : (self : Reader) (k : ℕ) (w : List ℕ) (s : Span) (us : List Token) → full self k (at (kinds.Word w) s ∷ us) ≡ tail self k (Expression.name w s) us
unfolding tail
full_tail self zero w s us = refl
full_tail self (suc k) w s us = rw (full_tail self k w s us) refl

local_tail : (self : Reader) → AllLocal self → (k : ℕ) (e : Expression) → Local (tail self k e)
unfolding tail
local_tail self l zero e = local_got e
local_tail self l (suc k) e = local_bind (tail self k e) (more self (suc k)) (local_tail self l k e) (λ a. local_more self l (suc k) a)

takes_expr : (n : ℕ) → Takes (expr n)
takes_expr zero w s us = tt
takes_expr (suc n) w s us =
    subst (λ (z : Read Expression). Within us z) (sym (full_tail (reading n) 8 w s us))
    (within_local (tail (reading n) 8 (Expression.name w s)) us (tail (reading n) 8 (Expression.name w s) us) (local_tail (reading n) (local_reading n) 8 (Expression.name w s) us))

takes_no_call : (n : ℕ) → Takes (no_call n)
takes_no_call n w s us = takes_mapped RightSide.plain (expr n) (takes_expr n) w s us

pub takes_call : (n : ℕ) → Takes (call n)
takes_call n = takes_word (arguments n) (arguments_laws n).local

abbrev pub picked_by : {A : Type 0} → (List Token → Read A) → (List Token → Read A) → Bool → List Token → Read A
picked_by f g true ts = f ts
picked_by f g false ts = g ts

not_word : (t : Token) → ((w : List ℕ) → t.kind ≡ kinds.Word w → ⊥) → is_a_word t.kind ≡ false
not_word t never = go t.kind refl
  where
    go : (k : TokenKind) → t.kind ≡ k → is_a_word k ≡ false
    go (kinds.Word w) e = absurd (never w e)
    go (kinds.Key k) e = refl
    go (kinds.Number n) e = refl
    go (kinds.Mark m) e = refl

called_same : (b : Bool) (t : Token) (r r' : List Token) → called_behind b (t ∷ r) ≡ called_behind b (t ∷ r')
called_same true t r r' = refl
called_same false t r r' = refl

-- The first two tokens decide which of two readers is used.
pub call_local : {A : Type 0} (f g h : List Token → Read A) → ((ts : List Token) → h ts ≡ picked_by f g (is_call ts) ts) → Local f → Local g → Takes f → Takes g → Local h
call_local {A} f g h is lf lg tf tg = local_same h (λ ts. picked_by f g (is_call ts) ts) is all
  where
    local_picked : (b : Bool) → Local (picked_by f g b)
    local_picked true = lf
    local_picked false = lg

    takes_picked : (b : Bool) → Takes (picked_by f g b)
    takes_picked true = tf
    takes_picked false = tg

    same_call : (k : TokenKind) (s : Span) (us text r : List Token) → at k s ∷ us ≡ text ++ r → ((w : List ℕ) → k ≡ kinds.Word w → length r ≤ length us) → (t : Token) (r0 r' : List Token) → r ≡ t ∷ r0 → is_call (text ++ (t ∷ r')) ≡ is_call (at k s ∷ us)
    same_call (kinds.Word w) s us [] r e le t r0 r' eq = absurd (let small = le w refl in omega (arith, ap length e))
    same_call (kinds.Key k) s us [] r e le t r0 r' eq = let both : at (kinds.Key k) s ∷ us ≡ t ∷ r0 = e ∙ eq in let head : at (kinds.Key k) s ≡ t = cc in rw (← head) refl
    same_call (kinds.Number n) s us [] r e le t r0 r' eq = let both : at (kinds.Number n) s ∷ us ≡ t ∷ r0 = e ∙ eq in let head : at (kinds.Number n) s ≡ t = cc in rw (← head) refl
    same_call (kinds.Mark m) s us [] r e le t r0 r' eq = let both : at (kinds.Mark m) s ∷ us ≡ t ∷ r0 = e ∙ eq in let head : at (kinds.Mark m) s ≡ t = cc in rw (← head) refl
    same_call k s us (v ∷ []) r e le t r0 r' eq =
        let head : at k s ≡ v = cc in
        let back : us ≡ t ∷ r0 = (let b : us ≡ r = cc in b ∙ eq) in
        rw (← head, back) (called_same (is_a_word k) t r' r0)
    same_call k s us (v ∷ w ∷ text) r e le t r0 r' eq =
        let head : at k s ≡ v = cc in
        let back : us ≡ w ∷ (text ++ r) = cc in
        rw (← head, back) (called_same (is_a_word k) w (text ++ (t ∷ r')) (text ++ r))

    moved : (k : TokenKind) (s : Span) (us : List Token) (put : List Token → Read A) (r : List Token) → ((w : List ℕ) → k ≡ kinds.Word w → length r ≤ length us) → Moves (picked_by f g (is_call (at k s ∷ us))) put (at k s ∷ us) r → Moves (λ ts. picked_by f g (is_call ts) ts) put (at k s ∷ us) r
    moved k s us put r le (text, e, move) =
        (text, e, λ t r0 r' eq. ap (λ b. picked_by f g b (text ++ (t ∷ r'))) (same_call k s us text r e le t r0 r' eq) ∙ move t r0 r' eq)

    by : (k : TokenKind) (s : Span) (us : List Token) (res : Read A) → ((w : List ℕ) → k ≡ kinds.Word w → Within us res) → LocalAt (picked_by f g (is_call (at k s ∷ us))) (at k s ∷ us) res → LocalAt (λ ts. picked_by f g (is_call ts) ts) (at k s ∷ us) res
    by k s us (Got x r) le l = moved k s us (λ z. Got x z) r le l
    by k s us (Bad r) le l = moved k s us (λ z. Bad z) r le l
    by k s us Out le l = tt

    within : (k : TokenKind) (s : Span) (us : List Token) (w : List ℕ) → k ≡ kinds.Word w → Within us (picked_by f g (is_call (at k s ∷ us)) (at k s ∷ us))
    within k s us w e = rw e (takes_picked (is_call (at (kinds.Word w) s ∷ us)) w s us)

    at_end : (res : Read A) → LocalAt g [] res → LocalAt (λ ts. picked_by f g (is_call ts) ts) [] res
    at_end (Got x r) ([], e, move) = ([], e, λ t r0 r' eq. let both : [] ≡ t ∷ r0 = e ∙ eq in cc)
    at_end (Got x r) (v ∷ text, e, move) = cc
    at_end (Bad r) ([], e, move) = ([], e, λ t r0 r' eq. let both : [] ≡ t ∷ r0 = e ∙ eq in cc)
    at_end (Bad r) (v ∷ text, e, move) = cc
    at_end Out l = tt

    all : Local (λ ts. picked_by f g (is_call ts) ts)
    all [] = at_end (g []) (lg [])
    all (u ∷ us) = by u.kind u.span us (picked_by f g (is_call (u ∷ us)) (u ∷ us)) (λ w e. within u.kind u.span us w e) (local_picked (is_call (u ∷ us)) (u ∷ us))

local_rights : (n : ℕ) → Local (right n)
local_rights n = call_local (mapped call_tree (call n)) (no_call n) (right n) same (local_mapped call_tree (call n) (call_laws n).local) (local_no_call n) (takes_mapped call_tree (call n) (takes_call n)) (takes_no_call n)
  where
    go : (ts : List Token) (b : Bool) → right_if n b ts ≡ picked_by (mapped call_tree (call n)) (no_call n) b ts
    go ts true = refl
    go ts false = refl

    same : (ts : List Token) → right n ts ≡ picked_by (mapped call_tree (call n)) (no_call n) (is_call ts) ts
    same ts = go ts (is_call ts)

pub led : (P : List Token → Type 0) (kind : TokenKind) (text rest : List Token) → (IsOne kind then P) text → (s : Span) × (back : List Token) × P back × (text ++ rest ≡ at kind s ∷ (back ++ rest))
led P kind text rest (one, two, (s, h), p, e) = (s, two, p, ap (λ z. z ++ rest) (e ∙ ap (λ z. z ++ two) h))

-- An identifier alone before `(` ends an expression.
pub no_call_here : (a : Expression) (text rest : List Token) → IsFull a text → starts is_operator rest ≡ false → starts (is_mark marks.ParenLeft) rest ≡ false → is_call (text ++ rest) ≡ false
no_call_here a text rest h quiet shut = go (text ++ rest) refl
  where
    found : (w : List ℕ) (s : Span) (t : Token) (zs : List Token) → text ++ rest ≡ at (kinds.Word w) s ∷ (t ∷ zs) → is_mark marks.ParenLeft t.kind ≡ true → ⊥
    found w s t zs e paren =
        let n : ℕ = suc (length (text ++ rest)) in
        let got : reading n Whole (text ++ rest) ≡ Got a rest = reads n text rest a (omega arith) h (quiet_of rest quiet) in
        let kind_is : t.kind ≡ kinds.Mark marks.ParenLeft = is_mark_true marks.ParenLeft t.kind paren in
        let plain : reading n Whole (at (kinds.Word w) s ∷ (at t.kind t.span ∷ zs)) ≡ Got (Expression.name w s) (t ∷ zs) = rw kind_is refl in
        let same : Got a rest ≡ Got (Expression.name w s) (t ∷ zs) = sym got ∙ ap (reading n Whole) e ∙ plain in
        let rest_is : rest ≡ t ∷ zs = cc in
        let closed : is_mark marks.ParenLeft t.kind ≡ false = rw rest_is at shut in
        cc

    by_mark : (w : List ℕ) (s : Span) (us : List Token) → text ++ rest ≡ at (kinds.Word w) s ∷ us → starts (is_mark marks.ParenLeft) us ≡ false
    by_mark w s [] e = refl
    by_mark w s (t ∷ us) e = pick (is_mark marks.ParenLeft t.kind) refl
      where
        pick : (b : Bool) → is_mark marks.ParenLeft t.kind ≡ b → is_mark marks.ParenLeft t.kind ≡ false
        pick false same = same
        pick true same = absurd (found w s t us e same)

    by_kind : (k : TokenKind) (s : Span) (us : List Token) → text ++ rest ≡ at k s ∷ us → called_behind (is_a_word k) us ≡ false
    by_kind (kinds.Word w) s us e = by_mark w s us e
    by_kind (kinds.Key k) s us e = refl
    by_kind (kinds.Number n) s us e = refl
    by_kind (kinds.Mark m) s us e = refl

    go : (ts : List Token) → text ++ rest ≡ ts → is_call ts ≡ false
    go [] e = refl
    go (t ∷ ts) e = by_kind t.kind t.span ts e

key_special : Key → Bool
key_special keys.Flip = true
key_special keys.Unif = true
key_special keys.Choose = true
key_special _ = false

special : TokenKind → Bool
special (kinds.Key k) = key_special k
special (kinds.Word w) = false
special (kinds.Number n) = false
special (kinds.Mark m) = false

special_barred : IsBarred special
unfolding special key_special
special_barred (kinds.Key keys.Flip) e s ts n = refl
special_barred (kinds.Key keys.Unif) e s ts n = refl
special_barred (kinds.Key keys.Choose) e s ts n = refl
special_barred (kinds.Key _) e s ts n = cc
special_barred (kinds.Word w) e s ts n = cc
special_barred (kinds.Number m) e s ts n = cc
special_barred (kinds.Mark m) e s ts n = cc

plain_key : (k : Key) → key_special k ≡ false → key_right k ≡ starts_as.Plain
unfolding key_special
plain_key keys.Flip e = cc
plain_key keys.Unif e = cc
plain_key keys.Choose e = cc
plain_key _ e = refl

plain_start : (ts : List Token) → starts special ts ≡ false → right_start ts ≡ starts_as.Plain
unfolding special
plain_start [] e = refl
plain_start (t ∷ ts) e = go t.kind e
  where
    go : (k : TokenKind) → special k ≡ false → kind_right k ≡ starts_as.Plain
    go (kinds.Key k) e = plain_key k e
    go (kinds.Word w) e = refl
    go (kinds.Number n) e = refl
    go (kinds.Mark m) e = refl

-- The kinds that continue a right side.
abbrev pub on_right : TokenKind → Bool
on_right = either is_operator (is_mark marks.ParenLeft)

at_class : (n : ℕ) (ts : List Token) (b : Bool) → is_call ts ≡ b → right n ts ≡ right_if n b ts
at_class n ts b e = ap (λ z. right_if n z ts) e

at_start : (n : ℕ) (ts : List Token) (start : RightStart) → is_call ts ≡ false → right_start ts ≡ start → right n ts ≡ right_by n start ts
at_start n ts start e e2 = at_class n ts false e ∙ ap (λ z. right_by n z ts) e2

pub anything : (rest : List Token) → starts no_kind rest ≡ false
anything [] = refl
anything (t ∷ ts) = refl

complete_right : (n : ℕ) (r : RightSide) (text rest : List Token) → IsRight r text → length (text ++ rest) < n → starts on_right rest ≡ false → right n (text ++ rest) ≡ Got r rest
complete_right n (RightSide.flip p) text rest h len quiet =
    let (s, back, inner, e) = led _ (kinds.Key keys.Flip) text rest h in
    at_start n (text ++ rest) starts_as.Flip (rw e refl) (rw e refl) ∙ rw ((flip_laws n).complete p text rest h len (anything rest)) refl
complete_right n (RightSide.unif a b) text rest h len quiet =
    let (s, back, inner, e) = led _ (kinds.Key keys.Unif) text rest h in
    at_start n (text ++ rest) starts_as.Unif (rw e refl) (rw e refl) ∙ rw ((unif_laws n).complete (a, b) text rest h len (anything rest)) refl
complete_right n (RightSide.choose parts) text rest h len quiet =
    let (s, back, inner, e) = led _ (kinds.Key keys.Choose) text rest h in
    at_start n (text ++ rest) starts_as.Choose (rw e refl) (rw e refl) ∙ rw ((choose_laws n).complete parts text rest h len (anything rest)) refl
complete_right n (RightSide.call f given) text rest h len quiet =
    let (s, back, inner, e) = led _ (kinds.Word f) text rest h in
    let (s2, back2, inner2, e2) = led _ (kinds.Mark marks.ParenLeft) back rest inner in
    at_class n (text ++ rest) true (rw (e, e2) refl) ∙ rw ((call_laws n).complete (f, given) text rest h len (anything rest)) refl
complete_right n (RightSide.plain a) text rest h len quiet =
    let off = starts_first is_operator (is_mark marks.ParenLeft) rest quiet in
    at_start n (text ++ rest) starts_as.Plain (no_call_here a text rest h off (starts_second is_operator (is_mark marks.ParenLeft) rest quiet)) (plain_start (text ++ rest) (barred special special_barred a text rest h))
    ∙ rw ((expr_laws n).complete a text rest h len off) refl

pub right_laws : (n : ℕ) → Laws n IsRight on_right (right n)
right_laws n = record { right = right_rights n; local = local_rights n; complete = complete_right n }

pub some_right : Some_text IsRight
some_right = let (x, text, h) = some_full in (RightSide.plain x, text, h)
