-- Soundness of reading: the tokens that it takes spell what it gives, and those before an error can
-- be completed.
use Rattle.heyvl_parse.proofs.Ends.{LastIs, last_of, last_one, last_then}
use Rattle.heyvl_parse.specs.readers.ReadParts.{Bad, Bounds, Choices, Full, Got, More, Out, Part, Read, Reader, Whole, after, bound_parts, bound_tree, bracket_tree, by_kind, choice_parts, choice_tree, embed_tree, enclosed, end_of, expect, full, given, group_tree, is_mark, joined, key_operator, key_start, key_type, mark_operator, mark_place, mark_start, more, one, operand, operator_of, pair, placed, prefix_tree, prefixed, quantified, quantifier_of, ranked, reach, reading, repeats, started, step, type_name, type_of, whole, word, word_of, ◌>>=◌}
use Rattle.heyvl_parse.specs.declared.starts.Start.TheVariants as starts
use Rattle.heyvl_parse.specs.declared.starts.Start.{Start}
use Rattle.heyvl_syntax.specs.Expressions.{Expression}
use Rattle.heyvl_syntax.specs.Grammar.{IsExpr, IsType, operator, prefix, quantifier_key, ranks, truth_key}
use Rattle.heyvl_syntax.specs.Productions.{IsAt, IsName, at, extent, ◌then◌}
use Rattle.heyvl_syntax.specs.contracts.marks.Mark.{the_type as the_marks}
use Rattle.heyvl_syntax.specs.declared.keys.Key.TheVariants as keys
use Rattle.heyvl_syntax.specs.declared.keys.Key.{Key}
use Rattle.heyvl_syntax.specs.declared.marks.Mark.TheVariants as marks
use Rattle.heyvl_syntax.specs.declared.marks.Mark.{Mark}
use Rattle.heyvl_syntax.specs.declared.operators.BinaryOp.TheVariants as ops
use Rattle.heyvl_syntax.specs.declared.operators.BinaryOp.{BinaryOp}
use Rattle.heyvl_syntax.specs.declared.operators.UnaryOp.{UnaryOp}
use Rattle.heyvl_places.specs.declared.spans.Span.{Span}
use Rattle.heyvl_syntax.specs.declared.tokens.Token.{Token}
use Rattle.heyvl_syntax.specs.declared.tokens.TokenKind.TheVariants as kinds
use Rattle.heyvl_syntax.specs.declared.tokens.TokenKind.{TokenKind}
use Rattle.heyvl_syntax.specs.declared.types.TypeName.TheVariants as types
use Rattle.std.proofs.Common.{Bool, List, None, Option, Some, [], ap, append_assoc, arith, cond, eqb, false, refl, subst, suc, sym, true, zero, ◌++◌, ◌∙◌, ◌∷◌, ◌≡◌, ◌≤◌, ℕ}
use Rattle.std.proofs.lemmas.Bool.{eqb-true}
use Rattle.std.proofs.lemmas.List.{append-nil}
use denote.Enum.Bare.{same_true}

abbrev pub Right : {A : Type 0} → (A → List Token → Type 0) → List Token → Read A → Type 0
Right Is ts (Got x r) = (text : List Token) × (ts ≡ text ++ r) × Is x text
Right {A} Is ts (Bad r) = (text more : List Token) × (x : A) × (ts ≡ text ++ r) × Is x (text ++ more)
Right Is ts Out = Unit {0}

-- Some tokens spell a thing of this production.
abbrev pub Some_text : {A : Type 0} → (A → List Token → Type 0) → Type 0
Some_text {A} Is = (x : A) × (text : List Token) × Is x text

abbrev pub RightAt : {A : Type 0} → (A → List Token → Type 0) → (List Token → Read A) → Type 0
RightAt Is f = (ts : List Token) → Right Is ts (f ts)

pub right_map : {A B : Type 0} (P : A → List Token → Type 0) (Q : B → List Token → Type 0) (h : A → B) (ts : List Token) (res : Read A) → ((x : A) (text : List Token) → P x text → Q (h x) text) → Right P ts res → Right Q ts (res >>= λ x r. Got (h x) r)
right_map P Q h ts (Got x r) f (text, e, p) = (text, e, f x text p)
right_map P Q h ts (Bad r) f (text, more, x, e, p) = (text, more, h x, e, f x (text ++ more) p)
right_map P Q h ts Out f p = tt

pub right_as : {A : Type 0} (P Q : A → List Token → Type 0) (ts : List Token) (res : Read A) → ((x : A) (text : List Token) → P x text → Q x text) → Right P ts res → Right Q ts res
right_as P Q ts (Got x r) f (text, e, p) = (text, e, f x text p)
right_as P Q ts (Bad r) f (text, more, x, e, p) = (text, more, x, e, f x (text ++ more) p)
right_as P Q ts Out f p = tt

pub right_behind : {B : Type 0} (Q : B → List Token → Type 0) (ts text r : List Token) (res : Read B) → ts ≡ text ++ r → Right (λ y t. Q y (text ++ t)) r res → Right Q ts res
right_behind Q ts text r (Got y r') e (t, e', q) = (text ++ t, e ∙ ap (λ z. text ++ z) e' ∙ sym (append_assoc text t r'), q)
right_behind Q ts text r (Bad r') e (t, more, y, e', q) =
    (text ++ t, more, y, e ∙ ap (λ z. text ++ z) e' ∙ sym (append_assoc text t r'), subst (Q y) (sym (append_assoc text t more)) q)
right_behind Q ts text r Out e h = tt

pub right_bind : {A B : Type 0} (P : A → List Token → Type 0) (Q : B → List Token → Type 0) (ts : List Token) (res : Read A) (k : A → List Token → Read B) → Right P ts res → ((x : A) (text r : List Token) → P x text → Right (λ y t. Q y (text ++ t)) r (k x r)) → ((x : A) (text : List Token) → P x text → (more : List Token) × (y : B) × Q y (text ++ more)) → Right Q ts (res >>= k)
right_bind P Q ts (Got x r) k (text, e, h) f g = right_behind Q ts text r (k x r) e (f x text r h)
right_bind P Q ts (Bad r) k (text, more, x, e, h) f g =
    let (rest, y, q) = g x (text ++ more) h in
    (text, more ++ rest, y, e, subst (Q y) (append_assoc text more rest) q)
right_bind P Q ts Out k h f g = tt

abbrev pub Pair : {A B : Type 0} → (A → List Token → Type 0) → (B → List Token → Type 0) → A × B → List Token → Type 0
Pair P Q (x, y) = P x then Q y

second : {A B : Type 0} (P : A → List Token → Type 0) (Q : B → List Token → Type 0) (ts text r : List Token) (x : A) (res : Read B) → ts ≡ text ++ r → P x text → Right Q r res → Right (Pair P Q) ts (res >>= λ y r'. Got (x, y) r')
second P Q ts text r x (Got y r') e p (t, e', q) =
    (text ++ t, e ∙ ap (λ z. text ++ z) e' ∙ sym (append_assoc text t r'), (text, t, p, q, refl))
second P Q ts text r x (Bad r') e p (t, more, y, e', q) =
    (text ++ t, more, (x, y), e ∙ ap (λ z. text ++ z) e' ∙ sym (append_assoc text t r'), (text, t ++ more, p, q, append_assoc text t more))
second P Q ts text r x Out e p h = tt

pub right_pair : {A B : Type 0} (P : A → List Token → Type 0) (Q : B → List Token → Type 0) (f : List Token → Read A) (g : List Token → Read B) → RightAt P f → RightAt Q g → Some_text Q → RightAt (Pair P Q) (pair f g)
right_pair {A} P Q f g rf rg (y, t, q) ts = go (f ts) (rf ts)
  where
    go : (res : Read A) → Right P ts res → Right (Pair P Q) ts (res >>= λ x r. g r >>= λ y r'. Got (x, y) r')
    go (Got x r) (text, e, p) = second P Q ts text r x (g r) e p (rg r)
    go (Bad r) (text, more, x, e, p) = (text, more ++ t, (x, y), e, (text ++ more, t, p, q, sym (append_assoc text more t)))
    go Out h = tt

pub some_pair : {A B : Type 0} (P : A → List Token → Type 0) (Q : B → List Token → Type 0) → Some_text P → Some_text Q → Some_text (Pair P Q)
some_pair P Q (x, one, p) (y, two, q) = ((x, y), one ++ two, (one, two, p, q, refl))

abbrev pub Holds : {A : Type 0} → (A → List Token → Type 0) → Token → Option A → Type 0
Holds P t None = Unit {0}
Holds P t (Some x) = P x (t ∷ [])

pub right_one : {A : Type 0} (P : A → List Token → Type 0) (of : Token → Option A) → ((t : Token) → Holds P t (of t)) → Some_text P → RightAt P (one of)
right_one P of h (x, text, p) [] = ([], text, x, refl, p)
right_one {A} P of h (x, text, p) (t ∷ ts) = go (of t) (h t)
  where
    go : (o : Option A) → Holds P t o → Right P (t ∷ ts) (given o (t ∷ ts) ts)
    go None h = ([], text, x, refl, p)
    go (Some y) h = (t ∷ [], refl, h)

abbrev pub nowhere : Span
nowhere = record { from = 0; to = 0 }

abbrev pub IsSign : Mark → Span → List Token → Type 0
IsSign m = IsAt (kinds.Mark m)

pub is_mark_true : (m : Mark) (k : TokenKind) → is_mark m k ≡ true → k ≡ kinds.Mark m
is_mark_true m (kinds.Mark n) e = ap kinds.Mark (same_true the_marks tt n m e)
is_mark_true m (kinds.Word w) e = cc
is_mark_true m (kinds.Number n) e = cc
is_mark_true m (kinds.Key k) e = cc

pub some_sign : (m : Mark) → Some_text (IsSign m)
some_sign m = (nowhere, at (kinds.Mark m) nowhere ∷ [], refl)

pub right_expect : (m : Mark) → RightAt (IsSign m) (expect m)
right_expect m = right_one (IsSign m) (mark_place m) holds (some_sign m)
  where
    holds : (t : Token) → Holds (IsSign m) t (mark_place m t)
    holds t = pick (is_mark m t.kind) refl
      where
        pick : (b : Bool) → is_mark m t.kind ≡ b → Holds (IsSign m) t (cond b (Some t.span) None)
        pick true e = ap (λ k. at k t.span ∷ []) (is_mark_true m t.kind e)
        pick false e = tt

pub some_word : Some_text IsName
some_word = ([], at (kinds.Word []) nowhere ∷ [], (nowhere, refl))

pub right_word : RightAt IsName word
right_word = right_one IsName (λ t. word_of t.kind) (λ t. holds t.kind t.span) some_word
  where
    holds : (k : TokenKind) (s : Span) → Holds IsName (at k s) (word_of k)
    holds (kinds.Word w) s = (s, refl)
    holds (kinds.Number n) s = tt
    holds (kinds.Key k) s = tt
    holds (kinds.Mark m) s = tt

pub some_type : Some_text IsType
some_type = (types.Bool, at (kinds.Key keys.BoolWord) nowhere ∷ [], (nowhere, refl))

pub right_type : RightAt IsType type_name
right_type = right_one IsType (λ t. type_of t.kind) (λ t. holds t.kind t.span) some_type
  where
    of_key : (k : Key) (s : Span) → Holds IsType (at (kinds.Key k) s) (key_type k)
    of_key keys.BoolWord s = (s, refl)
    of_key keys.IntWord s = (s, refl)
    of_key keys.UIntWord s = (s, refl)
    of_key keys.URealWord s = (s, refl)
    of_key keys.EURealWord s = (s, refl)
    of_key keys.RealWord s = (s, refl)
    of_key _ s = tt

    holds : (k : TokenKind) (s : Span) → Holds IsType (at k s) (type_of k)
    holds (kinds.Word w) s = tt
    holds (kinds.Number n) s = tt
    holds (kinds.Key k) s = of_key k s
    holds (kinds.Mark m) s = tt

-- The left operand of an operator of rank `k`.
abbrev pub FitsLeft : ℕ → Expression → List Token → Type 0
FitsLeft k left before = ((op : BinaryOp) → (ranks op).rank ≡ k → IsExpr left (ranks op).left before) × IsExpr left k before

abbrev pub Ranked : ℕ → Expression → List Token → Type 0
Ranked k x text = IsExpr x k text

abbrev pub RightPart : Part → List Token → Read Expression → Type 0
RightPart Whole ts res = Right (Ranked 9) ts res
RightPart (Full k) ts res = Right (Ranked k) ts res
RightPart (More k left) ts res = (before : List Token) → FitsLeft k left before → Right (λ x text. IsExpr x k (before ++ text)) ts res

abbrev pub Good : Reader → Type 0
Good self = (q : Part) (ts : List Token) → RightPart q ts (self q ts)

pub wider : (t : Expression) (j k : ℕ) (text : List Token) → j ≤ k → IsExpr t j text → IsExpr t k text
wider (Expression.number n s) j k text le h = h
wider (Expression.truth b s) j k text le h = h
wider (Expression.infinity s) j k text le h = h
wider (Expression.name x s) j k text le h = h
wider (Expression.group a s) j k text le h = h
wider (Expression.bracket a s) j k text le h = h
wider (Expression.embed a s) j k text le h = h
wider (Expression.unary op a s) j k text le h = h
wider (Expression.binary op a b s) j k text le (within, h) = (omega arith, h)
wider (Expression.choice a b c s) j k text le h = h
wider (Expression.bound up x t a s) j k text le (within, h, e) = (omega arith, h, e)

-- An example.
pub some_expr : (k : ℕ) → Some_text (Ranked k)
some_expr k = (Expression.infinity nowhere, at (kinds.Key keys.Infty) nowhere ∷ [], ((nowhere, refl), refl))

module _ (self : Reader) (good : Good self) where
  right_enclosed : (m : Mark) → RightAt (Pair (Ranked 9) (IsSign m)) (enclosed self m)
  right_enclosed m = right_pair (Ranked 9) (IsSign m) (self Whole) (expect m) (good Whole) (right_expect m) (some_sign m)

  right_embed : RightAt (Pair (IsSign marks.ParenLeft) (Pair (Ranked 9) (IsSign marks.ParenRight))) (pair (expect marks.ParenLeft) (enclosed self marks.ParenRight))
  right_embed =
      right_pair (IsSign marks.ParenLeft) (Pair (Ranked 9) (IsSign marks.ParenRight)) (expect marks.ParenLeft) (enclosed self marks.ParenRight) (right_expect marks.ParenLeft) (right_enclosed marks.ParenRight)
      (some_pair (Ranked 9) (IsSign marks.ParenRight) (some_expr 9) (some_sign marks.ParenRight))

covers : (kind : TokenKind) (s : Span) (text : List Token) (end : ℕ) → LastIs text end → reach s end ≡ extent (at kind s ∷ text)
covers kind s text end h = ap (reach s) (sym (last_then (at kind s ∷ text) (at kind s ∷ []) text end refl h).1)

pub group_text : (s : Span) (p : Expression × Span) (text : List Token) → Pair (Ranked 9) (IsSign marks.ParenRight) p text → IsExpr (group_tree s p) 0 (at (kinds.Mark marks.ParenLeft) s ∷ text)
group_text s (a, c) text (one, two, ha, hc, e) =
    ((at (kinds.Mark marks.ParenLeft) s ∷ [], text, (s, refl), (one, two, ha, (c, hc), e), refl), covers (kinds.Mark marks.ParenLeft) s text c.to (last_then text one two c.to e (last_one (kinds.Mark marks.ParenRight) c two hc)))

pub bracket_text : (s : Span) (p : Expression × Span) (text : List Token) → Pair (Ranked 9) (IsSign marks.BracketRight) p text → IsExpr (bracket_tree s p) 0 (at (kinds.Mark marks.BracketLeft) s ∷ text)
bracket_text s (a, c) text (one, two, ha, hc, e) =
    ((at (kinds.Mark marks.BracketLeft) s ∷ [], text, (s, refl), (one, two, ha, (c, hc), e), refl), covers (kinds.Mark marks.BracketLeft) s text c.to (last_then text one two c.to e (last_one (kinds.Mark marks.BracketRight) c two hc)))

pub embed_text : (s : Span) (p : Span × (Expression × Span)) (text : List Token) → Pair (IsSign marks.ParenLeft) (Pair (Ranked 9) (IsSign marks.ParenRight)) p text → IsExpr (embed_tree s p) 0 (at (kinds.Mark marks.Question) s ∷ text)
embed_text s (o, (a, c)) text (f0, b0, ho, (one, two, ha, hc, e), e0) =
    ((at (kinds.Mark marks.Question) s ∷ [], text, (s, refl), (f0, b0, (o, ho), (one, two, ha, (c, hc), e), e0), refl), covers (kinds.Mark marks.Question) s text c.to (last_then text f0 b0 c.to e0 (last_then b0 one two c.to e (last_one (kinds.Mark marks.ParenRight) c two hc))))

pub prefix_text : (op : UnaryOp) (s : Span) (a : Expression) (text : List Token) → IsExpr a 0 text → IsExpr (prefix_tree op s a) 0 (at (kinds.Mark (prefix op)) s ∷ text)
prefix_text op s a text ha =
    ((at (kinds.Mark (prefix op)) s ∷ [], text, (s, refl), ha, refl), covers (kinds.Mark (prefix op)) s text (end_of a) (last_of a 0 text ha))

abbrev pub IsChoices : Choices → List Token → Type 0
IsChoices = Pair (IsSign marks.ParenLeft) (Pair (Ranked 9) (Pair (IsSign marks.Comma) (Pair (Ranked 9) (Pair (IsSign marks.Comma) (Pair (Ranked 9) (IsSign marks.ParenRight))))))

pub choice_text : (s : Span) (p : Choices) (text : List Token) → IsChoices p text → IsExpr (choice_tree s p) 0 (at (kinds.Key keys.Ite) s ∷ text)
choice_text s (o, (a, (x, (b, (y, (c, z)))))) text (f0, b0, ho, (f1, b1, ha, (f2, b2, hx, (f3, b3, hb, (f4, b4, hy, (f5, b5, hc, hz, e5), e4), e3), e2), e1), e0) = (
  (at (kinds.Key keys.Ite) s ∷ [], text, (s, refl), (f0, b0, (o, ho), (f1, b1, ha, (f2, b2, (x, hx), (f3, b3, hb, (f4, b4, (y, hy), (f5, b5, hc, (z, hz), e5), e4), e3), e2), e1), e0), refl),
  covers (kinds.Key keys.Ite) s text z.to (last_then text f0 b0 z.to e0 (last_then b0 f1 b1 z.to e1 (last_then b1 f2 b2 z.to e2 (last_then b2 f3 b3 z.to e3 (last_then b3 f4 b4 z.to e4 (last_then b4 f5 b5 z.to e5 (last_one (kinds.Mark marks.ParenRight) z b5 hz))))))),
)

abbrev pub IsBounds : Bounds → List Token → Type 0
IsBounds = Pair IsName (Pair (IsSign marks.Colon) (Pair IsType (Pair (IsSign marks.Dot) (Ranked 9))))

pub bound_text : (up : Bool) (s : Span) (p : Bounds) (text : List Token) → IsBounds p text → IsExpr (bound_tree up s p) 9 (at (kinds.Key (quantifier_key up)) s ∷ text)
bound_text up s (x, (c, (t, (d, a)))) text (f0, b0, hx, (f1, b1, hc, (f2, b2, ht, (f3, b3, hd, ha, e3), e2), e1), e0) = (
  omega arith,
  (at (kinds.Key (quantifier_key up)) s ∷ [], text, (s, refl), (f0, b0, hx, (f1, b1, (c, hc), (f2, b2, ht, (f3, b3, (d, hd), ha, e3), e2), e1), e0), refl),
  covers (kinds.Key (quantifier_key up)) s text (end_of a) (last_then text f0 b0 (end_of a) e0 (last_then b0 f1 b1 (end_of a) e1 (last_then b1 f2 b2 (end_of a) e2 (last_then b2 f3 b3 (end_of a) e3 (last_of a 9 b3 ha))))),
)

right_token : {A : Type 0} (t : Token) (ts : List Token) (P : A → List Token → Type 0) (res : Read A) → Right (λ x text. P x (t ∷ text)) ts res → Right P (t ∷ ts) res
right_token t ts P (Got x r) (text, e, h) = (t ∷ text, ap (λ z. t ∷ z) e, h)
right_token t ts P (Bad r) (text, more, x, e, h) = (t ∷ text, more, x, ap (λ z. t ∷ z) e, h)
right_token t ts P Out h = tt

-- The kind of the token that a `Start` comes from.
abbrev BeginsAs : Start → TokenKind → Type 0
BeginsAs (starts.Truth b) k = k ≡ kinds.Key (truth_key b)
BeginsAs starts.Infinity k = k ≡ kinds.Key keys.Infty
BeginsAs starts.Group k = k ≡ kinds.Mark marks.ParenLeft
BeginsAs starts.Bracket k = k ≡ kinds.Mark marks.BracketLeft
BeginsAs starts.Embed k = k ≡ kinds.Mark marks.Question
BeginsAs (starts.Prefix op) k = k ≡ kinds.Mark (prefix op)
BeginsAs starts.Choice k = k ≡ kinds.Key keys.Ite
BeginsAs starts.Other k = Unit {0}

key_begins : (k : Key) → BeginsAs (key_start k) (kinds.Key k)
key_begins keys.TrueWord = refl
key_begins keys.FalseWord = refl
key_begins keys.Infty = refl
key_begins keys.Ite = refl
key_begins _ = tt

mark_begins : (m : Mark) → BeginsAs (mark_start m) (kinds.Mark m)
mark_begins marks.ParenLeft = refl
mark_begins marks.BracketLeft = refl
mark_begins marks.Question = refl
mark_begins marks.Bang = refl
mark_begins marks.Minus = refl
mark_begins marks.Tilde = refl
mark_begins _ = tt

-- The operator that is found is of rank `k` and of this kind.
abbrev FoundOp : ℕ → TokenKind → Option BinaryOp → Type 0
FoundOp k kind None = Unit {0}
FoundOp k kind (Some op) = ((ranks op).rank ≡ k) × (kind ≡ operator op)

abbrev pub IsOperator : TokenKind → Option BinaryOp → Type 0
IsOperator kind None = Unit {0}
IsOperator kind (Some op) = kind ≡ operator op

key_found : (k : Key) → IsOperator (kinds.Key k) (key_operator k)
key_found keys.Cup = refl
key_found keys.Cap = refl
key_found _ = tt

mark_found : (m : Mark) → IsOperator (kinds.Mark m) (mark_operator m)
mark_found marks.Imply = refl
mark_found marks.CoImply = refl
mark_found marks.OrOr = refl
mark_found marks.AndAnd = refl
mark_found marks.Same = refl
mark_found marks.Differ = refl
mark_found marks.Less = refl
mark_found marks.AtMost = refl
mark_found marks.More = refl
mark_found marks.AtLeast = refl
mark_found marks.Plus = refl
mark_found marks.Minus = refl
mark_found marks.Star = refl
mark_found marks.Slash = refl
mark_found _ = tt

pub is_operator : (kind : TokenKind) → IsOperator kind (operator_of kind)
is_operator (kinds.Key k) = key_found k
is_operator (kinds.Mark m) = mark_found m
is_operator (kinds.Word w) = tt
is_operator (kinds.Number n) = tt

found_ranked : (k : ℕ) (kind : TokenKind) (o : Option BinaryOp) → IsOperator kind o → FoundOp k kind (ranked k o)
found_ranked k kind None h = tt
found_ranked k kind (Some op) h = pick (eqb (ranks op).rank k) refl
  where
    pick : (b : Bool) → eqb (ranks op).rank k ≡ b → FoundOp k kind (cond b (Some op) None)
    pick true e = (eqb-true _ _ e, h)
    pick false e = tt

-- All operators of one rank have the same limit for their left operand.
left_by : ℕ → ℕ
left_by zero = 0
left_by (suc zero) = 1
left_by (suc (suc zero)) = 2
left_by (suc (suc (suc zero))) = 2
left_by (suc (suc (suc (suc zero)))) = 4
left_by (suc (suc (suc (suc (suc zero))))) = 5
left_by (suc (suc (suc (suc (suc (suc zero)))))) = 6
left_by (suc (suc (suc (suc (suc (suc (suc zero))))))) = 7
left_by (suc (suc (suc (suc (suc (suc (suc (suc k)))))))) = 7

left_rank_by : (op : BinaryOp) → (ranks op).left ≡ left_by (ranks op).rank
unfolding left_by
left_rank_by ops.Imply = refl
left_rank_by _ = refl

left_near : (op : BinaryOp) (k : ℕ) → (ranks op).rank ≡ suc k → k ≤ (ranks op).left
left_near ops.Imply k e = omega arith
left_near _ k e = omega arith

module _ (self : Reader) (good : Good self) where
  right_prefixed : (op : UnaryOp) (s : Span) → RightAt (λ x text. IsExpr x 0 (at (kinds.Mark (prefix op)) s ∷ text)) (prefixed self op s)
  right_prefixed op s ts =
      right_map (Ranked 0) (λ x text. IsExpr x 0 (at (kinds.Mark (prefix op)) s ∷ text)) (prefix_tree op s) ts (self (Full 0) ts) (λ a text h. prefix_text op s a text h) (good (Full 0) ts)

  right_choice_parts : RightAt IsChoices (choice_parts self)
  right_choice_parts =
      right_pair _ _ (expect marks.ParenLeft) _ (right_expect marks.ParenLeft)
      (right_pair _ _ (self Whole) _ (good Whole)
      (right_pair _ _ (expect marks.Comma) _ (right_expect marks.Comma)
      (right_pair _ _ (self Whole) _ (good Whole) (right_pair _ _ (expect marks.Comma) _ (right_expect marks.Comma) (right_enclosed self good marks.ParenRight) some5) some4)
      some3)
      some2)
      some1
    where
      some5 : Some_text (Pair (Ranked 9) (IsSign marks.ParenRight))
      some5 = some_pair _ _ (some_expr 9) (some_sign marks.ParenRight)

      some4 : Some_text (Pair (IsSign marks.Comma) (Pair (Ranked 9) (IsSign marks.ParenRight)))
      some4 = some_pair _ _ (some_sign marks.Comma) some5

      some3 : Some_text (Pair (Ranked 9) (Pair (IsSign marks.Comma) (Pair (Ranked 9) (IsSign marks.ParenRight))))
      some3 = some_pair _ _ (some_expr 9) some4

      some2 : Some_text (Pair (IsSign marks.Comma) (Pair (Ranked 9) (Pair (IsSign marks.Comma) (Pair (Ranked 9) (IsSign marks.ParenRight)))))
      some2 = some_pair _ _ (some_sign marks.Comma) some3

      some1 : Some_text (Pair (Ranked 9) (Pair (IsSign marks.Comma) (Pair (Ranked 9) (Pair (IsSign marks.Comma) (Pair (Ranked 9) (IsSign marks.ParenRight))))))
      some1 = some_pair _ _ (some_expr 9) some2

  right_bound_parts : RightAt IsBounds (bound_parts self)
  right_bound_parts =
      right_pair _ _ word _ right_word
      (right_pair _ _ (expect marks.Colon) _ (right_expect marks.Colon) (right_pair _ _ type_name _ right_type (right_pair _ _ (expect marks.Dot) _ (right_expect marks.Dot) (good Whole) (some_expr 9)) some3) some2)
      some1
    where
      some3 : Some_text (Pair (IsSign marks.Dot) (Ranked 9))
      some3 = some_pair _ _ (some_sign marks.Dot) (some_expr 9)

      some2 : Some_text (Pair IsType (Pair (IsSign marks.Dot) (Ranked 9)))
      some2 = some_pair _ _ some_type some3

      some1 : Some_text (Pair (IsSign marks.Colon) (Pair IsType (Pair (IsSign marks.Dot) (Ranked 9))))
      some1 = some_pair _ _ (some_sign marks.Colon) some2

  right_started : (st : Start) (k : TokenKind) (s : Span) (ts : List Token) → BeginsAs st k → Right (Ranked 0) (at k s ∷ ts) (started self st s ts (at k s ∷ ts))
  right_started (starts.Truth b) k s ts e = (at k s ∷ [], refl, (rw e (s, refl), refl))
  right_started starts.Infinity k s ts e = (at k s ∷ [], refl, (rw e (s, refl), refl))
  right_started starts.Group k s ts e =
      right_token (at k s) ts (Ranked 0) _ (rw e (right_map _ (λ x text. IsExpr x 0 (at (kinds.Mark marks.ParenLeft) s ∷ text)) (group_tree s) ts _ (group_text s) (right_enclosed self good marks.ParenRight ts)))
  right_started starts.Bracket k s ts e =
      right_token (at k s) ts (Ranked 0) _ (rw e (right_map _ (λ x text. IsExpr x 0 (at (kinds.Mark marks.BracketLeft) s ∷ text)) (bracket_tree s) ts _ (bracket_text s) (right_enclosed self good marks.BracketRight ts)))
  right_started starts.Embed k s ts e =
      right_token (at k s) ts (Ranked 0) _ (rw e (right_map _ (λ x text. IsExpr x 0 (at (kinds.Mark marks.Question) s ∷ text)) (embed_tree s) ts _ (embed_text s) (right_embed self good ts)))
  right_started (starts.Prefix op) k s ts e = right_token (at k s) ts (Ranked 0) _ (rw e (right_prefixed op s ts))
  right_started starts.Choice k s ts e =
      right_token (at k s) ts (Ranked 0) _ (rw e (right_map _ (λ x text. IsExpr x 0 (at (kinds.Key keys.Ite) s ∷ text)) (choice_tree s) ts _ (choice_text s) (right_choice_parts ts)))
  right_started starts.Other k s ts e = let (x, text, h) = some_expr 0 in ([], text, x, refl, h)

  right_kind : (k : TokenKind) (s : Span) (ts : List Token) → Right (Ranked 0) (at k s ∷ ts) (by_kind self k s ts (at k s ∷ ts))
  right_kind (kinds.Word w) s ts = (at (kinds.Word w) s ∷ [], refl, ((s, refl), refl))
  right_kind (kinds.Number n) s ts = (at (kinds.Number n) s ∷ [], refl, ((s, refl), refl))
  right_kind (kinds.Key k) s ts = right_started (key_start k) (kinds.Key k) s ts (key_begins k)
  right_kind (kinds.Mark m) s ts = right_started (mark_start m) (kinds.Mark m) s ts (mark_begins m)

  right_operand : (ts : List Token) → Right (Ranked 0) ts (operand self ts)
  right_operand [] = let (x, text, h) = some_expr 0 in ([], text, x, refl, h)
  right_operand (t ∷ ts) = right_kind t.kind t.span ts

  right_joined : (b : Bool) (k : ℕ) (left : Expression) (before ts : List Token) → (b ≡ true → FitsLeft k left before) → IsExpr left k before → Right (λ x text. IsExpr x k (before ++ text)) ts (joined self b k left ts)
  right_joined true k left before ts fits h = good (More k left) ts before (fits refl)
  right_joined false k left before ts fits h = ([], refl, rw (append-nil before) h)

  -- `before`, the operator and the right operand.
  both : (op : BinaryOp) (left right : Expression) (t : Token) (before text : List Token) (k : ℕ) → (ranks op).rank ≤ k → IsExpr left (ranks op).left before → IsExpr right (ranks op).right text → t.kind ≡ operator op → IsExpr (Expression.binary op left right t.span) k (before ++ (t ∷ text))
  both op left right t before text k within hl hr kind =
      (within, (before, t ∷ text, hl, (t ∷ [], text, ap (λ z. at z t.span ∷ []) kind, hr, refl), refl))

  right_placed : (k : ℕ) (left : Expression) (t : Token) (ts : List Token) (o : Option BinaryOp) → FoundOp k t.kind o → (before : List Token) → FitsLeft k left before → Right (λ x text. IsExpr x k (before ++ text)) (t ∷ ts) (after self k left (t ∷ ts) (placed t.span ts o))
  right_placed k left t ts None h before fits = ([], refl, rw (append-nil before) fits.1)
  right_placed k left t ts (Some op) (r, kind) before fits =
      right_token t ts (λ x text. IsExpr x k (before ++ text)) _
      (right_bind (Ranked (ranks op).right) (λ x text. IsExpr x k (before ++ (t ∷ text))) ts (self (Full (ranks op).right) ts) _ (good (Full (ranks op).right) ts)
      (λ b text r' hb.
      right_as (λ x t'. IsExpr x k ((before ++ (t ∷ text)) ++ t')) (λ x t'. IsExpr x k (before ++ (t ∷ (text ++ t')))) r' (joined self (repeats op) k (Expression.binary op left b t.span) r')
      (λ x t' q. rw append_assoc at q)
      (right_joined (repeats op) k (Expression.binary op left b t.span) (before ++ (t ∷ text)) r'
      (λ e. ((λ op' same. both op left b t before text (ranks op').left (again op op' e (r ∙ sym same)) (fits.0 op r) hb kind), both op left b t before text k (omega arith) (fits.0 op r) hb kind))
      (both op left b t before text k (omega arith) (fits.0 op r) hb kind)))
      (λ b text hb. ([], Expression.binary op left b t.span, rw (append-nil text) (both op left b t before text k (omega arith) (fits.0 op r) hb kind))))
    where
      again : (op op' : BinaryOp) → repeats op ≡ true → (ranks op).rank ≡ (ranks op').rank → (ranks op).rank ≤ (ranks op').left
      again op op' e same =
          let one : (ranks op).left ≡ (ranks op).rank = eqb-true _ _ e in
          let two : (ranks op).left ≡ (ranks op').left = left_rank_by op ∙ ap left_by same ∙ sym (left_rank_by op') in
          omega arith

  right_more : (k : ℕ) (left : Expression) (ts before : List Token) → FitsLeft k left before → Right (λ x text. IsExpr x k (before ++ text)) ts (more self k left ts)
  right_more k left [] before fits = ([], refl, rw (append-nil before) fits.1)
  right_more k left (t ∷ ts) before fits = right_placed k left t ts (ranked k (operator_of t.kind)) (found_ranked k t.kind (operator_of t.kind) (is_operator t.kind)) before fits

  right_full : (k : ℕ) (ts : List Token) → Right (Ranked k) ts (full self k ts)
  right_full zero ts = right_operand ts
  right_full (suc k) ts =
      right_bind (Ranked k) (Ranked (suc k)) ts (full self k ts) _ (right_full k ts)
      (λ a text r h. right_more (suc k) a r text ((λ op same. wider a k (ranks op).left text (left_near op k same) h), wider a k (suc k) text (omega arith) h))
      (λ a text h. ([], a, rw (append-nil text) (wider a k (suc k) text (omega arith) h)))

  abbrev FoundQuantifier : TokenKind → Option Bool → Type 0
  FoundQuantifier kind None = Unit {0}
  FoundQuantifier kind (Some up) = kind ≡ kinds.Key (quantifier_key up)

  found_quantifier : (kind : TokenKind) → FoundQuantifier kind (quantifier_of kind)
  found_quantifier (kinds.Key keys.Sup) = refl
  found_quantifier (kinds.Key keys.Inf) = refl
  found_quantifier (kinds.Key _) = tt
  found_quantifier (kinds.Word w) = tt
  found_quantifier (kinds.Number n) = tt
  found_quantifier (kinds.Mark m) = tt

  right_quantified : (t : Token) (ts : List Token) (o : Option Bool) → FoundQuantifier t.kind o → Right (Ranked 9) (t ∷ ts) (quantified self (t ∷ ts) (placed t.span ts o))
  right_quantified t ts None h = right_as (Ranked 8) (Ranked 9) (t ∷ ts) _ (λ x text h. wider x 8 9 text (omega arith) h) (right_full 8 (t ∷ ts))
  right_quantified t ts (Some up) h =
      right_token t ts (Ranked 9) _
      (right_map IsBounds (λ x text. IsExpr x 9 (t ∷ text)) (bound_tree up t.span) ts _ (λ p text q. subst (λ k. IsExpr (bound_tree up t.span p) 9 (at k t.span ∷ text)) (sym h) (bound_text up t.span p text q)) (right_bound_parts ts))

  right_whole : (ts : List Token) → Right (Ranked 9) ts (whole self ts)
  right_whole [] = right_as (Ranked 8) (Ranked 9) [] (full self 8 []) (λ x text h. wider x 8 9 text (omega arith) h) (right_full 8 [])
  right_whole (t ∷ ts) = right_quantified t ts (quantifier_of t.kind) (found_quantifier t.kind)

  right_step : Good (step self)
  right_step Whole ts = right_whole ts
  right_step (Full k) ts = right_full k ts
  right_step (More k left) ts = λ before fits. right_more k left ts before fits

pub right_reading : (n : ℕ) → Good (reading n)
right_reading zero Whole ts = tt
right_reading zero (Full k) ts = tt
right_reading zero (More k left) ts = λ before fits. tt
right_reading (suc n) q ts = right_step (reading n) (right_reading n) q ts
