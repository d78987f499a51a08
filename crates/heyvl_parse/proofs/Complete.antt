-- Completeness of reading: what tokens spell is read, if the next token does not continue it.
use Rattle.heyvl_parse.proofs.Right.{IsBounds, IsChoices, IsSign, Pair, Ranked, bound_text, bracket_text, choice_text, embed_text, group_text, prefix_text, wider}
use Rattle.heyvl_parse.specs.readers.ReadParts.{Bad, Got, Read, Reader, Whole, bound_parts, by_kind, choice_parts, end_of, enclosed, expect, full, is_mark, mark_operator, more, operand, operator_at, operator_of, pair, placed, quantified, quantifier_of, reach, reading, repeats, type_name, whole, word}
use Rattle.heyvl_places.specs.declared.spans.Span.{Span}
use Rattle.heyvl_syntax.specs.Expressions.{Expression}
use Rattle.heyvl_syntax.specs.Grammar.{IsExpr, IsType, operator, prefix, quantifier_key, ranks}
use Rattle.heyvl_syntax.specs.Productions.{IsName, at, extent}
use Rattle.heyvl_syntax.specs.declared.keys.Key.TheVariants as keys
use Rattle.heyvl_syntax.specs.declared.keys.Key.{Key}
use Rattle.heyvl_syntax.specs.declared.marks.Mark.TheVariants as marks
use Rattle.heyvl_syntax.specs.declared.marks.Mark.{Mark}
use Rattle.heyvl_syntax.specs.declared.operators.BinaryOp.TheVariants as ops
use Rattle.heyvl_syntax.specs.declared.operators.BinaryOp.{BinaryOp}
use Rattle.heyvl_syntax.specs.declared.operators.UnaryOp.TheVariants as prefixes
use Rattle.heyvl_syntax.specs.declared.operators.UnaryOp.{UnaryOp}
use Rattle.heyvl_syntax.specs.declared.tokens.Token.{Token}
use Rattle.heyvl_syntax.specs.declared.tokens.TokenKind.TheVariants as kinds
use Rattle.heyvl_syntax.specs.declared.tokens.TokenKind.{TokenKind}
use Rattle.heyvl_syntax.specs.declared.types.TypeName.TheVariants as types
use Rattle.heyvl_syntax.specs.declared.types.TypeName.{TypeName}
use Rattle.std.proofs.Common.{Bool, List, None, Option, Some, [], ap, append_assoc, arith, cond, eqb, false, inl, inr, length, length-append, refl, rules, subst, suc, sym, true, zero, ◌++◌, ◌<◌, ◌∙◌, ◌∷◌, ◌≡◌, ◌≤◌, ◌⊎◌, ℕ}
use Rattle.std.proofs.lemmas.Bool.{eqb-true}

-- The first token is not an operator of a rank below `k`.
abbrev pub Quiet : ℕ → List Token → Type 0
Quiet k rest = (j : ℕ) → j < k → operator_at j rest ≡ None

abbrev Anything : List Token → Type 0
Anything rest = Unit {0}

-- `f` reads each text of `x` before a rest that satisfies `Follow`.
abbrev CompletesAt : {A : Type 0} → ℕ → (List Token → Type 0) → (A → List Token → Type 0) → (List Token → Read A) → A → Type 0
CompletesAt n Follow P f x = (text rest : List Token) → P x text → length (text ++ rest) ≤ n → Follow rest → f (text ++ rest) ≡ Got x rest

complete_pair : {A B : Type 0} (n : ℕ) (F G : List Token → Type 0) (P : A → List Token → Type 0) (Q : B → List Token → Type 0) (f : List Token → Read A) (g : List Token → Read B) (x : A) (y : B) → CompletesAt n F P f x → CompletesAt n G Q g y → ((text rest : List Token) → Q y text → G rest → F (text ++ rest)) → CompletesAt n G (Pair P Q) (pair f g) (x, y)
complete_pair n F G P Q f g x y cf cg fits text rest (one, two, p, q, e) len r =
    let cut : text ++ rest ≡ one ++ (two ++ rest) = ap (λ z. z ++ rest) e ∙ append_assoc one two rest in
    rw (
      cut,
      cf one (two ++ rest) p (omega (arith, ap length cut)) (fits two rest q r),
      cg two rest q (omega (arith, ap length cut, length-append one (two ++ rest))) r,
    ) refl

pub mark_same : (m : Mark) (s : Span) → is_mark m (at (kinds.Mark m) s).kind ≡ true
mark_same marks.ParenLeft s = refl
mark_same _ s = refl

complete_expect : (n : ℕ) (m : Mark) (s : Span) → CompletesAt n Anything (IsSign m) (expect m) s
complete_expect n m s text rest e len u = rw (e, mark_same m s) refl

complete_word : (n : ℕ) (x : List ℕ) → CompletesAt n Anything IsName word x
complete_word n x text rest (s, e) len u = rw e refl

complete_type : (n : ℕ) (t : TypeName) → CompletesAt n Anything IsType type_name t
complete_type n types.Bool text rest (s, e) len u = rw e refl
complete_type n types.Int text rest (s, e) len u = rw e refl
complete_type n types.UInt text rest (s, e) len u = rw e refl
complete_type n types.UReal text rest (s, e) len u = rw e refl
complete_type n types.EUReal text rest (s, e) len u = rw e refl
complete_type n types.Real text rest (s, e) len u = rw e refl

-- A symbol that is not an operator ends an expression.
ends : (m : Mark) → mark_operator m ≡ None → (s : Span) (text rest : List Token) → IsSign m s text → Quiet 9 (text ++ rest)
ends m none s text rest e j lt = rw (e, none) refl

ends_then : {B : Type 0} (m : Mark) → mark_operator m ≡ None → (Q : B → List Token → Type 0) (p : Span × B) (text rest : List Token) → Pair (IsSign m) Q p text → Quiet 9 (text ++ rest)
ends_then m none Q (s, y) text rest (one, two, h, q, e) j lt = rw (e, h, none) refl

abbrev Reads : ℕ → ℕ → List Token → List Token → Expression → Type 0
Reads n k text rest t = full (reading n) k (text ++ rest) ≡ Got t rest

abbrev Goes : ℕ → ℕ → List Token → List Token → Expression → Type 0
Goes n k text rest t = (m : ℕ) × (length rest ≤ m) × (full (reading n) k (text ++ rest) ≡ more (reading m) k t rest)

repeats_at : ℕ → Bool
repeats_at zero = false
repeats_at (suc zero) = true
repeats_at (suc (suc zero)) = true
repeats_at (suc (suc (suc zero))) = false
repeats_at (suc (suc (suc (suc zero)))) = true
repeats_at (suc (suc (suc (suc (suc zero))))) = true
repeats_at (suc (suc (suc (suc (suc (suc zero)))))) = true
repeats_at (suc (suc (suc (suc (suc (suc (suc zero))))))) = true
repeats_at (suc (suc (suc (suc (suc (suc (suc (suc k)))))))) = false

abbrev Claim : Expression → ℕ → Type 0
Claim t k = (text rest : List Token) (n : ℕ) → IsExpr t k text → length (text ++ rest) ≤ n → (Quiet (suc k) rest → Reads n k text rest t) × (repeats_at k ≡ true → Quiet k rest → Goes n k text rest t)

abbrev Claims : Expression → Type 0
Claims t = (k : ℕ) → k ≤ 8 → Claim t k

abbrev WholeClaim : Expression → Type 0
WholeClaim t = (text rest : List Token) (n : ℕ) → IsExpr t 9 text → length (text ++ rest) ≤ n → Quiet 9 rest → whole (reading n) (text ++ rest) ≡ Got t rest

lift : (t : Expression) (j : ℕ) (text rest : List Token) (n : ℕ) → length (text ++ rest) ≤ n → (Quiet (suc j) rest → Reads n j text rest t) → (Quiet (suc (suc j)) rest → Reads n (suc j) text rest t) × (repeats_at (suc j) ≡ true → Quiet (suc j) rest → Goes n (suc j) text rest t)
lift t j text rest n len reads = (
  λ q. rw (reads (λ i h. q i (omega arith)), q (suc j) (omega arith)) refl,
  λ e q. (n, omega (arith, length-append text rest), rw (reads q) refl),
)

-- Expressions of rank 0.
abbrev Base : Expression → Type 0
Base t = (text rest : List Token) (n : ℕ) → IsExpr t 0 text → length (text ++ rest) ≤ n → Quiet 1 rest → operand (reading n) (text ++ rest) ≡ Got t rest

from_base : (t : Expression) → Base t → ((k : ℕ) (text : List Token) → IsExpr t k text → IsExpr t 0 text) → (k : ℕ) → Claim t k
unfolding repeats_at
from_base t base same zero text rest n h len = (λ q. base text rest n h len q, λ e q. cc)
from_base t base same (suc k) text rest n h len = lift t k text rest n len ((from_base t base same k text rest n (lower h) len).0)
  where
    lower : IsExpr t (suc k) text → IsExpr t k text
    lower h = wider t 0 k text (omega arith) (same (suc k) text h)

-- A text begins with a token, and what this token begins reads the rest.
begin : (t : Expression) (k : TokenKind) (p : Span) (text back rest : List Token) (n : ℕ) → text ≡ at k p ∷ back → length (text ++ rest) ≤ n → ((m : ℕ) → length (back ++ rest) ≤ m → by_kind (reading (suc m)) k p (back ++ rest) (at k p ∷ (back ++ rest)) ≡ Got t rest) → operand (reading n) (text ++ rest) ≡ Got t rest
begin t k p text back rest zero e len f = absurd (omega (arith, ap (λ z. length (z ++ rest)) e))
begin t k p text back rest (suc m) e len f = rw e (f m (omega (arith, ap (λ z. length (z ++ rest)) e)))

-- The place of a tree whose place is that of its text is the place that reading makes.
place_is : (s : Span) (text : List Token) (k : TokenKind) (p : Span) (back : List Token) (made : Span) → s ≡ extent text → text ≡ at k p ∷ back → made ≡ extent (at k p ∷ back) → made ≡ s
place_is s text k p back made es e em = em ∙ sym (ap extent e) ∙ sym es

in_whole : (a : Expression) → WholeClaim a → (m : ℕ) → CompletesAt m (Quiet 9) (Ranked 9) (reading (suc m) Whole) a
in_whole a wa m text rest h len q = wa text rest m h len q

complete_enclosed : (close : Mark) → mark_operator close ≡ None → (a : Expression) (c : Span) → WholeClaim a → (m : ℕ) → CompletesAt m Anything (Pair (Ranked 9) (IsSign close)) (enclosed (reading (suc m)) close) (a, c)
complete_enclosed close none a c wa m =
    complete_pair m (Quiet 9) Anything (Ranked 9) (IsSign close) (reading (suc m) Whole) (expect close) a c (in_whole a wa m) (complete_expect m close c) (λ text rest h u. ends close none c text rest h)

base_group : (a : Expression) (s : Span) → WholeClaim a → Base (Expression.group a s)
base_group a s wa text rest n ((front, back, (p, hp), (one, two, ha, (c, hc), e1), e), es) len q =
    let starts : text ≡ at (kinds.Mark marks.ParenLeft) p ∷ back = e ∙ ap (λ z. z ++ back) hp in
    let place : reach p c.to ≡ s = place_is s text (kinds.Mark marks.ParenLeft) p back (reach p c.to) es starts (group_text p (a, c) back (one, two, ha, hc, e1)).1 in
    begin (Expression.group a s) (kinds.Mark marks.ParenLeft) p text back rest n starts len (λ m le.
    rw (complete_enclosed marks.ParenRight refl a c wa m back rest (one, two, ha, hc, e1) le tt) (ap (λ z. Got (Expression.group a z) rest) place))

base_bracket : (a : Expression) (s : Span) → WholeClaim a → Base (Expression.bracket a s)
base_bracket a s wa text rest n ((front, back, (p, hp), (one, two, ha, (c, hc), e1), e), es) len q =
    let starts : text ≡ at (kinds.Mark marks.BracketLeft) p ∷ back = e ∙ ap (λ z. z ++ back) hp in
    let place : reach p c.to ≡ s = place_is s text (kinds.Mark marks.BracketLeft) p back (reach p c.to) es starts (bracket_text p (a, c) back (one, two, ha, hc, e1)).1 in
    begin (Expression.bracket a s) (kinds.Mark marks.BracketLeft) p text back rest n starts len (λ m le.
    rw (complete_enclosed marks.BracketRight refl a c wa m back rest (one, two, ha, hc, e1) le tt) (ap (λ z. Got (Expression.bracket a z) rest) place))

base_embed : (a : Expression) (s : Span) → WholeClaim a → Base (Expression.embed a s)
base_embed a s wa text rest n ((front, back, (p, hp), (f0, b0, (o, ho), (one, two, ha, (c, hc), e1), e0), e), es) len q =
    let starts : text ≡ at (kinds.Mark marks.Question) p ∷ back = e ∙ ap (λ z. z ++ back) hp in
    let place : reach p c.to ≡ s = place_is s text (kinds.Mark marks.Question) p back (reach p c.to) es starts (embed_text p (o, (a, c)) back (f0, b0, ho, (one, two, ha, hc, e1), e0)).1 in
    begin (Expression.embed a s) (kinds.Mark marks.Question) p text back rest n starts len (λ m le.
    rw (complete_pair m Anything Anything (IsSign marks.ParenLeft) (Pair (Ranked 9) (IsSign marks.ParenRight)) (expect marks.ParenLeft) (enclosed (reading (suc m)) marks.ParenRight) o (a, c) (complete_expect m marks.ParenLeft o) (complete_enclosed marks.ParenRight refl a c wa m) (λ text rest h u. tt) back rest (f0, b0, ho, (one, two, ha, hc, e1), e0) le tt)
    (ap (λ z. Got (Expression.embed a z) rest) place))

base_prefix : (op : UnaryOp) (a : Expression) (s : Span) → Claims a → Base (Expression.unary op a s)
base_prefix op a s ca text rest n ((front, back, (p, hp), ha, e), es) len q =
    let starts : text ≡ at (kinds.Mark (prefix op)) p ∷ back = e ∙ ap (λ z. z ++ back) hp in
    let place : reach p (end_of a) ≡ s = place_is s text (kinds.Mark (prefix op)) p back (reach p (end_of a)) es starts (prefix_text op p a back ha).1 in
    begin (Expression.unary op a s) (kinds.Mark (prefix op)) p text back rest n starts len (λ m le.
    go op m back p ((ca 0 (omega arith) back rest m ha le).0 q) (ap (λ z. Got (Expression.unary op a z) rest) place))
  where
    go : (op : UnaryOp) (m : ℕ) (back : List Token) (p : Span) {res : Read Expression} → full (reading m) 0 (back ++ rest) ≡ Got a rest → Got (Expression.unary op a (reach p (end_of a))) rest ≡ res → by_kind (reading (suc m)) (kinds.Mark (prefix op)) p (back ++ rest) (at (kinds.Mark (prefix op)) p ∷ (back ++ rest)) ≡ res
    go prefixes.Not m back p read place = rw read place
    go prefixes.Minus m back p read place = rw read place
    go prefixes.Tilde m back p read place = rw read place

-- The parts of an `ite`, from the last to the first.
abbrev Parts5 : Expression × Span → List Token → Type 0
Parts5 = Pair (Ranked 9) (IsSign marks.ParenRight)

abbrev Parts4 : Span × (Expression × Span) → List Token → Type 0
Parts4 = Pair (IsSign marks.Comma) Parts5

abbrev Parts3 : Expression × (Span × (Expression × Span)) → List Token → Type 0
Parts3 = Pair (Ranked 9) Parts4

abbrev Parts2 : Span × (Expression × (Span × (Expression × Span))) → List Token → Type 0
Parts2 = Pair (IsSign marks.Comma) Parts3

abbrev Parts1 : Expression × (Span × (Expression × (Span × (Expression × Span)))) → List Token → Type 0
Parts1 = Pair (Ranked 9) Parts2

abbrev parts4 : Reader → List Token → Read (Span × (Expression × Span))
parts4 self = pair (expect marks.Comma) (enclosed self marks.ParenRight)

abbrev parts3 : Reader → List Token → Read (Expression × (Span × (Expression × Span)))
parts3 self = pair (self Whole) (parts4 self)

abbrev parts2 : Reader → List Token → Read (Span × (Expression × (Span × (Expression × Span))))
parts2 self = pair (expect marks.Comma) (parts3 self)

abbrev parts1 : Reader → List Token → Read (Expression × (Span × (Expression × (Span × (Expression × Span)))))
parts1 self = pair (self Whole) (parts2 self)

base_choice : (a b c : Expression) (s : Span) → WholeClaim a → WholeClaim b → WholeClaim c → Base (Expression.choice a b c s)
base_choice a b c s wa wb wc text rest n ((front, back, (p, hp), (f0, b0, (o, ho), (f1, b1, ha, (f2, b2, (x, hx), (f3, b3, hb, (f4, b4, (y, hy), (f5, b5, hc, (z, hz), e5), e4), e3), e2), e1), e0), e), es) len q =
    begin (Expression.choice a b c s) (kinds.Key keys.Ite) p text back rest n starts len (λ m le. rw (all m back rest parts le tt) (ap (λ w. Got (Expression.choice a b c w) rest) place))
  where
    starts : text ≡ at (kinds.Key keys.Ite) p ∷ back
    starts = e ∙ ap (λ z. z ++ back) hp

    parts : IsChoices (o, (a, (x, (b, (y, (c, z)))))) back
    parts = (f0, b0, ho, (f1, b1, ha, (f2, b2, hx, (f3, b3, hb, (f4, b4, hy, (f5, b5, hc, hz, e5), e4), e3), e2), e1), e0)

    place : reach p z.to ≡ s
    place = place_is s text (kinds.Key keys.Ite) p back (reach p z.to) es starts (choice_text p (o, (a, (x, (b, (y, (c, z)))))) back parts).1

    all : (m : ℕ) → CompletesAt m Anything IsChoices (choice_parts (reading (suc m))) (o, (a, (x, (b, (y, (c, z))))))
    all m =
        complete_pair m Anything Anything (IsSign marks.ParenLeft) Parts1 (expect marks.ParenLeft) (parts1 (reading (suc m))) o (a, (x, (b, (y, (c, z))))) (complete_expect m marks.ParenLeft o)
        (complete_pair m (Quiet 9) Anything (Ranked 9) Parts2 (reading (suc m) Whole) (parts2 (reading (suc m))) a (x, (b, (y, (c, z)))) (in_whole a wa m)
        (complete_pair m Anything Anything (IsSign marks.Comma) Parts3 (expect marks.Comma) (parts3 (reading (suc m))) x (b, (y, (c, z))) (complete_expect m marks.Comma x)
        (complete_pair m (Quiet 9) Anything (Ranked 9) Parts4 (reading (suc m) Whole) (parts4 (reading (suc m))) b (y, (c, z)) (in_whole b wb m)
        (complete_pair m Anything Anything (IsSign marks.Comma) Parts5 (expect marks.Comma) (enclosed (reading (suc m)) marks.ParenRight) y (c, z) (complete_expect m marks.Comma y) (complete_enclosed marks.ParenRight refl c z wc m) (λ text rest h u. tt))
        (λ text rest h u. ends_then marks.Comma refl Parts5 (y, (c, z)) text rest h))
        (λ text rest h u. tt))
        (λ text rest h u. ends_then marks.Comma refl Parts3 (x, (b, (y, (c, z)))) text rest h))
        (λ text rest h u. tt)

-- The grouping of operators.
abbrev Groups : BinaryOp → Type 0
Groups op =
    ((repeats op ≡ true) × ((ranks op).left ≡ (ranks op).rank) × (suc (ranks op).right ≡ (ranks op).rank))
    ⊎ ((repeats op ≡ false) × (suc (ranks op).left ≡ (ranks op).rank) × ((ranks op).right ≤ (ranks op).rank))

groups : (op : BinaryOp) → Groups op
groups ops.Imply = inr (refl, refl, omega arith)
groups ops.CoImply = inr (refl, refl, omega arith)
groups ops.Same = inr (refl, refl, omega arith)
groups ops.Differ = inr (refl, refl, omega arith)
groups ops.Less = inr (refl, refl, omega arith)
groups ops.AtMost = inr (refl, refl, omega arith)
groups ops.More = inr (refl, refl, omega arith)
groups ops.AtLeast = inr (refl, refl, omega arith)
groups _ = inl (refl, refl, refl)

repeats_by : (op : BinaryOp) → repeats op ≡ repeats_at (ranks op).rank
unfolding repeats_at
repeats_by ops.Imply = refl
repeats_by _ = refl

operator_found : (op : BinaryOp) → operator_of (operator op) ≡ Some op
operator_found ops.Imply = refl
operator_found _ = refl

eqb_same : (k : ℕ) → eqb k k ≡ true
eqb_same k = search rules

found : (op : BinaryOp) (k : ℕ) (s : Span) (zs : List Token) → (ranks op).rank ≡ k → operator_at k (at (operator op) s ∷ zs) ≡ Some (op, s, zs)
found op k s zs e = rw (operator_found op, e, eqb_same k) refl

other : (op : BinaryOp) (j k : ℕ) (s : Span) (zs : List Token) → (ranks op).rank ≡ k → j < k → operator_at j (at (operator op) s ∷ zs) ≡ None
other op j k s zs e lt = rw (operator_found op) (pick (eqb (ranks op).rank j) refl)
  where
    pick : (b : Bool) → eqb (ranks op).rank j ≡ b → placed s zs (cond b (Some op) None) ≡ None
    pick true h = let same : (ranks op).rank ≡ j = eqb-true _ _ h in absurd (omega arith)
    pick false h = refl

infix_left : (op : BinaryOp) (a b : Expression) (s : Span) (j : ℕ) (left right rest : List Token) (n : ℕ) → (ranks op).rank ≡ suc j → repeats op ≡ true → (ranks op).right ≡ j → IsExpr a (suc j) left → IsExpr b j right → Claim a (suc j) → Claim b j → length (left ++ (at (operator op) s ∷ (right ++ rest))) ≤ n → Quiet (suc j) rest → (m : ℕ) × (length rest ≤ m) × (full (reading n) (suc j) (left ++ (at (operator op) s ∷ (right ++ rest))) ≡ more (reading m) (suc j) (Expression.binary op a b s) rest)
infix_left op a b s j left right rest n r l rr ha hb ca cb len q = go first.0 first.1 first.2
  where
    first : (m : ℕ) × (length (at (operator op) s ∷ (right ++ rest)) ≤ m) × (full (reading n) (suc j) (left ++ (at (operator op) s ∷ (right ++ rest))) ≡ more (reading m) (suc j) a (at (operator op) s ∷ (right ++ rest)))
    first = (ca left (at (operator op) s ∷ (right ++ rest)) n ha len).1 (ap repeats_at (sym r) ∙ sym (repeats_by op) ∙ l) (λ i h. other op i (suc j) s (right ++ rest) r h)

    go : (m : ℕ) → length (at (operator op) s ∷ (right ++ rest)) ≤ m → full (reading n) (suc j) (left ++ (at (operator op) s ∷ (right ++ rest))) ≡ more (reading m) (suc j) a (at (operator op) s ∷ (right ++ rest)) → (m : ℕ) × (length rest ≤ m) × (full (reading n) (suc j) (left ++ (at (operator op) s ∷ (right ++ rest))) ≡ more (reading m) (suc j) (Expression.binary op a b s) rest)
    go zero le e = absurd (omega arith)
    go (suc m) le e = (m, omega (arith, length-append right rest), e ∙ rw (found op (suc j) s (right ++ rest) r, rr, (cb right rest m hb (omega arith)).0 q, l) refl)

infix_other : (op : BinaryOp) (a b : Expression) (s : Span) (j : ℕ) (left right rest : List Token) (n : ℕ) → (ranks op).rank ≡ suc j → repeats op ≡ false → (ranks op).right ≤ suc j → IsExpr a j left → IsExpr b (ranks op).right right → Claim a j → Claim b (ranks op).right → length (left ++ (at (operator op) s ∷ (right ++ rest))) ≤ n → Quiet (suc (suc j)) rest → full (reading n) (suc j) (left ++ (at (operator op) s ∷ (right ++ rest))) ≡ Got (Expression.binary op a b s) rest
infix_other op a b s j left right rest zero r l rr ha hb ca cb len q = absurd (omega (arith, length-append left (at (operator op) s ∷ (right ++ rest))))
infix_other op a b s j left right rest (suc n) r l rr ha hb ca cb len q =
    rw (
      (ca left (at (operator op) s ∷ (right ++ rest)) (suc n) ha len).0 (λ i h. other op i (suc j) s (right ++ rest) r h),
      found op (suc j) s (right ++ rest) r,
      (cb right rest n hb (omega (arith, length-append left (at (operator op) s ∷ (right ++ rest))))).0 (λ i h. q i (omega arith)),
      l,
    ) refl

split : (a b : ℕ) → a ≤ suc b → (a ≤ b) ⊎ (a ≡ suc b)
split zero b h = inl (omega arith)
split (suc a) zero h = inr (omega arith)
split (suc a) (suc b) h = elim (split a b (omega arith)) [ inl x ↦ inl (omega arith) | inr x ↦ inr (omega arith) ]

rank_positive : (op : BinaryOp) → 1 ≤ (ranks op).rank
rank_positive ops.Imply = omega arith
rank_positive _ = omega arith

joint : (left sign right behind text rest : List Token) (u : Token) → text ≡ left ++ behind → behind ≡ sign ++ right → sign ≡ u ∷ [] → text ++ rest ≡ left ++ (u ∷ (right ++ rest))
joint left sign right behind text rest u e e2 h = rw (e, e2, h, append_assoc) refl

infix_at : (op : BinaryOp) (a b : Expression) (s : Span) → Claims a → Claims b → (j : ℕ) → suc j ≤ 8 → (left right rest : List Token) (n : ℕ) → (ranks op).rank ≡ suc j → Groups op → IsExpr a (ranks op).left left → IsExpr b (ranks op).right right → length (left ++ (at (operator op) s ∷ (right ++ rest))) ≤ n →
    (Quiet (suc (suc j)) rest → full (reading n) (suc j) (left ++ (at (operator op) s ∷ (right ++ rest))) ≡ Got (Expression.binary op a b s) rest)
    × (repeats_at (suc j) ≡ true → Quiet (suc j) rest → (m : ℕ) × (length rest ≤ m) × (full (reading n) (suc j) (left ++ (at (operator op) s ∷ (right ++ rest))) ≡ more (reading m) (suc j) (Expression.binary op a b s) rest))
infix_at op a b s ca cb j bound left right rest n r (inl (l, lr, rr)) ha hb len =
    (λ q. let (m, lm, e) = goes (λ i h. q i (omega arith)) in rw (e, q (suc j) (omega arith)) refl, λ x q. goes q)
  where
    right_is : (ranks op).right ≡ j
    right_is = omega arith

    goes : Quiet (suc j) rest → (m : ℕ) × (length rest ≤ m) × (full (reading n) (suc j) (left ++ (at (operator op) s ∷ (right ++ rest))) ≡ more (reading m) (suc j) (Expression.binary op a b s) rest)
    goes q = infix_left op a b s j left right rest n r l right_is (subst (λ (z : ℕ). IsExpr a z left) (lr ∙ r) ha) (subst (λ (z : ℕ). IsExpr b z right) right_is hb) (ca (suc j) bound) (cb j (omega arith)) len q
infix_at op a b s ca cb j bound left right rest n r (inr (l, lr, rr)) ha hb len = (
  λ q. infix_other op a b s j left right rest n r l (omega arith) (subst (λ (z : ℕ). IsExpr a z left) left_is ha) hb (ca j (omega arith)) (cb (ranks op).right (omega arith)) len q,
  λ x q. let never : repeats op ≡ true = repeats_by op ∙ ap repeats_at r ∙ x in cc,
)
  where
    left_is : (ranks op).left ≡ j
    left_is = omega arith

complete_infix : (op : BinaryOp) (a b : Expression) (s : Span) → Claims a → Claims b → (k : ℕ) → k ≤ 8 → Claim (Expression.binary op a b s) k
complete_infix op a b s ca cb zero bound text rest n (le, h) len = absurd (omega (arith, rank_positive op))
complete_infix op a b s ca cb (suc j) bound text rest n (le, (left, behind, ha, (sign, right, hs, hb, e2), e)) len =
    pick (split (ranks op).rank j le) (λ h. (complete_infix op a b s ca cb j (omega arith) text rest n (h, (left, behind, ha, (sign, right, hs, hb, e2), e)) len).0)
  where
    all : text ++ rest ≡ left ++ (at (operator op) s ∷ (right ++ rest))
    all = joint left sign right behind text rest (at (operator op) s) e e2 hs

    pick : ((ranks op).rank ≤ j) ⊎ ((ranks op).rank ≡ suc j) → (((ranks op).rank ≤ j) → Quiet (suc j) rest → Reads n j text rest (Expression.binary op a b s)) → (Quiet (suc (suc j)) rest → Reads n (suc j) text rest (Expression.binary op a b s)) × (repeats_at (suc j) ≡ true → Quiet (suc j) rest → Goes n (suc j) text rest (Expression.binary op a b s))
    pick (inl h) lower = lift (Expression.binary op a b s) j text rest n len (lower h)
    pick (inr r) lower = rw all (infix_at op a b s ca cb j bound left right rest n r (groups op) ha hb (rw all at len))

-- Before a quantifier no expression without quantifiers begins.
key_stops : (self : Reader) (k : Key) (s : Span) (us : List Token) (up : Bool) → quantifier_of (kinds.Key k) ≡ Some up → by_kind self (kinds.Key k) s us (at (kinds.Key k) s ∷ us) ≡ Bad (at (kinds.Key k) s ∷ us)
key_stops self keys.Sup s us up e = refl
key_stops self keys.Inf s us up e = refl
key_stops self _ s us up e = cc

kind_stops : (self : Reader) (k : TokenKind) (s : Span) (us : List Token) (up : Bool) → quantifier_of k ≡ Some up → by_kind self k s us (at k s ∷ us) ≡ Bad (at k s ∷ us)
kind_stops self (kinds.Key k) s us up e = key_stops self k s us up e
kind_stops self (kinds.Word w) s us up e = cc
kind_stops self (kinds.Number m) s us up e = cc
kind_stops self (kinds.Mark m) s us up e = cc

full_stops : (self : Reader) (u : Token) (us : List Token) (up : Bool) → quantifier_of u.kind ≡ Some up → (k : ℕ) → full self k (u ∷ us) ≡ Bad (u ∷ us)
full_stops self u us up e zero = kind_stops self u.kind u.span us up e
full_stops self u us up e (suc k) = rw (full_stops self u us up e k) refl

unquantified : (self : Reader) (ts : List Token) (t : Expression) (rest : List Token) → full self 8 ts ≡ Got t rest → whole self ts ≡ Got t rest
unquantified self [] t rest h = h
unquantified self (u ∷ us) t rest h = go (quantifier_of u.kind) refl
  where
    go : (o : Option Bool) → quantifier_of u.kind ≡ o → quantified self (u ∷ us) (placed u.span us o) ≡ Got t rest
    go None e = h
    go (Some up) e = let stop = full_stops self u us up e 8 in cc

-- The claims for a tree that is not a quantifier.
plain : (t : Expression) → Claims t → ((text : List Token) → IsExpr t 9 text → IsExpr t 8 text) → Claims t × WholeClaim t
plain t claims narrow = (claims, λ text rest n h len q. unquantified (reading n) (text ++ rest) t rest ((claims 8 (omega arith) text rest n (narrow text h) len).0 q))

rank_bound : (op : BinaryOp) → (ranks op).rank ≤ 8
rank_bound ops.Imply = omega arith
rank_bound _ = omega arith

-- The parts after the variable of a quantifier, from the last to the first.
abbrev Rest3 : Span × Expression → List Token → Type 0
Rest3 = Pair (IsSign marks.Dot) (Ranked 9)

abbrev Rest2 : TypeName × (Span × Expression) → List Token → Type 0
Rest2 = Pair IsType Rest3

abbrev Rest1 : Span × (TypeName × (Span × Expression)) → List Token → Type 0
Rest1 = Pair (IsSign marks.Colon) Rest2

abbrev rest3 : Reader → List Token → Read (Span × Expression)
rest3 self = pair (expect marks.Dot) (self Whole)

abbrev rest2 : Reader → List Token → Read (TypeName × (Span × Expression))
rest2 self = pair type_name (rest3 self)

abbrev rest1 : Reader → List Token → Read (Span × (TypeName × (Span × Expression)))
rest1 self = pair (expect marks.Colon) (rest2 self)

whole_bound : (up : Bool) (x : List ℕ) (t : TypeName) (a : Expression) (s : Span) → WholeClaim a → WholeClaim (Expression.bound up x t a s)
whole_bound up x t a s wa text rest n (within, (front, back, (p, hp), (f0, b0, hx, (f1, b1, (c, hc), (f2, b2, ht, (f3, b3, (d, hd), ha, e3), e2), e1), e0), e), es) len q = rw starts (go up n refl)
  where
    starts : text ≡ at (kinds.Key (quantifier_key up)) p ∷ back
    starts = e ∙ ap (λ z. z ++ back) hp

    parts : IsBounds (x, (c, (t, (d, a)))) back
    parts = (f0, b0, hx, (f1, b1, hc, (f2, b2, ht, (f3, b3, hd, ha, e3), e2), e1), e0)

    place : reach p (end_of a) ≡ s
    place = place_is s text (kinds.Key (quantifier_key up)) p back (reach p (end_of a)) es starts (bound_text up p (x, (c, (t, (d, a)))) back parts).2

    all : (m : ℕ) → CompletesAt m (Quiet 9) IsBounds (bound_parts (reading (suc m))) (x, (c, (t, (d, a))))
    all m =
        complete_pair m Anything (Quiet 9) IsName Rest1 word (rest1 (reading (suc m))) x (c, (t, (d, a))) (complete_word m x)
        (complete_pair m Anything (Quiet 9) (IsSign marks.Colon) Rest2 (expect marks.Colon) (rest2 (reading (suc m))) c (t, (d, a)) (complete_expect m marks.Colon c)
        (complete_pair m Anything (Quiet 9) IsType Rest3 type_name (rest3 (reading (suc m))) t (d, a) (complete_type m t)
        (complete_pair m Anything (Quiet 9) (IsSign marks.Dot) (Ranked 9) (expect marks.Dot) (reading (suc m) Whole) d a (complete_expect m marks.Dot d) (in_whole a wa m) (λ text rest h u. tt))
        (λ text rest h u. tt))
        (λ text rest h u. tt))
        (λ text rest h u. tt)

    below : (m : ℕ) → suc m ≡ n → length (back ++ rest) ≤ m
    below m same = omega (arith, ap (λ z. length (z ++ rest)) starts)

    read : (m : ℕ) → suc m ≡ n → bound_parts (reading (suc m)) (back ++ rest) ≡ Got (x, (c, (t, (d, a)))) rest
    read m same = all m back rest parts (below m same) q

    go : (v : Bool) (n' : ℕ) → n' ≡ n → whole (reading n') (at (kinds.Key (quantifier_key v)) p ∷ (back ++ rest)) ≡ Got (Expression.bound v x t a s) rest
    go v zero same = absurd (omega (arith, ap (λ z. length (z ++ rest)) starts))
    go true (suc m) same = rw (read m same) (ap (λ w. Got (Expression.bound true x t a w) rest) place)
    go false (suc m) same = rw (read m same) (ap (λ w. Got (Expression.bound false x t a w) rest) place)

claims : (t : Expression) → Claims t × WholeClaim t
claims (Expression.number m s) = plain (Expression.number m s) (λ k le. from_base (Expression.number m s) (λ text rest n ((p, e), es) len q. rw e (ap (λ w. Got (Expression.number m w) rest) (sym (es ∙ ap extent e)))) (λ k text h. h) k) (λ text h. h)
claims (Expression.truth b s) = plain (Expression.truth b s) (λ k le. from_base (Expression.truth b s) (base_truth b) (λ k text h. h) k) (λ text h. h)
  where
    base_truth : (b : Bool) → Base (Expression.truth b s)
    base_truth true text rest n ((p, e), es) len q = rw e (ap (λ w. Got (Expression.truth true w) rest) (sym (es ∙ ap extent e)))
    base_truth false text rest n ((p, e), es) len q = rw e (ap (λ w. Got (Expression.truth false w) rest) (sym (es ∙ ap extent e)))
claims (Expression.infinity s) = plain (Expression.infinity s) (λ k le. from_base (Expression.infinity s) (λ text rest n ((p, e), es) len q. rw e (ap (λ w. Got (Expression.infinity w) rest) (sym (es ∙ ap extent e)))) (λ k text h. h) k) (λ text h. h)
claims (Expression.name x s) = plain (Expression.name x s) (λ k le. from_base (Expression.name x s) (λ text rest n ((p, e), es) len q. rw e (ap (λ w. Got (Expression.name x w) rest) (sym (es ∙ ap extent e)))) (λ k text h. h) k) (λ text h. h)
claims (Expression.group a s) = plain (Expression.group a s) (λ k le. from_base (Expression.group a s) (base_group a s (claims a).1) (λ k text h. h) k) (λ text h. h)
claims (Expression.bracket a s) = plain (Expression.bracket a s) (λ k le. from_base (Expression.bracket a s) (base_bracket a s (claims a).1) (λ k text h. h) k) (λ text h. h)
claims (Expression.embed a s) = plain (Expression.embed a s) (λ k le. from_base (Expression.embed a s) (base_embed a s (claims a).1) (λ k text h. h) k) (λ text h. h)
claims (Expression.unary op a s) = plain (Expression.unary op a s) (λ k le. from_base (Expression.unary op a s) (base_prefix op a s (claims a).0) (λ k text h. h) k) (λ text h. h)
claims (Expression.binary op a b s) = plain (Expression.binary op a b s) (complete_infix op a b s (claims a).0 (claims b).0) (λ text (within, h). (rank_bound op, h))
claims (Expression.choice a b c s) = plain (Expression.choice a b c s) (λ k le. from_base (Expression.choice a b c s) (base_choice a b c s (claims a).1 (claims b).1 (claims c).1) (λ k text h. h) k) (λ text h. h)
claims (Expression.bound up x t a s) = (λ k le text rest n (within, h, es) len. absurd (omega arith), whole_bound up x t a s (claims a).1)

pub complete : (t : Expression) → WholeClaim t
complete t = (claims t).1
