-- If the beginning of a text of the grammar has no quantifier, it can be completed to a text of the
-- grammar without one.
use Rattle.heyvl_places.specs.declared.spans.Span.{Span}
use Rattle.heyvl_syntax.specs.Expressions.{Expression}
use Rattle.heyvl_syntax.specs.Grammar.{IsBraced, IsExpr, operator, prefix, quantifier_key, ranks, truth_key}
use Rattle.heyvl_syntax.specs.Productions.{IsAt, IsEach, IsOne, at, extent, ◌then◌}
use Rattle.heyvl_syntax.specs.declared.keys.Key.TheVariants as keys
use Rattle.heyvl_syntax.specs.declared.marks.Mark.TheVariants as marks
use Rattle.heyvl_syntax.specs.declared.operators.BinaryOp.TheVariants as ops
use Rattle.heyvl_syntax.specs.declared.operators.BinaryOp.{BinaryOp}
use Rattle.heyvl_syntax.specs.declared.operators.UnaryOp.{UnaryOp}
use Rattle.heyvl_syntax.specs.declared.tokens.Token.{Token}
use Rattle.heyvl_syntax.specs.declared.tokens.TokenKind.TheVariants as kinds
use Rattle.heyvl_syntax.specs.declared.tokens.TokenKind.{TokenKind}
use Rattle.guarded_commands.specs.Grammar.{IsCommand, IsCommands, IsDeclaration, IsEnclosed, IsProg, is_quantifier, quantifier_count}
use Rattle.guarded_commands.specs.Programs.{BlockTree, CommandTree, ProgramTree}
use Rattle.guarded_commands.specs.declared.programs.Declaration.{Declaration}
use Rattle.std.proofs.Common.{Bool, List, [], ap, arith, codes, cond, false, inl, inr, refl, subst, sym, true, ◌++◌, ◌+◌, ◌∙◌, ◌∷◌, ◌≡◌, ◌⊎◌, ℕ}
use Rattle.std.proofs.lemmas.List.Sums.{sum_by-append, sum_by-cons}
use Rattle.std.proofs.lemmas.List.{append_assoc}

abbrev mark_of : Token → ℕ
mark_of t = cond (is_quantifier t.kind) 1 0

pub count_append : (one two : List Token) → quantifier_count (one ++ two) ≡ quantifier_count one + quantifier_count two
count_append one two = sum_by-append mark_of one two

count_cons : (t : Token) (ts : List Token) → quantifier_count (t ∷ ts) ≡ mark_of t + quantifier_count ts
count_cons t ts = sum_by-cons mark_of t ts

count_one : (kind : TokenKind) (s : Span) → is_quantifier kind ≡ false → quantifier_count (at kind s ∷ []) ≡ 0
count_one kind s e = count_cons (at kind s) [] ∙ rw e refl

-- Two ways to cut a list, by which of the two first parts is shorter.
parted : (us vs text more : List Token) → us ++ vs ≡ text ++ more →
    ((t : List Token) × (text ≡ us ++ t) × (vs ≡ t ++ more)) ⊎ ((t : List Token) × (us ≡ text ++ t) × (more ≡ t ++ vs))
parted [] vs text more e = inl (text, refl, e)
parted (u ∷ us) vs [] more e = inr (u ∷ us, refl, sym e)
parted (u ∷ us) vs (t ∷ text) more e =
    let head : u ≡ t = cc in
    let tail : us ++ vs ≡ text ++ more = cc in
    go head (parted us vs text more tail)
  where
    go : u ≡ t → ((w : List Token) × (text ≡ us ++ w) × (vs ≡ w ++ more)) ⊎ ((w : List Token) × (us ≡ text ++ w) × (more ≡ w ++ vs)) →
        ((w : List Token) × (t ∷ text ≡ (u ∷ us) ++ w) × (vs ≡ w ++ more)) ⊎ ((w : List Token) × (u ∷ us ≡ (t ∷ text) ++ w) × (more ≡ w ++ vs))
    go head (inl (w, a, b)) = inl (w, rw (head, a) refl, b)
    go head (inr (w, a, b)) = inr (w, rw (head, a) refl, b)

-- `Goes P Q`: things of `A` spell the texts of `P`. The beginning of such a text, if it has no
-- quantifier, can be completed without one to a text that a thing of `A` spells.
pub record Goes {A : Type 0} (P : List Token → Type 0) (Q : A → List Token → Type 0) : Type 0 where
  pub keeps : (text : List Token) → P text → (x : A) × Q x text
  pub ends : (text more : List Token) → P (text ++ more) → quantifier_count text ≡ 0 →
      (rest : List Token) × (x : A) × Q x (text ++ rest) × (quantifier_count rest ≡ 0)

both_goes : {A B : Type 0} {P P' : List Token → Type 0} {Q : A → List Token → Type 0} {Q' : B → List Token → Type 0} →
    Goes P Q → Goes P' Q' → Goes (P then P') (λ (p : A × B). Q p.0 then Q' p.1)
both_goes {A} {B} {P} {P'} {Q} {Q'} one two = record {
  keeps = λ text (us, vs, p, q, e). let (x, h) = one.keeps us p in let (y, k) = two.keeps vs q in ((x, y), (us, vs, h, k, e));
  ends = λ text more (us, vs, p, q, e) quiet. go text more us vs p q quiet (parted us vs text more (sym e));
}
  where
    go : (text more us vs : List Token) → P us → P' vs → quantifier_count text ≡ 0 →
        ((t : List Token) × (text ≡ us ++ t) × (vs ≡ t ++ more)) ⊎ ((t : List Token) × (us ≡ text ++ t) × (more ≡ t ++ vs)) →
        (rest : List Token) × (x : A × B) × (Q x.0 then Q' x.1) (text ++ rest) × (quantifier_count rest ≡ 0)
    go text more us vs p q quiet (inl (t, a, b)) =
        let free : quantifier_count t ≡ 0 = omega (arith, quiet, ap quantifier_count a, count_append us t) in
        let (x, h) = one.keeps us p in
        let (rest, y, k, none) = two.ends t more (subst P' b q) free in
        (rest, (x, y), (us, t ++ rest, h, k, ap (λ z. z ++ rest) a ∙ append_assoc us t rest), none)
    go text more us vs p q quiet (inr (t, a, b)) =
        let (r1, x, h, none1) = one.ends text t (subst P a p) quiet in
        let (r2, y, k, none2) = two.ends [] vs q refl in
        (r1 ++ r2, (x, y), (text ++ r1, r2, h, k, sym (append_assoc text r1 r2)), omega (arith, none1, none2, count_append r1 r2))

alike_goes : {A B : Type 0} {P : List Token → Type 0} {Q : A → List Token → Type 0} (R : B → List Token → Type 0) →
    Goes P Q → ((x : A) (text : List Token) → Q x text → (y : B) × R y text) → Goes P R
alike_goes R l f = record {
  keeps = λ text p. let (x, h) = l.keeps text p in f x text h;
  ends = λ text more p quiet.
      let (rest, x, h, none) = l.ends text more p quiet in
      let (y, k) = f x (text ++ rest) h in
      (rest, y, k, none);
}

-- Places and other facts are left out.
from_goes : {A : Type 0} {P P' : List Token → Type 0} {Q : A → List Token → Type 0} → Goes P Q → ((text : List Token) → P' text → P text) → Goes P' Q
from_goes l f = record { keeps = λ text p. l.keeps text (f text p); ends = λ text more p quiet. l.ends text more (f (text ++ more) p) quiet }

-- A thing whose texts have no quantifier.
free_goes : {A : Type 0} (Q : A → List Token → Type 0) (x : A) → ((text : List Token) → Q x text → quantifier_count text ≡ 0) → Goes (Q x) Q
free_goes Q x free = record {
  keeps = λ text h. (x, h);
  ends = λ text more h quiet. (more, x, h, omega (arith, free (text ++ more) h, count_append text more));
}

-- A part of the text that is kept, and has no quantifier.
fixed_goes : (P : List Token → Type 0) → ((text : List Token) → P text → quantifier_count text ≡ 0) → Goes P (λ (u : Unit {0}). P)
fixed_goes P free = record {
  keeps = λ text h. (tt, h);
  ends = λ text more h quiet. (more, tt, h, omega (arith, free (text ++ more) h, count_append text more));
}

one_free : (kind : TokenKind) → is_quantifier kind ≡ false → (text : List Token) → IsOne kind text → quantifier_count text ≡ 0
one_free kind e text (s, h) = ap quantifier_count h ∙ count_one kind s e

at_free : (kind : TokenKind) (s : Span) → is_quantifier kind ≡ false → (text : List Token) → IsAt kind s text → quantifier_count text ≡ 0
at_free kind s e text h = ap quantifier_count h ∙ count_one kind s e

after_goes : {A : Type 0} (O : List Token → Type 0) → ((text : List Token) → O text → quantifier_count text ≡ 0) → {P : List Token → Type 0} {Q : A → List Token → Type 0} → Goes P Q → Goes (O then P) (λ x. O then Q x)
after_goes {A} O free {P} {Q} l = alike_goes (λ x. O then Q x) (both_goes (fixed_goes O free) l) (λ p text h. (p.1, h))

lead_goes : {A : Type 0} (kind : TokenKind) → is_quantifier kind ≡ false → {P : List Token → Type 0} {Q : A → List Token → Type 0} → Goes P Q → Goes (IsOne kind then P) (λ x. IsOne kind then Q x)
lead_goes kind e l = after_goes (IsOne kind) (one_free kind e) l

trail_goes : {A : Type 0} (kind : TokenKind) → is_quantifier kind ≡ false → {P : List Token → Type 0} {Q : A → List Token → Type 0} → Goes P Q → Goes (P then IsOne kind) (λ x. Q x then IsOne kind)
trail_goes kind e {P} {Q} l = alike_goes (λ x. Q x then IsOne kind) (both_goes l (fixed_goes (IsOne kind) (one_free kind e))) (λ p text h. (p.0, h))

-- A thing with a place, built from its parts.
placed_goes : {A B : Type 0} {P : List Token → Type 0} {Q : A → List Token → Type 0} (s : Span) (R : B → List Token → Type 0) →
    Goes P Q → ((x : A) (text : List Token) → Q x text → (y : B) × R y text) → Goes (λ text. P text × (s ≡ extent text)) R
placed_goes s R l f = from_goes (alike_goes R l f) (λ text h. h.0)

operator_free : (op : BinaryOp) → is_quantifier (operator op) ≡ false
operator_free ops.Cup = refl
operator_free ops.Cap = refl
operator_free _ = refl

prefix_free : (op : UnaryOp) → is_quantifier (kinds.Mark (prefix op)) ≡ false
prefix_free op = refl

truth_free : (b : Bool) → is_quantifier (kinds.Key (truth_key b)) ≡ false
truth_free true = refl
truth_free false = refl

quantifier_counts : (up : Bool) → is_quantifier (kinds.Key (quantifier_key up)) ≡ true
quantifier_counts true = refl
quantifier_counts false = refl

nowhere : Span
nowhere = record { from = 0; to = 0 }

abbrev Ranked : ℕ → Expression → List Token → Type 0
Ranked k a text = IsExpr a k text

expr_goes : (a : Expression) (k : ℕ) → Goes (IsExpr a k) (Ranked k)
expr_goes (Expression.number n s) k = free_goes (Ranked k) (Expression.number n s) (λ text h. one_free (kinds.Number n) refl text h.0)
expr_goes (Expression.truth b s) k = free_goes (Ranked k) (Expression.truth b s) (λ text h. one_free (kinds.Key (truth_key b)) (truth_free b) text h.0)
expr_goes (Expression.infinity s) k = free_goes (Ranked k) (Expression.infinity s) (λ text h. one_free (kinds.Key keys.Infty) refl text h.0)
expr_goes (Expression.name x s) k = free_goes (Ranked k) (Expression.name x s) (λ text h. one_free (kinds.Word x) refl text h.0)
expr_goes (Expression.group a s) k =
    placed_goes s (Ranked k) (lead_goes (kinds.Mark marks.ParenLeft) refl (trail_goes (kinds.Mark marks.ParenRight) refl (expr_goes a 9)))
    (λ b text h. (Expression.group b (extent text), (h, refl)))
expr_goes (Expression.bracket a s) k =
    placed_goes s (Ranked k) (lead_goes (kinds.Mark marks.BracketLeft) refl (trail_goes (kinds.Mark marks.BracketRight) refl (expr_goes a 9)))
    (λ b text h. (Expression.bracket b (extent text), (h, refl)))
expr_goes (Expression.embed a s) k =
    placed_goes s (Ranked k)
    (lead_goes (kinds.Mark marks.Question) refl (lead_goes (kinds.Mark marks.ParenLeft) refl (trail_goes (kinds.Mark marks.ParenRight) refl (expr_goes a 9))))
    (λ b text h. (Expression.embed b (extent text), (h, refl)))
expr_goes (Expression.unary op a s) k =
    placed_goes s (Ranked k) (lead_goes (kinds.Mark (prefix op)) (prefix_free op) (expr_goes a 0)) (λ b text h. (Expression.unary op b (extent text), (h, refl)))
expr_goes (Expression.binary op a b s) k = record {
  keeps = λ text h. (Expression.binary op a b s, h);
  ends = λ text more (within, h) quiet.
      let (rest, x, g, none) = (both_goes (expr_goes a (ranks op).left) (after_goes (IsAt (operator op) s) (at_free (operator op) s (operator_free op)) (expr_goes b (ranks op).right))).ends text more h quiet in
      (rest, Expression.binary op x.0 x.1 s, (within, g), none);
}
expr_goes (Expression.choice a b c s) k =
    placed_goes s (Ranked k)
    (lead_goes (kinds.Key keys.Ite) refl (lead_goes (kinds.Mark marks.ParenLeft) refl
    (both_goes (expr_goes a 9) (lead_goes (kinds.Mark marks.Comma) refl
    (both_goes (expr_goes b 9) (lead_goes (kinds.Mark marks.Comma) refl (trail_goes (kinds.Mark marks.ParenRight) refl (expr_goes c 9))))))))
    (λ p text h. (Expression.choice p.0 p.1.0 p.1.1 (extent text), (h, refl)))
expr_goes (Expression.bound up x t a s) k = record { keeps = λ text h. (Expression.bound up x t a s, h); ends = ends }
  where
    -- A beginning of at least one token begins with the quantifier.
    ends : (text more : List Token) → IsExpr (Expression.bound up x t a s) k (text ++ more) → quantifier_count text ≡ 0 →
        (rest : List Token) × (y : Expression) × Ranked k y (text ++ rest) × (quantifier_count rest ≡ 0)
    ends [] more h quiet = (at (kinds.Key keys.Infty) nowhere ∷ [], Expression.infinity nowhere, ((nowhere, refl), refl), refl)
    ends (u ∷ text) more (within, (one, two, (p, h), others, e), place) quiet =
        let all : u ∷ (text ++ more) ≡ at (kinds.Key (quantifier_key up)) p ∷ two = e ∙ ap (λ z. z ++ two) h in
        let head : u ≡ at (kinds.Key (quantifier_key up)) p = cc in
        let counted : mark_of u ≡ 1 = ap mark_of head ∙ rw (quantifier_counts up) refl in
        absurd (omega (arith, quiet, count_cons u text, counted))

enclosed_goes : (a : Expression) → Goes (IsEnclosed a) IsEnclosed
enclosed_goes a = lead_goes (kinds.Mark marks.ParenLeft) refl (trail_goes (kinds.Mark marks.ParenRight) refl (expr_goes a 9))

braced_goes : (b : BlockTree) → Goes (IsCommands b) IsCommands → Goes (IsBraced (IsCommands b)) (λ c. IsBraced (IsCommands c))
braced_goes b l = lead_goes (kinds.Mark marks.BraceLeft) refl (trail_goes (kinds.Mark marks.BraceRight) refl l)

mutual
  command_goes : (c : CommandTree) → Goes (IsCommand c) IsCommand
  command_goes (CommandTree.skip s) =
      placed_goes s IsCommand (lead_goes (kinds.Word (codes "skip")) refl (fixed_goes (IsOne (kinds.Mark marks.Semi)) (one_free (kinds.Mark marks.Semi) refl)))
      (λ u text h. (CommandTree.skip (extent text), (h, refl)))
  command_goes (CommandTree.assign x e s) =
      placed_goes s IsCommand
      (lead_goes (kinds.Word x) refl (lead_goes (kinds.Mark marks.Colon) refl (lead_goes (kinds.Mark marks.Assign) refl (trail_goes (kinds.Mark marks.Semi) refl (expr_goes e 9)))))
      (λ a text h. (CommandTree.assign x a (extent text), (h, refl)))
  command_goes (CommandTree.tick e s) =
      placed_goes s IsCommand (lead_goes (kinds.Key keys.Tick) refl (trail_goes (kinds.Mark marks.Semi) refl (enclosed_goes e)))
      (λ a text h. (CommandTree.tick a (extent text), (h, refl)))
  command_goes (CommandTree.branch g a b s) =
      placed_goes s IsCommand
      (lead_goes (kinds.Key keys.If) refl (both_goes (enclosed_goes g) (both_goes (braced_goes a (commands_goes a)) (lead_goes (kinds.Key keys.Else) refl (braced_goes b (commands_goes b))))))
      (λ p text h. (CommandTree.branch p.0 p.1.0 p.1.1 (extent text), (h, refl)))
  command_goes (CommandTree.mix e a b s) =
      placed_goes s IsCommand
      (both_goes (braced_goes a (commands_goes a)) (lead_goes (kinds.Mark marks.BracketLeft) refl
      (both_goes (expr_goes e 9) (lead_goes (kinds.Mark marks.BracketRight) refl (braced_goes b (commands_goes b))))))
      (λ p text h. (CommandTree.mix p.1.0 p.0 p.1.1 (extent text), (h, refl)))
  command_goes (CommandTree.choice a b s) =
      placed_goes s IsCommand
      (both_goes (braced_goes a (commands_goes a)) (lead_goes (kinds.Mark marks.BracketLeft) refl (lead_goes (kinds.Mark marks.BracketRight) refl (braced_goes b (commands_goes b)))))
      (λ p text h. (CommandTree.choice p.0 p.1 (extent text), (h, refl)))
  command_goes (CommandTree.repeat g i a s) =
      placed_goes s IsCommand
      (lead_goes (kinds.Key keys.While) refl (both_goes (enclosed_goes g) (lead_goes (kinds.Mark marks.BracketLeft) refl
      (both_goes (expr_goes i 9) (lead_goes (kinds.Mark marks.BracketRight) refl (braced_goes a (commands_goes a)))))))
      (λ p text h. (CommandTree.repeat p.0 p.1.0 p.1.1 (extent text), (h, refl)))

  commands_goes : (b : BlockTree) → Goes (IsCommands b) IsCommands
  commands_goes BlockTree.done = free_goes IsCommands BlockTree.done (λ text h. ap quantifier_count h)
  commands_goes (BlockTree.next x xs) = alike_goes IsCommands (both_goes (command_goes x) (commands_goes xs)) (λ p text h. (BlockTree.next p.0 p.1, h))

declaration_free : (d : Declaration) (text : List Token) → IsDeclaration d text → quantifier_count text ≡ 0
declaration_free d text ((one, two, (s, h), (f, b, (p, g), (q, k), e2), e), place) = rw (e, h, e2, g, k) refl

declarations_free : (ds : List Declaration) (text : List Token) → IsEach IsDeclaration ds text → quantifier_count text ≡ 0
declarations_free [] text h = ap quantifier_count h
declarations_free (d ∷ ds) text (one, two, h, others, e) =
    omega (arith, ap quantifier_count e, count_append one two, declaration_free d one h, declarations_free ds two others)

pub prog_goes : (p : ProgramTree) → Goes (IsProg p) IsProg
prog_goes p =
    alike_goes IsProg
    (both_goes (free_goes (IsEach IsDeclaration) p.declarations (declarations_free p.declarations))
    (lead_goes (kinds.Key keys.Pre) refl (both_goes (expr_goes p.pre 9) (lead_goes (kinds.Mark marks.Semi) refl
    (lead_goes (kinds.Key keys.Post) refl (both_goes (expr_goes p.post 9) (lead_goes (kinds.Mark marks.Semi) refl (commands_goes p.body))))))))
    (λ q text h. (record { declarations = q.0; pre = q.1.0; post = q.1.1.0; body = q.1.1.1 }, h))
