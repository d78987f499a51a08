-- The pieces of an expression spell it again.
use Rattle.heyvl_print.proofs.NumbersAgain.{printed_is_number, printed_literal, printed_number_reads}
use Rattle.heyvl_print.proofs.TreePieces.{Reprints, printable_back, printable_front, r_blank, r_both, r_closed, r_made, r_one, r_token}
use Rattle.heyvl_print.specs.Canonical.{expression_pieces, parens}
use Rattle.heyvl_print.specs.Numbers.{number_text}
use Rattle.heyvl_print.specs.Pieces.{Piece, blank, text_of, token, token_text}
use Rattle.heyvl_print.specs.Printable.{ArePrintable, IsPrintable}
use Rattle.heyvl_print.specs.WithoutPlaces.{bare_expression, no_place}
use Rattle.heyvl_syntax.proofs.exported.TokenReads.{Reads, ends_number, free_reads, is_free, key_reads, opens, prefix_reads, word_reads}
use Rattle.heyvl_syntax.proofs.exported.Runs.{and_left}
use Rattle.heyvl_syntax.proofs.exported.Starts.{token_begins}
use Rattle.heyvl_syntax.specs.Bytes.{ends_word, is_letter, is_point, is_word_byte}
use Rattle.heyvl_syntax.specs.Expressions.{Expression}
use Rattle.heyvl_syntax.specs.Grammar.{IsExpr, operator, prefix, quantifier_key, ranks, truth_key, type_key}
use Rattle.heyvl_syntax.specs.Literals.{IsInLimits}
use Rattle.heyvl_syntax.specs.Productions.{IsKey, IsMark, IsName, IsOne, extent, ◌then◌}
use Rattle.heyvl_syntax.specs.Tokens.{IsWord}
use Rattle.heyvl_syntax.specs.declared.keys.Key.TheVariants as keys
use Rattle.heyvl_syntax.specs.declared.keys.Key.{Key}
use Rattle.heyvl_syntax.specs.declared.literals.Lit.{Lit}
use Rattle.heyvl_syntax.specs.declared.marks.Mark.TheVariants as marks
use Rattle.heyvl_syntax.specs.declared.marks.Mark.{Mark}
use Rattle.heyvl_syntax.specs.declared.operators.BinaryOp.TheVariants as ops
use Rattle.heyvl_syntax.specs.declared.operators.BinaryOp.{BinaryOp}
use Rattle.heyvl_syntax.specs.declared.operators.UnaryOp.TheVariants as prefixes
use Rattle.heyvl_syntax.specs.declared.tokens.Token.{Token}
use Rattle.heyvl_syntax.specs.declared.tokens.TokenKind.TheVariants as kinds
use Rattle.heyvl_syntax.specs.declared.tokens.TokenKind.{TokenKind}
use Rattle.std.proofs.Common.{Bool, List, [], ap, append_assoc, arith, false, not, refl, subst, sym, true, ◌++◌, ◌∷◌, ◌≡◌, ℕ}
use Rattle.std.proofs.lemmas.Bool.Decides.{nat_tests}
use Rattle.std.specs.Char.{is_ascii_digit}

-- A symbol that no next byte extends, before and after an item.
pub r_free : {A B : Type 0} {test : List ℕ → Bool} {e : A → B} {P : A → List Token → Type 0} {x : A} {ps : List Piece} (m : Mark) → is_free m ≡ true →
    Reprints test e P x ps → Reprints test e (λ y. IsMark m then P y) x (token (kinds.Mark m) ∷ ps)
r_free {ps = ps} m free one = r_token (kinds.Mark m) (λ p rest passes. free_reads m (text_of (ps ++ rest)) free) one

pub r_shut : {A B : Type 0} {test test' : List ℕ → Bool} {e : A → B} {P : A → List Token → Type 0} {x : A} {ps : List Piece} (m : Mark) → is_free m ≡ true →
    ((rest : List Piece) → test (text_of (token (kinds.Mark m) ∷ rest)) ≡ true) → Reprints test e P x ps → Reprints test' e (λ y. P y then IsMark m) x (ps ++ token (kinds.Mark m) ∷ [])
r_shut m free starts one = r_closed (kinds.Mark m) (λ p rest passes. free_reads m (text_of rest) free) starts one

-- A keyword or an identifier, before an item that begins with neither a letter nor a digit.
pub r_key : {A B : Type 0} {test : List ℕ → Bool} {e : A → B} {P : A → List Token → Type 0} {x : A} {ps : List Piece} (k : Key) →
    ((rest : List Piece) → test (text_of rest) ≡ true → ends_word (text_of (ps ++ rest)) ≡ true) → Reprints test e P x ps → Reprints test e (λ y. IsKey k then P y) x (token (kinds.Key k) ∷ ps)
r_key {ps = ps} k ends one = r_token (kinds.Key k) (λ p rest passes. key_reads k (text_of (ps ++ rest)) (ends rest passes)) one

pub r_word : {A B : Type 0} {test : List ℕ → Bool} {e : A → B} {P : A → List Token → Type 0} {x : A} {ps : List Piece} (w : List ℕ) →
    ((rest : List Piece) → test (text_of rest) ≡ true → ends_word (text_of (ps ++ rest)) ≡ true) → Reprints test e P x ps → Reprints test e (λ y. IsName w then P y) x (token (kinds.Word w) ∷ ps)
r_word {ps = ps} w ends one = r_token (kinds.Word w) (λ p rest passes. word_reads w (text_of (ps ++ rest)) p.0 p.1 (ends rest passes)) one

ends_both : (bs : List ℕ) → ends_number bs ≡ true → ends_word bs ≡ true
ends_both [] h = refl
ends_both (b ∷ bs) h = and_left (not (is_word_byte b)) (not (is_point b)) h

-- A keyword or an identifier alone.
pub r_key_alone : (k : Key) → Reprints {A = Unit {0}} {B = Unit {0}} ends_number (λ y. y) (λ y. IsKey k) tt (token (kinds.Key k) ∷ [])
r_key_alone k = r_one (kinds.Key k) (λ p rest passes. key_reads k (text_of rest) (ends_both (text_of rest) passes))

pub r_word_alone : (w : List ℕ) → Reprints {A = Unit {0}} {B = Unit {0}} ends_number (λ y. y) (λ y. IsName w) tt (token (kinds.Word w) ∷ [])
r_word_alone w = r_one (kinds.Word w) (λ p rest passes. word_reads w (text_of rest) p.0 p.1 (ends_both (text_of rest) passes))

-- `(..)`
pub in_parens : {A B : Type 0} {test : List ℕ → Bool} {e : A → B} {P : A → List Token → Type 0} {x : A} {ps : List Piece} → Reprints ends_number e P x ps →
    Reprints test e (λ y. IsMark marks.ParenLeft then P y then IsMark marks.ParenRight) x (parens ps)
in_parens one = r_free marks.ParenLeft refl (r_shut marks.ParenRight refl (λ rest. refl) one)

-- An item before a comma and another item, and before two of them.
pub r_comma : {A A' B B' : Type 0} {test : List ℕ → Bool} {e : A → A'} {f : B → B'} {P : A → List Token → Type 0} {Q : B → List Token → Type 0} {x : A} {z : B} {ps qs : List Piece} →
    Reprints ends_number e P x ps → Reprints test f Q z qs →
    Reprints {A = A × B} {B = A' × B'} test (λ p. (e p.0, f p.1)) (λ p. P p.0 then IsMark marks.Comma then Q p.1) (x, z) (ps ++ token (kinds.Mark marks.Comma) ∷ blank ∷ qs)
r_comma one other = r_both one (λ rest passes. refl) (r_free marks.Comma refl (r_blank other))

-- A binary operator between spaces.
operator_reads : (op : BinaryOp) (rest : List ℕ) → Reads (operator op) (token_text (operator op)) (32 ∷ rest)
operator_reads ops.Cup rest = key_reads keys.Cup (32 ∷ rest) refl
operator_reads ops.Cap rest = key_reads keys.Cap (32 ∷ rest) refl
operator_reads ops.Imply rest = refl
operator_reads ops.CoImply rest = refl
operator_reads ops.Or rest = refl
operator_reads ops.And rest = refl
operator_reads ops.Same rest = refl
operator_reads ops.Differ rest = refl
operator_reads ops.Less rest = refl
operator_reads ops.AtMost rest = refl
operator_reads ops.More rest = refl
operator_reads ops.AtLeast rest = refl
operator_reads ops.Plus rest = refl
operator_reads ops.Minus rest = refl
operator_reads ops.Star rest = refl
operator_reads ops.Slash rest = refl

-- The first byte of an expression does not extend a prefix operator.
letter_opens : (b : ℕ) (bs : List ℕ) → is_letter b ≡ true → opens (b ∷ bs) ≡ true
letter_opens b bs h = grind (arith, nat_tests)

digit_opens : (b : ℕ) (bs : List ℕ) → is_ascii_digit b ≡ true → opens (b ∷ bs) ≡ true
digit_opens b bs h = grind (arith, nat_tests)

word_opens : (x rest : List ℕ) → IsWord x → opens (x ++ rest) ≡ true
word_opens [] rest h = absurd h
word_opens (b ∷ bs) rest h = letter_opens b (bs ++ rest) h.0

number_opens : (lit : Lit) (rest : List ℕ) → IsInLimits lit → opens (number_text lit ++ rest) ≡ true
number_opens lit rest h =
    let begins = token_begins (kinds.Number lit) (number_text lit) rest (sym (printed_literal lit h), printed_is_number lit h) in
    subst (λ (z : List ℕ). opens (z ++ rest) ≡ true) (sym begins.same) (digit_opens begins.byte (begins.behind ++ rest) begins.by_kind)

one_printable : (kind : TokenKind) (ts : List Token) → IsOne kind ts → ArePrintable ts → IsPrintable kind
one_printable kind ts one h = (subst (λ (z : List Token). ArePrintable z) one.1 h).0

expression_opens : (a : Expression) (k : ℕ) (ts : List Token) → IsExpr a k ts → ArePrintable ts → (rest : List Piece) → opens (text_of (expression_pieces a ++ rest)) ≡ true
expression_opens (Expression.bound true x t a s) k ts h p rest = refl
expression_opens (Expression.bound false x t a s) k ts h p rest = refl
expression_opens (Expression.binary op a b s) k ts h p rest =
    subst (λ (z : List Piece). opens (text_of z) ≡ true) (sym (append_assoc (expression_pieces a) (blank ∷ token (operator op) ∷ blank ∷ expression_pieces b) rest))
    (expression_opens a (ranks op).left h.1.0 h.1.2 (printable_front ts h.1.0 h.1.1 h.1.4 p) ((blank ∷ token (operator op) ∷ blank ∷ expression_pieces b) ++ rest))
expression_opens (Expression.unary prefixes.Not a s) k ts h p rest = refl
expression_opens (Expression.unary prefixes.Minus a s) k ts h p rest = refl
expression_opens (Expression.unary prefixes.Tilde a s) k ts h p rest = refl
expression_opens (Expression.number n s) k ts h p rest = number_opens n (text_of rest) (one_printable (kinds.Number n) ts h.0 p)
expression_opens (Expression.truth true s) k ts h p rest = refl
expression_opens (Expression.truth false s) k ts h p rest = refl
expression_opens (Expression.infinity s) k ts h p rest = refl
expression_opens (Expression.name x s) k ts h p rest = word_opens x (text_of rest) (one_printable (kinds.Word x) ts h.0 p).0
expression_opens (Expression.group a s) k ts h p rest = refl
expression_opens (Expression.bracket a s) k ts h p rest = refl
expression_opens (Expression.embed a s) k ts h p rest = refl
expression_opens (Expression.choice a b c s) k ts h p rest = refl

pub again : (a : Expression) (k : ℕ) → Reprints ends_number bare_expression (λ y. IsExpr y k) a (expression_pieces a)
again (Expression.bound up x t a s) k = record {
  from = λ ts h p.
      (r_made (λ y us. Expression.bound up x t y (extent us)) (λ y us g. (h.0, g, refl)) (λ y us g. ap (λ z. Expression.bound up x t z no_place) g) (λ us g. g.1)
      (r_key (quantifier_key up) (λ rest passes. refl) (r_blank (r_word x (λ rest passes. refl) (r_free marks.Colon refl (r_blank
      (r_key (type_key t) (λ rest passes. refl) (r_free marks.Dot refl (r_blank (again a 9)))))))))).from ts h p;
}
again (Expression.binary op a b s) k = record {
  from = λ ts h p.
      let left = h.1.0 in
      let both = r_both (again a (ranks op).left) (λ rest passes. refl) (r_blank (r_token (operator op) (λ q rest passes. operator_reads op (text_of (expression_pieces b ++ rest))) (r_blank (again b (ranks op).right)))) in
      let base = both.from ts (h.1.0, h.1.1, h.1.2, (h.1.3.0, h.1.3.1, (s, h.1.3.2), h.1.3.3, h.1.3.4), h.1.4) p in
      record {
        flows = base.flows;
        again = λ us e.
            let y = base.again us e in (
              Expression.binary op y.0.0 y.0.1 y.2.3.2.0,
              ap (λ z. Expression.binary op z.0 z.1 no_place) y.1,
              (h.0, (y.2.0, y.2.1, y.2.2, (y.2.3.0, y.2.3.1, y.2.3.2.1, y.2.3.3, y.2.3.4), y.2.4)),
            );
      };
}
again (Expression.unary op a s) k = record {
  from = λ ts h p.
      (r_made (λ y us. Expression.unary op y (extent us)) (λ y us g. (g, refl)) (λ y us g. ap (λ z. Expression.unary op z no_place) g) (λ us g. g.0)
      (r_token (kinds.Mark (prefix op)) (λ q rest passes. prefix_reads op (text_of (expression_pieces a ++ rest)) (expression_opens a 0 h.0.1 h.0.3 (printable_back ts h.0.0 h.0.1 h.0.4 p) rest)) (again a 0))).from ts h p;
}
again (Expression.number n s) k =
    r_made (λ y us. Expression.number n (extent us)) (λ y us h. (h, refl)) (λ y us h. refl) (λ ts h. h.0) (r_one (kinds.Number n) (λ p rest passes. printed_number_reads n (text_of rest) p passes))
again (Expression.truth b s) k = r_made (λ y us. Expression.truth b (extent us)) (λ y us h. (h, refl)) (λ y us h. refl) (λ ts h. h.0) (r_key_alone (truth_key b))
again (Expression.infinity s) k = r_made (λ y us. Expression.infinity (extent us)) (λ y us h. (h, refl)) (λ y us h. refl) (λ ts h. h.0) (r_key_alone keys.Infty)
again (Expression.name x s) k = r_made (λ y us. Expression.name x (extent us)) (λ y us h. (h, refl)) (λ y us h. refl) (λ ts h. h.0) (r_word_alone x)
again (Expression.group a s) k =
    r_made (λ y us. Expression.group y (extent us)) (λ y us h. (h, refl)) (λ y us h. ap (λ z. Expression.group z no_place) h) (λ ts h. h.0) (in_parens (again a 9))
again (Expression.bracket a s) k =
    r_made (λ y us. Expression.bracket y (extent us)) (λ y us h. (h, refl)) (λ y us h. ap (λ z. Expression.bracket z no_place) h) (λ ts h. h.0)
    (r_free marks.BracketLeft refl (r_shut marks.BracketRight refl (λ rest. refl) (again a 9)))
again (Expression.embed a s) k =
    r_made (λ y us. Expression.embed y (extent us)) (λ y us h. (h, refl)) (λ y us h. ap (λ z. Expression.embed z no_place) h) (λ ts h. h.0)
    (r_free marks.Question refl (in_parens (again a 9)))
again (Expression.choice a b c s) k =
    r_made (λ y us. Expression.choice y.0 y.1.0 y.1.1 (extent us)) (λ y us h. (h, refl))
    (λ y us h. ap (λ z. Expression.choice z.0 z.1.0 z.1.1 no_place) h) (λ ts h. h.0)
    (r_key keys.Ite (λ rest passes. refl) (r_free marks.ParenLeft refl (r_comma (again a 9) (r_comma (again b 9) (r_shut marks.ParenRight refl (λ rest. refl) (again c 9))))))
