-- Expressions of a program are spelled again, and so are those over its inputs.
use Rattle.heyvl_print.specs.Printable.{ArePrintable, IsPrintable}
use Rattle.heyvl_print.specs.WithoutPlaces.{bare_expression, no_place}
use Rattle.heyvl_syntax.specs.Expressions.{Expression}
use Rattle.heyvl_syntax.specs.Grammar.{IsExpr, IsType, operator, prefix, quantifier_key, ranks, type_key}
use Rattle.heyvl_syntax.specs.Productions.{IsAt, IsKey, IsMark, IsName, at, extent, ◌then◌}
use Rattle.heyvl_syntax.specs.declared.keys.Key.TheVariants as keys
use Rattle.heyvl_syntax.specs.declared.marks.Mark.TheVariants as marks
use Rattle.heyvl_syntax.specs.declared.operators.BinaryOp.TheVariants as ops
use Rattle.heyvl_syntax.specs.declared.operators.BinaryOp.{BinaryOp}
use Rattle.heyvl_syntax.specs.declared.tokens.Token.{Token}
use Rattle.heyvl_syntax.specs.declared.tokens.TokenKind.TheVariants as kinds
use Rattle.heyvl_places.specs.declared.spans.Span.{Span}
use Rattle.guarded_commands.proofs.AgainTexts.{Again, Has, back_of, front_of, key, mark, name_printable, ◌next◌, word}
use Rattle.guarded_commands.proofs.MadeWords.{input_printable}
use Rattle.guarded_commands.specs.Translation.{at_start, input_name}
use Rattle.std.proofs.Common.{List, [], ap, refl, ◌∷◌, ◌≡◌, ℕ}

abbrev pub ExprAgain : Expression → ℕ → Type 0
ExprAgain e k = Again bare_expression (λ y. IsExpr y k) e

-- An expression that is already spelled.
pub kept : (e : Expression) (k : ℕ) (ts : List Token) → IsExpr e k ts → ArePrintable ts → ExprAgain e k
kept e k ts h p = record { item = e; same = refl; tokens = record { text = ts; is = h; printable = p } }

-- Groups and the other kinds of expressions, from their parts.
pub group_again : (a : Expression) (s : Span) (k : ℕ) → ExprAgain a 9 → ExprAgain (Expression.group a s) k
group_again a s k h =
    let t = mark marks.ParenLeft next h.tokens next mark marks.ParenRight in
    record { item = Expression.group h.item (extent t.text); same = ap (λ z. Expression.group z no_place) h.same; tokens = record { text = t.text; is = (t.is, refl); printable = t.printable } }

bracket_again : (a : Expression) (s : Span) (k : ℕ) → ExprAgain a 9 → ExprAgain (Expression.bracket a s) k
bracket_again a s k h =
    let t = mark marks.BracketLeft next h.tokens next mark marks.BracketRight in
    record { item = Expression.bracket h.item (extent t.text); same = ap (λ z. Expression.bracket z no_place) h.same; tokens = record { text = t.text; is = (t.is, refl); printable = t.printable } }

embed_again : (a : Expression) (s : Span) (k : ℕ) → ExprAgain a 9 → ExprAgain (Expression.embed a s) k
embed_again a s k h =
    let t = mark marks.Question next mark marks.ParenLeft next h.tokens next mark marks.ParenRight in
    record { item = Expression.embed h.item (extent t.text); same = ap (λ z. Expression.embed z no_place) h.same; tokens = record { text = t.text; is = (t.is, refl); printable = t.printable } }

pub name_again : (x : List ℕ) (s : Span) (k : ℕ) → IsPrintable (kinds.Word x) → ExprAgain (Expression.name x s) k
name_again x s k h =
    let t = word x h in
    record { item = Expression.name x (extent t.text); same = refl; tokens = record { text = t.text; is = (t.is, refl); printable = t.printable } }

operator_printable : (op : BinaryOp) → IsPrintable (operator op)
operator_printable ops.Imply = tt
operator_printable _ = tt

operator_at : (op : BinaryOp) → Has (IsAt (operator op) no_place)
operator_at op = record { text = at (operator op) no_place ∷ []; is = refl; printable = (operator_printable op, tt) }

two_same : (op : BinaryOp) (a x b y : Expression) → a ≡ x → b ≡ y → Expression.binary op a b no_place ≡ Expression.binary op x y no_place
two_same op a x b y e f = cc

three_same : (a x b y c z : Expression) → a ≡ x → b ≡ y → c ≡ z → Expression.choice a b c no_place ≡ Expression.choice x y z no_place
three_same a x b y c z e f g = cc

-- An expression over the inputs.
pub started : (e : Expression) (k : ℕ) (ts : List Token) → IsExpr e k ts → ArePrintable ts → ExprAgain (at_start e) k
started (Expression.number n s) k ts h p = kept (Expression.number n s) k ts h p
started (Expression.truth b s) k ts h p = kept (Expression.truth b s) k ts h p
started (Expression.infinity s) k ts h p = kept (Expression.infinity s) k ts h p
started (Expression.name x s) k ts h p = name_again (input_name x) s k (input_printable x (name_printable x ts h.0 p).0)
started (Expression.group a s) k ts h p =
    let rest = back_of (IsMark marks.ParenLeft) (IsExpr a 9 then IsMark marks.ParenRight) ts h.0 p in
    let inner = front_of (IsExpr a 9) (IsMark marks.ParenRight) rest.text rest.is rest.printable in
    group_again (at_start a) s k (started a 9 inner.text inner.is inner.printable)
started (Expression.bracket a s) k ts h p =
    let rest = back_of (IsMark marks.BracketLeft) (IsExpr a 9 then IsMark marks.BracketRight) ts h.0 p in
    let inner = front_of (IsExpr a 9) (IsMark marks.BracketRight) rest.text rest.is rest.printable in
    bracket_again (at_start a) s k (started a 9 inner.text inner.is inner.printable)
started (Expression.embed a s) k ts h p =
    let behind = back_of (IsMark marks.Question) (IsMark marks.ParenLeft then IsExpr a 9 then IsMark marks.ParenRight) ts h.0 p in
    let rest = back_of (IsMark marks.ParenLeft) (IsExpr a 9 then IsMark marks.ParenRight) behind.text behind.is behind.printable in
    let inner = front_of (IsExpr a 9) (IsMark marks.ParenRight) rest.text rest.is rest.printable in
    embed_again (at_start a) s k (started a 9 inner.text inner.is inner.printable)
started (Expression.unary op a s) k ts h p =
    let inner = back_of (IsMark (prefix op)) (IsExpr a 0) ts h.0 p in
    let x = started a 0 inner.text inner.is inner.printable in
    let t = mark (prefix op) next x.tokens in
    record { item = Expression.unary op x.item (extent t.text); same = ap (λ z. Expression.unary op z no_place) x.same; tokens = record { text = t.text; is = (t.is, refl); printable = t.printable } }
started (Expression.binary op a b s) k ts h p =
    let left = front_of (IsExpr a (ranks op).left) (IsAt (operator op) s then IsExpr b (ranks op).right) ts h.1 p in
    let rest = back_of (IsExpr a (ranks op).left) (IsAt (operator op) s then IsExpr b (ranks op).right) ts h.1 p in
    let right = back_of (IsAt (operator op) s) (IsExpr b (ranks op).right) rest.text rest.is rest.printable in
    let x = started a (ranks op).left left.text left.is left.printable in
    let y = started b (ranks op).right right.text right.is right.printable in
    let t = x.tokens next operator_at op next y.tokens in
    record {
      item = Expression.binary op x.item y.item no_place;
      same = two_same op _ _ _ _ x.same y.same;
      tokens = record { text = t.text; is = (h.0, t.is); printable = t.printable };
    }
started (Expression.choice a b c s) k ts h p =
    let r1 = back_of (IsKey keys.Ite) (IsMark marks.ParenLeft then IsExpr a 9 then IsMark marks.Comma then IsExpr b 9 then IsMark marks.Comma then IsExpr c 9 then IsMark marks.ParenRight) ts h.0 p in
    let r2 = back_of (IsMark marks.ParenLeft) (IsExpr a 9 then IsMark marks.Comma then IsExpr b 9 then IsMark marks.Comma then IsExpr c 9 then IsMark marks.ParenRight) r1.text r1.is r1.printable in
    let first = front_of (IsExpr a 9) (IsMark marks.Comma then IsExpr b 9 then IsMark marks.Comma then IsExpr c 9 then IsMark marks.ParenRight) r2.text r2.is r2.printable in
    let r3 = back_of (IsExpr a 9) (IsMark marks.Comma then IsExpr b 9 then IsMark marks.Comma then IsExpr c 9 then IsMark marks.ParenRight) r2.text r2.is r2.printable in
    let r4 = back_of (IsMark marks.Comma) (IsExpr b 9 then IsMark marks.Comma then IsExpr c 9 then IsMark marks.ParenRight) r3.text r3.is r3.printable in
    let second = front_of (IsExpr b 9) (IsMark marks.Comma then IsExpr c 9 then IsMark marks.ParenRight) r4.text r4.is r4.printable in
    let r5 = back_of (IsExpr b 9) (IsMark marks.Comma then IsExpr c 9 then IsMark marks.ParenRight) r4.text r4.is r4.printable in
    let r6 = back_of (IsMark marks.Comma) (IsExpr c 9 then IsMark marks.ParenRight) r5.text r5.is r5.printable in
    let third = front_of (IsExpr c 9) (IsMark marks.ParenRight) r6.text r6.is r6.printable in
    let x = started a 9 first.text first.is first.printable in
    let y = started b 9 second.text second.is second.printable in
    let z = started c 9 third.text third.is third.printable in
    let t = key keys.Ite next mark marks.ParenLeft next x.tokens next mark marks.Comma next y.tokens next mark marks.Comma next z.tokens next mark marks.ParenRight in
    record {
      item = Expression.choice x.item y.item z.item (extent t.text);
      same = three_same _ _ _ _ _ _ x.same y.same z.same;
      tokens = record { text = t.text; is = (t.is, refl); printable = t.printable };
    }
started (Expression.bound up x ty a s) k ts h p =
    let r1 = back_of (IsKey (quantifier_key up)) (IsName x then IsMark marks.Colon then IsType ty then IsMark marks.Dot then IsExpr a 9) ts h.1 p in
    let named = front_of (IsName x) (IsMark marks.Colon then IsType ty then IsMark marks.Dot then IsExpr a 9) r1.text r1.is r1.printable in
    let r2 = back_of (IsName x) (IsMark marks.Colon then IsType ty then IsMark marks.Dot then IsExpr a 9) r1.text r1.is r1.printable in
    let r3 = back_of (IsMark marks.Colon) (IsType ty then IsMark marks.Dot then IsExpr a 9) r2.text r2.is r2.printable in
    let r4 = back_of (IsType ty) (IsMark marks.Dot then IsExpr a 9) r3.text r3.is r3.printable in
    let inner = back_of (IsMark marks.Dot) (IsExpr a 9) r4.text r4.is r4.printable in
    let y = started a 9 inner.text inner.is inner.printable in
    let t = key (quantifier_key up) next word x (name_printable x named.text named.is named.printable) next mark marks.Colon next key (type_key ty) next mark marks.Dot next y.tokens in
    record {
      item = Expression.bound up x ty y.item (extent t.text);
      same = ap (λ z. Expression.bound up x ty z no_place) y.same;
      tokens = record { text = t.text; is = (h.0, t.is, refl); printable = t.printable };
    }
