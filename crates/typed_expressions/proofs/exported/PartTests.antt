-- Tests that a formula passes only if one of its parts does. If the parts of an expression fail
-- such a test, so does the elaborated expression.
use Rattle.heylo_formula.specs.Formula.{Cond, Form}
use Rattle.heylo_formula.specs.Typing.NumberType.{eureal, int, uint, ureal}
use Rattle.heylo_formula.specs.Typing.{NumberType, is_unsigned, join}
use Rattle.heyvl_num.specs.Rational.{Rational}
use Rattle.heyvl_num.specs.Value.Value.{finite}
use Rattle.heyvl_num.specs.Value.{Value}
use Rattle.heyvl_places.specs.declared.spans.Span.{Span}
use Rattle.heyvl_syntax.specs.Expressions.{Expression}
use Rattle.heyvl_syntax.specs.declared.literals.Lit.{Lit}
use Rattle.heyvl_syntax.specs.declared.operators.BinaryOp.{BinaryOp}
use Rattle.heyvl_syntax.specs.declared.operators.UnaryOp.{UnaryOp}
use Rattle.std.proofs.Common.{Bool, Option, Some, None, false, true, ◌≡◌}
use Rattle.std.specs.Prelude.{if◌then◌else◌, ◌&&◌, ◌==◌}
use Rattle.typed_expressions.proofs.exported.TypedMeanings.{become, given_some, map_some, never}
use Rattle.typed_expressions.specs.LiteralValues.{is_written, literal_value}
use Rattle.typed_expressions.specs.Table.{Meaning, binary, bracket, choice, comparison, conegation, divisor, embedding, extended, factor, given, joined_numbers, literal, minus, negation, negative, numbers, quotient, selected, truths, unary}
use Rattle.typed_expressions.specs.TypedExpressions.{operated}

-- A formula or condition whose parts fail the tests fails them.
pub record Spreads (F : Form → Bool) (G : Cond → Bool) : Type 0 where
  pub number : (v : Value) → F (Form.number v) ≡ false
  pub sum : (a b : Form) → F a ≡ false → F b ≡ false → F (Form.sum a b) ≡ false
  pub difference : (a b : Form) → F a ≡ false → F b ≡ false → F (Form.difference a b) ≡ false
  pub cut : (a b : Form) → F a ≡ false → F b ≡ false → F (Form.cut a b) ≡ false
  pub scale : (q : Rational) (a : Form) → F a ≡ false → F (Form.scale q a) ≡ false
  pub product : (a b : Form) (s : Span) → F a ≡ false → F b ≡ false → F (Form.product a b s) ≡ false
  pub min : (a b : Form) → F a ≡ false → F b ≡ false → F (Form.min a b) ≡ false
  pub max : (a b : Form) → F a ≡ false → F b ≡ false → F (Form.max a b) ≡ false
  pub imply : (a b : Form) → F a ≡ false → F b ≡ false → F (Form.imply a b) ≡ false
  pub co_imply : (a b : Form) → F a ≡ false → F b ≡ false → F (Form.co_imply a b) ≡ false
  pub embed : (g : Cond) → G g ≡ false → F (Form.embed g) ≡ false
  pub iverson : (g : Cond) → G g ≡ false → F (Form.iverson g) ≡ false
  pub select : (g : Cond) (a b : Form) → G g ≡ false → F a ≡ false → F b ≡ false → F (Form.select g a b) ≡ false
  pub constant : (b : Bool) → G (Cond.constant b) ≡ false
  pub not : (g : Cond) → G g ≡ false → G (Cond.not g) ≡ false
  pub and : (g h : Cond) → G g ≡ false → G h ≡ false → G (Cond.and g h) ≡ false
  pub or : (g h : Cond) → G g ≡ false → G h ≡ false → G (Cond.or g h) ≡ false
  pub same : (g h : Cond) → G g ≡ false → G h ≡ false → G (Cond.same g h) ≡ false
  pub le : (a b : Form) → F a ≡ false → F b ≡ false → G (Cond.le a b) ≡ false
  pub lt : (a b : Form) → F a ≡ false → F b ≡ false → G (Cond.lt a b) ≡ false
  pub equal : (a b : Form) → F a ≡ false → F b ≡ false → G (Cond.equal a b) ≡ false
  pub ite : (g h k : Cond) → G g ≡ false → G h ≡ false → G k ≡ false → G (Cond.ite g h k) ≡ false

module _ (F : Form → Bool) (G : Cond → Bool) where
  -- The elaborated expression fails the tests.
  abbrev pub Fails : Meaning → Type 0
  Fails (Meaning.truth g) = G g ≡ false
  Fails (Meaning.number t a) = F a ≡ false
  Fails Meaning.real = Unit {0}

  module _ (S : Spreads F G) where
    pub fails_bracket : (x m : Meaning) → Fails x → bracket x ≡ Some m → Fails m
    fails_bracket (Meaning.truth g) m h e = become Fails _ m e (S.iverson g h)
    fails_bracket (Meaning.number t a) m h e = never m e
    fails_bracket Meaning.real m h e = never m e

    pub fails_embedding : (x m : Meaning) → Fails x → embedding x ≡ Some m → Fails m
    fails_embedding (Meaning.truth g) m h e = become Fails _ m e (S.embed g h)
    fails_embedding (Meaning.number t a) m h e = never m e
    fails_embedding Meaning.real m h e = never m e

    pub fails_extended : (b : Bool) (a : Form) → F a ≡ false → (m : Meaning) → extended b a ≡ Some m → Fails m
    fails_extended true a h m e = become Fails _ m e h
    fails_extended false a h m e = never m e

    fails_negative : (x m : Meaning) → Fails x → negative x ≡ Some m → Fails m
    fails_negative (Meaning.number int a) m h e = become Fails _ m e (S.difference _ a (S.number _) h)
    fails_negative (Meaning.number uint a) m h e = become Fails _ m e (S.difference _ a (S.number _) h)
    fails_negative (Meaning.number ureal a) m h e = never m e
    fails_negative (Meaning.number eureal a) m h e = never m e
    fails_negative (Meaning.truth g) m h e = never m e
    fails_negative Meaning.real m h e = never m e

    fails_negation : (x m : Meaning) → Fails x → negation x ≡ Some m → Fails m
    fails_negation (Meaning.truth g) m h e = become Fails _ m e (S.not g h)
    fails_negation (Meaning.number t a) m h e = fails_extended (is_unsigned (Some t)) _ (S.imply a _ h (S.number _)) m e
    fails_negation Meaning.real m h e = never m e

    fails_conegation : (x m : Meaning) → Fails x → conegation x ≡ Some m → Fails m
    fails_conegation (Meaning.number t a) m h e = fails_extended (is_unsigned (Some t)) _ (S.co_imply a _ h (S.number _)) m e
    fails_conegation (Meaning.truth g) m h e = never m e
    fails_conegation Meaning.real m h e = never m e

    pub fails_unary : (op : UnaryOp) (x m : Meaning) → Fails x → unary op x ≡ Some m → Fails m
    fails_unary UnaryOp.Not x m h e = fails_negation x m h e
    fails_unary UnaryOp.Minus x m h e = fails_negative x m h e
    fails_unary UnaryOp.Tilde x m h e = fails_conegation x m h e

    fails_quotient : (q : Rational) (x m : Meaning) → Fails x → quotient q x ≡ Some m → Fails m
    fails_quotient q (Meaning.number int a) m h e = never m e
    fails_quotient q (Meaning.number uint a) m h e = become Fails _ m e (S.scale q a h)
    fails_quotient q (Meaning.number ureal a) m h e = become Fails _ m e (S.scale q a h)
    fails_quotient q (Meaning.number eureal a) m h e = become Fails _ m e (S.scale q a h)
    fails_quotient q (Meaning.truth g) m h e = never m e
    fails_quotient q Meaning.real m h e = never m e

    module _ (a b : Form) (p : F a ≡ false) (q : F b ≡ false) where
      fails_minus : (j : NumberType) (m : Meaning) → minus j a b ≡ Some m → Fails m
      fails_minus int m e = become Fails _ m e (S.difference a b p q)
      fails_minus uint m e = become Fails _ m e (S.cut a b p q)
      fails_minus ureal m e = become Fails _ m e (S.cut a b p q)
      fails_minus eureal m e = never m e

      fails_comparison : (j : NumberType) (g : Cond) → G g ≡ false → (m : Meaning) → comparison j g ≡ Some m → Fails m
      fails_comparison int g h m e = become Fails _ m e h
      fails_comparison uint g h m e = become Fails _ m e h
      fails_comparison ureal g h m e = become Fails _ m e h
      fails_comparison eureal g h m e = never m e

      fails_joined : (op : BinaryOp) (s : Span) (j : NumberType) (m : Meaning) → joined_numbers op s a b j ≡ Some m → Fails m
      fails_joined BinaryOp.Imply s j m e = never m e
      fails_joined BinaryOp.CoImply s j m e = never m e
      fails_joined BinaryOp.Cup s j m e = become Fails _ m e (S.max a b p q)
      fails_joined BinaryOp.Cap s j m e = become Fails _ m e (S.min a b p q)
      fails_joined BinaryOp.Or s j m e = never m e
      fails_joined BinaryOp.And s j m e = never m e
      fails_joined BinaryOp.Same s j m e = fails_comparison j _ (S.equal a b p q) m e
      fails_joined BinaryOp.Differ s j m e = fails_comparison j _ (S.not _ (S.equal a b p q)) m e
      fails_joined BinaryOp.Less s j m e = fails_comparison j _ (S.lt a b p q) m e
      fails_joined BinaryOp.AtMost s j m e = fails_comparison j _ (S.le a b p q) m e
      fails_joined BinaryOp.More s j m e = fails_comparison j _ (S.lt b a q p) m e
      fails_joined BinaryOp.AtLeast s j m e = fails_comparison j _ (S.le b a q p) m e
      fails_joined BinaryOp.Plus s j m e = become Fails _ m e (S.sum a b p q)
      fails_joined BinaryOp.Minus s j m e = fails_minus j m e
      fails_joined BinaryOp.Star s j m e = become Fails _ m e (S.product a b s p q)
      fails_joined BinaryOp.Slash s j m e = never m e

      fails_join : (op : BinaryOp) (s : Span) (o : Option NumberType) (m : Meaning) → given o (joined_numbers op s a b) ≡ Some m → Fails m
      fails_join op s o m e = let j = given_some o (joined_numbers op s a b) m e in fails_joined op s j.0 m j.2

      fails_numbers : (op : BinaryOp) (s : Span) (t u : NumberType) (m : Meaning) → numbers op s t a u b ≡ Some m → Fails m
      fails_numbers BinaryOp.Imply s t u m e = fails_extended (is_unsigned (Some t) && is_unsigned (Some u)) _ (S.imply a b p q) m e
      fails_numbers BinaryOp.CoImply s t u m e = fails_extended (is_unsigned (Some t) && is_unsigned (Some u)) _ (S.co_imply a b p q) m e
      fails_numbers BinaryOp.Cup s t u m e = fails_join BinaryOp.Cup s (join t u) m e
      fails_numbers BinaryOp.Cap s t u m e = fails_join BinaryOp.Cap s (join t u) m e
      fails_numbers BinaryOp.Or s t u m e = fails_join BinaryOp.Or s (join t u) m e
      fails_numbers BinaryOp.And s t u m e = fails_join BinaryOp.And s (join t u) m e
      fails_numbers BinaryOp.Same s t u m e = fails_join BinaryOp.Same s (join t u) m e
      fails_numbers BinaryOp.Differ s t u m e = fails_join BinaryOp.Differ s (join t u) m e
      fails_numbers BinaryOp.Less s t u m e = fails_join BinaryOp.Less s (join t u) m e
      fails_numbers BinaryOp.AtMost s t u m e = fails_join BinaryOp.AtMost s (join t u) m e
      fails_numbers BinaryOp.More s t u m e = fails_join BinaryOp.More s (join t u) m e
      fails_numbers BinaryOp.AtLeast s t u m e = fails_join BinaryOp.AtLeast s (join t u) m e
      fails_numbers BinaryOp.Plus s t u m e = fails_join BinaryOp.Plus s (join t u) m e
      fails_numbers BinaryOp.Minus s t u m e = fails_join BinaryOp.Minus s (join t u) m e
      fails_numbers BinaryOp.Star s t u m e = fails_join BinaryOp.Star s (join t u) m e
      fails_numbers BinaryOp.Slash s t u m e = fails_join BinaryOp.Slash s (join t u) m e

    fails_truths : (op : BinaryOp) (g h : Cond) → G g ≡ false → G h ≡ false → (m : Meaning) → truths op g h ≡ Some m → Fails m
    fails_truths BinaryOp.Imply g h p q m e = become Fails _ m e (S.or _ h (S.not g p) q)
    fails_truths BinaryOp.CoImply g h p q m e = never m e
    fails_truths BinaryOp.Cup g h p q m e = never m e
    fails_truths BinaryOp.Cap g h p q m e = never m e
    fails_truths BinaryOp.Or g h p q m e = become Fails _ m e (S.or g h p q)
    fails_truths BinaryOp.And g h p q m e = become Fails _ m e (S.and g h p q)
    fails_truths BinaryOp.Same g h p q m e = become Fails _ m e (S.same g h p q)
    fails_truths BinaryOp.Differ g h p q m e = become Fails _ m e (S.not _ (S.same g h p q))
    fails_truths BinaryOp.Less g h p q m e = never m e
    fails_truths BinaryOp.AtMost g h p q m e = never m e
    fails_truths BinaryOp.More g h p q m e = never m e
    fails_truths BinaryOp.AtLeast g h p q m e = never m e
    fails_truths BinaryOp.Plus g h p q m e = never m e
    fails_truths BinaryOp.Minus g h p q m e = never m e
    fails_truths BinaryOp.Star g h p q m e = never m e
    fails_truths BinaryOp.Slash g h p q m e = never m e

    fails_binary : (op : BinaryOp) (s : Span) (x y m : Meaning) → Fails x → Fails y → binary op s x y ≡ Some m → Fails m
    fails_binary op s (Meaning.truth g) (Meaning.truth h) m p q e = fails_truths op g h p q m e
    fails_binary op s (Meaning.truth g) (Meaning.number u b) m p q e = never m e
    fails_binary op s (Meaning.truth g) Meaning.real m p q e = never m e
    fails_binary op s (Meaning.number t a) (Meaning.truth h) m p q e = never m e
    fails_binary op s (Meaning.number t a) (Meaning.number u b) m p q e = fails_numbers a b p q op s t u m e
    fails_binary op s (Meaning.number t a) Meaning.real m p q e = never m e
    fails_binary op s Meaning.real y m p q e = never m e

    pub fails_operated : (op : BinaryOp) (s : Span) (d : Expression) (x y m : Meaning) → Fails x → Fails y → operated op s d x y ≡ Some m → Fails m
    fails_operated BinaryOp.Imply s d x y m p q e = fails_binary BinaryOp.Imply s x y m p q e
    fails_operated BinaryOp.CoImply s d x y m p q e = fails_binary BinaryOp.CoImply s x y m p q e
    fails_operated BinaryOp.Cup s d x y m p q e = fails_binary BinaryOp.Cup s x y m p q e
    fails_operated BinaryOp.Cap s d x y m p q e = fails_binary BinaryOp.Cap s x y m p q e
    fails_operated BinaryOp.Or s d x y m p q e = fails_binary BinaryOp.Or s x y m p q e
    fails_operated BinaryOp.And s d x y m p q e = fails_binary BinaryOp.And s x y m p q e
    fails_operated BinaryOp.Same s d x y m p q e = fails_binary BinaryOp.Same s x y m p q e
    fails_operated BinaryOp.Differ s d x y m p q e = fails_binary BinaryOp.Differ s x y m p q e
    fails_operated BinaryOp.Less s d x y m p q e = fails_binary BinaryOp.Less s x y m p q e
    fails_operated BinaryOp.AtMost s d x y m p q e = fails_binary BinaryOp.AtMost s x y m p q e
    fails_operated BinaryOp.More s d x y m p q e = fails_binary BinaryOp.More s x y m p q e
    fails_operated BinaryOp.AtLeast s d x y m p q e = fails_binary BinaryOp.AtLeast s x y m p q e
    fails_operated BinaryOp.Plus s d x y m p q e = fails_binary BinaryOp.Plus s x y m p q e
    fails_operated BinaryOp.Minus s d x y m p q e = fails_binary BinaryOp.Minus s x y m p q e
    fails_operated BinaryOp.Star s d x y m p q e = fails_binary BinaryOp.Star s x y m p q e
    fails_operated BinaryOp.Slash s d x y m p q e = fails_quotient (factor (divisor d)) x m p e

    fails_selected : (g : Cond) (y z m : Meaning) → G g ≡ false → Fails y → Fails z → selected g y z ≡ Some m → Fails m
    fails_selected g (Meaning.truth h) (Meaning.truth i) m p q r e = become Fails _ m e (S.ite g h i p q r)
    fails_selected g (Meaning.number t a) (Meaning.number u b) m p q r e =
        let j = map_some (join t u) (λ j. Meaning.number j (Form.select g a b)) m e in become Fails _ m j.2 (S.select g a b p q r)
    fails_selected g (Meaning.truth h) (Meaning.number u b) m p q r e = never m e
    fails_selected g (Meaning.truth h) Meaning.real m p q r e = never m e
    fails_selected g (Meaning.number t a) (Meaning.truth i) m p q r e = never m e
    fails_selected g (Meaning.number t a) Meaning.real m p q r e = never m e
    fails_selected g Meaning.real z m p q r e = never m e

    pub fails_choice : (x y z m : Meaning) → Fails x → Fails y → Fails z → choice x y z ≡ Some m → Fails m
    fails_choice (Meaning.truth g) y z m p q r e = fails_selected g y z m p q r e
    fails_choice (Meaning.number t a) y z m p q r e = never m e
    fails_choice Meaning.real y z m p q r e = never m e

    pub fails_literal : (n : Lit) (m : Meaning) → literal n ≡ Some m → Fails m
    fails_literal n m e = go (is_written n) e
      where
        go : (b : Bool) → (if b then Some (Meaning.number (if (literal_value n).den == 1 then uint else ureal) (Form.number (finite (literal_value n)))) else None) ≡ Some m → Fails m
        go true i = become Fails _ m i (S.number _)
        go false i = never m i
