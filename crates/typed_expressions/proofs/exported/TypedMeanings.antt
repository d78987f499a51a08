-- Elaborated expressions are well typed and at most twice as large, row by row of the table.
use Rattle.heylo_formula.specs.Formula.{Cond, Form}
use Rattle.heylo_formula.specs.Sizes.{nodes, nodes_in}
use Rattle.heylo_formula.specs.Typing.NumberType.{eureal, int, uint, ureal}
use Rattle.heylo_formula.specs.Typing.{NumberType, Types, constant_type, is_unsigned, is_well_typed, join, retyped, type_of}
use Rattle.heylo_formula.specs.declared.types.Ty.{Ty}
use Rattle.heyvl_num.proofs.exported.Rationals.{ratio_nonnegative}
use Rattle.heyvl_num.specs.Gcd.{gcd, gcd_steps}
use Rattle.heyvl_num.specs.Rational.{Rational, leqʳ, ratio, zeroʳ}
use Rattle.heyvl_num.specs.Value.Value.{finite}
use Rattle.heyvl_num.specs.Value.{is_zero_num}
use Rattle.heyvl_places.specs.declared.spans.Span.{Span}
use Rattle.heyvl_syntax.specs.Expressions.{Expression}
use Rattle.heyvl_syntax.specs.Sizes.{nodes as expression_nodes}
use Rattle.heyvl_syntax.specs.declared.literals.Lit.{Lit}
use Rattle.heyvl_syntax.specs.declared.operators.BinaryOp.{BinaryOp}
use Rattle.heyvl_syntax.specs.declared.operators.UnaryOp.{UnaryOp}
use Rattle.heyvl_syntax.specs.declared.types.TypeName.{TypeName}
use Rattle.std.proofs.Common.{Bool, List, None, Option, Some, ap, arith, false, inl, inr, negsuc, option_map, pos, refl, suc, subst, sym, true, zero, ◌&&◌, ◌*◌, ◌+◌, ◌<◌, ◌==◌, ◌^◌, ◌∙◌, ◌≡◌, ◌≤◌, ◌⊎◌, ◌∷◌, [], ℕ, ℤ}
use Rattle.std.proofs.lemmas.Int.{ints}
use Rattle.std.specs.Int.Signed.{le_z}
use Rattle.std.specs.Prelude.{if◌then◌else◌, nat_le, not, unsigned_abs}
use Rattle.std.specs.Str.{bytes_eq}
use Rattle.typed_expressions.proofs.exported.LiteralFractions.{power_positive}
use Rattle.typed_expressions.specs.ExpressionLaws.{Agrees, IsTyped, size}
use Rattle.typed_expressions.specs.LiteralValues.{inverse_value, is_written, is_zero_literal, literal_value}
use Rattle.typed_expressions.specs.Scopes.{Scope, find, with_local}
use Rattle.typed_expressions.specs.Table.{Meaning, binary, bound, bracket, choice, comparison, conegation, declarable, divisor, embedding, extended, factor, given, inverse, joined_numbers, literal, minus, negation, negative, nought, numbers, quantified, quotient, selected, truths, unary, variable, variable_of}
use Rattle.typed_expressions.specs.TypedExpressions.{elaborate, operated}
use Rattle.typed_expressions.specs.declared.scopes.Local.{Local}

pub some_is : {A : Type 0} (x y : A) → Some x ≡ Some y → x ≡ y
some_is x y e = cc

pub never : {A P : Type 0} (x : A) → None ≡ Some x → P
never x e = absurd (cc)

pub become : {A : Type 0} (P : A → Type 0) (x m : A) → Some x ≡ Some m → P x → P m
become P x m e p = subst P (some_is x m e) p

pub given_some : {A B : Type 0} (o : Option A) (f : A → Option B) (b : B) → given o f ≡ Some b → (a : A) × (o ≡ Some a) × (f a ≡ Some b)
given_some None f b e = never b e
given_some (Some a) f b e = (a, refl, e)

pub map_some : {A B : Type 0} (o : Option A) (f : A → B) (b : B) → option_map f o ≡ Some b → (a : A) × (o ≡ Some a) × (Some (f a) ≡ Some b)
map_some None f b e = never b e
map_some (Some a) f b e = (a, refl, e)

pub join_sym : (t u : NumberType) → join t u ≡ join u t
join_sym int int = refl
join_sym int uint = refl
join_sym int ureal = refl
join_sym int eureal = refl
join_sym uint int = refl
join_sym uint uint = refl
join_sym uint ureal = refl
join_sym uint eureal = refl
join_sym ureal int = refl
join_sym ureal uint = refl
join_sym ureal ureal = refl
join_sym ureal eureal = refl
join_sym eureal int = refl
join_sym eureal uint = refl
join_sym eureal ureal = refl
join_sym eureal eureal = refl

nought_type : (types : Types) → type_of types nought ≡ Some uint
unfolding zeroʳ ratio leqʳ gcd gcd_steps
nought_type types = refl

module _ (types : Types) where
  -- Well typed, with at most `n` nodes.
  pub record Good (n : ℕ) (m : Meaning) : Type 0 where
    pub typed : IsTyped types m
    pub small : size m ≤ n

  good_variable : (x : ℕ) (t : TypeName) → declarable t ≡ Some (types x) → Good 2 (variable_of t x)
  good_variable x TypeName.Bool e = record { typed = rw (sym (some_is _ _ e)) refl; small = omega arith }
  good_variable x TypeName.Int e = record { typed = rw (sym (some_is _ _ e)) refl; small = omega arith }
  good_variable x TypeName.UInt e = record { typed = rw (sym (some_is _ _ e)) refl; small = omega arith }
  good_variable x TypeName.UReal e = record { typed = rw (sym (some_is _ _ e)) refl; small = omega arith }
  good_variable x TypeName.EUReal e = never (types x) e
  good_variable x TypeName.Real e = never (types x) e

  good_bracket : (k : ℕ) (x m : Meaning) → Good k x → bracket x ≡ Some m → Good (2 + k) m
  good_bracket k (Meaning.truth g) m h e = become (Good (2 + k)) _ m e (record { typed = rw h.typed refl; small = let s : nodes_in g ≤ k = h.small in omega arith })
  good_bracket k (Meaning.number t a) m h e = never m e
  good_bracket k Meaning.real m h e = never m e

  good_embedding : (k : ℕ) (x m : Meaning) → Good k x → embedding x ≡ Some m → Good (2 + k) m
  good_embedding k (Meaning.truth g) m h e = become (Good (2 + k)) _ m e (record { typed = rw h.typed refl; small = let s : nodes_in g ≤ k = h.small in omega arith })
  good_embedding k (Meaning.number t a) m h e = never m e
  good_embedding k Meaning.real m h e = never m e

  -- A formula of type `EUReal` if the Boolean holds.
  good_extended : (n : ℕ) (b : Bool) (a : Form) → (b ≡ true → type_of types a ≡ Some eureal) → nodes a ≤ n → (m : Meaning) → extended b a ≡ Some m → Good n m
  good_extended n true a p s m e = become (Good n) _ m e (record { typed = p refl; small = s })
  good_extended n false a p s m e = never m e

  good_negative : (k : ℕ) (x m : Meaning) → Good k x → negative x ≡ Some m → Good (2 + k) m
  good_negative k (Meaning.number int a) m h e = become (Good (2 + k)) _ m e (record { typed = rw (nought_type types, h.typed) refl; small = let s : nodes a ≤ k = h.small in omega arith })
  good_negative k (Meaning.number uint a) m h e = become (Good (2 + k)) _ m e (record { typed = rw (nought_type types, h.typed) refl; small = let s : nodes a ≤ k = h.small in omega arith })
  good_negative k (Meaning.number ureal a) m h e = never m e
  good_negative k (Meaning.number eureal a) m h e = never m e
  good_negative k (Meaning.truth g) m h e = never m e
  good_negative k Meaning.real m h e = never m e

  good_negation : (k : ℕ) (x m : Meaning) → Good k x → negation x ≡ Some m → Good (2 + k) m
  good_negation k (Meaning.truth g) m h e = become (Good (2 + k)) _ m e (record { typed = h.typed; small = let s : nodes_in g ≤ k = h.small in omega arith })
  good_negation k (Meaning.number t a) m h e = good_extended (2 + k) (is_unsigned (Some t)) (Form.imply a nought) (λ u. rw (h.typed, nought_type types, u) refl) (let s : nodes a ≤ k = h.small in omega arith) m e
  good_negation k Meaning.real m h e = never m e

  good_conegation : (k : ℕ) (x m : Meaning) → Good k x → conegation x ≡ Some m → Good (2 + k) m
  good_conegation k (Meaning.number t a) m h e = good_extended (2 + k) (is_unsigned (Some t)) _ (λ u. rw (h.typed, u) refl) (let s : nodes a ≤ k = h.small in omega arith) m e
  good_conegation k (Meaning.truth g) m h e = never m e
  good_conegation k Meaning.real m h e = never m e

  good_unary : (op : UnaryOp) (k : ℕ) (x m : Meaning) → Good k x → unary op x ≡ Some m → Good (2 + k) m
  good_unary UnaryOp.Not k x m h e = good_negation k x m h e
  good_unary UnaryOp.Minus k x m h e = good_negative k x m h e
  good_unary UnaryOp.Tilde k x m h e = good_conegation k x m h e

  good_quotient : (k : ℕ) (q : Rational) → leqʳ zeroʳ q ≡ true → (x m : Meaning) → Good k x → quotient q x ≡ Some m → Good (2 + k) m
  good_quotient k q p (Meaning.number int a) m h e = never m e
  good_quotient k q p (Meaning.number uint a) m h e = become (Good (2 + k)) _ m e (record { typed = rw (p, h.typed) refl; small = let s : nodes a ≤ k = h.small in omega arith })
  good_quotient k q p (Meaning.number ureal a) m h e = become (Good (2 + k)) _ m e (record { typed = rw (p, h.typed) refl; small = let s : nodes a ≤ k = h.small in omega arith })
  good_quotient k q p (Meaning.number eureal a) m h e = become (Good (2 + k)) _ m e (record { typed = rw (p, h.typed) refl; small = let s : nodes a ≤ k = h.small in omega arith })
  good_quotient k q p (Meaning.truth g) m h e = never m e
  good_quotient k q p Meaning.real m h e = never m e

  module _ (k l : ℕ) (a b : Form) (t u : NumberType) (p : type_of types a ≡ Some t) (q : type_of types b ≡ Some u) (v : nodes a ≤ k) (w : nodes b ≤ l) where
    good_minus : (j : NumberType) → join t u ≡ Some j → (m : Meaning) → minus j a b ≡ Some m → Good (2 + (k + l)) m
    good_minus int i m e = become (Good (2 + (k + l))) _ m e (record { typed = rw (p, q, i) refl; small = omega arith })
    good_minus uint i m e = become (Good (2 + (k + l))) _ m e (record { typed = rw (p, q, i) refl; small = omega arith })
    good_minus ureal i m e = become (Good (2 + (k + l))) _ m e (record { typed = rw (p, q, i) refl; small = omega arith })
    good_minus eureal i m e = never m e

    good_comparison : (j : NumberType) → join t u ≡ Some j → (g : Cond) → (join t u ≡ Some int → is_well_typed types g ≡ true) → (join t u ≡ Some uint → is_well_typed types g ≡ true) →
        (join t u ≡ Some ureal → is_well_typed types g ≡ true) → nodes_in g ≤ 2 + (k + l) → (m : Meaning) → comparison j g ≡ Some m → Good (2 + (k + l)) m
    good_comparison int i g x y z n m e = become (Good (2 + (k + l))) _ m e (record { typed = x i; small = n })
    good_comparison uint i g x y z n m e = become (Good (2 + (k + l))) _ m e (record { typed = y i; small = n })
    good_comparison ureal i g x y z n m e = become (Good (2 + (k + l))) _ m e (record { typed = z i; small = n })
    good_comparison eureal i g x y z n m e = never m e

    swapped : (j : NumberType) → join t u ≡ Some j → join u t ≡ Some j
    swapped j i = join_sym u t ∙ i

    good_joined : (op : BinaryOp) (s : Span) (j : NumberType) → join t u ≡ Some j → (m : Meaning) → joined_numbers op s a b j ≡ Some m → Good (2 + (k + l)) m
    good_joined BinaryOp.Imply s j i m e = never m e
    good_joined BinaryOp.CoImply s j i m e = never m e
    good_joined BinaryOp.Cup s j i m e = become (Good (2 + (k + l))) _ m e (record { typed = rw (p, q) i; small = omega arith })
    good_joined BinaryOp.Cap s j i m e = become (Good (2 + (k + l))) _ m e (record { typed = rw (p, q) i; small = omega arith })
    good_joined BinaryOp.Or s j i m e = never m e
    good_joined BinaryOp.And s j i m e = never m e
    good_joined BinaryOp.Same s j i m e = good_comparison j i (Cond.equal a b) (λ i. rw (p, q, i) refl) (λ i. rw (p, q, i) refl) (λ i. rw (p, q, i) refl) (omega arith) m e
    good_joined BinaryOp.Differ s j i m e = good_comparison j i (Cond.not (Cond.equal a b)) (λ i. rw (p, q, i) refl) (λ i. rw (p, q, i) refl) (λ i. rw (p, q, i) refl) (omega arith) m e
    good_joined BinaryOp.Less s j i m e = good_comparison j i (Cond.lt a b) (λ i. rw (p, q, i) refl) (λ i. rw (p, q, i) refl) (λ i. rw (p, q, i) refl) (omega arith) m e
    good_joined BinaryOp.AtMost s j i m e = good_comparison j i (Cond.le a b) (λ i. rw (p, q, i) refl) (λ i. rw (p, q, i) refl) (λ i. rw (p, q, i) refl) (omega arith) m e
    good_joined BinaryOp.More s j i m e = good_comparison j i (Cond.lt b a) (λ i. rw (p, q, swapped int i) refl) (λ i. rw (p, q, swapped uint i) refl) (λ i. rw (p, q, swapped ureal i) refl) (omega arith) m e
    good_joined BinaryOp.AtLeast s j i m e = good_comparison j i (Cond.le b a) (λ i. rw (p, q, swapped int i) refl) (λ i. rw (p, q, swapped uint i) refl) (λ i. rw (p, q, swapped ureal i) refl) (omega arith) m e
    good_joined BinaryOp.Plus s j i m e = become (Good (2 + (k + l))) _ m e (record { typed = rw (p, q) i; small = omega arith })
    good_joined BinaryOp.Minus s j i m e = good_minus j i m e
    good_joined BinaryOp.Star s j i m e = become (Good (2 + (k + l))) _ m e (record { typed = rw (p, q) i; small = omega arith })
    good_joined BinaryOp.Slash s j i m e = never m e

    both_unsigned : (x y : Bool) → (x && y) ≡ true → (x ≡ true) × (y ≡ true)
    both_unsigned true true e = (refl, refl)
    both_unsigned true false e = absurd (cc)
    both_unsigned false y e = absurd (cc)

    good_join : (op : BinaryOp) (s : Span) (m : Meaning) → given (join t u) (joined_numbers op s a b) ≡ Some m → Good (2 + (k + l)) m
    good_join op s m e = let j = given_some (join t u) (joined_numbers op s a b) m e in good_joined op s j.0 j.1 m j.2

    good_numbers : (op : BinaryOp) (s : Span) (m : Meaning) → numbers op s t a u b ≡ Some m → Good (2 + (k + l)) m
    good_numbers BinaryOp.Imply s m e = good_extended (2 + (k + l)) (is_unsigned (Some t) && is_unsigned (Some u)) (Form.imply a b) (λ h. rw (p, q, h) refl) (omega arith) m e
    good_numbers BinaryOp.CoImply s m e = good_extended (2 + (k + l)) (is_unsigned (Some t) && is_unsigned (Some u)) (Form.co_imply a b) (λ h. rw (p, q, h) refl) (omega arith) m e
    good_numbers BinaryOp.Cup s m e = good_join BinaryOp.Cup s m e
    good_numbers BinaryOp.Cap s m e = good_join BinaryOp.Cap s m e
    good_numbers BinaryOp.Or s m e = good_join BinaryOp.Or s m e
    good_numbers BinaryOp.And s m e = good_join BinaryOp.And s m e
    good_numbers BinaryOp.Same s m e = good_join BinaryOp.Same s m e
    good_numbers BinaryOp.Differ s m e = good_join BinaryOp.Differ s m e
    good_numbers BinaryOp.Less s m e = good_join BinaryOp.Less s m e
    good_numbers BinaryOp.AtMost s m e = good_join BinaryOp.AtMost s m e
    good_numbers BinaryOp.More s m e = good_join BinaryOp.More s m e
    good_numbers BinaryOp.AtLeast s m e = good_join BinaryOp.AtLeast s m e
    good_numbers BinaryOp.Plus s m e = good_join BinaryOp.Plus s m e
    good_numbers BinaryOp.Minus s m e = good_join BinaryOp.Minus s m e
    good_numbers BinaryOp.Star s m e = good_join BinaryOp.Star s m e
    good_numbers BinaryOp.Slash s m e = good_join BinaryOp.Slash s m e

  good_truths : (op : BinaryOp) (k l : ℕ) (g h : Cond) → is_well_typed types g ≡ true → is_well_typed types h ≡ true → nodes_in g ≤ k → nodes_in h ≤ l → (m : Meaning) → truths op g h ≡ Some m → Good (2 + (k + l)) m
  good_truths BinaryOp.Imply k l g h p q v w m e = become (Good (2 + (k + l))) _ m e (record { typed = rw (p, q) refl; small = omega arith })
  good_truths BinaryOp.CoImply k l g h p q v w m e = never m e
  good_truths BinaryOp.Cup k l g h p q v w m e = never m e
  good_truths BinaryOp.Cap k l g h p q v w m e = never m e
  good_truths BinaryOp.Or k l g h p q v w m e = become (Good (2 + (k + l))) _ m e (record { typed = rw (p, q) refl; small = omega arith })
  good_truths BinaryOp.And k l g h p q v w m e = become (Good (2 + (k + l))) _ m e (record { typed = rw (p, q) refl; small = omega arith })
  good_truths BinaryOp.Same k l g h p q v w m e = become (Good (2 + (k + l))) _ m e (record { typed = rw (p, q) refl; small = omega arith })
  good_truths BinaryOp.Differ k l g h p q v w m e = become (Good (2 + (k + l))) _ m e (record { typed = rw (p, q) refl; small = omega arith })
  good_truths BinaryOp.Less k l g h p q v w m e = never m e
  good_truths BinaryOp.AtMost k l g h p q v w m e = never m e
  good_truths BinaryOp.More k l g h p q v w m e = never m e
  good_truths BinaryOp.AtLeast k l g h p q v w m e = never m e
  good_truths BinaryOp.Plus k l g h p q v w m e = never m e
  good_truths BinaryOp.Minus k l g h p q v w m e = never m e
  good_truths BinaryOp.Star k l g h p q v w m e = never m e
  good_truths BinaryOp.Slash k l g h p q v w m e = never m e

  good_binary : (op : BinaryOp) (s : Span) (k l : ℕ) (x y m : Meaning) → Good k x → Good l y → binary op s x y ≡ Some m → Good (2 + (k + l)) m
  good_binary op s k l (Meaning.truth g) (Meaning.truth h) m p q e = good_truths op k l g h p.typed q.typed p.small q.small m e
  good_binary op s k l (Meaning.truth g) (Meaning.number u b) m p q e = never m e
  good_binary op s k l (Meaning.truth g) Meaning.real m p q e = never m e
  good_binary op s k l (Meaning.number t a) (Meaning.truth h) m p q e = never m e
  good_binary op s k l (Meaning.number t a) (Meaning.number u b) m p q e = good_numbers k l a b t u p.typed q.typed p.small q.small op s m e
  good_binary op s k l (Meaning.number t a) Meaning.real m p q e = never m e
  good_binary op s k l Meaning.real y m p q e = never m e

  good_more : (k l : ℕ) (m : Meaning) → Good k m → k ≤ l → Good l m
  good_more k l m h e = record { typed = h.typed; small = let s = h.small in omega arith }

  good_operated : (op : BinaryOp) (s : Span) (d : Expression) (k l : ℕ) (x y m : Meaning) → leqʳ zeroʳ (factor (divisor d)) ≡ true → Good k x → Good l y → operated op s d x y ≡ Some m → Good (2 + (k + l)) m
  good_operated BinaryOp.Imply s d k l x y m z p q e = good_binary BinaryOp.Imply s k l x y m p q e
  good_operated BinaryOp.CoImply s d k l x y m z p q e = good_binary BinaryOp.CoImply s k l x y m p q e
  good_operated BinaryOp.Cup s d k l x y m z p q e = good_binary BinaryOp.Cup s k l x y m p q e
  good_operated BinaryOp.Cap s d k l x y m z p q e = good_binary BinaryOp.Cap s k l x y m p q e
  good_operated BinaryOp.Or s d k l x y m z p q e = good_binary BinaryOp.Or s k l x y m p q e
  good_operated BinaryOp.And s d k l x y m z p q e = good_binary BinaryOp.And s k l x y m p q e
  good_operated BinaryOp.Same s d k l x y m z p q e = good_binary BinaryOp.Same s k l x y m p q e
  good_operated BinaryOp.Differ s d k l x y m z p q e = good_binary BinaryOp.Differ s k l x y m p q e
  good_operated BinaryOp.Less s d k l x y m z p q e = good_binary BinaryOp.Less s k l x y m p q e
  good_operated BinaryOp.AtMost s d k l x y m z p q e = good_binary BinaryOp.AtMost s k l x y m p q e
  good_operated BinaryOp.More s d k l x y m z p q e = good_binary BinaryOp.More s k l x y m p q e
  good_operated BinaryOp.AtLeast s d k l x y m z p q e = good_binary BinaryOp.AtLeast s k l x y m p q e
  good_operated BinaryOp.Plus s d k l x y m z p q e = good_binary BinaryOp.Plus s k l x y m p q e
  good_operated BinaryOp.Minus s d k l x y m z p q e = good_binary BinaryOp.Minus s k l x y m p q e
  good_operated BinaryOp.Star s d k l x y m z p q e = good_binary BinaryOp.Star s k l x y m p q e
  good_operated BinaryOp.Slash s d k l x y m z p q e = good_more (2 + k) (2 + (k + l)) m (good_quotient k (factor (divisor d)) z x m p e) (omega arith)

  good_selected : (k l n : ℕ) (g : Cond) (y z m : Meaning) → is_well_typed types g ≡ true → nodes_in g ≤ k → Good l y → Good n z → selected g y z ≡ Some m → Good (2 + (k + (l + n))) m
  good_selected k l n g (Meaning.truth h) (Meaning.truth i) m p u q r e =
      let v : nodes_in h ≤ l = q.small in let w : nodes_in i ≤ n = r.small in
      become (Good (2 + (k + (l + n)))) _ m e (record { typed = rw (p, q.typed, r.typed) refl; small = omega arith })
  good_selected k l n g (Meaning.number t a) (Meaning.number u b) m p x q r e =
      let j = map_some (join t u) (λ j. Meaning.number j (Form.select g a b)) m e in
      let y : nodes a ≤ l = q.small in let z : nodes b ≤ n = r.small in
      become (Good (2 + (k + (l + n)))) _ m j.2 (record { typed = rw (p, q.typed, r.typed) j.1; small = omega arith })
  good_selected k l n g (Meaning.truth h) (Meaning.number u b) m p x q r e = never m e
  good_selected k l n g (Meaning.truth h) Meaning.real m p x q r e = never m e
  good_selected k l n g (Meaning.number t a) (Meaning.truth i) m p x q r e = never m e
  good_selected k l n g (Meaning.number t a) Meaning.real m p x q r e = never m e
  good_selected k l n g Meaning.real z m p x q r e = never m e

  good_choice : (k l n : ℕ) (x y z m : Meaning) → Good k x → Good l y → Good n z → choice x y z ≡ Some m → Good (2 + (k + (l + n))) m
  good_choice k l n (Meaning.truth g) y z m p q r e = good_selected k l n g y z m p.typed p.small q r e
  good_choice k l n (Meaning.number t a) y z m p q r e = never m e
  good_choice k l n Meaning.real y z m p q r e = never m e

good_bound : (types : Types) (k n : ℕ) (up : Bool) (ty : Ty) (x m : Meaning) → Good (retyped n ty types) k x → bound up n ty x ≡ Some m → Good types (2 + k) m
good_bound types k n up ty (Meaning.number t a) m h e = good_extended types (2 + k) (is_unsigned (Some t)) (Form.bind up n n ty a) (λ u. rw (h.typed, u) refl) (let s : nodes a ≤ k = h.small in omega arith) m e
good_bound types k n up ty (Meaning.truth g) m h e = never m e
good_bound types k n up ty Meaning.real m h e = never m e

-- ---- Scopes

pub found_with : (x : List ℕ) (l : Local) (sc : Scope) (y : List ℕ) (m : Local) → find (with_local x l sc) y ≡ Some m → (l ≡ m) ⊎ (find sc y ≡ Some m)
found_with x l [] y m e = go (bytes_eq y x) e
  where
    go : (b : Bool) → (if b then Some l else None) ≡ Some m → (l ≡ m) ⊎ (None ≡ Some m)
    go true h = inl (some_is l m h)
    go false h = inr h
found_with x l (f ∷ fs) y m e = go (bytes_eq x f.0) (found_with x l fs y m) e
  where
    first : (c : Bool) (r : Option Local) → (if c then Some l else find fs y) ≡ Some m → (l ≡ m) ⊎ ((if c then Some f.1 else find fs y) ≡ Some m)
    first true r h = inl (some_is l m h)
    first false r h = inr h

    later : (c : Bool) → (find (with_local x l fs) y ≡ Some m → (l ≡ m) ⊎ (find fs y ≡ Some m)) → (if c then Some f.1 else find (with_local x l fs) y) ≡ Some m → (l ≡ m) ⊎ ((if c then Some f.1 else find fs y) ≡ Some m)
    later true r h = inr h
    later false r h = r h

    go : (b : Bool) → (find (with_local x l fs) y ≡ Some m → (l ≡ m) ⊎ (find fs y ≡ Some m)) → find (if b then (f.0, l) ∷ fs else f ∷ with_local x l fs) y ≡ Some m → (l ≡ m) ⊎ ((if bytes_eq y f.0 then Some f.1 else find fs y) ≡ Some m)
    go true r h = first (bytes_eq y f.0) None h
    go false r h = later (bytes_eq y f.0) r h

pub same_number : (n : ℕ) → (n == n) ≡ true
same_number n = grind arith

pub other_number : (n m : ℕ) → m < n → (n == m) ≡ false
other_number n m h = grind (arith, h)

agrees_inside : (types : Types) (n : ℕ) (sc : Scope) (x : List ℕ) (t : TypeName) (ty : Ty) → declarable t ≡ Some ty → Agrees types n sc → Agrees (retyped n ty types) (suc n) (with_local x (record { number = n; ty = t }) sc)
agrees_inside types n sc x t ty d h = record { declared = λ y m e. p y m (found_with x _ sc y m e); below = λ y m e. q y m (found_with x _ sc y m e) }
  where
    p : (y : List ℕ) (m : Local) → (record { number = n; ty = t } ≡ m) ⊎ (find sc y ≡ Some m) → declarable m.ty ≡ Some (retyped n ty types m.number)
    p y m (inl e) = rw (sym e, same_number n) d
    p y m (inr e) = rw (other_number n m.number (h.below y m e)) (h.declared y m e)

    q : (y : List ℕ) (m : Local) → (record { number = n; ty = t } ≡ m) ⊎ (find sc y ≡ Some m) → m.number < suc n
    q y m (inl e) = let i : n ≡ m.number = ap (λ l. l.number) e in omega (arith, i)
    q y m (inr e) = let i = h.below y m e in omega (arith, i)

-- ---- Literals

literal_type : (q : Rational) → leqʳ zeroʳ q ≡ true → constant_type (finite q) ≡ Some (if q.den == 1 then uint else ureal)
literal_type q h = rw h refl

pub literal_nonnegative : (n : Lit) → le_z (pos 0) n.digits ≡ true → leqʳ zeroʳ (literal_value n) ≡ true
unfolding literal_value
literal_nonnegative n h = (ratio_nonnegative n.digits (10 ^ n.places) (power_positive n.places) (omega (arith, ints, h))).holds

good_literal : (types : Types) (n : Lit) (m : Meaning) → literal n ≡ Some m → Good types 2 m
good_literal types n m e = go (le_z (pos 0) n.digits) (nat_le n.places 38) refl e
  where
    go : (a b : Bool) → le_z (pos 0) n.digits ≡ a → (if a && b then Some (Meaning.number (if (literal_value n).den == 1 then uint else ureal) (Form.number (finite (literal_value n)))) else None) ≡ Some m → Good types 2 m
    go true true h i = become (Good types 2) _ m i (record { typed = literal_type (literal_value n) (literal_nonnegative n h); small = omega arith })
    go true false h i = never m i
    go false b h i = never m i

pub inverse_nonnegative : (n : Lit) → is_zero_num n.digits ≡ false → leqʳ zeroʳ (inverse_value n) ≡ true
unfolding inverse_value
inverse_nonnegative n h = (ratio_nonnegative (pos (10 ^ n.places)) (unsigned_abs n.digits) (above n.digits h) (omega (arith, ints))).holds
  where
    above : (d : ℤ) → is_zero_num d ≡ false → 0 < unsigned_abs d
    above (pos zero) e = absurd (cc)
    above (pos (suc d)) e = omega arith
    above (negsuc d) e = omega arith

zero_nonnegative : leqʳ zeroʳ zeroʳ ≡ true
unfolding zeroʳ ratio leqʳ gcd gcd_steps
zero_nonnegative = refl

inverse_factor : (n : Lit) → leqʳ zeroʳ (factor (inverse n)) ≡ true
inverse_factor n = go (is_written n) (is_zero_literal n) refl
  where
    go : (a b : Bool) → is_zero_literal n ≡ b → leqʳ zeroʳ (factor (if a && not b then Some (inverse_value n) else None)) ≡ true
    go true true h = zero_nonnegative
    go true false h = inverse_nonnegative n h
    go false b h = zero_nonnegative

factor_nonnegative : (e : Expression) → leqʳ zeroʳ (factor (divisor e)) ≡ true
factor_nonnegative (Expression.number n s) = inverse_factor n
factor_nonnegative (Expression.truth b s) = zero_nonnegative
factor_nonnegative (Expression.infinity s) = zero_nonnegative
factor_nonnegative (Expression.name x s) = zero_nonnegative
factor_nonnegative (Expression.group a s) = zero_nonnegative
factor_nonnegative (Expression.bracket a s) = zero_nonnegative
factor_nonnegative (Expression.embed a s) = zero_nonnegative
factor_nonnegative (Expression.unary op a s) = zero_nonnegative
factor_nonnegative (Expression.binary op a b s) = zero_nonnegative
factor_nonnegative (Expression.choice a b c s) = zero_nonnegative
factor_nonnegative (Expression.bound up x t a s) = zero_nonnegative

-- ---- All expressions

pub good : (types : Types) (n : ℕ) (sc : Scope) → Agrees types n sc → (e : Expression) (m : Meaning) → elaborate n sc e ≡ Some m → Good types (2 * expression_nodes e) m
good types n sc h (Expression.number v s) m e = good_literal types v m e
good types n sc h (Expression.truth b s) m e = become (Good types 2) _ m e (record { typed = refl; small = omega arith })
good types n sc h (Expression.infinity s) m e = become (Good types 2) _ m e (record { typed = refl; small = omega arith })
good types n sc h (Expression.name x s) m e =
    let l = map_some (find sc x) variable m e in
    become (Good types 2) _ m l.2 (good_variable types l.0.number l.0.ty (h.declared x l.0 l.1))
good types n sc h (Expression.group a s) m e = good_more types (2 * expression_nodes a) _ m (good types n sc h a m e) (omega arith)
good types n sc h (Expression.bracket a s) m e =
    let x = given_some (elaborate n sc a) bracket m e in
    good_more types (2 + 2 * expression_nodes a) _ m (good_bracket types _ x.0 m (good types n sc h a x.0 x.1) x.2) (omega arith)
good types n sc h (Expression.embed a s) m e =
    let x = given_some (elaborate n sc a) embedding m e in
    good_more types (2 + 2 * expression_nodes a) _ m (good_embedding types _ x.0 m (good types n sc h a x.0 x.1) x.2) (omega arith)
good types n sc h (Expression.unary op a s) m e =
    let x = given_some (elaborate n sc a) (unary op) m e in
    good_more types (2 + 2 * expression_nodes a) _ m (good_unary types op _ x.0 m (good types n sc h a x.0 x.1) x.2) (omega arith)
good types n sc h (Expression.binary op a b s) m e =
    let x = given_some (elaborate n sc a) (λ x. given (elaborate n sc b) (operated op s b x)) m e in
    let y = given_some (elaborate n sc b) (operated op s b x.0) m x.2 in
    good_more types (2 + (2 * expression_nodes a + 2 * expression_nodes b)) _ m (good_operated types op s b _ _ x.0 y.0 m (factor_nonnegative b) (good types n sc h a x.0 x.1) (good types n sc h b y.0 y.1) y.2) (omega arith)
good types n sc h (Expression.choice a b c s) m e =
    let x = given_some (elaborate n sc a) (λ x. given (elaborate n sc b) (λ y. given (elaborate n sc c) (choice x y))) m e in
    let y = given_some (elaborate n sc b) (λ y. given (elaborate n sc c) (choice x.0 y)) m x.2 in
    let z = given_some (elaborate n sc c) (choice x.0 y.0) m y.2 in
    good_more types (2 + (2 * expression_nodes a + (2 * expression_nodes b + 2 * expression_nodes c))) _ m (good_choice types _ _ _ x.0 y.0 z.0 m (good types n sc h a x.0 x.1) (good types n sc h b y.0 y.1) (good types n sc h c z.0 z.1) z.2) (omega arith)
good types n sc h (Expression.bound up x t a s) m e =
    let i = given_some (elaborate (suc n) (with_local x (record { number = n; ty = t }) sc) a) (quantified up n t) m e in
    let d = given_some (declarable t) (λ ty. bound up n ty i.0) m i.2 in
    good_more types (2 + 2 * expression_nodes a) _ m (good_bound types _ n up d.0 i.0 m (good (retyped n d.0 types) (suc n) _ (agrees_inside types n sc x t d.0 d.1 h) a i.0 i.1) d.2) (omega arith)
