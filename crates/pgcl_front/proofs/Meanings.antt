-- An expression means the same in two scopes and states if each of its names does.
use Rattle.pgcl_front.proofs.QuietTokens.{IsPlain, IsQuiet}
use Rattle.heylo_formula.specs.Choices.{Choices}
use Rattle.heylo_formula.specs.Formula.{Cond, Form}
use Rattle.heylo_formula.specs.Meaning.{holds, term_value, value}
use Rattle.heylo_formula.specs.Operators.{agree, differenceᵛ, equalᵛ, finite_part, lessᵛ}
use Rattle.heylo_formula.specs.State.{Env}
use Rattle.heylo_formula.specs.Typing.NumberType.{eureal, int, uint, ureal}
use Rattle.heylo_formula.specs.Typing.{NumberType, is_unsigned, join}
use Rattle.heylo_formula.specs.declared.values.Val.TheVariants.{Num, Truth}
use Rattle.heyvl_num.specs.Rational.{Rational}
use Rattle.heyvl_num.specs.Value.Value.{finite, infinite}
use Rattle.heyvl_num.specs.Value.{leqᵛ, oneᵛ, zeroᵛ, ◌*ᵛ◌, ◌+ᵛ◌}
use Rattle.heyvl_num.specs.ValueOperators.{coimpliesᵛ, impliesᵛ, maxᵛ, minᵛ, monusᵛ}
use Rattle.heyvl_places.specs.declared.spans.Span.{Span}
use Rattle.heyvl_syntax.specs.Expressions.{Expression}
use Rattle.heyvl_syntax.specs.declared.literals.Lit.{Lit}
use Rattle.heyvl_syntax.specs.declared.operators.BinaryOp.TheVariants as ops
use Rattle.heyvl_syntax.specs.declared.operators.BinaryOp.{BinaryOp}
use Rattle.heyvl_syntax.specs.declared.operators.UnaryOp.TheVariants as prefixes
use Rattle.heyvl_syntax.specs.declared.operators.UnaryOp.{UnaryOp}
use Rattle.typed_expressions.specs.LiteralValues.{is_written, literal_value}
use Rattle.typed_expressions.specs.Scopes.{Scope, find}
use Rattle.typed_expressions.specs.Values.{condition, form, term}
use Rattle.typed_expressions.specs.Table.{Meaning, binary, bracket, choice, comparison, conegation, divisor, embedding, extended, factor, given, joined_numbers, literal, minus, negation, negative, nought, numbers, quotient, selected, truths, unary, variable}
use Rattle.typed_expressions.specs.TypedExpressions.{elaborate, operated}
use Rattle.std.proofs.Common.{Bool, List, None, Option, Some, ap, ap₂, false, refl, subst, true, ◌≡◌, ℕ}
use Rattle.std.specs.Prelude.{if◌then◌else◌, not, option_map, ◌&&◌, ◌==◌, ◌||◌}

-- Two meanings of the same kind and type, with equal values.
abbrev pub AlikeMeanings : Env → Env → Meaning → Meaning → Type 0
AlikeMeanings s t (Meaning.truth g) (Meaning.truth h) = holds g s Choices.stop ≡ holds h t Choices.stop
AlikeMeanings s t (Meaning.truth g) (Meaning.number b k) = ⊥
AlikeMeanings s t (Meaning.truth g) Meaning.real = ⊥
AlikeMeanings s t (Meaning.number a f) (Meaning.truth h) = ⊥
AlikeMeanings s t (Meaning.number a f) (Meaning.number b k) = (a ≡ b) × (value f s Choices.stop ≡ value k t Choices.stop)
AlikeMeanings s t (Meaning.number a f) Meaning.real = ⊥
AlikeMeanings s t Meaning.real (Meaning.truth h) = ⊥
AlikeMeanings s t Meaning.real (Meaning.number b k) = ⊥
AlikeMeanings s t Meaning.real Meaning.real = Unit {0}

abbrev pub Alike : Env → Env → Option Meaning → Option Meaning → Type 0
Alike s t None None = Unit {0}
Alike s t None (Some y) = ⊥
Alike s t (Some x) None = ⊥
Alike s t (Some x) (Some y) = AlikeMeanings s t x y

module _ (s t : Env) where
  -- ---- Values

  pub same_condition : (o p : Option Meaning) → Alike s t o p → holds (condition o) s Choices.stop ≡ holds (condition p) t Choices.stop
  same_condition None None h = refl
  same_condition None (Some y) h = absurd h
  same_condition (Some x) None h = absurd h
  same_condition (Some (Meaning.truth g)) (Some (Meaning.truth k)) h = h
  same_condition (Some (Meaning.truth g)) (Some (Meaning.number b k)) h = absurd h
  same_condition (Some (Meaning.truth g)) (Some Meaning.real) h = absurd h
  same_condition (Some (Meaning.number a f)) (Some (Meaning.truth k)) h = absurd h
  same_condition (Some (Meaning.number a f)) (Some (Meaning.number b k)) h = refl
  same_condition (Some (Meaning.number a f)) (Some Meaning.real) h = absurd h
  same_condition (Some Meaning.real) (Some (Meaning.truth k)) h = absurd h
  same_condition (Some Meaning.real) (Some (Meaning.number b k)) h = absurd h
  same_condition (Some Meaning.real) (Some Meaning.real) h = refl

  pub same_form : (o p : Option Meaning) → Alike s t o p → value (form o) s Choices.stop ≡ value (form p) t Choices.stop
  same_form None None h = refl
  same_form None (Some y) h = absurd h
  same_form (Some x) None h = absurd h
  same_form (Some (Meaning.truth g)) (Some (Meaning.truth k)) h = refl
  same_form (Some (Meaning.truth g)) (Some (Meaning.number b k)) h = absurd h
  same_form (Some (Meaning.truth g)) (Some Meaning.real) h = absurd h
  same_form (Some (Meaning.number a f)) (Some (Meaning.truth k)) h = absurd h
  same_form (Some (Meaning.number a f)) (Some (Meaning.number b k)) h = h.1
  same_form (Some (Meaning.number a f)) (Some Meaning.real) h = absurd h
  same_form (Some Meaning.real) (Some (Meaning.truth k)) h = absurd h
  same_form (Some Meaning.real) (Some (Meaning.number b k)) h = absurd h
  same_form (Some Meaning.real) (Some Meaning.real) h = refl

  pub same_term : (o p : Option Meaning) → Alike s t o p → term_value (term o) s ≡ term_value (term p) t
  same_term None None h = refl
  same_term None (Some y) h = absurd h
  same_term (Some x) None h = absurd h
  same_term (Some (Meaning.truth g)) (Some (Meaning.truth k)) h = ap Truth h
  same_term (Some (Meaning.truth g)) (Some (Meaning.number b k)) h = absurd h
  same_term (Some (Meaning.truth g)) (Some Meaning.real) h = absurd h
  same_term (Some (Meaning.number a f)) (Some (Meaning.truth k)) h = absurd h
  same_term (Some (Meaning.number a f)) (Some (Meaning.number b k)) h = ap (λ v. Num (finite_part v)) h.1
  same_term (Some (Meaning.number a f)) (Some Meaning.real) h = absurd h
  same_term (Some Meaning.real) (Some (Meaning.truth k)) h = absurd h
  same_term (Some Meaning.real) (Some (Meaning.number b k)) h = absurd h
  same_term (Some Meaning.real) (Some Meaning.real) h = refl

  -- ---- By kinds of meanings

  by_kinds : (P : Meaning → Meaning → Type 0) → ((g h : Cond) → holds g s Choices.stop ≡ holds h t Choices.stop → P (Meaning.truth g) (Meaning.truth h))
      → ((a b : NumberType) → a ≡ b → (f k : Form) → value f s Choices.stop ≡ value k t Choices.stop → P (Meaning.number a f) (Meaning.number b k)) → P Meaning.real Meaning.real
      → (x y : Meaning) → AlikeMeanings s t x y → P x y
  by_kinds P p q r (Meaning.truth g) (Meaning.truth h) e = p g h e
  by_kinds P p q r (Meaning.truth g) (Meaning.number b k) e = absurd e
  by_kinds P p q r (Meaning.truth g) Meaning.real e = absurd e
  by_kinds P p q r (Meaning.number a f) (Meaning.truth h) e = absurd e
  by_kinds P p q r (Meaning.number a f) (Meaning.number b k) e = q a b e.0 f k e.1
  by_kinds P p q r (Meaning.number a f) Meaning.real e = absurd e
  by_kinds P p q r Meaning.real (Meaning.truth h) e = absurd e
  by_kinds P p q r Meaning.real (Meaning.number b k) e = absurd e
  by_kinds P p q r Meaning.real Meaning.real e = r

  given_alike : (o p : Option Meaning) (f g : Meaning → Option Meaning) → Alike s t o p → ((x y : Meaning) → AlikeMeanings s t x y → Alike s t (f x) (g y)) → Alike s t (given o f) (given p g)
  given_alike None None f g h k = tt
  given_alike None (Some y) f g h k = absurd h
  given_alike (Some x) None f g h k = absurd h
  given_alike (Some x) (Some y) f g h k = k x y h

  -- ---- Parts of the table of expressions

  literal_alike : (n : Lit) → Alike s t (literal n) (literal n)
  literal_alike n = go (is_written n)
    where
      go : (b : Bool) → Alike s t (if b then Some (Meaning.number (if (literal_value n).den == 1 then uint else ureal) (Form.number (finite (literal_value n)))) else None) (if b then Some (Meaning.number (if (literal_value n).den == 1 then uint else ureal) (Form.number (finite (literal_value n)))) else None)
      go true = (refl, refl)
      go false = tt

  bracket_alike : (x y : Meaning) → AlikeMeanings s t x y → Alike s t (bracket x) (bracket y)
  bracket_alike = by_kinds (λ x y. Alike s t (bracket x) (bracket y)) (λ g h e. (refl, ap (λ b. if b then oneᵛ else zeroᵛ) e)) (λ a b i f k e. tt) tt

  embedding_alike : (x y : Meaning) → AlikeMeanings s t x y → Alike s t (embedding x) (embedding y)
  embedding_alike = by_kinds (λ x y. Alike s t (embedding x) (embedding y)) (λ g h e. (refl, ap (λ b. if b then infinite else zeroᵛ) e)) (λ a b i f k e. tt) tt

  extended_alike : (b : Bool) (f k : Form) → value f s Choices.stop ≡ value k t Choices.stop → Alike s t (extended b f) (extended b k)
  extended_alike true f k e = (refl, e)
  extended_alike false f k e = tt

  negated_alike : (a : NumberType) (f k : Form) → value f s Choices.stop ≡ value k t Choices.stop → Alike s t (negative (Meaning.number a f)) (negative (Meaning.number a k))
  negated_alike int f k e = (refl, ap (λ v. differenceᵛ (value nought s Choices.stop) v) e)
  negated_alike uint f k e = (refl, ap (λ v. differenceᵛ (value nought s Choices.stop) v) e)
  negated_alike ureal f k e = tt
  negated_alike eureal f k e = tt

  of_one_type : (P : NumberType → NumberType → Type 0) (a b : NumberType) → a ≡ b → P a a → P a b
  of_one_type P a b e h = subst (λ (c : NumberType). P a c) e h

  unary_alike : (op : UnaryOp) (x y : Meaning) → AlikeMeanings s t x y → Alike s t (unary op x) (unary op y)
  unary_alike prefixes.Not = by_kinds (λ x y. Alike s t (negation x) (negation y)) (λ g h e. ap not e)
      (λ a b i f k e. of_one_type (λ c d. Alike s t (negation (Meaning.number c f)) (negation (Meaning.number d k))) a b i (extended_alike (is_unsigned (Some a)) (Form.imply f nought) (Form.imply k nought) (ap (λ v. impliesᵛ v (value nought s Choices.stop)) e))) tt
  unary_alike prefixes.Minus = by_kinds (λ x y. Alike s t (negative x) (negative y)) (λ g h e. tt)
      (λ a b i f k e. of_one_type (λ c d. Alike s t (negative (Meaning.number c f)) (negative (Meaning.number d k))) a b i (negated_alike a f k e)) tt
  unary_alike prefixes.Tilde = by_kinds (λ x y. Alike s t (conegation x) (conegation y)) (λ g h e. tt)
      (λ a b i f k e. of_one_type (λ c d. Alike s t (conegation (Meaning.number c f)) (conegation (Meaning.number d k))) a b i (extended_alike (is_unsigned (Some a)) (Form.co_imply f (Form.number infinite)) (Form.co_imply k (Form.number infinite)) (ap (λ v. coimpliesᵛ v infinite) e))) tt

  truths_alike : (op : BinaryOp) (g h i j : Cond) → holds g s Choices.stop ≡ holds h t Choices.stop → holds i s Choices.stop ≡ holds j t Choices.stop → Alike s t (truths op g i) (truths op h j)
  truths_alike ops.Same g h i j e f = ap₂ agree e f
  truths_alike ops.Differ g h i j e f = ap₂ (λ a b. not (agree a b)) e f
  truths_alike ops.And g h i j e f = ap₂ (λ a b. a && b) e f
  truths_alike ops.Or g h i j e f = ap₂ (λ a b. a || b) e f
  truths_alike ops.Imply g h i j e f = ap₂ (λ a b. not a || b) e f
  truths_alike _ g h i j e f = tt

  module _ (p : Span) (f g h k : Form) (e : value f s Choices.stop ≡ value g t Choices.stop) (i : value h s Choices.stop ≡ value k t Choices.stop) where
    minus_alike : (a : NumberType) → Alike s t (minus a f h) (minus a g k)
    minus_alike int = (refl, ap₂ differenceᵛ e i)
    minus_alike uint = (refl, ap₂ monusᵛ e i)
    minus_alike ureal = (refl, ap₂ monusᵛ e i)
    minus_alike eureal = tt

    comparison_alike : (a : NumberType) (x y : Cond) → holds x s Choices.stop ≡ holds y t Choices.stop → Alike s t (comparison a x) (comparison a y)
    comparison_alike int x y j = j
    comparison_alike uint x y j = j
    comparison_alike ureal x y j = j
    comparison_alike eureal x y j = tt

    joined_alike : (op : BinaryOp) (a : NumberType) → Alike s t (joined_numbers op p f h a) (joined_numbers op p g k a)
    joined_alike ops.Plus a = (refl, ap₂ (λ v w. v +ᵛ w) e i)
    joined_alike ops.Star a = (refl, ap₂ (λ v w. v *ᵛ w) e i)
    joined_alike ops.Minus a = minus_alike a
    joined_alike ops.Same a = comparison_alike a (Cond.equal f h) (Cond.equal g k) (ap₂ equalᵛ e i)
    joined_alike ops.Differ a = comparison_alike a (Cond.not (Cond.equal f h)) (Cond.not (Cond.equal g k)) (ap₂ (λ v w. not (equalᵛ v w)) e i)
    joined_alike ops.Less a = comparison_alike a (Cond.lt f h) (Cond.lt g k) (ap₂ lessᵛ e i)
    joined_alike ops.AtMost a = comparison_alike a (Cond.le f h) (Cond.le g k) (ap₂ leqᵛ e i)
    joined_alike ops.More a = comparison_alike a (Cond.lt h f) (Cond.lt k g) (ap₂ lessᵛ i e)
    joined_alike ops.AtLeast a = comparison_alike a (Cond.le h f) (Cond.le k g) (ap₂ leqᵛ i e)
    joined_alike ops.Cap a = (refl, ap₂ minᵛ e i)
    joined_alike ops.Cup a = (refl, ap₂ maxᵛ e i)
    joined_alike _ a = tt

    of_join : (op : BinaryOp) (o : Option NumberType) → Alike s t (given o (joined_numbers op p f h)) (given o (joined_numbers op p g k))
    of_join op None = tt
    of_join op (Some a) = joined_alike op a

    numbers_alike : (op : BinaryOp) (a b : NumberType) → Alike s t (numbers op p a f b h) (numbers op p a g b k)
    numbers_alike ops.Imply a b = extended_alike (is_unsigned (Some a) && is_unsigned (Some b)) (Form.imply f h) (Form.imply g k) (ap₂ impliesᵛ e i)
    numbers_alike ops.CoImply a b = extended_alike (is_unsigned (Some a) && is_unsigned (Some b)) (Form.co_imply f h) (Form.co_imply g k) (ap₂ coimpliesᵛ e i)
    numbers_alike ops.Plus a b = of_join ops.Plus (join a b)
    numbers_alike ops.Star a b = of_join ops.Star (join a b)
    numbers_alike ops.Minus a b = of_join ops.Minus (join a b)
    numbers_alike ops.Same a b = of_join ops.Same (join a b)
    numbers_alike ops.Differ a b = of_join ops.Differ (join a b)
    numbers_alike ops.Less a b = of_join ops.Less (join a b)
    numbers_alike ops.AtMost a b = of_join ops.AtMost (join a b)
    numbers_alike ops.More a b = of_join ops.More (join a b)
    numbers_alike ops.AtLeast a b = of_join ops.AtLeast (join a b)
    numbers_alike ops.Cap a b = of_join ops.Cap (join a b)
    numbers_alike ops.Cup a b = of_join ops.Cup (join a b)
    numbers_alike ops.And a b = of_join ops.And (join a b)
    numbers_alike ops.Or a b = of_join ops.Or (join a b)
    numbers_alike ops.Slash a b = of_join ops.Slash (join a b)

    selects_alike : (x y : Cond) → holds x s Choices.stop ≡ holds y t Choices.stop → (o : Option NumberType) → Alike s t (option_map (λ j. Meaning.number j (Form.select x f h)) o) (option_map (λ j. Meaning.number j (Form.select y g k)) o)
    selects_alike x y j None = tt
    selects_alike x y j (Some a) = (refl, chosen (holds x s Choices.stop) (holds y t Choices.stop) j)
      where
        chosen : (b c : Bool) → b ≡ c → (if b then value f s Choices.stop else value h s Choices.stop) ≡ (if c then value g t Choices.stop else value k t Choices.stop)
        chosen true true j = e
        chosen true false j = absurd (cc)
        chosen false true j = absurd (cc)
        chosen false false j = i

  binary_alike : (op : BinaryOp) (p : Span) (x y : Meaning) → AlikeMeanings s t x y → (z w : Meaning) → AlikeMeanings s t z w → Alike s t (binary op p x z) (binary op p y w)
  binary_alike op p = by_kinds (λ x y. (z w : Meaning) → AlikeMeanings s t z w → Alike s t (binary op p x z) (binary op p y w))
      (λ g h e. by_kinds (λ z w. Alike s t (binary op p (Meaning.truth g) z) (binary op p (Meaning.truth h) w)) (λ i j q. truths_alike op g h i j e q) (λ a b i f k q. tt) tt)
      (λ a b i f k e. by_kinds (λ z w. Alike s t (binary op p (Meaning.number a f) z) (binary op p (Meaning.number b k) w)) (λ g h q. tt)
      (λ c d j l m q. of_one_type (λ x y. Alike s t (numbers op p a f c l) (numbers op p b k y m)) c d j (of_one_type (λ x y. Alike s t (numbers op p a f c l) (numbers op p y k c m)) a b i (numbers_alike p f k l m e q op a c))) tt)
      (λ z w q. tt)

  quotient_alike : (q : Rational) (x y : Meaning) → AlikeMeanings s t x y → Alike s t (quotient q x) (quotient q y)
  quotient_alike q = by_kinds (λ x y. Alike s t (quotient q x) (quotient q y)) (λ g h e. tt) (λ a b i f k e. of_one_type (λ c d. Alike s t (quotient q (Meaning.number c f)) (quotient q (Meaning.number d k))) a b i (by_type a f k e)) tt
    where
      by_type : (a : NumberType) (f k : Form) → value f s Choices.stop ≡ value k t Choices.stop → Alike s t (quotient q (Meaning.number a f)) (quotient q (Meaning.number a k))
      by_type int f k e = tt
      by_type uint f k e = (refl, ap (λ v. finite q *ᵛ v) e)
      by_type ureal f k e = (refl, ap (λ v. finite q *ᵛ v) e)
      by_type eureal f k e = (refl, ap (λ v. finite q *ᵛ v) e)

  operated_alike : (op : BinaryOp) (p : Span) (b : Expression) (x y : Meaning) → AlikeMeanings s t x y → (z w : Meaning) → AlikeMeanings s t z w → Alike s t (operated op p b x z) (operated op p b y w)
  operated_alike ops.Slash p b x y e z w i = quotient_alike (factor (divisor b)) x y e
  operated_alike ops.Plus p b x y e z w i = binary_alike ops.Plus p x y e z w i
  operated_alike ops.Star p b x y e z w i = binary_alike ops.Star p x y e z w i
  operated_alike ops.Minus p b x y e z w i = binary_alike ops.Minus p x y e z w i
  operated_alike ops.Same p b x y e z w i = binary_alike ops.Same p x y e z w i
  operated_alike ops.Differ p b x y e z w i = binary_alike ops.Differ p x y e z w i
  operated_alike ops.Less p b x y e z w i = binary_alike ops.Less p x y e z w i
  operated_alike ops.AtMost p b x y e z w i = binary_alike ops.AtMost p x y e z w i
  operated_alike ops.More p b x y e z w i = binary_alike ops.More p x y e z w i
  operated_alike ops.AtLeast p b x y e z w i = binary_alike ops.AtLeast p x y e z w i
  operated_alike ops.Cap p b x y e z w i = binary_alike ops.Cap p x y e z w i
  operated_alike ops.Cup p b x y e z w i = binary_alike ops.Cup p x y e z w i
  operated_alike ops.And p b x y e z w i = binary_alike ops.And p x y e z w i
  operated_alike ops.Or p b x y e z w i = binary_alike ops.Or p x y e z w i
  operated_alike ops.Imply p b x y e z w i = binary_alike ops.Imply p x y e z w i
  operated_alike ops.CoImply p b x y e z w i = binary_alike ops.CoImply p x y e z w i

  selected_alike : (g h : Cond) → holds g s Choices.stop ≡ holds h t Choices.stop → (x y : Meaning) → AlikeMeanings s t x y → (z w : Meaning) → AlikeMeanings s t z w → Alike s t (selected g x z) (selected h y w)
  selected_alike g h e = by_kinds (λ x y. (z w : Meaning) → AlikeMeanings s t z w → Alike s t (selected g x z) (selected h y w))
      (λ i j q. by_kinds (λ z w. Alike s t (selected g (Meaning.truth i) z) (selected h (Meaning.truth j) w)) (λ k l r. chosen (holds g s Choices.stop) (holds h t Choices.stop) e (holds i s Choices.stop) (holds j t Choices.stop) q (holds k s Choices.stop) (holds l t Choices.stop) r) (λ a b c f k r. tt) tt)
      (λ a b i f k q. by_kinds (λ z w. Alike s t (selected g (Meaning.number a f) z) (selected h (Meaning.number b k) w)) (λ x y r. tt)
      (λ c d j l m r. of_one_type (λ x y. Alike s t (selected g (Meaning.number a f) (Meaning.number c l)) (selected h (Meaning.number b k) (Meaning.number y m))) c d j (of_one_type (λ x y. Alike s t (selected g (Meaning.number a f) (Meaning.number c l)) (selected h (Meaning.number y k) (Meaning.number c m))) a b i (selects_alike p0 f k l m q r g h e (join a c)))) tt)
      (λ z w q. tt)
    where
      p0 : Span
      p0 = record { from = 0; to = 0 }

      chosen : (b c : Bool) → b ≡ c → (x y : Bool) → x ≡ y → (z w : Bool) → z ≡ w → (if b then x else z) ≡ (if c then y else w)
      chosen b c i x y j z w k = cc

  choice_alike : (x y : Meaning) → AlikeMeanings s t x y → (z w : Meaning) → AlikeMeanings s t z w → (u v : Meaning) → AlikeMeanings s t u v → Alike s t (choice x z u) (choice y w v)
  choice_alike = by_kinds (λ x y. (z w : Meaning) → AlikeMeanings s t z w → (u v : Meaning) → AlikeMeanings s t u v → Alike s t (choice x z u) (choice y w v)) (λ g h e. selected_alike g h e) (λ a b i f k e z w q u v r. tt) (λ z w q u v r. tt)

  -- ---- Expressions

  module _ (sc scope : Scope) (names : (x : List ℕ) → IsPlain x → Alike s t (option_map variable (find sc x)) (option_map variable (find scope x))) (n m : ℕ) where
    pub alike : (e : Expression) → IsQuiet e → Alike s t (elaborate n sc e) (elaborate m scope e)
    alike (Expression.number v p) q = literal_alike v
    alike (Expression.truth b p) q = refl
    alike (Expression.infinity p) q = (refl, refl)
    alike (Expression.name x p) q = names x q
    alike (Expression.group a p) q = alike a q
    alike (Expression.bracket a p) q = given_alike _ _ bracket bracket (alike a q) bracket_alike
    alike (Expression.embed a p) q = given_alike _ _ embedding embedding (alike a q) embedding_alike
    alike (Expression.unary op a p) q = given_alike _ _ (unary op) (unary op) (alike a q) (unary_alike op)
    alike (Expression.binary op a b p) q = given_alike _ _ _ _ (alike a q.0) (λ x y h. given_alike _ _ _ _ (alike b q.1) (λ z w k. operated_alike op p b x y h z w k))
    alike (Expression.choice a b c p) q = given_alike _ _ _ _ (alike a q.0) (λ x y h. given_alike _ _ _ _ (alike b q.1.0) (λ z w k. given_alike _ _ _ _ (alike c q.1.1) (λ u v l. choice_alike x y h z w k u v l)))
    alike (Expression.bound up x ty a p) q = absurd q
