-- A property of forms and conditions that holds for their parts holds for elaborated expressions,
-- row by row of the table of expressions.
use Rattle.heylo_formula.specs.Formula.{Cond, Form}
use Rattle.heylo_formula.specs.Typing.{NumberType, is_unsigned, join}
use Rattle.heylo_formula.specs.declared.types.Ty.{Ty}
use Rattle.heyvl_num.specs.Rational.{Rational}
use Rattle.heyvl_num.specs.Value.Value.{finite}
use Rattle.heyvl_num.specs.Value.{Value}
use Rattle.heyvl_places.specs.declared.spans.Span.{Span}
use Rattle.heyvl_syntax.specs.Expressions.{Expression}
use Rattle.heyvl_syntax.specs.declared.literals.Lit.{Lit}
use Rattle.heyvl_syntax.specs.declared.operators.BinaryOp.TheVariants as ops
use Rattle.heyvl_syntax.specs.declared.operators.BinaryOp.{BinaryOp}
use Rattle.heyvl_syntax.specs.declared.operators.UnaryOp.TheVariants as prefixes
use Rattle.heyvl_syntax.specs.declared.operators.UnaryOp.{UnaryOp}
use Rattle.heyvl_syntax.specs.declared.types.TypeName.TheVariants as types
use Rattle.heyvl_syntax.specs.declared.types.TypeName.{TypeName}
use Rattle.std.proofs.Common.{Bool, List, None, Option, Some, false, if◌then◌else◌, option_map, true, ◌==◌, ℕ}
use Rattle.typed_expressions.specs.LiteralValues.{is_written, literal_value}
use Rattle.typed_expressions.specs.Scopes.{Scope, find}
use Rattle.typed_expressions.specs.Table.{Meaning, binary, bound, bracket, choice, comparison, declarable, divisor, embedding, extended, factor, given, joined_numbers, literal, minus, numbers, quantified, quotient, selected, truths, unary, variable, variable_of}
use Rattle.typed_expressions.specs.TypedExpressions.{operated}

-- `F` holds for a form, and `G` for a condition, if they hold for the parts, and for a product if
-- `P` holds for its place. Binders are left out.
pub record Spreads (F : Form → Type 0) (G : Cond → Type 0) (P : Span → Type 0) : Type 0 where
  pub number : (v : Value) → F (Form.number v)
  pub variable : (x : ℕ) → F (Form.variable x)
  pub sum : (a b : Form) → F a → F b → F (Form.sum a b)
  pub difference : (a b : Form) → F a → F b → F (Form.difference a b)
  pub cut : (a b : Form) → F a → F b → F (Form.cut a b)
  pub scale : (q : Rational) (a : Form) → F a → F (Form.scale q a)
  pub product : (a b : Form) (s : Span) → P s → F a → F b → F (Form.product a b s)
  pub min : (a b : Form) → F a → F b → F (Form.min a b)
  pub max : (a b : Form) → F a → F b → F (Form.max a b)
  pub imply : (a b : Form) → F a → F b → F (Form.imply a b)
  pub co_imply : (a b : Form) → F a → F b → F (Form.co_imply a b)
  pub embed : (g : Cond) → G g → F (Form.embed g)
  pub iverson : (g : Cond) → G g → F (Form.iverson g)
  pub select : (g : Cond) (a b : Form) → G g → F a → F b → F (Form.select g a b)
  pub constant : (b : Bool) → G (Cond.constant b)
  pub flag : (x : ℕ) → G (Cond.flag x)
  pub not : (g : Cond) → G g → G (Cond.not g)
  pub and : (g f : Cond) → G g → G f → G (Cond.and g f)
  pub or : (g f : Cond) → G g → G f → G (Cond.or g f)
  pub same : (g f : Cond) → G g → G f → G (Cond.same g f)
  pub le : (a b : Form) → F a → F b → G (Cond.le a b)
  pub lt : (a b : Form) → F a → F b → G (Cond.lt a b)
  pub equal : (a b : Form) → F a → F b → G (Cond.equal a b)
  pub ite : (g f e : Cond) → G g → G f → G e → G (Cond.ite g f e)

module _ (F : Form → Type 0) (G : Cond → Type 0) where
  abbrev pub HoldsOf : Meaning → Type 0
  HoldsOf (Meaning.truth g) = G g
  HoldsOf (Meaning.number t a) = F a
  HoldsOf Meaning.real = Unit {0}

  -- The property holds for the meaning, if there is one.
  abbrev pub Holds : Option Meaning → Type 0
  Holds None = Unit {0}
  Holds (Some m) = HoldsOf m

  -- ---- Parts

  given_holds : (o : Option Meaning) (f : Meaning → Option Meaning) → Holds o → ((m : Meaning) → HoldsOf m → Holds (f m)) → Holds (given o f)
  given_holds None f h k = tt
  given_holds (Some m) f h k = k m h

  given_any : {A : Type 0} (o : Option A) (f : A → Option Meaning) → ((x : A) → Holds (f x)) → Holds (given o f)
  given_any None f k = tt
  given_any (Some x) f k = k x

  mapped : {A : Type 0} (f : A → Meaning) → ((x : A) → HoldsOf (f x)) → (o : Option A) → Holds (option_map f o)
  mapped f k None = tt
  mapped f k (Some x) = k x

  where_true : (b : Bool) (m : Meaning) → HoldsOf m → Holds (if b then Some m else None)
  where_true true m h = h
  where_true false m h = tt

  extended_holds : (b : Bool) (a : Form) → F a → Holds (extended b a)
  extended_holds true a h = h
  extended_holds false a h = tt

  -- ---- Quantifiers

  module _ (up : Bool) (n : ℕ) (B : (ty : Ty) (a : Form) → F a → F (Form.bind up n n ty a)) where
    bound_holds : (ty : Ty) (m : Meaning) → HoldsOf m → Holds (bound up n ty m)
    bound_holds ty (Meaning.number t a) h = extended_holds (is_unsigned (Some t)) (Form.bind up n n ty a) (B ty a h)
    bound_holds ty (Meaning.truth g) h = tt
    bound_holds ty Meaning.real h = tt

    pub quantified_holds : (t : TypeName) (o : Option Meaning) → Holds o → Holds (given o (quantified up n t))
    quantified_holds t o h = given_holds o (quantified up n t) h (λ m p. given_any (declarable t) (λ ty. bound up n ty m) (λ ty. bound_holds ty m p))

  module _ (P : Span → Type 0) (S : Spreads F G P) where
    -- ---- Rows of the table

    minus_holds : (t : NumberType) (a b : Form) → F a → F b → Holds (minus t a b)
    minus_holds NumberType.int a b h k = S.difference a b h k
    minus_holds NumberType.uint a b h k = S.cut a b h k
    minus_holds NumberType.ureal a b h k = S.cut a b h k
    minus_holds NumberType.eureal a b h k = tt

    comparison_holds : (t : NumberType) (g : Cond) → G g → Holds (comparison t g)
    comparison_holds NumberType.int g h = h
    comparison_holds NumberType.uint g h = h
    comparison_holds NumberType.ureal g h = h
    comparison_holds NumberType.eureal g h = tt

    joined_holds : (op : BinaryOp) (s : Span) (a b : Form) (t : NumberType) → P s → F a → F b → Holds (joined_numbers op s a b t)
    joined_holds ops.Plus s a b t l h k = S.sum a b h k
    joined_holds ops.Star s a b t l h k = S.product a b s l h k
    joined_holds ops.Minus s a b t l h k = minus_holds t a b h k
    joined_holds ops.Same s a b t l h k = comparison_holds t (Cond.equal a b) (S.equal a b h k)
    joined_holds ops.Differ s a b t l h k = comparison_holds t (Cond.not (Cond.equal a b)) (S.not _ (S.equal a b h k))
    joined_holds ops.Less s a b t l h k = comparison_holds t (Cond.lt a b) (S.lt a b h k)
    joined_holds ops.AtMost s a b t l h k = comparison_holds t (Cond.le a b) (S.le a b h k)
    joined_holds ops.More s a b t l h k = comparison_holds t (Cond.lt b a) (S.lt b a k h)
    joined_holds ops.AtLeast s a b t l h k = comparison_holds t (Cond.le b a) (S.le b a k h)
    joined_holds ops.Cap s a b t l h k = S.min a b h k
    joined_holds ops.Cup s a b t l h k = S.max a b h k
    joined_holds ops.And s a b t l h k = tt
    joined_holds ops.Or s a b t l h k = tt
    joined_holds ops.Imply s a b t l h k = tt
    joined_holds ops.CoImply s a b t l h k = tt
    joined_holds ops.Slash s a b t l h k = tt

    with_join : (op : BinaryOp) (s : Span) (t : NumberType) (a : Form) (u : NumberType) (b : Form) → P s → F a → F b → Holds (given (join t u) (joined_numbers op s a b))
    with_join op s t a u b l h k = given_any (join t u) (joined_numbers op s a b) (λ j. joined_holds op s a b j l h k)

    numbers_hold : (op : BinaryOp) (s : Span) (t : NumberType) (a : Form) (u : NumberType) (b : Form) → P s → F a → F b → Holds (numbers op s t a u b)
    numbers_hold ops.Imply s t a u b l h k = extended_holds _ (Form.imply a b) (S.imply a b h k)
    numbers_hold ops.CoImply s t a u b l h k = extended_holds _ (Form.co_imply a b) (S.co_imply a b h k)
    numbers_hold ops.Plus s t a u b l h k = with_join ops.Plus s t a u b l h k
    numbers_hold ops.Star s t a u b l h k = with_join ops.Star s t a u b l h k
    numbers_hold ops.Minus s t a u b l h k = with_join ops.Minus s t a u b l h k
    numbers_hold ops.Same s t a u b l h k = with_join ops.Same s t a u b l h k
    numbers_hold ops.Differ s t a u b l h k = with_join ops.Differ s t a u b l h k
    numbers_hold ops.Less s t a u b l h k = with_join ops.Less s t a u b l h k
    numbers_hold ops.AtMost s t a u b l h k = with_join ops.AtMost s t a u b l h k
    numbers_hold ops.More s t a u b l h k = with_join ops.More s t a u b l h k
    numbers_hold ops.AtLeast s t a u b l h k = with_join ops.AtLeast s t a u b l h k
    numbers_hold ops.Cap s t a u b l h k = with_join ops.Cap s t a u b l h k
    numbers_hold ops.Cup s t a u b l h k = with_join ops.Cup s t a u b l h k
    numbers_hold ops.And s t a u b l h k = with_join ops.And s t a u b l h k
    numbers_hold ops.Or s t a u b l h k = with_join ops.Or s t a u b l h k
    numbers_hold ops.Slash s t a u b l h k = with_join ops.Slash s t a u b l h k

    truths_hold : (op : BinaryOp) (g f : Cond) → G g → G f → Holds (truths op g f)
    truths_hold ops.Same g f h k = S.same g f h k
    truths_hold ops.Differ g f h k = S.not _ (S.same g f h k)
    truths_hold ops.And g f h k = S.and g f h k
    truths_hold ops.Or g f h k = S.or g f h k
    truths_hold ops.Imply g f h k = S.or (Cond.not g) f (S.not g h) k
    truths_hold ops.CoImply g f h k = tt
    truths_hold ops.Cup g f h k = tt
    truths_hold ops.Cap g f h k = tt
    truths_hold ops.Less g f h k = tt
    truths_hold ops.AtMost g f h k = tt
    truths_hold ops.More g f h k = tt
    truths_hold ops.AtLeast g f h k = tt
    truths_hold ops.Plus g f h k = tt
    truths_hold ops.Minus g f h k = tt
    truths_hold ops.Star g f h k = tt
    truths_hold ops.Slash g f h k = tt

    binary_holds : (op : BinaryOp) (s : Span) (x y : Meaning) → P s → HoldsOf x → HoldsOf y → Holds (binary op s x y)
    binary_holds op s (Meaning.truth g) (Meaning.truth f) l h k = truths_hold op g f h k
    binary_holds op s (Meaning.truth g) (Meaning.number u b) l h k = tt
    binary_holds op s (Meaning.truth g) Meaning.real l h k = tt
    binary_holds op s (Meaning.number t a) (Meaning.truth f) l h k = tt
    binary_holds op s (Meaning.number t a) (Meaning.number u b) l h k = numbers_hold op s t a u b l h k
    binary_holds op s (Meaning.number t a) Meaning.real l h k = tt
    binary_holds op s Meaning.real y l h k = tt

    quotient_holds : (q : Rational) (x : Meaning) → HoldsOf x → Holds (quotient q x)
    quotient_holds q (Meaning.number NumberType.int a) h = tt
    quotient_holds q (Meaning.number NumberType.uint a) h = S.scale q a h
    quotient_holds q (Meaning.number NumberType.ureal a) h = S.scale q a h
    quotient_holds q (Meaning.number NumberType.eureal a) h = S.scale q a h
    quotient_holds q (Meaning.truth g) h = tt
    quotient_holds q Meaning.real h = tt

    operated_holds : (op : BinaryOp) (s : Span) (b : Expression) (x y : Meaning) → P s → HoldsOf x → HoldsOf y → Holds (operated op s b x y)
    operated_holds ops.Slash s b x y l h k = quotient_holds (factor (divisor b)) x h
    operated_holds ops.Plus s b x y l h k = binary_holds ops.Plus s x y l h k
    operated_holds ops.Star s b x y l h k = binary_holds ops.Star s x y l h k
    operated_holds ops.Minus s b x y l h k = binary_holds ops.Minus s x y l h k
    operated_holds ops.Same s b x y l h k = binary_holds ops.Same s x y l h k
    operated_holds ops.Differ s b x y l h k = binary_holds ops.Differ s x y l h k
    operated_holds ops.Less s b x y l h k = binary_holds ops.Less s x y l h k
    operated_holds ops.AtMost s b x y l h k = binary_holds ops.AtMost s x y l h k
    operated_holds ops.More s b x y l h k = binary_holds ops.More s x y l h k
    operated_holds ops.AtLeast s b x y l h k = binary_holds ops.AtLeast s x y l h k
    operated_holds ops.Cap s b x y l h k = binary_holds ops.Cap s x y l h k
    operated_holds ops.Cup s b x y l h k = binary_holds ops.Cup s x y l h k
    operated_holds ops.And s b x y l h k = binary_holds ops.And s x y l h k
    operated_holds ops.Or s b x y l h k = binary_holds ops.Or s x y l h k
    operated_holds ops.Imply s b x y l h k = binary_holds ops.Imply s x y l h k
    operated_holds ops.CoImply s b x y l h k = binary_holds ops.CoImply s x y l h k

    unary_holds : (op : UnaryOp) (x : Meaning) → HoldsOf x → Holds (unary op x)
    unary_holds prefixes.Not (Meaning.truth g) h = S.not g h
    unary_holds prefixes.Not (Meaning.number t a) h = extended_holds (is_unsigned (Some t)) (Form.imply a _) (S.imply a _ h (S.number _))
    unary_holds prefixes.Not Meaning.real h = tt
    unary_holds prefixes.Minus (Meaning.number NumberType.int a) h = S.difference _ a (S.number _) h
    unary_holds prefixes.Minus (Meaning.number NumberType.uint a) h = S.difference _ a (S.number _) h
    unary_holds prefixes.Minus (Meaning.number NumberType.ureal a) h = tt
    unary_holds prefixes.Minus (Meaning.number NumberType.eureal a) h = tt
    unary_holds prefixes.Minus (Meaning.truth g) h = tt
    unary_holds prefixes.Minus Meaning.real h = tt
    unary_holds prefixes.Tilde (Meaning.number t a) h = extended_holds (is_unsigned (Some t)) (Form.co_imply a _) (S.co_imply a _ h (S.number _))
    unary_holds prefixes.Tilde (Meaning.truth g) h = tt
    unary_holds prefixes.Tilde Meaning.real h = tt

    bracket_holds : (x : Meaning) → HoldsOf x → Holds (bracket x)
    bracket_holds (Meaning.truth g) h = S.iverson g h
    bracket_holds (Meaning.number t a) h = tt
    bracket_holds Meaning.real h = tt

    embedding_holds : (x : Meaning) → HoldsOf x → Holds (embedding x)
    embedding_holds (Meaning.truth g) h = S.embed g h
    embedding_holds (Meaning.number t a) h = tt
    embedding_holds Meaning.real h = tt

    selected_holds : (g : Cond) (x y : Meaning) → G g → HoldsOf x → HoldsOf y → Holds (selected g x y)
    selected_holds g (Meaning.truth f) (Meaning.truth e) c h k = S.ite g f e c h k
    selected_holds g (Meaning.number t a) (Meaning.number u b) c h k = mapped (λ j. Meaning.number j (Form.select g a b)) (λ j. S.select g a b c h k) (join t u)
    selected_holds g (Meaning.truth f) (Meaning.number u b) c h k = tt
    selected_holds g (Meaning.truth f) Meaning.real c h k = tt
    selected_holds g (Meaning.number t a) (Meaning.truth e) c h k = tt
    selected_holds g (Meaning.number t a) Meaning.real c h k = tt
    selected_holds g Meaning.real y c h k = tt

    choice_holds : (x y z : Meaning) → HoldsOf x → HoldsOf y → HoldsOf z → Holds (choice x y z)
    choice_holds (Meaning.truth g) y z h k l = selected_holds g y z h k l
    choice_holds (Meaning.number t a) y z h k l = tt
    choice_holds Meaning.real y z h k l = tt

    pub literal_holds : (v : Lit) → Holds (literal v)
    literal_holds v = where_true (is_written v) (Meaning.number (if (literal_value v).den == 1 then NumberType.uint else NumberType.ureal) (Form.number (finite (literal_value v)))) (S.number _)

    variable_holds : (t : TypeName) (x : ℕ) → HoldsOf (variable_of t x)
    variable_holds types.Bool x = S.flag x
    variable_holds types.Int x = S.variable x
    variable_holds types.UInt x = S.variable x
    variable_holds types.UReal x = S.variable x
    variable_holds types.EUReal x = S.variable x
    variable_holds types.Real x = tt

    -- ---- Expressions

    pub name_holds : (sc : Scope) (x : List ℕ) → Holds (option_map variable (find sc x))
    name_holds sc x = mapped variable (λ l. variable_holds l.ty l.number) (find sc x)

    pub bracketed_holds : (o : Option Meaning) → Holds o → Holds (given o bracket)
    bracketed_holds o h = given_holds o bracket h bracket_holds

    pub embedded_holds : (o : Option Meaning) → Holds o → Holds (given o embedding)
    embedded_holds o h = given_holds o embedding h embedding_holds

    pub prefixed_holds : (op : UnaryOp) (o : Option Meaning) → Holds o → Holds (given o (unary op))
    prefixed_holds op o h = given_holds o (unary op) h (unary_holds op)

    pub infixed_holds : (op : BinaryOp) (s : Span) (b : Expression) (o p : Option Meaning) → P s → Holds o → Holds p → Holds (given o (λ x. given p (operated op s b x)))
    infixed_holds op s b o p l h k = given_holds o (λ x. given p (operated op s b x)) h (λ x i. given_holds p (operated op s b x) k (λ y j. operated_holds op s b x y l i j))

    pub chosen_holds : (o p q : Option Meaning) → Holds o → Holds p → Holds q → Holds (given o (λ x. given p (λ y. given q (choice x y))))
    chosen_holds o p q h k l =
        given_holds o (λ x. given p (λ y. given q (choice x y))) h
        (λ x i. given_holds p (λ y. given q (choice x y)) k (λ y j. given_holds q (choice x y) l (λ z e. choice_holds x y z i j e)))
