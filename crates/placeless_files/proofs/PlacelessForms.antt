-- An expression without places has the form of the expression, without places.
use Rattle.heylo_formula.specs.Formula.{Cond, Form, Term}
use Rattle.heylo_formula.specs.Typing.NumberType.{eureal, int, uint, ureal}
use Rattle.heylo_formula.specs.Typing.{NumberType, is_unsigned, join}
use Rattle.heylo_formula.specs.declared.types.Ty.{Ty}
use Rattle.heyvl_num.specs.Rational.{Rational}
use Rattle.heyvl_num.specs.Value.Value.{finite}
use Rattle.heyvl_places.specs.declared.spans.Span.{Span}
use Rattle.heyvl_print.specs.WithoutPlaces.{bare_expression, no_place}
use Rattle.heyvl_syntax.specs.Expressions.{Expression}
use Rattle.heyvl_syntax.specs.declared.literals.Lit.{Lit}
use Rattle.heyvl_syntax.specs.declared.operators.BinaryOp.TheVariants as ops
use Rattle.heyvl_syntax.specs.declared.operators.BinaryOp.{BinaryOp}
use Rattle.heyvl_syntax.specs.declared.operators.UnaryOp.TheVariants as prefixes
use Rattle.heyvl_syntax.specs.declared.operators.UnaryOp.{UnaryOp}
use Rattle.heyvl_syntax.specs.declared.types.TypeName.TheVariants as names
use Rattle.heyvl_syntax.specs.declared.types.TypeName.{TypeName}
use Rattle.static_rules.specs.Literals.{integer, weight}
use Rattle.run_laws.specs.Bare.{bare_cond, bare_form, bare_term, nowhere}
use Rattle.std.proofs.Common.{Bool, List, None, Option, Some, [], ap, ap₂, false, refl, suc, true, ◌∙◌, ◌∷◌, ◌≡◌, ℕ}
use Rattle.std.specs.Prelude.{if◌then◌else◌, option_map, ◌&&◌, ◌==◌}
use Rattle.std.specs.Str.{bytes_eq}
use Rattle.typed_expressions.specs.LiteralValues.{is_written, literal_value}
use Rattle.typed_expressions.specs.Scopes.{Scope, find, with_local}
use Rattle.typed_expressions.specs.Table.{Meaning, binary, bound, bracket, choice, comparison, declarable, divisor, embedding, extended, factor, given, joined_numbers, literal, minus, numbers, quantified, quotient, selected, truths, unary, variable, variable_of}
use Rattle.typed_expressions.specs.TypedExpressions.{elaborate, operated}
use Rattle.typed_expressions.specs.Values.{condition, form, term}

-- ---- Parts without places

pub three_same : {A B C D : Type 0} (f : A → B → C → D) (a x : A) (b y : B) (c z : C) → a ≡ x → b ≡ y → c ≡ z → f a b c ≡ f x y z
three_same f a x b y c z e g h = ap (λ u. f u b c) e ∙ ap₂ (λ u w. f x u w) g h

mutual
  pub form_again : (f : Form) → bare_form (bare_form f) ≡ bare_form f
  form_again (Form.number v) = refl
  form_again (Form.variable x) = refl
  form_again (Form.sum a b) = ap₂ Form.sum (form_again a) (form_again b)
  form_again (Form.difference a b) = ap₂ Form.difference (form_again a) (form_again b)
  form_again (Form.cut a b) = ap₂ Form.cut (form_again a) (form_again b)
  form_again (Form.scale w a) = ap (λ x. Form.scale w x) (form_again a)
  form_again (Form.product a b s) = ap₂ (λ x y. Form.product x y nowhere) (form_again a) (form_again b)
  form_again (Form.min a b) = ap₂ Form.min (form_again a) (form_again b)
  form_again (Form.max a b) = ap₂ Form.max (form_again a) (form_again b)
  form_again (Form.imply a b) = ap₂ Form.imply (form_again a) (form_again b)
  form_again (Form.co_imply a b) = ap₂ Form.co_imply (form_again a) (form_again b)
  form_again (Form.validate a) = ap Form.validate (form_again a)
  form_again (Form.co_validate a) = ap Form.co_validate (form_again a)
  form_again (Form.embed g) = ap Form.embed (cond_again g)
  form_again (Form.iverson g) = ap Form.iverson (cond_again g)
  form_again (Form.select g a b) = three_same Form.select _ _ _ _ _ _ (cond_again g) (form_again a) (form_again b)
  form_again (Form.bind up x name ty a) = ap (λ y. Form.bind up x name ty y) (form_again a)

  pub cond_again : (g : Cond) → bare_cond (bare_cond g) ≡ bare_cond g
  cond_again (Cond.constant b) = refl
  cond_again (Cond.flag x) = refl
  cond_again (Cond.not g) = ap Cond.not (cond_again g)
  cond_again (Cond.and g h) = ap₂ Cond.and (cond_again g) (cond_again h)
  cond_again (Cond.or g h) = ap₂ Cond.or (cond_again g) (cond_again h)
  cond_again (Cond.same g h) = ap₂ Cond.same (cond_again g) (cond_again h)
  cond_again (Cond.le a b) = ap₂ Cond.le (form_again a) (form_again b)
  cond_again (Cond.lt a b) = ap₂ Cond.lt (form_again a) (form_again b)
  cond_again (Cond.equal a b) = ap₂ Cond.equal (form_again a) (form_again b)
  cond_again (Cond.ite g h k) = three_same Cond.ite _ _ _ _ _ _ (cond_again g) (cond_again h) (cond_again k)

-- ---- Meanings without places

abbrev pub bare_meaning : Meaning → Meaning
bare_meaning (Meaning.truth g) = Meaning.truth (bare_cond g)
bare_meaning (Meaning.number t f) = Meaning.number t (bare_form f)
bare_meaning Meaning.real = Meaning.real

abbrev pub bared : Option Meaning → Option Meaning
bared o = option_map bare_meaning o

given_bare : (o : Option Meaning) (f g : Meaning → Option Meaning) → ((x : Meaning) → f (bare_meaning x) ≡ bared (g x)) → given (bared o) f ≡ bared (given o g)
given_bare None f g h = refl
given_bare (Some x) f g h = h x

literal_bare : (n : Lit) → literal n ≡ bared (literal n)
literal_bare n = go (is_written n) ((literal_value n).den == 1)
  where
    go : (b c : Bool) → (if b then Some (Meaning.number (if c then uint else ureal) (Form.number (finite (literal_value n)))) else None) ≡ bared (if b then Some (Meaning.number (if c then uint else ureal) (Form.number (finite (literal_value n)))) else None)
    go true c = refl
    go false c = refl

variable_bare : (t : TypeName) (n : ℕ) → variable_of t n ≡ bare_meaning (variable_of t n)
variable_bare names.Bool n = refl
variable_bare _ n = refl

name_bare : (sc : Scope) (x : List ℕ) → option_map variable (find sc x) ≡ bared (option_map variable (find sc x))
name_bare [] x = refl
name_bare (e ∷ sc) x = go (bytes_eq x e.0) (name_bare sc x)
  where
    go : (b : Bool) → option_map variable (find sc x) ≡ bared (option_map variable (find sc x)) → option_map variable (if b then Some e.1 else find sc x) ≡ bared (option_map variable (if b then Some e.1 else find sc x))
    go true h = ap Some (variable_bare e.1.ty e.1.number)
    go false h = h

extended_bare : (b : Bool) (f : Form) → extended b (bare_form f) ≡ bared (extended b f)
extended_bare true f = refl
extended_bare false f = refl

bracket_bare : (x : Meaning) → bracket (bare_meaning x) ≡ bared (bracket x)
bracket_bare (Meaning.truth g) = refl
bracket_bare (Meaning.number t f) = refl
bracket_bare Meaning.real = refl

embedding_bare : (x : Meaning) → embedding (bare_meaning x) ≡ bared (embedding x)
embedding_bare (Meaning.truth g) = refl
embedding_bare (Meaning.number t f) = refl
embedding_bare Meaning.real = refl

unary_bare : (op : UnaryOp) (x : Meaning) → unary op (bare_meaning x) ≡ bared (unary op x)
unary_bare prefixes.Not (Meaning.truth g) = refl
unary_bare prefixes.Not (Meaning.number t f) = extended_bare (is_unsigned (Some t)) _
unary_bare prefixes.Not Meaning.real = refl
unary_bare prefixes.Minus (Meaning.truth g) = refl
unary_bare prefixes.Minus (Meaning.number int f) = refl
unary_bare prefixes.Minus (Meaning.number uint f) = refl
unary_bare prefixes.Minus (Meaning.number ureal f) = refl
unary_bare prefixes.Minus (Meaning.number eureal f) = refl
unary_bare prefixes.Minus Meaning.real = refl
unary_bare prefixes.Tilde (Meaning.truth g) = refl
unary_bare prefixes.Tilde (Meaning.number t f) = extended_bare (is_unsigned (Some t)) _
unary_bare prefixes.Tilde Meaning.real = refl

truths_bare : (op : BinaryOp) (g h : Cond) → truths op (bare_cond g) (bare_cond h) ≡ bared (truths op g h)
truths_bare ops.Same g h = refl
truths_bare _ g h = refl

minus_bare : (t : NumberType) (f k : Form) → minus t (bare_form f) (bare_form k) ≡ bared (minus t f k)
minus_bare int f k = refl
minus_bare uint f k = refl
minus_bare ureal f k = refl
minus_bare eureal f k = refl

comparison_bare : (t : NumberType) (g : Cond) → comparison t (bare_cond g) ≡ bared (comparison t g)
comparison_bare int g = refl
comparison_bare uint g = refl
comparison_bare ureal g = refl
comparison_bare eureal g = refl

module _ (s : Span) (f k : Form) where
  joined_bare : (op : BinaryOp) (t : NumberType) → joined_numbers op no_place (bare_form f) (bare_form k) t ≡ bared (joined_numbers op s f k t)
  joined_bare ops.Minus t = minus_bare t f k
  joined_bare ops.Same t = comparison_bare t _
  joined_bare ops.Differ t = comparison_bare t _
  joined_bare ops.Less t = comparison_bare t _
  joined_bare ops.AtMost t = comparison_bare t _
  joined_bare ops.More t = comparison_bare t _
  joined_bare ops.AtLeast t = comparison_bare t _
  joined_bare ops.Plus t = refl
  joined_bare _ t = refl

  of_join : (op : BinaryOp) (o : Option NumberType) → given o (joined_numbers op no_place (bare_form f) (bare_form k)) ≡ bared (given o (joined_numbers op s f k))
  of_join op None = refl
  of_join op (Some t) = joined_bare op t

  numbers_bare : (op : BinaryOp) (t u : NumberType) → numbers op no_place t (bare_form f) u (bare_form k) ≡ bared (numbers op s t f u k)
  numbers_bare ops.Imply t u = extended_bare (is_unsigned (Some t) && is_unsigned (Some u)) _
  numbers_bare ops.CoImply t u = extended_bare (is_unsigned (Some t) && is_unsigned (Some u)) _
  numbers_bare ops.Plus t u = of_join ops.Plus (join t u)
  numbers_bare ops.Star t u = of_join ops.Star (join t u)
  numbers_bare ops.Minus t u = of_join ops.Minus (join t u)
  numbers_bare ops.Same t u = of_join ops.Same (join t u)
  numbers_bare ops.Differ t u = of_join ops.Differ (join t u)
  numbers_bare ops.Less t u = of_join ops.Less (join t u)
  numbers_bare ops.AtMost t u = of_join ops.AtMost (join t u)
  numbers_bare ops.More t u = of_join ops.More (join t u)
  numbers_bare ops.AtLeast t u = of_join ops.AtLeast (join t u)
  numbers_bare ops.Cap t u = of_join ops.Cap (join t u)
  numbers_bare ops.Cup t u = of_join ops.Cup (join t u)
  numbers_bare ops.And t u = of_join ops.And (join t u)
  numbers_bare ops.Or t u = of_join ops.Or (join t u)
  numbers_bare ops.Slash t u = of_join ops.Slash (join t u)

binary_bare : (op : BinaryOp) (s : Span) (x y : Meaning) → binary op no_place (bare_meaning x) (bare_meaning y) ≡ bared (binary op s x y)
binary_bare op s (Meaning.truth g) (Meaning.truth h) = truths_bare op g h
binary_bare op s (Meaning.truth g) (Meaning.number u k) = refl
binary_bare op s (Meaning.truth g) Meaning.real = refl
binary_bare op s (Meaning.number t f) (Meaning.truth h) = refl
binary_bare op s (Meaning.number t f) (Meaning.number u k) = numbers_bare s f k op t u
binary_bare op s (Meaning.number t f) Meaning.real = refl
binary_bare op s Meaning.real y = refl

quotient_bare : (q : Rational) (x : Meaning) → quotient q (bare_meaning x) ≡ bared (quotient q x)
quotient_bare q (Meaning.truth g) = refl
quotient_bare q (Meaning.number int f) = refl
quotient_bare q (Meaning.number uint f) = refl
quotient_bare q (Meaning.number ureal f) = refl
quotient_bare q (Meaning.number eureal f) = refl
quotient_bare q Meaning.real = refl

divisor_bare : (e : Expression) → divisor (bare_expression e) ≡ divisor e
divisor_bare (Expression.number n s) = refl
divisor_bare _ = refl

operated_bare : (op : BinaryOp) (s : Span) (b : Expression) (x y : Meaning) → operated op no_place (bare_expression b) (bare_meaning x) (bare_meaning y) ≡ bared (operated op s b x y)
operated_bare ops.Slash s b x y = ap (λ d. quotient (factor d) (bare_meaning x)) (divisor_bare b) ∙ quotient_bare (factor (divisor b)) x
operated_bare ops.Plus s b x y = binary_bare ops.Plus s x y
operated_bare ops.Star s b x y = binary_bare ops.Star s x y
operated_bare ops.Minus s b x y = binary_bare ops.Minus s x y
operated_bare ops.Same s b x y = binary_bare ops.Same s x y
operated_bare ops.Differ s b x y = binary_bare ops.Differ s x y
operated_bare ops.Less s b x y = binary_bare ops.Less s x y
operated_bare ops.AtMost s b x y = binary_bare ops.AtMost s x y
operated_bare ops.More s b x y = binary_bare ops.More s x y
operated_bare ops.AtLeast s b x y = binary_bare ops.AtLeast s x y
operated_bare ops.Cap s b x y = binary_bare ops.Cap s x y
operated_bare ops.Cup s b x y = binary_bare ops.Cup s x y
operated_bare ops.And s b x y = binary_bare ops.And s x y
operated_bare ops.Or s b x y = binary_bare ops.Or s x y
operated_bare ops.Imply s b x y = binary_bare ops.Imply s x y
operated_bare ops.CoImply s b x y = binary_bare ops.CoImply s x y

select_bare : (g : Cond) (f k : Form) (o : Option NumberType) → option_map (λ j. Meaning.number j (Form.select (bare_cond g) (bare_form f) (bare_form k))) o ≡ bared (option_map (λ j. Meaning.number j (Form.select g f k)) o)
select_bare g f k None = refl
select_bare g f k (Some j) = refl

selected_bare : (g : Cond) (x y : Meaning) → selected (bare_cond g) (bare_meaning x) (bare_meaning y) ≡ bared (selected g x y)
selected_bare g (Meaning.truth h) (Meaning.truth k) = refl
selected_bare g (Meaning.truth h) (Meaning.number u b) = refl
selected_bare g (Meaning.truth h) Meaning.real = refl
selected_bare g (Meaning.number t a) (Meaning.truth k) = refl
selected_bare g (Meaning.number t a) (Meaning.number u b) = select_bare g a b (join t u)
selected_bare g (Meaning.number t a) Meaning.real = refl
selected_bare g Meaning.real y = refl

choice_bare : (x y z : Meaning) → choice (bare_meaning x) (bare_meaning y) (bare_meaning z) ≡ bared (choice x y z)
choice_bare (Meaning.truth g) y z = selected_bare g y z
choice_bare (Meaning.number t a) y z = refl
choice_bare Meaning.real y z = refl

quantified_bare : (up : Bool) (n : ℕ) (t : TypeName) (x : Meaning) → quantified up n t (bare_meaning x) ≡ bared (quantified up n t x)
quantified_bare up n t x = go (declarable t) x
  where
    go : (o : Option Ty) (x : Meaning) → given o (λ ty. bound up n ty (bare_meaning x)) ≡ bared (given o (λ ty. bound up n ty x))
    go None x = refl
    go (Some ty) (Meaning.truth g) = refl
    go (Some ty) (Meaning.number t f) = extended_bare (is_unsigned (Some t)) _
    go (Some ty) Meaning.real = refl

-- ---- Expressions

pub elaborate_bare : (e : Expression) (n : ℕ) (sc : Scope) → elaborate n sc (bare_expression e) ≡ bared (elaborate n sc e)
elaborate_bare (Expression.number v s) n sc = literal_bare v
elaborate_bare (Expression.truth b s) n sc = refl
elaborate_bare (Expression.infinity s) n sc = refl
elaborate_bare (Expression.name x s) n sc = name_bare sc x
elaborate_bare (Expression.group a s) n sc = elaborate_bare a n sc
elaborate_bare (Expression.bracket a s) n sc = ap (λ o. given o bracket) (elaborate_bare a n sc) ∙ given_bare (elaborate n sc a) bracket bracket bracket_bare
elaborate_bare (Expression.embed a s) n sc = ap (λ o. given o embedding) (elaborate_bare a n sc) ∙ given_bare (elaborate n sc a) embedding embedding embedding_bare
elaborate_bare (Expression.unary op a s) n sc = ap (λ o. given o (unary op)) (elaborate_bare a n sc) ∙ given_bare (elaborate n sc a) (unary op) (unary op) (unary_bare op)
elaborate_bare (Expression.binary op a b s) n sc =
    ap₂ (λ o p. given o (λ x. given p (operated op no_place (bare_expression b) x))) (elaborate_bare a n sc) (elaborate_bare b n sc)
    ∙ given_bare (elaborate n sc a) (λ x. given (bared (elaborate n sc b)) (operated op no_place (bare_expression b) x)) (λ x. given (elaborate n sc b) (operated op s b x))
    (λ x. given_bare (elaborate n sc b) (operated op no_place (bare_expression b) (bare_meaning x)) (operated op s b x) (operated_bare op s b x))
elaborate_bare (Expression.choice a b c s) n sc =
    three_same (λ o p q. given o (λ x. given p (λ y. given q (choice x y)))) _ _ _ _ _ _ (elaborate_bare a n sc) (elaborate_bare b n sc) (elaborate_bare c n sc)
    ∙ given_bare (elaborate n sc a) (λ x. given (bared (elaborate n sc b)) (λ y. given (bared (elaborate n sc c)) (choice x y))) (λ x. given (elaborate n sc b) (λ y. given (elaborate n sc c) (choice x y)))
    (λ x. given_bare (elaborate n sc b) (λ y. given (bared (elaborate n sc c)) (choice (bare_meaning x) y)) (λ y. given (elaborate n sc c) (choice x y))
    (λ y. given_bare (elaborate n sc c) (choice (bare_meaning x) (bare_meaning y)) (choice x y) (choice_bare x y)))
elaborate_bare (Expression.bound up x t a s) n sc = ap (λ o. given o (quantified up n t)) (elaborate_bare a (suc n) (with_local x (record { number = n; ty = t }) sc)) ∙ given_bare (elaborate (suc n) (with_local x (record { number = n; ty = t }) sc) a) (quantified up n t) (quantified up n t) (quantified_bare up n t)

condition_of : (o : Option Meaning) → bare_cond (condition (bared o)) ≡ bare_cond (condition o)
condition_of None = refl
condition_of (Some (Meaning.truth g)) = cond_again g
condition_of (Some (Meaning.number t f)) = refl
condition_of (Some Meaning.real) = refl

form_of : (o : Option Meaning) → bare_form (form (bared o)) ≡ bare_form (form o)
form_of None = refl
form_of (Some (Meaning.truth g)) = refl
form_of (Some (Meaning.number t f)) = form_again f
form_of (Some Meaning.real) = refl

term_of : (o : Option Meaning) → bare_term (term (bared o)) ≡ bare_term (term o)
term_of None = refl
term_of (Some (Meaning.truth g)) = ap Term.truth (cond_again g)
term_of (Some (Meaning.number t f)) = ap Term.number (form_again f)
term_of (Some Meaning.real) = refl

module _ (e : Expression) (n : ℕ) (sc : Scope) where
  pub bare_condition : bare_cond (condition (elaborate n sc (bare_expression e))) ≡ bare_cond (condition (elaborate n sc e))
  bare_condition = ap (λ o. bare_cond (condition o)) (elaborate_bare e n sc) ∙ condition_of (elaborate n sc e)

  pub bare_formula : bare_form (form (elaborate n sc (bare_expression e))) ≡ bare_form (form (elaborate n sc e))
  bare_formula = ap (λ o. bare_form (form o)) (elaborate_bare e n sc) ∙ form_of (elaborate n sc e)

  pub bare_value : bare_term (term (elaborate n sc (bare_expression e))) ≡ bare_term (term (elaborate n sc e))
  bare_value = ap (λ o. bare_term (term o)) (elaborate_bare e n sc) ∙ term_of (elaborate n sc e)

-- ---- Literals

pub weight_bare : (e : Expression) → weight (bare_expression e) ≡ weight e
weight_bare (Expression.number n s) = refl
weight_bare (Expression.binary BinaryOp.Slash (Expression.number n a) (Expression.number m b) s) = refl
weight_bare _ = refl

pub integer_bare : (e : Expression) → integer (bare_expression e) ≡ integer e
integer_bare (Expression.number n s) = refl
integer_bare (Expression.unary UnaryOp.Minus (Expression.number n a) s) = refl
integer_bare _ = refl
