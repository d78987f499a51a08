-- The findings in an expression depend on the names and types of variables, not on their numbers.
use Rattle.heylo_formula.specs.Formula.{Cond, Form}
use Rattle.heylo_formula.specs.Typing.NumberType.{eureal, int, uint, ureal}
use Rattle.heylo_formula.specs.Typing.{NumberType, is_unsigned, join}
use Rattle.heylo_formula.specs.declared.types.Ty.{Ty}
use Rattle.heyvl_num.specs.Rational.{Rational}
use Rattle.heyvl_num.specs.Value.Value.{infinite}
use Rattle.heyvl_places.specs.declared.spans.Span.{Span}
use Rattle.heyvl_syntax.specs.Expressions.{Expression}
use Rattle.heyvl_syntax.specs.declared.operators.BinaryOp.{BinaryOp}
use Rattle.heyvl_syntax.specs.declared.operators.UnaryOp.{UnaryOp}
use Rattle.heyvl_syntax.specs.declared.types.TypeName.{TypeName}
use Rattle.std.proofs.Common.{Bool, Err, List, None, Ok, Option, Some, [], ap, false, option_map, refl, suc, sym, true, ◌++◌, ◌∙◌, ◌≡◌, ◌∷◌, ℕ}
use Rattle.std.specs.Option.{is_none, is_some}
use Rattle.std.specs.Prelude.{Result, if◌then◌else◌, not}
use Rattle.std.specs.Str.{bytes_eq}
use Rattle.typed_expressions.proofs.exported.Parts.{stops, stops_at}
use Rattle.typed_expressions.specs.Answers.{Gives}
use Rattle.typed_expressions.specs.Findings.{Finding, at}
use Rattle.typed_expressions.specs.Scopes.{Scope, find, is_visible, with_local}
use Rattle.typed_expressions.specs.Table.{Meaning, binary, bound, bracket, choice, comparison, declarable, divisor, embedding, extended, factor, given, joined_numbers, meets, minus, numbers, quantified, quotient, truths, unary, variable, variable_of}
use Rattle.typed_expressions.specs.TypedExpressions.{divides_wrong, elaborate, findings, is_given_twice, is_misplaced, is_unknown, lacks, operated, own, place}
use Rattle.typed_expressions.specs.Views.{read}
use Rattle.typed_expressions.specs.declared.demands.Demand.{Demand}
use Rattle.typed_expressions.specs.declared.demands.Front.{Front}
use Rattle.typed_expressions.specs.declared.meanings.Meaning as M
use Rattle.typed_expressions.specs.declared.scopes.Local.{Local}
use Rattle.typed_expressions.specs.declared.stops.ResolveStop.{ResolveStop}

-- ---- Types

-- An elaborated expression reduced to its type: the same formula for all of one type.
abbrev kind : Meaning → Meaning
kind (Meaning.truth g) = Meaning.truth (Cond.constant true)
kind (Meaning.number t a) = Meaning.number t (Form.number infinite)
kind Meaning.real = Meaning.real

abbrev kinds : Option Meaning → Option Meaning
kinds o = option_map kind o

same : {A : Type 0} (x y : A) → Some x ≡ Some y → x ≡ y
same x y e = cc

through : (f : Meaning → Option Meaning) → ((x : Meaning) → kinds (f x) ≡ kinds (f (kind x))) → (x y : Meaning) → kind x ≡ kind y → kinds (f x) ≡ kinds (f y)
through f h x y e = h x ∙ ap (λ z. kinds (f z)) e ∙ sym (h y)

given_kinds : (o p : Option Meaning) (f g : Meaning → Option Meaning) → kinds o ≡ kinds p → ((x y : Meaning) → kind x ≡ kind y → kinds (f x) ≡ kinds (g y)) → kinds (given o f) ≡ kinds (given p g)
given_kinds None None f g e h = refl
given_kinds None (Some y) f g e h = absurd (cc)
given_kinds (Some x) None f g e h = absurd (cc)
given_kinds (Some x) (Some y) f g e h = h x y (same (kind x) (kind y) e)

-- ---- The table

variable_kind : (t : TypeName) (n m : ℕ) → kind (variable_of t n) ≡ kind (variable_of t m)
variable_kind TypeName.Bool n m = refl
variable_kind TypeName.Int n m = refl
variable_kind TypeName.UInt n m = refl
variable_kind TypeName.UReal n m = refl
variable_kind TypeName.EUReal n m = refl
variable_kind TypeName.Real n m = refl

extended_kind : (b : Bool) (a c : Form) → kinds (extended b a) ≡ kinds (extended b c)
extended_kind true a c = refl
extended_kind false a c = refl

bracket_kind : (x : Meaning) → kinds (bracket x) ≡ kinds (bracket (kind x))
bracket_kind (Meaning.truth g) = refl
bracket_kind (Meaning.number t a) = refl
bracket_kind Meaning.real = refl

embedding_kind : (x : Meaning) → kinds (embedding x) ≡ kinds (embedding (kind x))
embedding_kind (Meaning.truth g) = refl
embedding_kind (Meaning.number t a) = refl
embedding_kind Meaning.real = refl

unary_kind : (op : UnaryOp) (x : Meaning) → kinds (unary op x) ≡ kinds (unary op (kind x))
unary_kind UnaryOp.Not (Meaning.truth g) = refl
unary_kind UnaryOp.Not (Meaning.number t a) = extended_kind (is_unsigned (Some t)) _ _
unary_kind UnaryOp.Not Meaning.real = refl
unary_kind UnaryOp.Minus (Meaning.truth g) = refl
unary_kind UnaryOp.Minus (Meaning.number int a) = refl
unary_kind UnaryOp.Minus (Meaning.number uint a) = refl
unary_kind UnaryOp.Minus (Meaning.number ureal a) = refl
unary_kind UnaryOp.Minus (Meaning.number eureal a) = refl
unary_kind UnaryOp.Minus Meaning.real = refl
unary_kind UnaryOp.Tilde (Meaning.truth g) = refl
unary_kind UnaryOp.Tilde (Meaning.number t a) = extended_kind (is_unsigned (Some t)) _ _
unary_kind UnaryOp.Tilde Meaning.real = refl

quotient_kind : (q : Rational) (x : Meaning) → kinds (quotient q x) ≡ kinds (quotient q (kind x))
quotient_kind q (Meaning.number int a) = refl
quotient_kind q (Meaning.number uint a) = refl
quotient_kind q (Meaning.number ureal a) = refl
quotient_kind q (Meaning.number eureal a) = refl
quotient_kind q (Meaning.truth g) = refl
quotient_kind q Meaning.real = refl

minus_kind : (t : NumberType) (a b c d : Form) → kinds (minus t a b) ≡ kinds (minus t c d)
minus_kind int a b c d = refl
minus_kind uint a b c d = refl
minus_kind ureal a b c d = refl
minus_kind eureal a b c d = refl

comparison_kind : (t : NumberType) (g h : Cond) → kinds (comparison t g) ≡ kinds (comparison t h)
comparison_kind int g h = refl
comparison_kind uint g h = refl
comparison_kind ureal g h = refl
comparison_kind eureal g h = refl

module _ (s : Span) (a b c d : Form) where
  joined_kind : (op : BinaryOp) (t : NumberType) → kinds (joined_numbers op s a b t) ≡ kinds (joined_numbers op s c d t)
  joined_kind BinaryOp.Plus t = refl
  joined_kind BinaryOp.Star t = refl
  joined_kind BinaryOp.Minus t = minus_kind t a b c d
  joined_kind BinaryOp.Same t = comparison_kind t _ _
  joined_kind BinaryOp.Differ t = comparison_kind t _ _
  joined_kind BinaryOp.Less t = comparison_kind t _ _
  joined_kind BinaryOp.AtMost t = comparison_kind t _ _
  joined_kind BinaryOp.More t = comparison_kind t _ _
  joined_kind BinaryOp.AtLeast t = comparison_kind t _ _
  joined_kind BinaryOp.Cap t = refl
  joined_kind BinaryOp.Cup t = refl
  joined_kind BinaryOp.And t = refl
  joined_kind BinaryOp.Or t = refl
  joined_kind BinaryOp.Imply t = refl
  joined_kind BinaryOp.CoImply t = refl
  joined_kind BinaryOp.Slash t = refl

  join_kind : (op : BinaryOp) (j : Option NumberType) → kinds (given j (joined_numbers op s a b)) ≡ kinds (given j (joined_numbers op s c d))
  join_kind op None = refl
  join_kind op (Some t) = joined_kind op t

  numbers_kind : (op : BinaryOp) (t u : NumberType) → kinds (numbers op s t a u b) ≡ kinds (numbers op s t c u d)
  numbers_kind BinaryOp.Imply t u = extended_kind _ _ _
  numbers_kind BinaryOp.CoImply t u = extended_kind _ _ _
  numbers_kind BinaryOp.Plus t u = join_kind BinaryOp.Plus (join t u)
  numbers_kind BinaryOp.Star t u = join_kind BinaryOp.Star (join t u)
  numbers_kind BinaryOp.Minus t u = join_kind BinaryOp.Minus (join t u)
  numbers_kind BinaryOp.Same t u = join_kind BinaryOp.Same (join t u)
  numbers_kind BinaryOp.Differ t u = join_kind BinaryOp.Differ (join t u)
  numbers_kind BinaryOp.Less t u = join_kind BinaryOp.Less (join t u)
  numbers_kind BinaryOp.AtMost t u = join_kind BinaryOp.AtMost (join t u)
  numbers_kind BinaryOp.More t u = join_kind BinaryOp.More (join t u)
  numbers_kind BinaryOp.AtLeast t u = join_kind BinaryOp.AtLeast (join t u)
  numbers_kind BinaryOp.Cap t u = join_kind BinaryOp.Cap (join t u)
  numbers_kind BinaryOp.Cup t u = join_kind BinaryOp.Cup (join t u)
  numbers_kind BinaryOp.And t u = join_kind BinaryOp.And (join t u)
  numbers_kind BinaryOp.Or t u = join_kind BinaryOp.Or (join t u)
  numbers_kind BinaryOp.Slash t u = join_kind BinaryOp.Slash (join t u)

truths_kind : (op : BinaryOp) (g h i k : Cond) → kinds (truths op g h) ≡ kinds (truths op i k)
truths_kind BinaryOp.Same g h i k = refl
truths_kind BinaryOp.Differ g h i k = refl
truths_kind BinaryOp.And g h i k = refl
truths_kind BinaryOp.Or g h i k = refl
truths_kind BinaryOp.Imply g h i k = refl
truths_kind BinaryOp.CoImply g h i k = refl
truths_kind BinaryOp.Cup g h i k = refl
truths_kind BinaryOp.Cap g h i k = refl
truths_kind BinaryOp.Less g h i k = refl
truths_kind BinaryOp.AtMost g h i k = refl
truths_kind BinaryOp.More g h i k = refl
truths_kind BinaryOp.AtLeast g h i k = refl
truths_kind BinaryOp.Plus g h i k = refl
truths_kind BinaryOp.Minus g h i k = refl
truths_kind BinaryOp.Star g h i k = refl
truths_kind BinaryOp.Slash g h i k = refl

binary_kind : (op : BinaryOp) (s : Span) (x y : Meaning) → kinds (binary op s x y) ≡ kinds (binary op s (kind x) (kind y))
binary_kind op s (Meaning.truth g) (Meaning.truth h) = truths_kind op _ _ _ _
binary_kind op s (Meaning.truth g) (Meaning.number u b) = refl
binary_kind op s (Meaning.truth g) Meaning.real = refl
binary_kind op s (Meaning.number t a) (Meaning.truth h) = refl
binary_kind op s (Meaning.number t a) (Meaning.number u b) = numbers_kind s _ _ _ _ op t u
binary_kind op s (Meaning.number t a) Meaning.real = refl
binary_kind op s Meaning.real y = refl

operated_kind : (op : BinaryOp) (s : Span) (e : Expression) (x y : Meaning) → kinds (operated op s e x y) ≡ kinds (operated op s e (kind x) (kind y))
operated_kind BinaryOp.Slash s e x y = quotient_kind (factor (divisor e)) x
operated_kind BinaryOp.Plus s e x y = binary_kind BinaryOp.Plus s x y
operated_kind BinaryOp.Star s e x y = binary_kind BinaryOp.Star s x y
operated_kind BinaryOp.Minus s e x y = binary_kind BinaryOp.Minus s x y
operated_kind BinaryOp.Same s e x y = binary_kind BinaryOp.Same s x y
operated_kind BinaryOp.Differ s e x y = binary_kind BinaryOp.Differ s x y
operated_kind BinaryOp.Less s e x y = binary_kind BinaryOp.Less s x y
operated_kind BinaryOp.AtMost s e x y = binary_kind BinaryOp.AtMost s x y
operated_kind BinaryOp.More s e x y = binary_kind BinaryOp.More s x y
operated_kind BinaryOp.AtLeast s e x y = binary_kind BinaryOp.AtLeast s x y
operated_kind BinaryOp.Cap s e x y = binary_kind BinaryOp.Cap s x y
operated_kind BinaryOp.Cup s e x y = binary_kind BinaryOp.Cup s x y
operated_kind BinaryOp.And s e x y = binary_kind BinaryOp.And s x y
operated_kind BinaryOp.Or s e x y = binary_kind BinaryOp.Or s x y
operated_kind BinaryOp.Imply s e x y = binary_kind BinaryOp.Imply s x y
operated_kind BinaryOp.CoImply s e x y = binary_kind BinaryOp.CoImply s x y

operated_kinds : (op : BinaryOp) (s : Span) (e : Expression) (x y z w : Meaning) → kind x ≡ kind y → kind z ≡ kind w → kinds (operated op s e x z) ≡ kinds (operated op s e y w)
operated_kinds op s e x y z w h k =
    operated_kind op s e x z ∙ ap (λ v. kinds (operated op s e v (kind z))) h ∙ ap (λ v. kinds (operated op s e (kind y) v)) k ∙ sym (operated_kind op s e y w)

select_kind : (g h : Cond) (a b c d : Form) (j : Option NumberType) → kinds (option_map (λ t. Meaning.number t (Form.select g a b)) j) ≡ kinds (option_map (λ t. Meaning.number t (Form.select h c d)) j)
select_kind g h a b c d None = refl
select_kind g h a b c d (Some t) = refl

choice_kind : (x y z : Meaning) → kinds (choice x y z) ≡ kinds (choice (kind x) (kind y) (kind z))
choice_kind (Meaning.truth g) (Meaning.truth h) (Meaning.truth k) = refl
choice_kind (Meaning.truth g) (Meaning.number t a) (Meaning.number u b) = select_kind _ _ _ _ _ _ (join t u)
choice_kind (Meaning.truth g) (Meaning.truth h) (Meaning.number u b) = refl
choice_kind (Meaning.truth g) (Meaning.truth h) Meaning.real = refl
choice_kind (Meaning.truth g) (Meaning.number t a) (Meaning.truth k) = refl
choice_kind (Meaning.truth g) (Meaning.number t a) Meaning.real = refl
choice_kind (Meaning.truth g) Meaning.real z = refl
choice_kind (Meaning.number t a) y z = refl
choice_kind Meaning.real y z = refl

choice_kinds : (x y z u v w : Meaning) → kind x ≡ kind u → kind y ≡ kind v → kind z ≡ kind w → kinds (choice x y z) ≡ kinds (choice u v w)
choice_kinds x y z u v w h i k =
    choice_kind x y z ∙ ap (λ r. kinds (choice r (kind y) (kind z))) h ∙ ap (λ r. kinds (choice (kind u) r (kind z))) i ∙ ap (λ r. kinds (choice (kind u) (kind v) r)) k ∙ sym (choice_kind u v w)

bound_kind : (up : Bool) (n m : ℕ) (ty : Ty) (x : Meaning) → kinds (bound up n ty x) ≡ kinds (bound up m ty (kind x))
bound_kind up n m ty (Meaning.number t a) = extended_kind (is_unsigned (Some t)) _ _
bound_kind up n m ty (Meaning.truth g) = refl
bound_kind up n m ty Meaning.real = refl

quantified_kind : (up : Bool) (n m : ℕ) (o : Option Ty) (x : Meaning) → kinds (given o (λ ty. bound up n ty x)) ≡ kinds (given o (λ ty. bound up m ty (kind x)))
quantified_kind up n m None x = refl
quantified_kind up n m (Some ty) x = bound_kind up n m ty x

quantified_kinds : (up : Bool) (n m : ℕ) (t : TypeName) (x y : Meaning) → kind x ≡ kind y → kinds (quantified up n t x) ≡ kinds (quantified up m t y)
quantified_kinds up n m t x y e = quantified_kind up n m (declarable t) x ∙ ap (λ z. kinds (quantified up m t z)) e ∙ sym (quantified_kind up m m (declarable t) y)

-- ---- Scopes

-- Scopes with the same names and types.
abbrev Alike : Scope → Scope → Type 0
Alike [] [] = Unit {0}
Alike [] (f ∷ fs) = ⊥
Alike (e ∷ es) [] = ⊥
Alike (e ∷ es) (f ∷ fs) = (e.0 ≡ f.0) × ((e.1.ty ≡ f.1.ty) × Alike es fs)

pub alike : (sc : Scope) → Alike sc sc
alike [] = tt
alike (e ∷ es) = (refl, (refl, alike es))

abbrev shown : List ℕ → ℕ → TypeName → Scope → Scope
shown x n t sc = with_local x (record { number = n; ty = t }) sc

alike_inside : (x : List ℕ) (n m : ℕ) (t : TypeName) (sc tc : Scope) → Alike sc tc → Alike (shown x n t sc) (shown x m t tc)
alike_inside x n m t [] [] h = (refl, (refl, tt))
alike_inside x n m t [] (f ∷ fs) h = absurd h
alike_inside x n m t (e ∷ es) [] h = absurd h
alike_inside x n m t (e ∷ es) (f ∷ fs) h = go (bytes_eq x e.0) (bytes_eq x f.0) (ap (bytes_eq x) h.0) (alike_inside x n m t es fs h.1.1)
  where
    go : (b c : Bool) → b ≡ c → Alike (shown x n t es) (shown x m t fs)
        → Alike (if b then (e.0, record { number = n; ty = t }) ∷ es else e ∷ shown x n t es) (if c then (f.0, record { number = m; ty = t }) ∷ fs else f ∷ shown x m t fs)
    go true true i r = (h.0, (refl, h.1.1))
    go true false i r = absurd (cc)
    go false true i r = absurd (cc)
    go false false i r = (h.0, (h.1.0, r))

abbrev types : Option Local → Option TypeName
types o = option_map (λ l. l.ty) o

found_alike : (x : List ℕ) (sc tc : Scope) → Alike sc tc → types (find sc x) ≡ types (find tc x)
found_alike x [] [] h = refl
found_alike x [] (f ∷ fs) h = absurd h
found_alike x (e ∷ es) [] h = absurd h
found_alike x (e ∷ es) (f ∷ fs) h = go (bytes_eq x e.0) (bytes_eq x f.0) (ap (bytes_eq x) h.0) (found_alike x es fs h.1.1)
  where
    go : (b c : Bool) → b ≡ c → types (find es x) ≡ types (find fs x) → types (if b then Some e.1 else find es x) ≡ types (if c then Some f.1 else find fs x)
    go true true i r = ap Some h.1.0
    go true false i r = absurd (cc)
    go false true i r = absurd (cc)
    go false false i r = r

-- ---- Elaborated expressions

named_kinds : (o p : Option Local) → types o ≡ types p → kinds (option_map variable o) ≡ kinds (option_map variable p)
named_kinds None None e = refl
named_kinds None (Some l) e = absurd (cc)
named_kinds (Some l) None e = absurd (cc)
named_kinds (Some l) (Some k) e = ap Some (variable_kind l.ty l.number k.number ∙ ap (λ t. kind (variable_of t k.number)) (same l.ty k.ty e))

elaborate_kinds : (e : Expression) (n m : ℕ) (sc tc : Scope) → Alike sc tc → kinds (elaborate n sc e) ≡ kinds (elaborate m tc e)
elaborate_kinds (Expression.number v s) n m sc tc h = refl
elaborate_kinds (Expression.truth b s) n m sc tc h = refl
elaborate_kinds (Expression.infinity s) n m sc tc h = refl
elaborate_kinds (Expression.name x s) n m sc tc h = named_kinds (find sc x) (find tc x) (found_alike x sc tc h)
elaborate_kinds (Expression.group a s) n m sc tc h = elaborate_kinds a n m sc tc h
elaborate_kinds (Expression.bracket a s) n m sc tc h = given_kinds (elaborate n sc a) (elaborate m tc a) bracket bracket (elaborate_kinds a n m sc tc h) (through bracket bracket_kind)
elaborate_kinds (Expression.embed a s) n m sc tc h = given_kinds (elaborate n sc a) (elaborate m tc a) embedding embedding (elaborate_kinds a n m sc tc h) (through embedding embedding_kind)
elaborate_kinds (Expression.unary op a s) n m sc tc h = given_kinds (elaborate n sc a) (elaborate m tc a) (unary op) (unary op) (elaborate_kinds a n m sc tc h) (through (unary op) (unary_kind op))
elaborate_kinds (Expression.binary op a b s) n m sc tc h =
    given_kinds (elaborate n sc a) (elaborate m tc a) (λ x. given (elaborate n sc b) (operated op s b x)) (λ x. given (elaborate m tc b) (operated op s b x)) (elaborate_kinds a n m sc tc h)
    (λ x y i. given_kinds (elaborate n sc b) (elaborate m tc b) (operated op s b x) (operated op s b y) (elaborate_kinds b n m sc tc h) (λ z w k. operated_kinds op s b x y z w i k))
elaborate_kinds (Expression.choice a b c s) n m sc tc h =
    given_kinds (elaborate n sc a) (elaborate m tc a) (λ x. given (elaborate n sc b) (λ y. given (elaborate n sc c) (choice x y))) (λ x. given (elaborate m tc b) (λ y. given (elaborate m tc c) (choice x y))) (elaborate_kinds a n m sc tc h)
    (λ x u i. given_kinds (elaborate n sc b) (elaborate m tc b) (λ y. given (elaborate n sc c) (choice x y)) (λ y. given (elaborate m tc c) (choice u y)) (elaborate_kinds b n m sc tc h)
    (λ y v k. given_kinds (elaborate n sc c) (elaborate m tc c) (choice x y) (choice u v) (elaborate_kinds c n m sc tc h) (λ z w l. choice_kinds x y z u v w i k l)))
elaborate_kinds (Expression.bound up x t a s) n m sc tc h =
    given_kinds (elaborate (suc n) (shown x n t sc) a) (elaborate (suc m) (shown x m t tc) a) (quantified up n t) (quantified up m t)
    (elaborate_kinds a (suc n) (suc m) (shown x n t sc) (shown x m t tc) (alike_inside x n m t sc tc h)) (λ y z i. quantified_kinds up n m t y z i)

-- ---- Findings

meets_kind : (d : Demand) (x : Meaning) → meets d x ≡ meets d (kind x)
meets_kind Demand.Any x = refl
meets_kind Demand.Truth (Meaning.truth g) = refl
meets_kind Demand.Truth (Meaning.number t a) = refl
meets_kind Demand.Truth Meaning.real = refl
meets_kind Demand.Formula (Meaning.truth g) = refl
meets_kind Demand.Formula (Meaning.number t a) = refl
meets_kind Demand.Formula Meaning.real = refl

pub lacks_alike : (d : Demand) (o p : Option Meaning) → kinds o ≡ kinds p → lacks d o ≡ lacks d p
lacks_alike d None None e = refl
lacks_alike d None (Some y) e = absurd (cc)
lacks_alike d (Some x) None e = absurd (cc)
lacks_alike d (Some x) (Some y) e = ap not (meets_kind d x ∙ ap (meets d) (same (kind x) (kind y) e) ∙ sym (meets_kind d y))

none_alike : (o p : Option Local) → types o ≡ types p → is_none o ≡ is_none p
none_alike None None e = refl
none_alike None (Some l) e = absurd (cc)
none_alike (Some l) None e = absurd (cc)
none_alike (Some l) (Some k) e = refl

some_alike : (o p : Option Local) → types o ≡ types p → is_some o ≡ is_some p
some_alike None None e = refl
some_alike None (Some l) e = absurd (cc)
some_alike (Some l) None e = absurd (cc)
some_alike (Some l) (Some k) e = refl

unknown_alike : (e : Expression) (sc tc : Scope) → Alike sc tc → is_unknown sc e ≡ is_unknown tc e
unknown_alike (Expression.name x s) sc tc h = none_alike (find sc x) (find tc x) (found_alike x sc tc h)
unknown_alike (Expression.number v s) sc tc h = refl
unknown_alike (Expression.truth b s) sc tc h = refl
unknown_alike (Expression.infinity s) sc tc h = refl
unknown_alike (Expression.group a s) sc tc h = refl
unknown_alike (Expression.bracket a s) sc tc h = refl
unknown_alike (Expression.embed a s) sc tc h = refl
unknown_alike (Expression.unary op a s) sc tc h = refl
unknown_alike (Expression.binary op a b s) sc tc h = refl
unknown_alike (Expression.choice a b c s) sc tc h = refl
unknown_alike (Expression.bound up x t a s) sc tc h = refl

twice_alike : (e : Expression) (sc tc : Scope) → Alike sc tc → is_given_twice sc e ≡ is_given_twice tc e
twice_alike (Expression.bound up x t a s) sc tc h = some_alike (find sc x) (find tc x) (found_alike x sc tc h)
twice_alike (Expression.number v s) sc tc h = refl
twice_alike (Expression.truth b s) sc tc h = refl
twice_alike (Expression.infinity s) sc tc h = refl
twice_alike (Expression.name x s) sc tc h = refl
twice_alike (Expression.group a s) sc tc h = refl
twice_alike (Expression.bracket a s) sc tc h = refl
twice_alike (Expression.embed a s) sc tc h = refl
twice_alike (Expression.unary op a s) sc tc h = refl
twice_alike (Expression.binary op a b s) sc tc h = refl
twice_alike (Expression.choice a b c s) sc tc h = refl

both : (xs ys zs ws : List Finding) → xs ≡ ys → zs ≡ ws → xs ++ zs ≡ ys ++ ws
both xs ys zs ws e h = ap (λ l. l ++ zs) e ∙ ap (λ l. ys ++ l) h

module _ (n m : ℕ) (sc tc : Scope) (h : Alike sc tc) where
  own_alike : (f : Front) (d : Demand) (e : Expression) → own f d n sc e ≡ own f d m tc e
  own_alike f d e =
      ap (λ b. at (place e) ((10, b) ∷ (11, is_given_twice sc e) ∷ (12, lacks d (elaborate n sc e)) ∷ (16, divides_wrong e) ∷ (23, is_misplaced f e) ∷ [])) (unknown_alike e sc tc h)
      ∙ ap (λ b. at (place e) ((10, is_unknown tc e) ∷ (11, b) ∷ (12, lacks d (elaborate n sc e)) ∷ (16, divides_wrong e) ∷ (23, is_misplaced f e) ∷ [])) (twice_alike e sc tc h)
      ∙ ap (λ b. at (place e) ((10, is_unknown tc e) ∷ (11, is_given_twice tc e) ∷ (12, b) ∷ (16, divides_wrong e) ∷ (23, is_misplaced f e) ∷ []))
      (lacks_alike d (elaborate n sc e) (elaborate m tc e) (elaborate_kinds e n m sc tc h))

pub found_alike_in : (e : Expression) (f : Front) (d : Demand) (n m : ℕ) (sc tc : Scope) → Alike sc tc → findings f d n sc e ≡ findings f d m tc e
found_alike_in (Expression.number v s) f d n m sc tc h = own_alike n m sc tc h f d (Expression.number v s)
found_alike_in (Expression.truth b s) f d n m sc tc h = own_alike n m sc tc h f d (Expression.truth b s)
found_alike_in (Expression.infinity s) f d n m sc tc h = own_alike n m sc tc h f d (Expression.infinity s)
found_alike_in (Expression.name x s) f d n m sc tc h = own_alike n m sc tc h f d (Expression.name x s)
found_alike_in (Expression.group a s) f d n m sc tc h = both _ _ _ _ (found_alike_in a Front.Closed Demand.Any n m sc tc h) (own_alike n m sc tc h f d (Expression.group a s))
found_alike_in (Expression.bracket a s) f d n m sc tc h = both _ _ _ _ (found_alike_in a Front.Closed Demand.Any n m sc tc h) (own_alike n m sc tc h f d (Expression.bracket a s))
found_alike_in (Expression.embed a s) f d n m sc tc h = both _ _ _ _ (found_alike_in a Front.Closed Demand.Any n m sc tc h) (own_alike n m sc tc h f d (Expression.embed a s))
found_alike_in (Expression.unary op a s) f d n m sc tc h = both _ _ _ _ (found_alike_in a Front.Closed Demand.Any n m sc tc h) (own_alike n m sc tc h f d (Expression.unary op a s))
found_alike_in (Expression.binary op a b s) f d n m sc tc h =
    both _ _ _ _ (both _ _ _ _ (found_alike_in a Front.Closed Demand.Any n m sc tc h) (found_alike_in b Front.Closed Demand.Any n m sc tc h)) (own_alike n m sc tc h f d (Expression.binary op a b s))
found_alike_in (Expression.choice a b c s) f d n m sc tc h =
    both _ _ _ _
    (both _ _ _ _ (both _ _ _ _ (found_alike_in a Front.Closed Demand.Any n m sc tc h) (found_alike_in b Front.Closed Demand.Any n m sc tc h)) (found_alike_in c Front.Closed Demand.Any n m sc tc h))
    (own_alike n m sc tc h f d (Expression.choice a b c s))
found_alike_in (Expression.bound up x t a s) f d n m sc tc h =
    both _ _ _ _ (found_alike_in a f Demand.Any (suc n) (suc m) (shown x n t sc) (shown x m t tc) (alike_inside x n m t sc tc h)) (own_alike n m sc tc h f d (Expression.bound up x t a s))

-- The findings in a quantifier at a place where none may occur. Its body is read with the next
-- number again, which changes nothing.
pub closed_bound : (d : Demand) (n : ℕ) (sc : Scope) (up : Bool) (x : List ℕ) (t : TypeName) (a : Expression) (s : Span)
    → findings Front.Closed d n sc (Expression.bound up x t a s)
    ≡ findings Front.Closed Demand.Any n (shown x n t sc) a ++ at s ((11, is_visible sc x) ∷ (12, lacks d (given (elaborate n (shown x n t sc) a) (quantified up n t))) ∷ (23, true) ∷ [])
closed_bound d n sc up x t a s =
    let inside = shown x n t sc in
    let found = found_alike_in a Front.Closed Demand.Any (suc n) n inside inside (alike inside) in
    let inner = elaborate_kinds a (suc n) n inside inside (alike inside) in
    let same_kinds = given_kinds (elaborate (suc n) inside a) (elaborate n inside a) (quantified up n t) (quantified up n t) inner (λ y z i. quantified_kinds up n n t y z i) in
    let lacking = lacks_alike d (given (elaborate (suc n) inside a) (quantified up n t)) (given (elaborate n inside a) (quantified up n t)) same_kinds in
    both (findings Front.Closed Demand.Any (suc n) inside a) (findings Front.Closed Demand.Any n inside a) (own Front.Closed d n sc (Expression.bound up x t a s))
    (at s ((11, is_visible sc x) ∷ (12, lacks d (given (elaborate n inside a) (quantified up n t))) ∷ (23, true) ∷ [])) found
    (ap (λ b. at s ((11, is_visible sc x) ∷ (12, b) ∷ (23, true) ∷ [])) lacking)

-- ---- The answers on such a quantifier

pub bound_stops : (e : ResolveStop) (d : Demand) (n : ℕ) (sc tc : Scope) (up : Bool) (x : List ℕ) (t : TypeName) (a : Expression) (s : Span) (q r : Option Meaning) → tc ≡ shown x n t sc
    → Gives read (Err e) (findings Front.Closed Demand.Any n tc a) q → Gives read (Err e) (findings Front.Closed d n sc (Expression.bound up x t a s)) r
bound_stops e d n sc tc up x t a s q r inside h =
    let own = at s ((11, is_visible sc x) ∷ (12, lacks d (given (elaborate n (shown x n t sc) a) (quantified up n t))) ∷ (23, true) ∷ []) in
    stops_at read read e (findings Front.Closed Demand.Any n tc a ++ own) (findings Front.Closed d n sc (Expression.bound up x t a s)) r r
    (closed_bound d n sc up x t a s ∙ ap (λ w. findings Front.Closed Demand.Any n w a ++ own) (sym inside)) (stops read read e (findings Front.Closed Demand.Any n tc a) own q r h)

never_quiet : (s : Span) (b c : Bool) → at s ((11, b) ∷ (12, c) ∷ (23, true) ∷ []) ≡ [] → ⊥
never_quiet s true c e = absurd (cc)
never_quiet s false true e = absurd (cc)
never_quiet s false false e = absurd (cc)

pub bound_gives : (r : Result M.Meaning ResolveStop) (d : Demand) (n : ℕ) (sc tc : Scope) (up : Bool) (x : List ℕ) (t : TypeName) (a : Expression) (s : Span) (inner : Meaning) (twice : Bool) → tc ≡ shown x n t sc
    → findings Front.Closed Demand.Any n tc a ≡ [] → Some inner ≡ elaborate n tc a → twice ≡ is_visible sc x
    → Gives read r (at s ((11, twice) ∷ (12, lacks d (quantified up n t inner)) ∷ (23, true) ∷ [])) (quantified up n t inner)
    → Gives read r (findings Front.Closed d n sc (Expression.bound up x t a s)) (elaborate n sc (Expression.bound up x t a s))
bound_gives (Ok m) d n sc tc up x t a s inner twice inside none is seen h = absurd (never_quiet s twice (lacks d (quantified up n t inner)) h.0)
bound_gives (Err e) d n sc tc up x t a s inner twice inside none is seen h =
    let own = at s ((11, is_visible sc x) ∷ (12, lacks d (given (elaborate n (shown x n t sc) a) (quantified up n t))) ∷ (23, true) ∷ []) in
    let quiet : findings Front.Closed Demand.Any n (shown x n t sc) a ≡ [] = ap (λ w. findings Front.Closed Demand.Any n w a) (sym inside) ∙ none in
    let meaning : elaborate n (shown x n t sc) a ≡ Some inner = ap (λ w. elaborate n w a) (sym inside) ∙ sym is in
    stops_at read read e (at s ((11, twice) ∷ (12, lacks d (quantified up n t inner)) ∷ (23, true) ∷ [])) (findings Front.Closed d n sc (Expression.bound up x t a s)) (quantified up n t inner)
    (elaborate n sc (Expression.bound up x t a s))
    (closed_bound d n sc up x t a s ∙ ap (λ l. l ++ own) quiet
    ∙ ap (λ o. at s ((11, is_visible sc x) ∷ (12, lacks d (given o (quantified up n t))) ∷ (23, true) ∷ [])) meaning
    ∙ ap (λ b. at s ((11, b) ∷ (12, lacks d (quantified up n t inner)) ∷ (23, true) ∷ [])) (sym seen))
    h
