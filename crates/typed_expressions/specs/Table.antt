-- The table of expressions: for each kind of expression the condition on its parts, its type, and
-- the formula or condition that it is elaborated to; nothing if the condition fails. Source: the
-- types of HeyLo's expressions (Schroeer, Batz, Kaminski, Katoen, Matheja, OOPSLA 2023), in this
-- project's profile.
use Rattle.heylo_formula.specs.Formula.{Cond, Form}
use Rattle.heylo_formula.specs.Typing.NumberType.{eureal, int, uint, ureal}
use Rattle.heylo_formula.specs.Typing.{NumberType, is_unsigned, join}
use Rattle.heylo_formula.specs.declared.types.Ty.{Ty}
use Rattle.heyvl_num.specs.Rational.{Rational, zeroʳ}
use Rattle.heyvl_num.specs.Value.Value.{finite, infinite}
use Rattle.heyvl_places.specs.declared.spans.Span.{Span}
use Rattle.heyvl_syntax.specs.Expressions.{Expression}
use Rattle.heyvl_syntax.specs.declared.literals.Lit.{Lit}
use Rattle.heyvl_syntax.specs.declared.operators.BinaryOp.{BinaryOp}
use Rattle.heyvl_syntax.specs.declared.operators.UnaryOp.{UnaryOp}
use Rattle.heyvl_syntax.specs.declared.types.TypeName.{TypeName}
use Rattle.std.specs.Prelude.{Bool, None, Option, Some, false, if◌then◌else◌, not, option_map, true}
use Rattle.std.specs.Prelude.{◌&&◌, ◌==◌, ℕ}
use Rattle.typed_expressions.specs.LiteralValues.{inverse_value, is_written, is_zero_literal}
use Rattle.typed_expressions.specs.LiteralValues.{literal_value}
use Rattle.typed_expressions.specs.declared.demands.Demand.{Demand}
use Rattle.typed_expressions.specs.declared.scopes.Local.{Local}

-- An elaborated expression, whose variables have numbers: a condition, which is of type `Bool`; a
-- formula with its type; or a variable of type `Real`, which has no common type with any other.
pub data Meaning : Type 0 where
  truth : Cond → Meaning
  number : NumberType → Form → Meaning
  real : Meaning

-- Applies `f` to the value of an option; nothing without a value.
abbrev pub given : {A B : Type 0} → Option A → (A → Option B) → Option B
given None f = None
given (Some a) f = f a

-- The type of a variable that is declared with this type name; nothing for `EUReal` and `Real`.
abbrev pub declarable : TypeName → Option Ty
declarable TypeName.Bool = Some Ty.Bool
declarable TypeName.Int = Some Ty.Int
declarable TypeName.UInt = Some Ty.UInt
declarable TypeName.UReal = Some Ty.UReal
declarable TypeName.EUReal = None
declarable TypeName.Real = None

-- A literal: a `UInt` if its value is an integer, such as `2.0`, otherwise a `UReal`; nothing for a
-- literal that no text can spell.
abbrev pub literal : Lit → Option Meaning
literal n = if is_written n
    then Some (Meaning.number (if (literal_value n).den == 1 then uint else ureal)
    (Form.number (finite (literal_value n)))) else None

-- `true` and `false`
abbrev pub constant : Bool → Meaning
constant b = Meaning.truth (Cond.constant b)

-- `\infty`
abbrev pub infinity : Meaning
infinity = Meaning.number eureal (Form.number infinite)

-- The variable with the number `x` and a declared type.
abbrev pub variable_of : TypeName → ℕ → Meaning
variable_of TypeName.Bool x = Meaning.truth (Cond.flag x)
variable_of TypeName.Int x = Meaning.number int (Form.variable x)
variable_of TypeName.UInt x = Meaning.number uint (Form.variable x)
variable_of TypeName.UReal x = Meaning.number ureal (Form.variable x)
variable_of TypeName.EUReal x = Meaning.number eureal (Form.variable x)
variable_of TypeName.Real x = Meaning.real

-- A visible variable, by its declared type and its number.
abbrev pub variable : Local → Meaning
variable l = variable_of l.ty l.number

-- `a - b`, for two numbers with this common type.
abbrev pub minus : NumberType → Form → Form → Option Meaning
minus int a b = Some (Meaning.number int (Form.difference a b))
minus uint a b = Some (Meaning.number uint (Form.cut a b))
minus ureal a b = Some (Meaning.number ureal (Form.cut a b))
minus eureal a b = None

-- A comparison of two numbers with this common type.
abbrev pub comparison : NumberType → Cond → Option Meaning
comparison int g = Some (Meaning.truth g)
comparison uint g = Some (Meaning.truth g)
comparison ureal g = Some (Meaning.truth g)
comparison eureal g = None

-- A formula of type `EUReal` if the Boolean holds.
abbrev pub extended : Bool → Form → Option Meaning
extended true a = Some (Meaning.number eureal a)
extended false a = None

-- The operators between two numbers that need a common type, which is `t`.
abbrev pub joined_numbers : BinaryOp → Span → Form → Form → NumberType → Option Meaning
joined_numbers BinaryOp.Plus s a b t = Some (Meaning.number t (Form.sum a b))
joined_numbers BinaryOp.Star s a b t = Some (Meaning.number t (Form.product a b s))
joined_numbers BinaryOp.Minus s a b t = minus t a b
joined_numbers BinaryOp.Same s a b t = comparison t (Cond.equal a b)
joined_numbers BinaryOp.Differ s a b t = comparison t (Cond.not (Cond.equal a b))
joined_numbers BinaryOp.Less s a b t = comparison t (Cond.lt a b)
joined_numbers BinaryOp.AtMost s a b t = comparison t (Cond.le a b)
joined_numbers BinaryOp.More s a b t = comparison t (Cond.lt b a)
joined_numbers BinaryOp.AtLeast s a b t = comparison t (Cond.le b a)
joined_numbers BinaryOp.Cap s a b t = Some (Meaning.number t (Form.min a b))
joined_numbers BinaryOp.Cup s a b t = Some (Meaning.number t (Form.max a b))
joined_numbers BinaryOp.And s a b t = None
joined_numbers BinaryOp.Or s a b t = None
joined_numbers BinaryOp.Imply s a b t = None
joined_numbers BinaryOp.CoImply s a b t = None
joined_numbers BinaryOp.Slash s a b t = None

-- An operator between two numbers.
abbrev pub numbers : BinaryOp → Span → NumberType → Form → NumberType → Form → Option Meaning
numbers BinaryOp.Imply s t a u b =
    extended (is_unsigned (Some t) && is_unsigned (Some u)) (Form.imply a b)
numbers BinaryOp.CoImply s t a u b =
    extended (is_unsigned (Some t) && is_unsigned (Some u)) (Form.co_imply a b)
numbers op s t a u b = given (join t u) (joined_numbers op s a b)

-- An operator between two conditions.
abbrev pub truths : BinaryOp → Cond → Cond → Option Meaning
truths BinaryOp.Same g h = Some (Meaning.truth (Cond.same g h))
truths BinaryOp.Differ g h = Some (Meaning.truth (Cond.not (Cond.same g h)))
truths BinaryOp.And g h = Some (Meaning.truth (Cond.and g h))
truths BinaryOp.Or g h = Some (Meaning.truth (Cond.or g h))
truths BinaryOp.Imply g h = Some (Meaning.truth (Cond.or (Cond.not g) h))
truths BinaryOp.CoImply g h = None
truths BinaryOp.Cup g h = None
truths BinaryOp.Cap g h = None
truths BinaryOp.Less g h = None
truths BinaryOp.AtMost g h = None
truths BinaryOp.More g h = None
truths BinaryOp.AtLeast g h = None
truths BinaryOp.Plus g h = None
truths BinaryOp.Minus g h = None
truths BinaryOp.Star g h = None
truths BinaryOp.Slash g h = None

-- An operator other than `/` between two operands.
abbrev pub binary : BinaryOp → Span → Meaning → Meaning → Option Meaning
binary op s (Meaning.truth g) (Meaning.truth h) = truths op g h
binary op s (Meaning.truth g) (Meaning.number u b) = None
binary op s (Meaning.truth g) Meaning.real = None
binary op s (Meaning.number t a) (Meaning.truth h) = None
binary op s (Meaning.number t a) (Meaning.number u b) = numbers op s t a u b
binary op s (Meaning.number t a) Meaning.real = None
binary op s Meaning.real y = None

-- One divided by a literal; nothing for a literal that is 0 or that no text can spell.
abbrev pub inverse : Lit → Option Rational
inverse n = if is_written n && not (is_zero_literal n) then Some (inverse_value n) else None

-- One divided by a divisor, if this is a number literal other than 0.
abbrev pub divisor : Expression → Option Rational
divisor (Expression.number n s) = inverse n
divisor e = None

-- The factor that replaces a division; 0 without a divisor.
abbrev pub factor : Option Rational → Rational
factor (Some q) = q
factor None = zeroʳ

-- `a / n` as a multiple by `q`. The condition is on the type of `a` alone.
abbrev pub quotient : Rational → Meaning → Option Meaning
quotient q (Meaning.number int a) = None
quotient q (Meaning.number uint a) = Some (Meaning.number ureal (Form.scale q a))
quotient q (Meaning.number ureal a) = Some (Meaning.number ureal (Form.scale q a))
quotient q (Meaning.number eureal a) = Some (Meaning.number eureal (Form.scale q a))
quotient q (Meaning.truth g) = None
quotient q Meaning.real = None

-- The number 0.
abbrev pub nought : Form
nought = Form.number (finite zeroʳ)

-- `-a`
abbrev pub negative : Meaning → Option Meaning
negative (Meaning.number int a) = Some (Meaning.number int (Form.difference nought a))
negative (Meaning.number uint a) = Some (Meaning.number int (Form.difference nought a))
negative (Meaning.number ureal a) = None
negative (Meaning.number eureal a) = None
negative (Meaning.truth g) = None
negative Meaning.real = None

-- `!a`
abbrev pub negation : Meaning → Option Meaning
negation (Meaning.truth g) = Some (Meaning.truth (Cond.not g))
negation (Meaning.number t a) = extended (is_unsigned (Some t)) (Form.imply a nought)
negation Meaning.real = None

-- `~a`
abbrev pub conegation : Meaning → Option Meaning
conegation (Meaning.number t a) =
    extended (is_unsigned (Some t)) (Form.co_imply a (Form.number infinite))
conegation (Meaning.truth g) = None
conegation Meaning.real = None

-- A prefix operator.
abbrev pub unary : UnaryOp → Meaning → Option Meaning
unary UnaryOp.Not m = negation m
unary UnaryOp.Minus m = negative m
unary UnaryOp.Tilde m = conegation m

-- `[a]`
abbrev pub bracket : Meaning → Option Meaning
bracket (Meaning.truth g) = Some (Meaning.number uint (Form.iverson g))
bracket (Meaning.number t a) = None
bracket Meaning.real = None

-- `?(a)`
abbrev pub embedding : Meaning → Option Meaning
embedding (Meaning.truth g) = Some (Meaning.number eureal (Form.embed g))
embedding (Meaning.number t a) = None
embedding Meaning.real = None

-- `ite(a, b, c)`, for a condition `g` in place of `a`.
abbrev pub selected : Cond → Meaning → Meaning → Option Meaning
selected g (Meaning.truth h) (Meaning.truth k) = Some (Meaning.truth (Cond.ite g h k))
selected g (Meaning.number t a) (Meaning.number u b) =
    option_map (λ j. Meaning.number j (Form.select g a b)) (join t u)
selected g (Meaning.truth h) (Meaning.number u b) = None
selected g (Meaning.truth h) Meaning.real = None
selected g (Meaning.number t a) (Meaning.truth k) = None
selected g (Meaning.number t a) Meaning.real = None
selected g Meaning.real y = None

-- `ite(a, b, c)`
abbrev pub choice : Meaning → Meaning → Meaning → Option Meaning
choice (Meaning.truth g) x y = selected g x y
choice (Meaning.number t a) x y = None
choice Meaning.real x y = None

-- `sup x: T. a` or `inf x: T. a`, for a type that a variable may have.
abbrev pub bound : Bool → ℕ → Ty → Meaning → Option Meaning
bound up n ty (Meaning.number t a) = extended (is_unsigned (Some t)) (Form.bind up n n ty a)
bound up n ty (Meaning.truth g) = None
bound up n ty Meaning.real = None

-- `sup x: T. a` or `inf x: T. a`, where `x` has the number `n`.
abbrev pub quantified : Bool → ℕ → TypeName → Meaning → Option Meaning
quantified up n t m = given (declarable t) (λ ty. bound up n ty m)

-- Whether an elaborated expression has a type that is demanded.
abbrev pub meets : Demand → Meaning → Bool
meets Demand.Any m = true
meets Demand.Truth (Meaning.truth g) = true
meets Demand.Truth (Meaning.number t a) = false
meets Demand.Truth Meaning.real = false
meets Demand.Formula (Meaning.truth g) = false
meets Demand.Formula (Meaning.number t a) = is_unsigned (Some t)
meets Demand.Formula Meaning.real = false
