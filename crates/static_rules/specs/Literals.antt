-- Number literals where a static rule asks for one: integers, weights and numbers of copies. A
-- weight literal is a number literal, or one divided by another. This project's own.
use Rattle.heyvl_num.specs.Rational.{Rational, leqʳ, oneʳ, ratio, zeroʳ, ◌+ʳ◌}
use Rattle.heyvl_syntax.specs.Expressions.{Expression}
use Rattle.heyvl_syntax.specs.declared.literals.Lit.{Lit}
use Rattle.heyvl_syntax.specs.declared.operators.BinaryOp.{BinaryOp}
use Rattle.heyvl_syntax.specs.declared.operators.UnaryOp.{UnaryOp}
use Rattle.static_rules.specs.declared.weights.Weight.TheVariants.{NotLiteral, OverZero, TooWide}
use Rattle.static_rules.specs.declared.weights.Weight.TheVariants.{Value}
use Rattle.static_rules.specs.declared.weights.Weight.{Weight}
use Rattle.std.specs.Int.Signed.{le_z}
use Rattle.std.specs.List.{list_any}
use Rattle.std.specs.Prelude.{Bool, List, None, Option, Some, [], false, if◌then◌else◌, length}
use Rattle.std.specs.Prelude.{nat_lt, neg_ℤ, not, option_map, pos, true, unsigned_abs, ◌&&◌, ◌*ℤ◌}
use Rattle.std.specs.Prelude.{◌*◌, ◌-ℤ◌, ◌==◌, ◌^◌, ◌||◌, ◌∷◌, ℤ, ℕ}
use Rattle.typed_expressions.specs.LiteralValues.{is_written, literal_value, is_zero_literal}

-- The integer that a literal is, if it is one: 2 for `2.0`.
abbrev pub whole_value : Lit → Option ℤ
whole_value n = if is_written n && ((literal_value n).den == 1) then Some (literal_value n).num
    else None

-- One literal divided by another.
unfoldable pub literal_quotient : Lit → Lit → Rational
literal_quotient n m = ratio (n.digits *ℤ pos (10 ^ m.places))
    (10 ^ n.places * unsigned_abs m.digits)

-- Whether the numerator or the denominator in lowest terms is 2^62 or more.
abbrev pub is_too_wide : Rational → Bool
is_too_wide q = not (nat_lt (unsigned_abs q.num) (2 ^ 62) && nat_lt q.den (2 ^ 62))

-- The weight literal with the value `q`, which may be too wide.
abbrev pub weight_of_value : Rational → Weight
weight_of_value q = if is_too_wide q then TooWide else Value q

-- The weight literal that is `n` divided by `m`.
abbrev pub weight_of_quotient : Lit → Lit → Weight
weight_of_quotient n m = if is_zero_literal m then OverZero
    else weight_of_value (literal_quotient n m)

-- An expression as a weight. Example: `1/2` has the value 1/2, `1/0` has the divisor 0, and `x` is
-- not a weight literal.
abbrev pub weight : Expression → Weight
weight (Expression.number n s) = if is_written n then weight_of_value (literal_value n)
    else NotLiteral
weight (Expression.binary BinaryOp.Slash (Expression.number n s) (Expression.number m t) u) =
    if is_written n && is_written m then weight_of_quotient n m else NotLiteral
weight e = NotLiteral

-- Whether an expression is a weight literal, whatever its value.
abbrev pub is_weight_literal : Weight → Bool
is_weight_literal NotLiteral = false
is_weight_literal OverZero = true
is_weight_literal TooWide = true
is_weight_literal (Value q) = true

-- Whether the divisor of a weight literal is 0.
abbrev pub is_over_zero : Weight → Bool
is_over_zero OverZero = true
is_over_zero NotLiteral = false
is_over_zero TooWide = false
is_over_zero (Value q) = false

-- Whether a weight is a weight literal that is not too wide. A divisor 0 breaks another rule.
abbrev pub is_usable : Weight → Bool
is_usable NotLiteral = false
is_usable OverZero = true
is_usable TooWide = false
is_usable (Value q) = true

-- Whether a weight is a weight literal from 0 to 1. A divisor 0 breaks another rule.
abbrev pub is_probability : Weight → Bool
is_probability NotLiteral = false
is_probability OverZero = true
is_probability TooWide = false
is_probability (Value q) = leqʳ q oneʳ

-- Whether a weight is a weight literal above 0. A divisor 0 breaks another rule.
abbrev pub is_step : Weight → Bool
is_step NotLiteral = false
is_step OverZero = true
is_step TooWide = false
is_step (Value q) = not (leqʳ q zeroʳ)

-- The value of a weight; 0 if it has none.
abbrev pub weight_value : Weight → Rational
weight_value NotLiteral = zeroʳ
weight_value OverZero = zeroʳ
weight_value TooWide = zeroʳ
weight_value (Value q) = q

-- Whether weights, added one by one to `sum`, do not yield 1, or a partial sum is too wide.
abbrev pub sums_wrong : Rational → List Weight → Bool
sums_wrong sum [] = not (leqʳ sum oneʳ && leqʳ oneʳ sum)
sums_wrong sum (w ∷ ws) = is_too_wide (sum +ʳ weight_value w)
    || sums_wrong (sum +ʳ weight_value w) ws

-- Whether a list is not one of weights of a choice. That is so if one is not a weight literal or is
-- too wide, if there are more than 16, or if no divisor is 0 and the weights do not sum to 1 or a
-- partial sum is too wide.
abbrev pub weigh_wrong : List Weight → Bool
weigh_wrong ws = list_any (λ w. not (is_usable w)) ws || nat_lt 16 (length ws)
    || (not (list_any is_over_zero ws) && sums_wrong zeroʳ ws)

-- The integer literal that an expression is: an integer, or one after a minus.
abbrev pub integer : Expression → Option ℤ
integer (Expression.number n s) = whole_value n
integer (Expression.unary UnaryOp.Minus (Expression.number n s) t) =
    option_map neg_ℤ (whole_value n)
integer e = None

-- Whether `unif(a, b)` is out of range: `a` or `b` is not an integer literal, `a` is above `b`, or
-- there are more than 256 integers from `a` to `b`.
abbrev pub ends_wrong : Option ℤ → Option ℤ → Bool
ends_wrong (Some a) (Some b) = not (le_z a b && le_z (b -ℤ a) (pos 255))
ends_wrong (Some a) None = true
ends_wrong None b = true

-- Whether the lower end of a `unif` is negative.
abbrev pub is_negative : Option ℤ → Bool
is_negative (Some a) = not (le_z (pos 0) a)
is_negative None = false

-- The number of copies of a loop's body: an integer literal from 1 to 16.
abbrev pub copies : Expression → Option ℕ
copies (Expression.number n s) = copies_of (whole_value n)
  where
    copies_of : Option ℤ → Option ℕ
    copies_of (Some k) = if le_z (pos 1) k && le_z k (pos 16) then Some (unsigned_abs k) else None
    copies_of None = None
copies e = None
