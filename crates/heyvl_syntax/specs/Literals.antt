-- Number literals: digits, or digits, a point and digits.
use Rattle.heyvl_syntax.specs.Bytes.{is_point}
use Rattle.heyvl_syntax.specs.declared.literals.Lit.{Lit}
use Rattle.std.specs.Char.{is_ascii_digit}
use Rattle.std.specs.List.{after_first, before_first, list_all}
use Rattle.std.specs.Prelude.{Bool, List, [], cond, fold, length, nat_eq, nat_le, nat_lt, pos, true}
use Rattle.std.specs.Prelude.{◌%◌, ◌*◌, ◌+◌, ◌++◌, ◌-◌, ◌<◌, ◌^◌, ◌≤◌, ◌||◌, ◌∷◌, ◌≡◌, ◌⊎◌, ℕ}

-- One or more digits.
abbrev pub IsDigits : List ℕ → Type 0
IsDigits text = (0 < length text) × (list_all is_ascii_digit text ≡ true)

-- The text is a number: digits, or digits, a point and digits.
abbrev pub IsNumber : List ℕ → Type 0
IsNumber text =
    IsDigits text
    ⊎ ((whole fraction : List ℕ) × IsDigits whole × IsDigits fraction
    × (text ≡ whole ++ 46 ∷ fraction))

-- The digits before the point, or all digits if there is no point.
abbrev pub whole : List ℕ → List ℕ
whole text = before_first is_point text

-- The digits after the point; none if there is no point.
abbrev pub fraction : List ℕ → List ℕ
fraction text = after_first is_point text

-- `with_digit n digit`: the number `n` with one more decimal digit, given by its byte.
abbrev pub with_digit : ℕ → ℕ → ℕ
with_digit n digit = n * 10 + (digit - 48)

-- The value of decimal digits.
abbrev pub number : List ℕ → ℕ
number digits = fold with_digit 0 digits

-- The digits without trailing zeros.
abbrev pub without_last_zeros : List ℕ → List ℕ
without_last_zeros [] = []
without_last_zeros (d ∷ ds) = cond (list_all (nat_eq 48) (d ∷ ds)) [] (d ∷ without_last_zeros ds)

-- The literal of a number's text, without trailing zeros after the point. For "0.50" the digits are
-- 5, with 1 decimal place.
abbrev pub literal : List ℕ → Lit
literal text = record {
  digits = pos (number (whole text ++ without_last_zeros (fraction text)));
  places = length (without_last_zeros (fraction text));
}

-- The text exceeds the limits of literals: all its digits, without the point, make a number of at
-- least 2^127, or more than 38 digits follow the point.
abbrev pub is_too_large : List ℕ → Bool
is_too_large text = nat_le (2 ^ 127) (number (whole text ++ fraction text))
    || nat_lt 38 (length (fraction text))

-- The literal is within the limits: its digits are at least 0 and below 2^127, at most 38 of them
-- are after the point, and the last of these is not 0.
pub record IsInLimits (lit : Lit) : Type 0 where
  pub digits : ℕ
  pub same : lit.digits ≡ pos digits
  pub small : digits < 2 ^ 127
  pub short : lit.places ≤ 38
  pub no_last_zero : 0 < lit.places → 0 < digits % 10
