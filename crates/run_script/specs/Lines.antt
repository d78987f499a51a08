-- The lines of a script. This project's own.
use Rattle.heylo_formula.specs.declared.values.Val.TheVariants.{Num, Truth}
use Rattle.heylo_formula.specs.declared.values.Val.{Val}
use Rattle.heyvl_num.specs.Rational.{Rational, ratio}
use Rattle.heyvl_syntax.specs.Literals.{number}
use Rattle.run_machine.specs.declared.configurations.Decide.TheVariants.{Give, Left, Right}
use Rattle.run_machine.specs.declared.configurations.Decide.{Decide}
use Rattle.run_script.specs.declared.scripts.Setting.{Setting}
use Rattle.std.specs.Char.{is_ascii_digit}
use Rattle.std.specs.List.{list_all, slice_split}
use Rattle.std.specs.Prelude.{Bool, List, None, Option, Some, [], codes, false, if◌then◌else◌}
use Rattle.std.specs.Prelude.{length, nat_lt, neg_ℤ, not, option_map, pos, true, ◌&&◌, ◌==◌, ◌^◌}
use Rattle.std.specs.Prelude.{◌∷◌, ℕ}
use Rattle.std.specs.Str.{bytes_eq}

-- ---- Texts and their parts

-- The text without the line feed at its end, if there is one.
abbrev pub without_last_feed : List ℕ → List ℕ
without_last_feed [] = []
without_last_feed (b ∷ []) = if b == 10 then [] else b ∷ []
without_last_feed (b ∷ (c ∷ more)) = b ∷ without_last_feed (c ∷ more)

-- The lines of a text. A line feed ends each line; the last one may lack it. The empty text is one
-- empty line.
abbrev pub text_lines : List ℕ → List (List ℕ)
text_lines bytes = slice_split (λ b. b == 10) (without_last_feed bytes)

-- The parts of a line between single spaces.
abbrev pub line_parts : List ℕ → List (List ℕ)
line_parts line = slice_split (λ b. b == 32) line

-- ---- Values

-- Whether the text is one or more digits.
abbrev pub are_digits : List ℕ → Bool
are_digits text = not (length text == 0) && list_all is_ascii_digit text

-- The number, if it is below the limit.
abbrev pub below : ℕ → ℕ → Option ℕ
below limit n = if nat_lt n limit then Some n else None

-- The natural number that the text writes in digits, if it is below the limit. Leading zeros are
-- allowed.
abbrev pub natural : ℕ → List ℕ → Option ℕ
natural limit text = if are_digits text then below limit (number text) else None

-- The numbers in values are below this one.
abbrev pub value_limit : ℕ
value_limit = 2 ^ 126

-- An integer: digits, with `-` before them if it is negative.
abbrev pub whole : List ℕ → Option Rational
whole [] = None
whole (b ∷ bs) = if b == 45 then option_map (λ n. ratio (neg_ℤ (pos n)) 1) (natural value_limit bs)
    else option_map (λ n. ratio (pos n) 1) (natural value_limit (b ∷ bs))

-- The fraction `P/Q`, unless Q is 0.
abbrev pub quotient : Option ℕ → Option ℕ → Option Rational
quotient (Some p) (Some q) = if q == 0 then None else Some (ratio (pos p) q)
quotient (Some p) None = None
quotient None q = None

-- `number_of_parts parts`: the number whose text has `parts` between slashes. The parts `1` and `2`
-- have the number 1/2.
abbrev pub number_of_parts : List (List ℕ) → Option Rational
number_of_parts [] = None
number_of_parts (text ∷ []) = whole text
number_of_parts (p ∷ (q ∷ [])) = quotient (natural value_limit p) (natural value_limit q)
number_of_parts (p ∷ (q ∷ (r ∷ more))) = None

-- An integer or a fraction.
abbrev pub script_number : List ℕ → Option Rational
script_number text = number_of_parts (slice_split (λ b. b == 47) text)

-- `true`, `false` or a number.
abbrev pub script_value : List ℕ → Option Val
script_value text = if bytes_eq text (codes "true") then Some (Truth true)
    else (if bytes_eq text (codes "false") then Some (Truth false)
    else option_map Num (script_number text))

-- `left`, `right` or a value.
abbrev pub decision : List ℕ → Option Decide
decision text = if bytes_eq text (codes "left") then Some Left
    else (if bytes_eq text (codes "right") then Some Right else option_map Give (script_value text))

-- ---- Lines

-- A line of a script.
pub data Line : Type 0 where
  -- `steps N`, where N is at most 10,000
  steps : ℕ → Line
  -- `set NAME VALUE`
  set : Setting → Line
  -- `decide left`, `decide right` or `decide VALUE`
  decide : Decide → Line

-- The line of two parts, of which `word` is the first.
abbrev pub pair_line : List ℕ → List ℕ → Option Line
pair_line word text = if bytes_eq word (codes "steps")
    then option_map Line.steps (natural 10001 text)
    else (if bytes_eq word (codes "decide") then option_map Line.decide (decision text) else None)

-- The line of three parts, of which `word` is the first.
abbrev pub triple_line : List ℕ → List ℕ → List ℕ → Option Line
triple_line word name text = if bytes_eq word (codes "set")
    then option_map (λ value. Line.set (record { name = name; value = value })) (script_value text)
    else None

-- `line_of_parts parts`: the line that has `parts` between single spaces. The parts `steps` and
-- `12` are the line `steps 12`.
abbrev pub line_of_parts : List (List ℕ) → Option Line
line_of_parts [] = None
line_of_parts (word ∷ []) = None
line_of_parts (word ∷ (text ∷ [])) = pair_line word text
line_of_parts (word ∷ (name ∷ (text ∷ []))) = triple_line word name text
line_of_parts (word ∷ (name ∷ (text ∷ (other ∷ more)))) = None

-- The line with this text, or `None` if the text has none of the forms. For example, `steps 12` is
-- `steps 12`, and `steps  12` with two spaces is none.
abbrev pub said : List ℕ → Option Line
said line = line_of_parts (line_parts line)
