-- Classes of bytes.
use Rattle.std.specs.Prelude.{Bool, List, [], not, true, ◌==◌, ◌∷◌, ◌||◌, ℕ}
use Rattle.std.specs.Char.{is_ascii_alphabetic, is_ascii_digit}

-- Space, tab, carriage return or line feed.
abbrev pub is_white : ℕ → Bool
is_white b = b == 32 || b == 9 || b == 13 || b == 10

-- The byte of `.`.
abbrev pub is_point : ℕ → Bool
is_point b = b == 46

-- An ASCII letter or `_`.
abbrev pub is_letter : ℕ → Bool
is_letter b = is_ascii_alphabetic b || b == 95

-- A byte that may follow the first byte of an identifier or a keyword: a letter, a digit or `_`.
abbrev pub is_word_byte : ℕ → Bool
is_word_byte b = is_letter b || is_ascii_digit b

-- The bytes do not begin with a letter, a digit or `_`.
abbrev pub ends_word : List ℕ → Bool
ends_word [] = true
ends_word (b ∷ bs) = not (is_word_byte b)
