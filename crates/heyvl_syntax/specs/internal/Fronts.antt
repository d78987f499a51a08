-- What bytes begin with, as a computation.
use Rattle.heyvl_syntax.specs.Bytes.{is_letter, is_point, is_white, is_word_byte}
use Rattle.heyvl_places.specs.Places.{is_line_feed}
use Rattle.heyvl_syntax.specs.Comments.{closes_at, opens_block, opens_line}
use Rattle.heyvl_syntax.specs.Keys.{key_text}
use Rattle.heyvl_syntax.specs.Literals.{is_too_large, literal}
use Rattle.heyvl_syntax.specs.Marks.{mark_text}
use Rattle.heyvl_syntax.specs.internal.Found as fronts
use Rattle.heyvl_syntax.specs.internal.Found.{Found}
use Rattle.heyvl_syntax.specs.Tokens.{span_of}
use Rattle.heyvl_syntax.specs.declared.fronts.Front.TheVariants as shapes
use Rattle.heyvl_syntax.specs.declared.fronts.Front.{Front}
use Rattle.heyvl_syntax.specs.declared.keys.Key.TheVariants as keys
use Rattle.heyvl_syntax.specs.declared.keys.Key.{Key}
use Rattle.heyvl_syntax.specs.declared.marks.Mark.TheVariants as marks
use Rattle.heyvl_syntax.specs.declared.marks.Mark.{Mark}
use Rattle.heyvl_syntax.specs.declared.tokens.Token.{Token}
use Rattle.heyvl_syntax.specs.declared.tokens.TokenKind.TheVariants as kinds
use Rattle.heyvl_syntax.specs.declared.tokens.TokenKind.{TokenKind}
use Rattle.std.specs.Char.{is_ascii_digit}
use Rattle.std.specs.Cmp.Lexicographic.{pointwise}
use Rattle.std.specs.List.{find, position_or_len, prefix_len, starts_with}
use Rattle.std.specs.Prelude.{Bool, List, None, Option, Some, [], cond, false, drop, filter, length}
use Rattle.std.specs.Prelude.{nat_eq, nat_lt, suc, take, true, zero, ◌+◌, ◌==◌, ◌^◌, ◌||◌, ◌∷◌, ◌<◌}
use Rattle.std.specs.Prelude.{◌≤◌, ℕ}

-- The keywords, in the order of the language.
abbrev pub all_keys : List Key
all_keys =
    keys.Proc ∷ keys.CoProc ∷ keys.Pre ∷ keys.Post ∷ keys.Var ∷ keys.If ∷ keys.Else ∷ keys.While
    ∷ keys.Assert
    ∷ keys.Assume ∷ keys.CoAssert ∷ keys.CoAssume ∷ keys.Havoc ∷ keys.CoHavoc ∷ keys.Validate
    ∷ keys.CoValidate
    ∷ keys.Reward ∷ keys.Tick ∷ keys.TrueWord ∷ keys.FalseWord ∷ keys.BoolWord ∷ keys.IntWord
    ∷ keys.UIntWord
    ∷ keys.URealWord ∷ keys.EURealWord ∷ keys.RealWord ∷ keys.Ite ∷ keys.Flip ∷ keys.Unif
    ∷ keys.Choose ∷ keys.Sup
    ∷ keys.Inf ∷ keys.Cap ∷ keys.Cup ∷ keys.Infty ∷ []

-- The symbols, the longer ones first.
abbrev pub marks_by_length : List Mark
marks_by_length =
    marks.CoImply ∷ marks.Imply ∷ marks.Same ∷ marks.Differ ∷ marks.AtMost ∷ marks.AtLeast
    ∷ marks.AndAnd ∷ marks.OrOr
    ∷ marks.Arrow ∷ marks.ParenLeft ∷ marks.ParenRight ∷ marks.BraceLeft ∷ marks.BraceRight
    ∷ marks.BracketLeft
    ∷ marks.BracketRight ∷ marks.Comma ∷ marks.Colon ∷ marks.Semi ∷ marks.Dot ∷ marks.Assign
    ∷ marks.Less ∷ marks.More
    ∷ marks.Plus ∷ marks.Minus ∷ marks.Star ∷ marks.Slash ∷ marks.Bang ∷ marks.Tilde
    ∷ marks.Question ∷ marks.AtSign
    ∷ []

-- The keywords that begin with the byte `first`.
abbrev pub keys_from : ℕ → List Key
keys_from first = filter (λ key. starts_with nat_eq (key_text key) (first ∷ [])) all_keys

-- The keyword with the given text.
abbrev pub key_of : List ℕ → Option Key
key_of text = find (λ key. pointwise nat_eq text (key_text key)) all_keys

-- The symbols that begin with the byte `first`, the longer ones first.
abbrev pub marks_from : ℕ → List Mark
marks_from first = filter (λ mark. starts_with nat_eq (mark_text mark) (first ∷ [])) marks_by_length

-- The longest symbol with which the bytes begin.
abbrev pub mark_of : List ℕ → Option Mark
mark_of bytes = find (λ mark. starts_with nat_eq bytes (mark_text mark)) marks_by_length

-- `close_from n bytes`: `n` plus the index of the first `*/` in `bytes`.
abbrev pub close_from : ℕ → List ℕ → Option ℕ
close_from n [] = None
close_from n (b ∷ bs) = cond (closes_at (b ∷ bs) 0) (Some n) (close_from (n + 1) bs)

abbrev pub first_close : List ℕ → Option ℕ
first_close bytes = close_from 0 bytes

abbrev pub block_front : Option ℕ → Found
block_front None = fronts.Fault 2 2
block_front (Some inner) = fronts.Blank (2 + inner + 2)

-- What bytes begin with if they begin with `text`, which is a letter, `_` or `\`, followed by
-- letters, digits and `_`. The flag `begins` is false for `\`, which begins no identifier.
abbrev pub word_front : Bool → List ℕ → Option Key → Found
word_front begins text (Some key) = fronts.Token (kinds.Key key) (length text)
word_front true text None = fronts.Token (kinds.Word text) (length text)
word_front false text None = fronts.Fault 1 1

-- The length of a point and the digits after it, from the number of digits. A point without digits
-- does not count.
abbrev pub with_point : ℕ → ℕ
with_point zero = 0
with_point (suc n) = suc (suc n)

abbrev pub fraction_len : List ℕ → ℕ
fraction_len [] = 0
fraction_len (b ∷ bs) = cond (is_point b) (with_point (prefix_len is_ascii_digit bs)) 0

abbrev pub number_len : List ℕ → ℕ
number_len bytes =
    prefix_len is_ascii_digit bytes + fraction_len (drop (prefix_len is_ascii_digit bytes) bytes)

-- The number, if it is below 2^127.
abbrev pub below_limit : ℕ → Option ℕ
below_limit n = cond (nat_lt n (2 ^ 127)) (Some n) None

abbrev pub number_front : List ℕ → Found
number_front text =
    cond (is_too_large text) (fronts.Fault 3 (length text))
    (fronts.Token (kinds.Number (literal text)) (length text))

abbrev pub mark_front : Option Mark → Found
mark_front None = fronts.Fault 1 1
mark_front (Some mark) = fronts.Token (kinds.Mark mark) (length (mark_text mark))

abbrev pub word_text : List ℕ → List ℕ
word_text [] = []
word_text (b ∷ bs) = take (suc (prefix_len is_word_byte bs)) (b ∷ bs)

abbrev pub number_text : List ℕ → List ℕ
number_text bytes = take (number_len bytes) bytes

-- What bytes that begin with `/` begin with: a comment or a symbol.
abbrev pub slash_front : List ℕ → Found
slash_front bytes =
    cond (opens_line bytes) (fronts.Blank (position_or_len is_line_feed bytes))
    (cond (opens_block bytes) (block_front (first_close (drop 2 bytes)))
    (mark_front (mark_of bytes)))

-- The token or error with which bytes begin whose first byte is `b`, which is not white space and
-- begins no comment.
abbrev pub token_front : ℕ → List ℕ → Found
token_front b bytes =
    cond (is_letter b || b == 92)
    (word_front (is_letter b) (word_text bytes) (key_of (word_text bytes)))
    (cond (is_ascii_digit b) (number_front (number_text bytes)) (mark_front (mark_of bytes)))

abbrev pub front_of : List ℕ → Found
front_of [] = fronts.End
front_of (b ∷ bs) =
    cond (is_white b) (fronts.Blank 1)
    (cond (opens_line (b ∷ bs)) (fronts.Blank (position_or_len is_line_feed (b ∷ bs)))
    (cond (opens_block (b ∷ bs)) (block_front (first_close (drop 2 (b ∷ bs))))
    (cond (is_letter b || b == 92)
    (word_front (is_letter b) (word_text (b ∷ bs)) (key_of (word_text (b ∷ bs))))
    (cond (is_ascii_digit b) (number_front (number_text (b ∷ bs)))
    (mark_front (mark_of (b ∷ bs)))))))

-- What bytes begin with, from the kind and the length that the code has found.
abbrev pub found_of : List ℕ → Front → Found
found_of bytes shapes.End = fronts.End
found_of bytes (shapes.Blank n) = fronts.Blank n
found_of bytes (shapes.Word n) = fronts.Token (kinds.Word (take n bytes)) (length (take n bytes))
found_of bytes (shapes.Number n) = number_front (take n bytes)
found_of bytes (shapes.Key key n) = fronts.Token (kinds.Key key) n
found_of bytes (shapes.Mark mark n) = fronts.Token (kinds.Mark mark) n
found_of bytes (shapes.Fault number n) = fronts.Fault number n

-- What was found has at least one and at most `len` bytes.
abbrev pub IsInside : ℕ → Found → Type 0
IsInside len fronts.End = Unit {0}
IsInside len (fronts.Blank n) = (0 < n) × (n ≤ len)
IsInside len (fronts.Token kind n) = (0 < n) × (n ≤ len)
IsInside len (fronts.Fault number n) = (0 < n) × (n ≤ len)

-- The token of kind `kind` with the span of `n` bytes from the index `place` on.
abbrev pub token_of : TokenKind → ℕ → ℕ → Token
token_of kind place n = record { kind = kind; span = span_of place n }

-- The text of an identifier or a number has at most `len` bytes.
abbrev pub IsWithin : ℕ → Front → Type 0
IsWithin len (shapes.Word n) = n ≤ len
IsWithin len (shapes.Number n) = n ≤ len
IsWithin len front = Unit {0}

-- What was found has at least one and at most `len` bytes.
abbrev pub FitsIn : ℕ → Front → Type 0
FitsIn len shapes.End = Unit {0}
FitsIn len (shapes.Blank n) = (0 < n) × (n ≤ len)
FitsIn len (shapes.Word n) = (0 < n) × (n ≤ len)
FitsIn len (shapes.Number n) = (0 < n) × (n ≤ len)
FitsIn len (shapes.Key key n) = (0 < n) × (n ≤ len)
FitsIn len (shapes.Mark mark n) = (0 < n) × (n ≤ len)
FitsIn len (shapes.Fault number n) = (0 < n) × (n ≤ len)
