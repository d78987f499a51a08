-- A text as a list of tokens and white space. This project's own.
use Rattle.heyvl_print.specs.Numbers.{number_text}
use Rattle.heyvl_syntax.specs.Keys.{key_text}
use Rattle.heyvl_syntax.specs.Marks.{mark_text}
use Rattle.heyvl_syntax.specs.declared.keys.Key.{Key}
use Rattle.heyvl_syntax.specs.declared.marks.Mark.TheVariants as marks
use Rattle.heyvl_syntax.specs.declared.marks.Mark.{Mark}
use Rattle.heyvl_syntax.specs.declared.tokens.TokenKind.TheVariants as kinds
use Rattle.heyvl_syntax.specs.declared.tokens.TokenKind.{TokenKind}
use Rattle.std.specs.Prelude.{List, [], replicate, ◌++◌, ◌∷◌, ℕ}

-- A token, or a byte of white space: a space or a line feed.
pub data Piece : Type 0 where
  token : TokenKind → Piece
  blank : Piece
  line_feed : Piece

-- The bytes of a token.
abbrev pub token_text : TokenKind → List ℕ
token_text (kinds.Word name) = name
token_text (kinds.Number lit) = number_text lit
token_text (kinds.Key key) = key_text key
token_text (kinds.Mark mark) = mark_text mark

-- The bytes of a piece.
abbrev pub piece_text : Piece → List ℕ
piece_text (token kind) = token_text kind
piece_text blank = 32 ∷ []
piece_text line_feed = 10 ∷ []

-- The bytes of pieces, in their order.
abbrev pub text_of : List Piece → List ℕ
text_of [] = []
text_of (p ∷ ps) = piece_text p ++ text_of ps

-- The token of the keyword `k` alone.
abbrev pub key : Key → List Piece
key k = token (kinds.Key k) ∷ []

-- The token of the symbol `m` alone.
abbrev pub mark : Mark → List Piece
mark m = token (kinds.Mark m) ∷ []

-- The token of the identifier `x` alone.
abbrev pub word : List ℕ → List Piece
word x = token (kinds.Word x) ∷ []

-- One space.
abbrev pub space : List Piece
space = blank ∷ []

-- One line feed.
abbrev pub feed : List Piece
feed = line_feed ∷ []

-- The `n` spaces before a line.
abbrev pub margin : ℕ → List Piece
margin n = replicate n blank

infixr 30 ◌then◌
-- `ps then qs`: the pieces `ps`, then the pieces `qs`.
abbrev pub ◌then◌ : List Piece → List Piece → List Piece
◌then◌ ps qs = ps ++ qs

-- A comma and one space.
abbrev pub comma : List Piece
comma = mark marks.Comma then space

-- A colon and one space.
abbrev pub colon : List Piece
colon = mark marks.Colon then space

-- The pieces of all items, in their order.
abbrev pub each : {A : Type 0} → (A → List Piece) → List A → List Piece
each item [] = []
each item (x ∷ xs) = item x then each item xs

-- The pieces of all items, with `separator` between them.
abbrev pub separated : {A : Type 0} → List Piece → (A → List Piece) → List A → List Piece
separated separator item [] = []
separated separator item (x ∷ xs) = item x then each (λ y. separator then item y) xs
