-- The lexer splits the bytes of sound pieces into the tokens of these pieces.
use Rattle.heyvl_print.specs.Pieces.{Piece, blank, line_feed, text_of, token, token_text}
use Rattle.heyvl_syntax.proofs.exported.Steps.{made}
use Rattle.heyvl_syntax.proofs.exported.TokenReads.{Reads, lexes_read}
use Rattle.heyvl_syntax.specs.Tokens.{Lexes, white}
use Rattle.heyvl_syntax.specs.declared.tokens.Token.{Token}
use Rattle.std.proofs.Common.{List, [], length, refl, ◌+◌, ◌∷◌, ℕ}

-- Each token is the first one that the lexer finds at its bytes.
abbrev pub Sound : List Piece → Type 0
Sound [] = Unit {0}
Sound (blank ∷ ps) = Sound ps
Sound (line_feed ∷ ps) = Sound ps
Sound (token kind ∷ ps) = Reads kind (token_text kind) (text_of ps) × Sound ps

-- The tokens of the pieces with their places, from `place` on.
abbrev pub tokens_at : ℕ → List Piece → List Token
tokens_at place [] = []
tokens_at place (blank ∷ ps) = tokens_at (place + 1) ps
tokens_at place (line_feed ∷ ps) = tokens_at (place + 1) ps
tokens_at place (token kind ∷ ps) = made kind place (length (token_text kind)) ∷ tokens_at (place + length (token_text kind)) ps

pub lexes_pieces : (place : ℕ) (ps : List Piece) → Sound ps → Lexes place (text_of ps) (tokens_at place ps)
lexes_pieces place [] h = record { parts = []; splits = refl; are_tokens = refl }
lexes_pieces place (blank ∷ ps) h =
    let rest = lexes_pieces (place + 1) ps h in
    record { parts = white ∷ rest.parts; splits = (1, (refl, refl), rest.splits); are_tokens = rest.are_tokens }
lexes_pieces place (line_feed ∷ ps) h =
    let rest = lexes_pieces (place + 1) ps h in
    record { parts = white ∷ rest.parts; splits = (1, (refl, refl), rest.splits); are_tokens = rest.are_tokens }
lexes_pieces place (token kind ∷ ps) h =
    let n = length (token_text kind) in
    lexes_read place kind (token_text kind) (text_of ps) h.0 (tokens_at (place + n) ps) (lexes_pieces (place + n) ps h.1)
