-- What bytes begin with: nothing more, white space or a comment with its length, a token with its
-- length, or an error with its number and its length.
use Rattle.heyvl_syntax.specs.declared.tokens.TokenKind.{TokenKind}
use Rattle.std.specs.Prelude.{ℕ}

pub data Found : Type 0 where
  End : Found
  Blank : ℕ → Found
  Token : TokenKind → ℕ → Found
  Fault : ℕ → ℕ → Found
