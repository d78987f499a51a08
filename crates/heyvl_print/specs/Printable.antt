-- Tokens that some bytes have, at any places. This project's own.
use Rattle.heyvl_syntax.specs.Keys.{key_text}
use Rattle.heyvl_syntax.specs.Literals.{IsInLimits}
use Rattle.heyvl_syntax.specs.Tokens.{IsWord}
use Rattle.heyvl_syntax.specs.declared.keys.Key.{Key}
use Rattle.heyvl_syntax.specs.declared.tokens.Token.{Token}
use Rattle.heyvl_syntax.specs.declared.tokens.TokenKind.TheVariants as kinds
use Rattle.heyvl_syntax.specs.declared.tokens.TokenKind.{TokenKind}
use Rattle.std.specs.Prelude.{List, [], ◌∷◌, ◌≡◌}

-- Some bytes have a token of this kind: the bytes of an identifier have its form and are not a
-- keyword, and a number is within the limits of literals.
abbrev pub IsPrintable : TokenKind → Type 0
IsPrintable (kinds.Word x) = IsWord x × ((key : Key) → key_text key ≡ x → ⊥)
IsPrintable (kinds.Number lit) = IsInLimits lit
IsPrintable (kinds.Key k) = Unit {0}
IsPrintable (kinds.Mark m) = Unit {0}

-- Each token of a list is printable.
abbrev pub ArePrintable : List Token → Type 0
ArePrintable [] = Unit {0}
ArePrintable (t ∷ ts) = IsPrintable t.kind × ArePrintable ts
