-- Expressions of one token.
use Rattle.heyvl_parse.specs.readers.Combinators.{either, is_operator, starts}
use Rattle.heyvl_parse.specs.readers.ReadParts.{Read, is_mark, one}
use Rattle.heyvl_places.specs.declared.spans.Span.{Span}
use Rattle.heyvl_syntax.specs.Expressions.{Expression}
use Rattle.heyvl_syntax.specs.declared.marks.Mark.TheVariants as marks
use Rattle.heyvl_syntax.specs.declared.tokens.Token.{Token}
use Rattle.heyvl_syntax.specs.declared.tokens.TokenKind.TheVariants as kinds
use Rattle.heyvl_syntax.specs.declared.tokens.TokenKind.{TokenKind}
use Rattle.std.specs.Prelude.{Bool, List, None, Option, Some, [], false, not, true, ◌&&◌, ◌∷◌}

-- Whether a token is an identifier or a number.
abbrev pub is_leaf : TokenKind → Bool
is_leaf (kinds.Word w) = true
is_leaf (kinds.Number n) = true
is_leaf (kinds.Key k) = false
is_leaf (kinds.Mark m) = false

-- Whether a token continues an expression after an identifier or a number: it is an operator, or
-- the `(` of a call.
abbrev pub goes_on : TokenKind → Bool
goes_on kind = either (is_mark marks.ParenLeft) is_operator kind

-- Whether the first token is an identifier or a number that the next token does not continue.
abbrev pub is_alone : List Token → Bool
is_alone [] = false
is_alone (t ∷ ts) = is_leaf t.kind && not (starts goes_on ts)

abbrev pub leaf_of : TokenKind → Span → Option Expression
leaf_of (kinds.Word w) s = Some (Expression.name w s)
leaf_of (kinds.Number n) s = Some (Expression.number n s)
leaf_of (kinds.Key k) s = None
leaf_of (kinds.Mark m) s = None

-- Reads an identifier or a number.
abbrev pub leaf : List Token → Read Expression
leaf ts = one (λ t. leaf_of t.kind t.span) ts
