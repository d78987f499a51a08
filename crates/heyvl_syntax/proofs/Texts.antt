-- Small texts for worked examples: tokens of one byte each, one after another from index 0 on.
use Rattle.heyvl_places.specs.declared.spans.Span.{Span}
use Rattle.heyvl_syntax.specs.Expressions.{Expression}
use Rattle.heyvl_syntax.specs.Productions.{IsOne, at, extent}
use Rattle.heyvl_syntax.specs.declared.keys.Key.{Key}
use Rattle.heyvl_syntax.specs.declared.marks.Mark.{Mark}
use Rattle.heyvl_syntax.specs.declared.tokens.Token.{Token}
use Rattle.heyvl_syntax.specs.declared.tokens.TokenKind.TheVariants as kinds
use Rattle.heyvl_syntax.specs.declared.tokens.TokenKind.{TokenKind}
use Rattle.std.proofs.Common.{List, [], codes, refl, ◌+◌, ◌∷◌, ◌≡◌, ℕ}

abbrev pub span : ℕ → ℕ → Span
span from to = record { from = from; to = to }

abbrev pub placed : ℕ → List TokenKind → List Token
placed i [] = []
placed i (kind ∷ kinds) = at kind (span i (i + 1)) ∷ placed (i + 1) kinds

abbrev pub text : List TokenKind → List Token
text = placed 0

abbrev pub sign : Mark → TokenKind
sign mark = kinds.Mark mark

abbrev pub key : Key → TokenKind
key k = kinds.Key k

abbrev pub word : List ℕ → TokenKind
word x = kinds.Word x

-- Names.
abbrev pub a : List ℕ
a = codes "a"

abbrev pub b : List ℕ
b = codes "b"

abbrev pub c : List ℕ
c = codes "c"

-- A variable whose token begins at the given byte.
abbrev pub name : List ℕ → ℕ → Expression
name x from = Expression.name x (span from (from + 1))

-- A single token is spelled by itself, and its extent is its place.
pub token : {kind : TokenKind} {s : Span} → IsOne kind (at kind s ∷ [])
token {s = s} = (s, refl)

pub leaf : {kind : TokenKind} {s : Span} → IsOne kind (at kind s ∷ []) × (s ≡ extent (at kind s ∷ []))
leaf = (token, refl)
