-- How productions are composed from tokens, and which bytes a list of tokens covers.
use Rattle.heyvl_places.specs.declared.spans.Span.{Span}
use Rattle.heyvl_syntax.specs.declared.keys.Key.{Key}
use Rattle.heyvl_syntax.specs.declared.literals.Lit.{Lit}
use Rattle.heyvl_syntax.specs.declared.marks.Mark.TheVariants as marks
use Rattle.heyvl_syntax.specs.declared.marks.Mark.{Mark}
use Rattle.heyvl_syntax.specs.declared.tokens.Token.{Token}
use Rattle.heyvl_syntax.specs.declared.tokens.TokenKind.TheVariants as kinds
use Rattle.heyvl_syntax.specs.declared.tokens.TokenKind.{TokenKind}
use Rattle.std.specs.Prelude.{List, None, Option, Some, [], ◌++◌, ◌∷◌, ◌≡◌, ◌⊎◌, ℕ}

infixr 30 ◌then◌
infixr 20 ◌or◌
-- The index of the first byte of the first token.
abbrev pub first_byte : List Token → ℕ
first_byte [] = 0
first_byte (t ∷ ts) = t.span.from

-- The index after the last byte of the last token.
abbrev pub last_end : List Token → ℕ
last_end [] = 0
last_end (t ∷ []) = t.span.to
last_end (t ∷ u ∷ ts) = last_end (u ∷ ts)

-- The span from the first byte of the first token to the end of the last one.
abbrev pub extent : List Token → Span
extent ts = record { from = first_byte ts; to = last_end ts }

-- The token of kind `kind` at the place `span`.
abbrev pub at : TokenKind → Span → Token
at kind span = record { kind = kind; span = span }

-- The tokens are exactly one: that of kind `kind` at the place `span`.
abbrev pub IsAt : TokenKind → Span → List Token → Type 0
IsAt kind span ts = ts ≡ at kind span ∷ []

-- The tokens are exactly one, of kind `kind`.
abbrev pub IsOne : TokenKind → List Token → Type 0
IsOne kind ts = (span : Span) × IsAt kind span ts

-- The tokens are exactly the keyword `key`.
abbrev pub IsKey : Key → List Token → Type 0
IsKey key = IsOne (kinds.Key key)

-- The tokens are exactly the symbol `mark`.
abbrev pub IsMark : Mark → List Token → Type 0
IsMark mark = IsOne (kinds.Mark mark)

-- W: the tokens are exactly the identifier `name`.
abbrev pub IsName : List ℕ → List Token → Type 0
IsName name = IsOne (kinds.Word name)

-- N: the tokens are exactly the number `lit`.
abbrev pub IsLiteral : Lit → List Token → Type 0
IsLiteral lit = IsOne (kinds.Number lit)

-- There is no token.
abbrev pub IsNothing : List Token → Type 0
IsNothing ts = ts ≡ []

-- x y: some tokens of `P`, followed by tokens of `Q`.
abbrev pub ◌then◌ : (List Token → Type 0) → (List Token → Type 0) → List Token → Type 0
◌then◌ P Q ts = (front back : List Token) × P front × Q back × (ts ≡ front ++ back)

-- x | y
abbrev pub ◌or◌ : (List Token → Type 0) → (List Token → Type 0) → List Token → Type 0
◌or◌ P Q ts = P ts ⊎ Q ts

-- x?: nothing for `None`, and `P x` for `Some x`.
abbrev pub IsOptional : {A : Type 0} → (A → List Token → Type 0) → Option A → List Token → Type 0
IsOptional P None = IsNothing
IsOptional P (Some x) = P x

-- x*: the items of the list, one after another.
abbrev pub IsEach : {A : Type 0} → (A → List Token → Type 0) → List A → List Token → Type 0
IsEach P [] = IsNothing
IsEach P (x ∷ xs) = P x then IsEach P xs

-- (',' x)*: the items of the list, each after a comma.
abbrev pub IsMore : {A : Type 0} → (A → List Token → Type 0) → List A → List Token → Type 0
IsMore P [] = IsNothing
IsMore P (x ∷ xs) = IsMark marks.Comma then P x then IsMore P xs

-- list(x): the items of the list, at least one, with ',' between.
abbrev pub IsList : {A : Type 0} → (A → List Token → Type 0) → List A → List Token → Type 0
IsList P [] ts = ⊥
IsList P (x ∷ xs) ts = (P x then IsMore P xs) ts

-- list0(x): nothing, or list(x).
abbrev pub IsList0 : {A : Type 0} → (A → List Token → Type 0) → List A → List Token → Type 0
IsList0 P [] = IsNothing
IsList0 P (x ∷ xs) = IsList P (x ∷ xs)

-- ';'*
abbrev pub AreSemis : List Token → Type 0
AreSemis [] = Unit {0}
AreSemis (t ∷ ts) = (t.kind ≡ kinds.Mark marks.Semi) × AreSemis ts
