-- Combinators of readers. A reader looks at no token after the first one that it leaves.
use Prim.Native.Nat.{suc, zero}
use Rattle.heyvl_parse.specs.readers.ReadParts.{Bad, Got, Out, Read, is_mark, mapped, one}
use Rattle.heyvl_parse.specs.readers.ReadParts.{operator_of, ◌>>=◌}
use Rattle.heyvl_syntax.specs.Productions.{extent}
use Rattle.heyvl_syntax.specs.contracts.keys.Key.{the_type as the_keys}
use Rattle.heyvl_syntax.specs.declared.keys.Key.{Key}
use Rattle.heyvl_syntax.specs.declared.marks.Mark.TheVariants as marks
use Rattle.heyvl_places.specs.declared.spans.Span.{Span}
use Rattle.heyvl_syntax.specs.declared.tokens.Token.{Token}
use Rattle.heyvl_syntax.specs.declared.tokens.TokenKind.TheVariants as kinds
use Rattle.heyvl_syntax.specs.declared.tokens.TokenKind.{TokenKind}
use Rattle.std.specs.Prelude.{Bool, List, None, Option, Some, [], cond, false, length, nat_eq, take}
use Rattle.std.specs.Prelude.{true, ◌++◌, ◌-◌, ◌∷◌, ℕ}
use Rattle.std.specs.Cmp.Lexicographic.{pointwise}
use denote.Enum.Bare.{sameb}

-- The kind of the first token.
abbrev pub front : List Token → Option TokenKind
front [] = None
front (t ∷ ts) = Some t.kind

-- Whether the first token satisfies `test`.
abbrev pub starts : (TokenKind → Bool) → List Token → Bool
starts test [] = false
starts test (t ∷ ts) = test t.kind

-- Whether a token is the keyword `k`.
abbrev pub is_key : Key → TokenKind → Bool
is_key k (kinds.Key l) = sameb the_keys l k
is_key k (kinds.Word w) = false
is_key k (kinds.Number n) = false
is_key k (kinds.Mark m) = false

-- Whether a token is the identifier with the bytes `name`.
abbrev pub is_word : List ℕ → TokenKind → Bool
is_word name (kinds.Word w) = pointwise nat_eq w name
is_word name (kinds.Key k) = false
is_word name (kinds.Number n) = false
is_word name (kinds.Mark m) = false

-- Whether an option holds a value.
abbrev pub is_there : {A : Type 0} → Option A → Bool
is_there None = false
is_there (Some x) = true

-- Whether a token is a binary operator.
abbrev pub is_operator : TokenKind → Bool
is_operator kind = is_there (operator_of kind)

-- The test that no token passes.
abbrev pub no_kind : TokenKind → Bool
no_kind kind = false

-- The test that a token passes if it passes `one` or `two`.
abbrev pub either : (TokenKind → Bool) → (TokenKind → Bool) → TokenKind → Bool
either one two kind = cond (one kind) true (two kind)

-- Reads a token that satisfies `test`, and gives its place.
abbrev pub sign : (TokenKind → Bool) → List Token → Read Span
sign test ts = one (λ t. cond (test t.kind) (Some t.span) None) ts

-- Reads a token for whose kind `of` has a value, and gives the value.
abbrev pub kind : {A : Type 0} → (TokenKind → Option A) → List Token → Read A
kind of ts = one (λ t. of t.kind) ts

-- Reads a token that satisfies `test` and then by `f`, and gives what `f` has read.
abbrev pub lead : {A : Type 0} → (TokenKind → Bool) → (List Token → Read A) → List Token → Read A
lead test f ts = sign test ts >>= λ s r. f r

-- Reads by `f` and then a token that satisfies `test`, and gives what `f` has read.
abbrev pub trail : {A : Type 0} → (List Token → Read A) → (TokenKind → Bool) → List Token → Read A
trail f test ts = f ts >>= λ x r. sign test r >>= λ s r'. Got x r'

-- The tokens of `ts` before its rest `r`.
abbrev pub taken : List Token → List Token → List Token
taken ts r = take (length ts - length r) ts

-- Reads by `f`, and applies `h` to what was read and its place.
abbrev pub spanned : {A B : Type 0} → (A → Span → B) → (List Token → Read A) → List Token → Read B
spanned h f ts = f ts >>= λ x r. Got (h x (extent (taken ts r))) r

-- Reads nothing: an error at the first token.
abbrev pub refuse : {A : Type 0} → List Token → Read A
refuse ts = Bad ts

-- Reads nothing more: `x` if no token is left, otherwise an error.
abbrev pub ended : {A : Type 0} → A → List Token → Read A
ended x [] = Got x []
ended x (t ∷ ts) = Bad (t ∷ ts)

-- Reads an item by `f` if the Boolean holds, otherwise nothing.
abbrev pub some_if : {A : Type 0} → (List Token → Read A) → Bool → List Token → Read (Option A)
some_if f false ts = Got None ts
some_if f true ts = mapped Some f ts

-- Reads an item by `f` if the first token satisfies `test`, otherwise nothing.
abbrev pub optional : {A : Type 0} → (TokenKind → Bool) → (List Token → Read A) → List Token
    → Read (Option A)
optional test f ts = some_if f (starts test ts) ts

-- A result of reading, with the items `before` before its own.
abbrev pub with_front : {A : Type 0} → List A → Read (List A) → Read (List A)
with_front before (Got xs r) = Got (before ++ xs) r
with_front before (Bad r) = Bad r
with_front before Out = Out

-- A result of reading: the items `before`, then the item that was read.
abbrev pub added : {A : Type 0} → List A → Read A → Read (List A)
added before (Got x r) = Got (before ++ (x ∷ [])) r
added before (Bad r) = Bad r
added before Out = Out

-- Reads an item by `f`, then further items by `g`.
abbrev pub cons : {A : Type 0} → (List Token → Read A) → (List Token → Read (List A)) → List Token
    → Read (List A)
cons f g ts = f ts >>= λ x r. with_front (x ∷ []) (g r)

-- Reads an item by `f` and further items by `others` if the Boolean holds, otherwise no item.
abbrev pub each_if : {A : Type 0} → (List Token → Read A) → (List Token → Read (List A)) → Bool
    → List Token → Read (List A)
each_if f others false ts = Got [] ts
each_if f others true ts = cons f others ts

-- Reads items by `f` as long as the first token satisfies `test`.
abbrev pub each : {A : Type 0} → (TokenKind → Bool) → (List Token → Read A) → ℕ → List Token
    → Read (List A)
each test f zero ts = Out
each test f (suc n) ts = each_if f (each test f n) (starts test ts) ts

-- Reads one or more items by `f`, with `,` between them.
abbrev pub list : {A : Type 0} → (List Token → Read A) → ℕ → List Token → Read (List A)
list f n ts = cons f (each (is_mark marks.Comma) (lead (is_mark marks.Comma) f) n) ts

-- Reads no item if the Boolean holds, otherwise one or more with `,` between them.
abbrev pub list_if : {A : Type 0} → (List Token → Read A) → ℕ → Bool → List Token → Read (List A)
list_if f n true ts = Got [] ts
list_if f n false ts = list f n ts

-- Reads items by `f` with `,` between them, or no item before `)`.
abbrev pub list0 : {A : Type 0} → (List Token → Read A) → ℕ → List Token → Read (List A)
list0 f n ts = list_if f n (starts (is_mark marks.ParenRight) ts) ts
