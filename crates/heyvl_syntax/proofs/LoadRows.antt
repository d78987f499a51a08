-- Worked examples of the load, computed.
use Rattle.heyvl_syntax.specs.Load.{loads, overload}
use Rattle.heyvl_syntax.specs.declared.keys.Key.TheVariants as keys
use Rattle.heyvl_syntax.specs.declared.keys.Key.{Key}
use Rattle.heyvl_syntax.specs.declared.marks.Mark.TheVariants as marks
use Rattle.heyvl_syntax.specs.declared.marks.Mark.{Mark}
use Rattle.heyvl_syntax.specs.declared.tokens.Token.{Token}
use Rattle.heyvl_syntax.specs.declared.tokens.TokenKind.TheVariants as kinds
use Rattle.heyvl_syntax.specs.declared.tokens.TokenKind.{TokenKind}
use Rattle.std.specs.Prelude.{pos}
use Rattle.std.proofs.Common.{List, [], codes, length, refl, replicate, ◌++◌, ◌∷◌, ◌≡◌, ℕ}

-- The load does not depend on places.
abbrev here : TokenKind → Token
here kind = record { kind = kind; span = record { from = 0; to = 0 } }

abbrev key : Key → Token
key k = here (kinds.Key k)

abbrev mark : Mark → Token
mark m = here (kinds.Mark m)

abbrev word : Token
word = here (kinds.Word (codes "x"))

abbrev number : Token
number = here (kinds.Number (record { digits = pos 1; places = 0 }))

abbrev of_text : List Token → List ℕ
of_text = loads (0 ∷ [])

-- The empty text has no loads, and no token exceeds the limit.
no_tokens : of_text [] ≡ []
no_tokens = refl

no_overload : overload [] ≡ 0
no_overload = refl

-- coproc coin(
abbrev coin_head : List Token
coin_head = key keys.CoProc ∷ word ∷ mark marks.ParenLeft ∷ []

coin_head_is : of_text coin_head ≡ 0 ∷ 0 ∷ 1 ∷ []
coin_head_is = refl

-- coproc d() -> () pre
abbrev head : List Token
head =
    key keys.CoProc ∷ word ∷ mark marks.ParenLeft ∷ mark marks.ParenRight ∷ mark marks.Arrow ∷ mark marks.ParenLeft
    ∷ mark marks.ParenRight ∷ key keys.Pre ∷ []

head_is : of_text head ≡ 0 ∷ 0 ∷ 1 ∷ 0 ∷ 0 ∷ 1 ∷ 0 ∷ 0 ∷ []
head_is = refl

-- coproc h() -> (b: Bool) pre 1 post [b] { havoc b }
abbrev havoc_text : List Token
havoc_text =
    key keys.CoProc ∷ word ∷ mark marks.ParenLeft ∷ mark marks.ParenRight ∷ mark marks.Arrow ∷ mark marks.ParenLeft ∷ word
    ∷ mark marks.Colon ∷ key keys.BoolWord ∷ mark marks.ParenRight ∷ key keys.Pre ∷ number ∷ key keys.Post
    ∷ mark marks.BracketLeft ∷ word ∷ mark marks.BracketRight ∷ mark marks.BraceLeft ∷ key keys.Havoc ∷ word
    ∷ mark marks.BraceRight ∷ []

havoc_text_is : of_text havoc_text ≡ 0 ∷ 0 ∷ 1 ∷ 0 ∷ 0 ∷ 1 ∷ 1 ∷ 1 ∷ 1 ∷ 0 ∷ 0 ∷ 0 ∷ 0 ∷ 1 ∷ 1 ∷ 0 ∷ 1 ∷ 1 ∷ 1 ∷ 0 ∷ []
havoc_text_is = refl

-- 200 open parentheses are within the limit. The 201st, which has index 208 after the 8 tokens of a
-- head, exceeds it.
parentheses_200 : overload (head ++ replicate 200 (mark marks.ParenLeft)) ≡ 208
parentheses_200 = refl

parentheses_201 : overload (head ++ replicate 201 (mark marks.ParenLeft)) ≡ 208
parentheses_201 = refl

all_of_200 : length (head ++ replicate 200 (mark marks.ParenLeft)) ≡ 208
all_of_200 = refl

alone_200 : overload (replicate 200 (mark marks.BraceLeft)) ≡ 200
alone_200 = refl

alone_201 : overload (replicate 201 (mark marks.BraceLeft) ++ word ∷ []) ≡ 200
alone_201 = refl

-- Brackets close each other whatever their kind: ( [ } {
mixed_brackets : of_text (mark marks.ParenLeft ∷ mark marks.BracketLeft ∷ mark marks.BraceRight ∷ mark marks.BraceLeft ∷ []) ≡ 1 ∷ 2 ∷ 1 ∷ 2 ∷ []
mixed_brackets = refl

-- Closing brackets without opening ones keep the single count: + ) ] + } (
unopened_brackets :
    of_text (mark marks.Plus ∷ mark marks.ParenRight ∷ mark marks.BracketRight ∷ mark marks.Plus ∷ mark marks.BraceRight ∷ mark marks.ParenLeft ∷ [])
    ≡ 1 ∷ 1 ∷ 1 ∷ 2 ∷ 2 ∷ 3 ∷ []
unopened_brackets = refl

-- Operators count without brackets: x + x * x ==> x \cap x
operators_alone :
    of_text (word ∷ mark marks.Plus ∷ word ∷ mark marks.Star ∷ word ∷ mark marks.Imply ∷ word ∷ key keys.Cap ∷ word ∷ [])
    ≡ 0 ∷ 1 ∷ 1 ∷ 2 ∷ 2 ∷ 3 ∷ 3 ∷ 4 ∷ 4 ∷ []
operators_alone = refl

operators_201 : overload (replicate 201 (mark marks.Bang)) ≡ 200
operators_201 = refl

-- A closed bracket takes its count along, and a separator sets only the innermost count to 0: - ( -
-- - , - ) - ; -
separated :
    of_text (mark marks.Minus ∷ mark marks.ParenLeft ∷ mark marks.Minus ∷ mark marks.Minus ∷ mark marks.Comma ∷ mark marks.Minus ∷ mark marks.ParenRight ∷ mark marks.Minus ∷ mark marks.Semi ∷ mark marks.Minus ∷ [])
    ≡ 1 ∷ 2 ∷ 3 ∷ 4 ∷ 2 ∷ 3 ∷ 1 ∷ 2 ∷ 0 ∷ 1 ∷ []
separated = refl

-- if \cap adds 1 after `if` has set the count to 0; colons, points, arrows, question marks, ite,
-- flip and choose keep the counts.
picks : of_text (mark marks.Plus ∷ key keys.If ∷ key keys.Cap ∷ []) ≡ 1 ∷ 0 ∷ 1 ∷ []
picks = refl

kept :
    of_text (mark marks.Plus ∷ mark marks.Colon ∷ mark marks.Dot ∷ mark marks.Arrow ∷ mark marks.Question ∷ key keys.Ite ∷ key keys.Flip ∷ key keys.Choose ∷ key keys.Infty ∷ [])
    ≡ 1 ∷ 1 ∷ 1 ∷ 1 ∷ 1 ∷ 1 ∷ 1 ∷ 1 ∷ 1 ∷ []
kept = refl
