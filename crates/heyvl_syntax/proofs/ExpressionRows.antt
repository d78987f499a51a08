-- Worked examples of the grammar of expressions: small texts with the trees that they spell, and
-- trees that no text spells.
use Rattle.heyvl_places.specs.declared.spans.Span.{Span}
use Rattle.heyvl_syntax.proofs.Texts.{a, b, c, key, leaf, name, sign, span, text, token, word}
use Rattle.heyvl_syntax.specs.Expressions.{Expression}
use Rattle.heyvl_syntax.specs.Grammar.{IsFull, operator, prefix, quantifier_key, ranks, truth_key}
use Rattle.heyvl_syntax.specs.declared.keys.Key.TheVariants as keys
use Rattle.heyvl_syntax.specs.declared.marks.Mark.TheVariants as marks
use Rattle.heyvl_syntax.specs.declared.operators.BinaryOp.TheVariants as ops
use Rattle.heyvl_syntax.specs.declared.operators.BinaryOp.{BinaryOp}
use Rattle.heyvl_syntax.specs.declared.operators.UnaryOp.TheVariants as prefixes
use Rattle.heyvl_syntax.specs.declared.operators.UnaryOp.{UnaryOp}
use Rattle.heyvl_syntax.specs.declared.tokens.Token.{Token}
use Rattle.heyvl_syntax.specs.declared.tokens.TokenKind.TheVariants as kinds
use Rattle.heyvl_syntax.specs.declared.types.TypeName.TheVariants as types
use Rattle.std.proofs.Common.{Bool, List, [], ap, arith, codes, pos, refl, true, ◌<◌, ◌∷◌, ◌≡◌, ◌≤◌}

-- W
a_name : IsFull (name a 0) (text (word a ∷ []))
a_name = leaf

-- N
a_number : IsFull (Expression.number (record { digits = pos 15; places = 1 }) (span 0 1)) (text (kinds.Number (record { digits = pos 15; places = 1 }) ∷ []))
a_number = leaf

-- 'true' | 'false'
truths : (v : Bool) → IsFull (Expression.truth v (span 0 1)) (text (key (truth_key v) ∷ []))
truths v = leaf

-- '\infty'
infinity : IsFull (Expression.infinity (span 0 1)) (text (kinds.Key keys.Infty ∷ []))
infinity = leaf

-- '(' expr ')'
group : IsFull (Expression.group (name a 1) (span 0 3)) (text (sign marks.ParenLeft ∷ word a ∷ sign marks.ParenRight ∷ []))
group = ((_, _, token, (_, _, leaf, token, refl), refl), refl)

-- '[' expr ']'
bracket : IsFull (Expression.bracket (name a 1) (span 0 3)) (text (sign marks.BracketLeft ∷ word a ∷ sign marks.BracketRight ∷ []))
bracket = ((_, _, token, (_, _, leaf, token, refl), refl), refl)

-- '?' '(' expr ')'
embed :
    IsFull (Expression.embed (name a 2) (span 0 4)) (text (sign marks.Question ∷ sign marks.ParenLeft ∷ word a ∷ sign marks.ParenRight ∷ []))
embed = ((_, _, token, (_, _, token, (_, _, leaf, token, refl), refl), refl), refl)

-- 'ite' '(' expr ',' expr ',' expr ')'
choice :
    IsFull (Expression.choice (name a 2) (name b 4) (name c 6) (span 0 8))
    (text (key keys.Ite ∷ sign marks.ParenLeft ∷ word a ∷ sign marks.Comma ∷ word b ∷ sign marks.Comma ∷ word c ∷ sign marks.ParenRight ∷ []))
choice =
    ((_, _, token, (_, _, token, (_, _, leaf, (_, _, token, (_, _, leaf, (_, _, token, (_, _, leaf, token, refl), refl), refl), refl), refl), refl), refl), refl)

-- ('!'|'-'|'~') e9, where e9 is an atom, and where it is another prefix operator with its operand.
prefixes_of_atoms : (op : UnaryOp) → IsFull (Expression.unary op (name a 1) (span 0 2)) (text (sign (prefix op) ∷ word a ∷ []))
prefixes_of_atoms op = ((_, _, token, leaf, refl), refl)

prefixes_of_prefixes : (o p : UnaryOp) →
    IsFull (Expression.unary o (Expression.unary p (name a 2) (span 1 3)) (span 0 3)) (text (sign (prefix o) ∷ sign (prefix p) ∷ word a ∷ []))
prefixes_of_prefixes o p = ((_, _, token, ((_, _, token, leaf, refl), refl), refl), refl)

-- The ranks of each binary operator and of its operands are at most that of e1.
bounds : (op : BinaryOp) → ((ranks op).rank ≤ 8) × ((ranks op).left ≤ 8) × ((ranks op).right ≤ 8)
bounds ops.Imply = (omega arith, omega arith, omega arith)
bounds ops.CoImply = (omega arith, omega arith, omega arith)
bounds ops.Cup = (omega arith, omega arith, omega arith)
bounds ops.Cap = (omega arith, omega arith, omega arith)
bounds ops.Or = (omega arith, omega arith, omega arith)
bounds ops.And = (omega arith, omega arith, omega arith)
bounds ops.Same = (omega arith, omega arith, omega arith)
bounds ops.Differ = (omega arith, omega arith, omega arith)
bounds ops.Less = (omega arith, omega arith, omega arith)
bounds ops.AtMost = (omega arith, omega arith, omega arith)
bounds ops.More = (omega arith, omega arith, omega arith)
bounds ops.AtLeast = (omega arith, omega arith, omega arith)
bounds ops.Plus = (omega arith, omega arith, omega arith)
bounds ops.Minus = (omega arith, omega arith, omega arith)
bounds ops.Star = (omega arith, omega arith, omega arith)
bounds ops.Slash = (omega arith, omega arith, omega arith)

expr_bound : (op : BinaryOp) → (ranks op).rank ≤ 9
expr_bound op = let bound = (bounds op).0 in omega arith

rank_positive : (op : BinaryOp) → 0 < (ranks op).rank
rank_positive ops.Imply = omega arith
rank_positive ops.CoImply = omega arith
rank_positive ops.Cup = omega arith
rank_positive ops.Cap = omega arith
rank_positive ops.Or = omega arith
rank_positive ops.And = omega arith
rank_positive ops.Same = omega arith
rank_positive ops.Differ = omega arith
rank_positive ops.Less = omega arith
rank_positive ops.AtMost = omega arith
rank_positive ops.More = omega arith
rank_positive ops.AtLeast = omega arith
rank_positive ops.Plus = omega arith
rank_positive ops.Minus = omega arith
rank_positive ops.Star = omega arith
rank_positive ops.Slash = omega arith

-- Each operator between two names. The place of the expression is that of the operator.
binaries : (op : BinaryOp) → IsFull (Expression.binary op (name a 0) (name b 2) (span 1 2)) (text (word a ∷ operator op ∷ word b ∷ []))
binaries op = (expr_bound op, (_, _, leaf, (_, _, refl, leaf, refl), refl))

-- a p b o c as (a p b) o c, and a o b p c as a o (b p c).
left_tree : BinaryOp → BinaryOp → Expression
left_tree o p = Expression.binary o (Expression.binary p (name a 0) (name b 2) (span 1 2)) (name c 4) (span 3 4)

right_tree : BinaryOp → BinaryOp → Expression
right_tree o p = Expression.binary o (name a 0) (Expression.binary p (name b 2) (name c 4) (span 3 4)) (span 1 2)

pair_text : BinaryOp → BinaryOp → List Token
pair_text first second = text (word a ∷ operator first ∷ word b ∷ operator second ∷ word c ∷ [])

left_grouped : (o p : BinaryOp) → (ranks p).rank ≤ (ranks o).left → IsFull (left_tree o p) (pair_text p o)
unfolding left_tree pair_text
left_grouped o p within = (expr_bound o, (_, _, (within, (_, _, leaf, (_, _, refl, leaf, refl), refl)), (_, _, refl, leaf, refl), refl))

right_grouped : (o p : BinaryOp) → (ranks p).rank ≤ (ranks o).right → IsFull (right_tree o p) (pair_text o p)
unfolding right_tree pair_text
right_grouped o p within = (expr_bound o, (_, _, leaf, (_, _, refl, (within, (_, _, leaf, (_, _, refl, leaf, refl), refl)), refl), refl))

not_left : (o p : BinaryOp) → (ranks o).left < (ranks p).rank → (ts : List Token) → IsFull (left_tree o p) ts → ⊥
unfolding left_tree
not_left o p above ts spelled = let within = spelled.1.2.0 in absurd (omega arith)

not_right : (o p : BinaryOp) → (ranks o).right < (ranks p).rank → (ts : List Token) → IsFull (right_tree o p) ts → ⊥
unfolding right_tree
not_right o p above ts spelled = let within = spelled.1.3.3.0 in absurd (omega arith)

-- a - b - c is (a - b) - c, and no text is a - (b - c) without parentheses.
minus_left : IsFull (left_tree ops.Minus ops.Minus) (pair_text ops.Minus ops.Minus)
minus_left = left_grouped ops.Minus ops.Minus (omega arith)

minus_not_right : (ts : List Token) → IsFull (right_tree ops.Minus ops.Minus) ts → ⊥
minus_not_right = not_right ops.Minus ops.Minus (omega arith)

-- a ==> b ==> c is a ==> (b ==> c), and a <== b ==> c is a <== (b ==> c).
imply_right : IsFull (right_tree ops.Imply ops.Imply) (pair_text ops.Imply ops.Imply)
imply_right = right_grouped ops.Imply ops.Imply (omega arith)

imply_not_left : (ts : List Token) → IsFull (left_tree ops.Imply ops.Imply) ts → ⊥
imply_not_left = not_left ops.Imply ops.Imply (omega arith)

coimply_right : IsFull (right_tree ops.CoImply ops.Imply) (pair_text ops.CoImply ops.Imply)
coimply_right = right_grouped ops.CoImply ops.Imply (omega arith)

coimply_not_left : (ts : List Token) → IsFull (left_tree ops.CoImply ops.CoImply) ts → ⊥
coimply_not_left = not_left ops.CoImply ops.CoImply (omega arith)

-- a < b < c is no expression, in either grouping.
less_not_left : (ts : List Token) → IsFull (left_tree ops.Less ops.Less) ts → ⊥
less_not_left = not_left ops.Less ops.Less (omega arith)

less_not_right : (ts : List Token) → IsFull (right_tree ops.Less ops.Less) ts → ⊥
less_not_right = not_right ops.Less ops.Less (omega arith)

same_not_left : (ts : List Token) → IsFull (left_tree ops.Same ops.Differ) ts → ⊥
same_not_left = not_left ops.Same ops.Differ (omega arith)

-- The other levels group to the left.
star_left : IsFull (left_tree ops.Slash ops.Star) (pair_text ops.Star ops.Slash)
star_left = left_grouped ops.Slash ops.Star (omega arith)

slash_not_right : (ts : List Token) → IsFull (right_tree ops.Slash ops.Star) ts → ⊥
slash_not_right = not_right ops.Slash ops.Star (omega arith)

and_left : IsFull (left_tree ops.And ops.And) (pair_text ops.And ops.And)
and_left = left_grouped ops.And ops.And (omega arith)

and_not_right : (ts : List Token) → IsFull (right_tree ops.And ops.And) ts → ⊥
and_not_right = not_right ops.And ops.And (omega arith)

or_left : IsFull (left_tree ops.Or ops.Or) (pair_text ops.Or ops.Or)
or_left = left_grouped ops.Or ops.Or (omega arith)

or_not_right : (ts : List Token) → IsFull (right_tree ops.Or ops.Or) ts → ⊥
or_not_right = not_right ops.Or ops.Or (omega arith)

cap_left : IsFull (left_tree ops.Cap ops.Cap) (pair_text ops.Cap ops.Cap)
cap_left = left_grouped ops.Cap ops.Cap (omega arith)

cap_not_right : (ts : List Token) → IsFull (right_tree ops.Cap ops.Cap) ts → ⊥
cap_not_right = not_right ops.Cap ops.Cap (omega arith)

cup_left : IsFull (left_tree ops.Cup ops.Cup) (pair_text ops.Cup ops.Cup)
cup_left = left_grouped ops.Cup ops.Cup (omega arith)

cup_not_right : (ts : List Token) → IsFull (right_tree ops.Cup ops.Cup) ts → ⊥
cup_not_right = not_right ops.Cup ops.Cup (omega arith)

-- Each level binds tighter than the one before: in a o b p c, with o of the looser level, p is the
-- inner operator.
cup_in_imply : IsFull (right_tree ops.Imply ops.Cup) (pair_text ops.Imply ops.Cup)
cup_in_imply = right_grouped ops.Imply ops.Cup (omega arith)

imply_not_in_cup : (ts : List Token) → IsFull (left_tree ops.Cup ops.Imply) ts → ⊥
imply_not_in_cup = not_left ops.Cup ops.Imply (omega arith)

cap_in_cup : IsFull (right_tree ops.Cup ops.Cap) (pair_text ops.Cup ops.Cap)
cap_in_cup = right_grouped ops.Cup ops.Cap (omega arith)

cup_not_in_cap : (ts : List Token) → IsFull (left_tree ops.Cap ops.Cup) ts → ⊥
cup_not_in_cap = not_left ops.Cap ops.Cup (omega arith)

or_in_cap : IsFull (right_tree ops.Cap ops.Or) (pair_text ops.Cap ops.Or)
or_in_cap = right_grouped ops.Cap ops.Or (omega arith)

cap_not_in_or : (ts : List Token) → IsFull (left_tree ops.Or ops.Cap) ts → ⊥
cap_not_in_or = not_left ops.Or ops.Cap (omega arith)

and_in_or : IsFull (right_tree ops.Or ops.And) (pair_text ops.Or ops.And)
and_in_or = right_grouped ops.Or ops.And (omega arith)

or_not_in_and : (ts : List Token) → IsFull (left_tree ops.And ops.Or) ts → ⊥
or_not_in_and = not_left ops.And ops.Or (omega arith)

same_in_and : IsFull (right_tree ops.And ops.Same) (pair_text ops.And ops.Same)
same_in_and = right_grouped ops.And ops.Same (omega arith)

and_not_in_same : (ts : List Token) → IsFull (left_tree ops.Same ops.And) ts → ⊥
and_not_in_same = not_left ops.Same ops.And (omega arith)

plus_in_less : IsFull (right_tree ops.Less ops.Plus) (pair_text ops.Less ops.Plus)
plus_in_less = right_grouped ops.Less ops.Plus (omega arith)

less_not_in_plus : (ts : List Token) → IsFull (left_tree ops.Plus ops.Less) ts → ⊥
less_not_in_plus = not_left ops.Plus ops.Less (omega arith)

star_in_plus : IsFull (right_tree ops.Plus ops.Star) (pair_text ops.Plus ops.Star)
star_in_plus = right_grouped ops.Plus ops.Star (omega arith)

plus_not_in_star : (ts : List Token) → IsFull (left_tree ops.Star ops.Plus) ts → ⊥
plus_not_in_star = not_left ops.Star ops.Plus (omega arith)

-- -a * b is (-a) * b. No text is -(a * b) without parentheses.
minus_star :
    IsFull (Expression.binary ops.Star (Expression.unary prefixes.Minus (name a 1) (span 0 2)) (name b 3) (span 2 3))
    (text (sign marks.Minus ∷ word a ∷ sign marks.Star ∷ word b ∷ []))
minus_star = (omega arith, (_, _, ((_, _, token, leaf, refl), refl), (_, _, refl, leaf, refl), refl))

prefix_not_of_binary : (op : UnaryOp) (o : BinaryOp) (s p : Span) (x y : Expression) (ts : List Token) →
    IsFull (Expression.unary op (Expression.binary o x y p) s) ts → ⊥
prefix_not_of_binary op o s p x y ts spelled =
    let positive = rank_positive o in
    let within = spelled.0.3.0 in
    absurd (omega arith)

-- ('sup'|'inf') W ':' type '.' expr: the body extends as far as possible. The place of the
-- quantifier ends with its last token, and the place of its body is that of the operator.
quantifiers : (up : Bool) →
    IsFull (Expression.bound up a types.UInt (Expression.binary ops.Plus (name b 5) (name c 7) (span 6 7)) (span 0 8))
    (text (key (quantifier_key up) ∷ word a ∷ sign marks.Colon ∷ key keys.UIntWord ∷ sign marks.Dot ∷ word b ∷ sign marks.Plus ∷ word c ∷ []))
quantifiers up =
    (omega arith, (_, _, token, (_, _, token, (_, _, token, (_, _, token, (_, _, token, (omega arith, (_, _, leaf, (_, _, refl, leaf, refl), refl)), refl), refl), refl), refl), refl), refl)

-- A quantifier without parentheses is no operand.
quantifier_not_left : (o : BinaryOp) (up : Bool) (x y : Expression) (s t : Span) (ts : List Token) →
    IsFull (Expression.binary o (Expression.bound up a types.UInt x s) y t) ts → ⊥
quantifier_not_left o up x y s t ts spelled =
    let bound = (bounds o).1 in
    let within = spelled.1.2.0 in
    absurd (omega arith)

quantifier_not_right : (o : BinaryOp) (up : Bool) (x y : Expression) (s t : Span) (ts : List Token) →
    IsFull (Expression.binary o y (Expression.bound up a types.UInt x s) t) ts → ⊥
quantifier_not_right o up x y s t ts spelled =
    let bound = (bounds o).2 in
    let within = spelled.1.3.3.0 in
    absurd (omega arith)

quantifier_not_prefixed : (op : UnaryOp) (up : Bool) (x : Expression) (s t : Span) (ts : List Token) →
    IsFull (Expression.unary op (Expression.bound up a types.UInt x s) t) ts → ⊥
quantifier_not_prefixed op up x s t ts spelled = let within = spelled.0.3.0 in absurd (omega arith)

-- In parentheses it is one: a + (sup b: Bool. c).
quantifier_in_group :
    IsFull (Expression.binary ops.Plus (name a 0) (Expression.group (Expression.bound true b types.Bool (name c 8) (span 3 9)) (span 2 10)) (span 1 2))
    (text (word a ∷ sign marks.Plus ∷ sign marks.ParenLeft ∷ key keys.Sup ∷ word b ∷ sign marks.Colon ∷ key keys.BoolWord ∷ sign marks.Dot ∷ word c ∷ sign marks.ParenRight ∷ []))
quantifier_in_group =
    (omega arith, (_, _, leaf, (_, _, refl, ((_, _, token, (_, _, (omega arith, (_, _, token, (_, _, token, (_, _, token, (_, _, token, (_, _, token, leaf, refl), refl), refl), refl), refl), refl), token, refl), refl), refl), refl), refl))

-- The identifiers of notes and annotations are names like others.
plain_word : IsFull (name (codes "wlp") 0) (text (word (codes "wlp") ∷ []))
plain_word = leaf

-- A tree with a wrong place is not spelled: here the group has the place of its body.
first_bytes : (s t : Span) → s ≡ t → s.from ≡ t.from
first_bytes s t e = ap (λ z. z.from) e

wrong_place : IsFull (Expression.group (name a 1) (span 1 2)) (text (sign marks.ParenLeft ∷ word a ∷ sign marks.ParenRight ∷ [])) → ⊥
wrong_place spelled = let from = first_bytes _ _ spelled.1 in absurd (omega arith)
