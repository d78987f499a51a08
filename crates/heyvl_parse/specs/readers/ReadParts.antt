-- Reading as functions from lists of tokens to what was read and the tokens after it. The proofs of
-- the parser use these functions; the grammar alone says what is right.
use Prim.Native.Nat.{suc, zero}
use Rattle.heyvl_parse.specs.declared.starts.Start.TheVariants as starts
use Rattle.heyvl_parse.specs.declared.starts.Start.{Start}
use Rattle.heyvl_places.specs.declared.spans.Span.{Span}
use Rattle.heyvl_syntax.specs.Expressions.{Expression}
use Rattle.heyvl_syntax.specs.Grammar.{ranks}
use Rattle.heyvl_syntax.specs.contracts.marks.Mark.{the_type as the_marks}
use Rattle.heyvl_syntax.specs.declared.keys.Key.TheVariants as keys
use Rattle.heyvl_syntax.specs.declared.keys.Key.{Key}
use Rattle.heyvl_syntax.specs.declared.marks.Mark.TheVariants as marks
use Rattle.heyvl_syntax.specs.declared.marks.Mark.{Mark}
use Rattle.heyvl_syntax.specs.declared.operators.BinaryOp.TheVariants as ops
use Rattle.heyvl_syntax.specs.declared.operators.BinaryOp.{BinaryOp}
use Rattle.heyvl_syntax.specs.declared.operators.UnaryOp.TheVariants as prefixes
use Rattle.heyvl_syntax.specs.declared.operators.UnaryOp.{UnaryOp}
use Rattle.heyvl_syntax.specs.declared.tokens.Token.{Token}
use Rattle.heyvl_syntax.specs.declared.tokens.TokenKind.TheVariants as kinds
use Rattle.heyvl_syntax.specs.declared.tokens.TokenKind.{TokenKind}
use Rattle.heyvl_syntax.specs.declared.types.TypeName.TheVariants as types
use Rattle.heyvl_syntax.specs.declared.types.TypeName.{TypeName}
use Rattle.std.specs.Prelude.{Bool, List, None, Option, Some, [], cond, false, nat_eq, nat_le, true}
use Rattle.std.specs.Prelude.{◌&&◌, ◌∷◌, ℕ}
use denote.Enum.Bare.{sameb}

-- A result of reading: a value and the tokens after it, the tokens from an error on, or no more
-- fuel.
pub data Read (A : Type 0) : Type 0 where
  Got : A → List Token → Read A
  Bad : List Token → Read A
  Out : Read A

infixl 10 ◌>>=◌
-- `read >>= f` reads on by `f`, which takes the value of `read` and the tokens after it. An error
-- remains, and so does the end of the fuel.
abbrev pub ◌>>=◌ : {A B : Type 0} → Read A → (A → List Token → Read B) → Read B
(Got x r) >>= f = f x r
(Bad r) >>= f = Bad r
Out >>= f = Out

-- Reads by `f`, then by `g`, and gives both values.
abbrev pub pair : {A B : Type 0} → (List Token → Read A) → (List Token → Read B) → List Token
    → Read (A × B)
pair f g ts = f ts >>= λ x r. g r >>= λ y r'. Got (x, y) r'

-- Reads by `f`, and applies `h` to the value.
abbrev pub mapped : {A B : Type 0} → (A → B) → (List Token → Read A) → List Token → Read B
mapped h f ts = f ts >>= λ x r. Got (h x) r

-- Reads one token; without a token it is an error.
abbrev pub next : List Token → Read Token
next [] = Bad []
next (t ∷ ts) = Got t ts

-- The value of an option, with the rest `r`; without a value an error at the first of the tokens
-- `all`.
abbrev pub given : {A : Type 0} → Option A → List Token → List Token → Read A
given None all r = Bad all
given (Some x) all r = Got x r

-- Reads a token for which `of` has a value, and gives the value.
abbrev pub one : {A : Type 0} → (Token → Option A) → List Token → Read A
one of ts = next ts >>= λ t r. given (of t) ts r

-- Whether a token is the symbol `m`.
abbrev pub is_mark : Mark → TokenKind → Bool
is_mark m (kinds.Mark n) = sameb the_marks n m
is_mark m (kinds.Word w) = false
is_mark m (kinds.Number n) = false
is_mark m (kinds.Key k) = false

-- The place of `t` if it is the symbol `m`.
abbrev pub mark_place : Mark → Token → Option Span
mark_place m t = cond (is_mark m t.kind) (Some t.span) None

-- Reads the symbol `m`, and gives its place.
abbrev pub expect : Mark → List Token → Read Span
expect m ts = one (mark_place m) ts

-- The bytes of an identifier; nothing for any other token.
abbrev pub word_of : TokenKind → Option (List ℕ)
word_of (kinds.Word w) = Some w
word_of (kinds.Number n) = None
word_of (kinds.Key k) = None
word_of (kinds.Mark m) = None

-- Reads an identifier, and gives its bytes.
abbrev pub word : List Token → Read (List ℕ)
word ts = one (λ t. word_of t.kind) ts

-- The type that a keyword names; nothing for any other keyword.
abbrev pub key_type : Key → Option TypeName
key_type keys.BoolWord = Some types.Bool
key_type keys.IntWord = Some types.Int
key_type keys.UIntWord = Some types.UInt
key_type keys.URealWord = Some types.UReal
key_type keys.EURealWord = Some types.EUReal
key_type keys.RealWord = Some types.Real
key_type _ = None

-- The type that a token names; nothing for any other token.
abbrev pub type_of : TokenKind → Option TypeName
type_of (kinds.Key k) = key_type k
type_of (kinds.Word w) = None
type_of (kinds.Number n) = None
type_of (kinds.Mark m) = None

-- Reads the name of a type.
abbrev pub type_name : List Token → Read TypeName
type_name ts = one (λ t. type_of t.kind) ts

-- Whether an operator of the same rank may follow the right operand of `op`.
abbrev pub repeats : BinaryOp → Bool
repeats op = nat_eq (ranks op).left (ranks op).rank

-- The binary operator that a keyword is; nothing for any other keyword.
abbrev pub key_operator : Key → Option BinaryOp
key_operator keys.Cup = Some ops.Cup
key_operator keys.Cap = Some ops.Cap
key_operator _ = None

-- The binary operator that a symbol is; nothing for any other symbol.
abbrev pub mark_operator : Mark → Option BinaryOp
mark_operator marks.Imply = Some ops.Imply
mark_operator marks.CoImply = Some ops.CoImply
mark_operator marks.OrOr = Some ops.Or
mark_operator marks.AndAnd = Some ops.And
mark_operator marks.Same = Some ops.Same
mark_operator marks.Differ = Some ops.Differ
mark_operator marks.Less = Some ops.Less
mark_operator marks.AtMost = Some ops.AtMost
mark_operator marks.More = Some ops.More
mark_operator marks.AtLeast = Some ops.AtLeast
mark_operator marks.Plus = Some ops.Plus
mark_operator marks.Minus = Some ops.Minus
mark_operator marks.Star = Some ops.Star
mark_operator marks.Slash = Some ops.Slash
mark_operator _ = None

-- The binary operator that a token is; nothing for any other token.
abbrev pub operator_of : TokenKind → Option BinaryOp
operator_of (kinds.Key k) = key_operator k
operator_of (kinds.Mark m) = mark_operator m
operator_of (kinds.Word w) = None
operator_of (kinds.Number n) = None

-- The operator of an option if its rank is `k`.
abbrev pub ranked : ℕ → Option BinaryOp → Option BinaryOp
ranked k None = None
ranked k (Some op) = cond (nat_eq (ranks op).rank k) (Some op) None

-- The value of an option with the place `s` and the tokens `ts`; nothing without a value.
abbrev pub placed : {A : Type 0} → Span → List Token → Option A → Option (A × Span × List Token)
placed s ts None = None
placed s ts (Some x) = Some (x, s, ts)

-- The operator of the first token if its rank is `k`, with its place and the tokens after it.
abbrev pub operator_at : ℕ → List Token → Option (BinaryOp × Span × List Token)
operator_at k [] = None
operator_at k (t ∷ ts) = placed t.span ts (ranked k (operator_of t.kind))

-- The operator of an option if its rank is from `low` to `high`.
abbrev pub within : ℕ → ℕ → Option BinaryOp → Option BinaryOp
within low high None = None
within low high (Some op) =
    cond (nat_le low (ranks op).rank && nat_le (ranks op).rank high) (Some op) None

-- The operator of the first token if its rank is from `low` to `high`, with its place and the
-- tokens after it.
abbrev pub operator_within : ℕ → ℕ → List Token → Option (BinaryOp × Span × List Token)
operator_within low high [] = None
operator_within low high (t ∷ ts) = placed t.span ts (within low high (operator_of t.kind))

-- The least rank of an operator that may follow the right operand of `op`.
abbrev pub next_level : BinaryOp → ℕ
next_level op = cond (repeats op) (ranks op).rank (suc (ranks op).rank)

-- True for `sup`, false for `inf`; nothing for any other keyword.
abbrev pub key_quantifier : Key → Option Bool
key_quantifier keys.Sup = Some true
key_quantifier keys.Inf = Some false
key_quantifier _ = None

-- True for `sup`, false for `inf`; nothing for any other token.
abbrev pub quantifier_of : TokenKind → Option Bool
quantifier_of (kinds.Key k) = key_quantifier k
quantifier_of (kinds.Word w) = None
quantifier_of (kinds.Number n) = None
quantifier_of (kinds.Mark m) = None

-- The quantifier that the first token is, with its place and the tokens after it.
abbrev pub quantifier_at : List Token → Option (Bool × Span × List Token)
quantifier_at [] = None
quantifier_at (t ∷ ts) = placed t.span ts (quantifier_of t.kind)

-- What a keyword begins: `true` or `false`, infinity, an `ite`, or no operand.
abbrev pub key_start : Key → Start
key_start keys.TrueWord = starts.Truth true
key_start keys.FalseWord = starts.Truth false
key_start keys.Infty = starts.Infinity
key_start keys.Ite = starts.Choice
key_start _ = starts.Other

-- What a symbol begins: a group, a bracket, an embedding, a prefix operator, or no operand.
abbrev pub mark_start : Mark → Start
mark_start marks.ParenLeft = starts.Group
mark_start marks.BracketLeft = starts.Bracket
mark_start marks.Question = starts.Embed
mark_start marks.Bang = starts.Prefix prefixes.Not
mark_start marks.Minus = starts.Prefix prefixes.Minus
mark_start marks.Tilde = starts.Prefix prefixes.Tilde
mark_start _ = starts.Other

-- The end of the last token of an expression.
abbrev pub end_of : Expression → ℕ
end_of (Expression.number n s) = s.to
end_of (Expression.truth b s) = s.to
end_of (Expression.infinity s) = s.to
end_of (Expression.name x s) = s.to
end_of (Expression.group a s) = s.to
end_of (Expression.bracket a s) = s.to
end_of (Expression.embed a s) = s.to
end_of (Expression.unary op a s) = s.to
end_of (Expression.binary op a b s) = end_of b
end_of (Expression.choice a b c s) = s.to
end_of (Expression.bound up x t a s) = s.to

-- The place from the first byte of `s` to `end`.
abbrev pub reach : Span → ℕ → Span
reach s end = record { from = s.from; to = end }

-- What the reader reads: `Whole`, an expression; `Full k`, one of rank at most `k` that no
-- quantifier begins; `More k left`, the operators of rank `k` that may follow the operand `left`.
pub data Part : Type 0 where
  Whole : Part
  Full : ℕ → Part
  More : ℕ → Expression → Part

-- A reader of each `Part`.
abbrev pub Reader : Type 0
Reader = Part → List Token → Read Expression

-- Reads an expression and the symbol `close`, and gives the place of `close` too.
abbrev pub enclosed : Reader → Mark → List Token → Read (Expression × Span)
enclosed self close ts = pair (self Whole) (expect close) ts

-- The tree of `(a)`, whose place reaches from `(` to `)`.
abbrev pub group_tree : Span → Expression × Span → Expression
group_tree s (a, close) = Expression.group a (reach s close.to)

-- The tree of `[a]`, whose place reaches from `[` to `]`.
abbrev pub bracket_tree : Span → Expression × Span → Expression
bracket_tree s (a, close) = Expression.bracket a (reach s close.to)

-- The tree of `?(a)`, whose place reaches from `?` to `)`.
abbrev pub embed_tree : Span → Span × (Expression × Span) → Expression
embed_tree s (front, (a, close)) = Expression.embed a (reach s close.to)

-- The tree of a prefix operator at `s` and its operand, whose place reaches to the end of the
-- operand.
abbrev pub prefix_tree : UnaryOp → Span → Expression → Expression
prefix_tree op s a = Expression.unary op a (reach s (end_of a))

-- Reads the operand of the prefix operator `op` at `s`, and gives the tree of both.
abbrev pub prefixed : Reader → UnaryOp → Span → List Token → Read Expression
prefixed self op s ts = mapped (prefix_tree op s) (self (Full 0)) ts

-- The parts of `(a, b, c)` with the places of its symbols.
abbrev pub Choices : Type 0
Choices = Span × (Expression × (Span × (Expression × (Span × (Expression × Span)))))

-- The tree of `ite(a, b, c)`, whose place reaches from `ite` to `)`.
abbrev pub choice_tree : Span → Choices → Expression
choice_tree s (front, (a, (first, (b, (second, (c, close)))))) =
    Expression.choice a b c (reach s close.to)

-- Reads what follows `ite`: three expressions in parentheses, with `,` between them.
abbrev pub choice_parts : Reader → List Token → Read Choices
choice_parts self ts =
    pair (expect marks.ParenLeft)
    (pair (self Whole)
    (pair (expect marks.Comma)
    (pair (self Whole) (pair (expect marks.Comma) (enclosed self marks.ParenRight))))) ts

-- Reads what follows the `ite` at `s`, and gives the tree.
abbrev pub choice : Reader → Span → List Token → Read Expression
choice self s ts = mapped (choice_tree s) (choice_parts self) ts

-- Reads on after a keyword or symbol at `s`, the first of the tokens `all`, which begins `start`.
-- It is an error at this token if it begins no operand.
abbrev pub started : Reader → Start → Span → List Token → List Token → Read Expression
started self (starts.Truth b) s ts all = Got (Expression.truth b s) ts
started self starts.Infinity s ts all = Got (Expression.infinity s) ts
started self starts.Group s ts all = mapped (group_tree s) (enclosed self marks.ParenRight) ts
started self starts.Bracket s ts all = mapped (bracket_tree s) (enclosed self marks.BracketRight) ts
started self starts.Embed s ts all =
    mapped (embed_tree s) (pair (expect marks.ParenLeft) (enclosed self marks.ParenRight)) ts
started self (starts.Prefix op) s ts all = prefixed self op s ts
started self starts.Choice s ts all = choice self s ts
started self starts.Other s ts all = Bad all

-- Reads an operand whose first token, the first of `all`, has this kind and the place `s`. It is an
-- error at this token if it begins no operand.
abbrev pub by_kind : Reader → TokenKind → Span → List Token → List Token → Read Expression
by_kind self (kinds.Word w) s ts all = Got (Expression.name w s) ts
by_kind self (kinds.Number n) s ts all = Got (Expression.number n s) ts
by_kind self (kinds.Key k) s ts all = started self (key_start k) s ts all
by_kind self (kinds.Mark m) s ts all = started self (mark_start m) s ts all

-- `e9`
abbrev pub operand : Reader → List Token → Read Expression
operand self ts = next ts >>= λ t r. by_kind self t.kind t.span r ts

-- Reads more operators of rank `k` if the Boolean holds, otherwise nothing after `left`.
abbrev pub joined : Reader → Bool → ℕ → Expression → List Token → Read Expression
joined self true k left ts = self (More k left) ts
joined self false k left ts = Got left ts

-- Reads on after `left`: with an operator of rank `k` its right operand and what may follow it,
-- otherwise nothing.
abbrev pub after : Reader → ℕ → Expression → List Token → Option (BinaryOp × Span × List Token)
    → Read Expression
after self k left ts None = Got left ts
after self k left ts (Some (op, s, r)) =
    self (Full (ranks op).right) r >>= λ right r'.
    joined self (repeats op) k (Expression.binary op left right s) r'

-- Reads the operators of rank `k` that follow `left`.
abbrev pub more : Reader → ℕ → Expression → List Token → Read Expression
more self k left ts = after self k left ts (operator_at k ts)

-- Reads the operators of `n` ranks from `low` on that follow `left`, the lower ranks first. `one`
-- reads the first rank, and `others` reads the others.
abbrev pub climbed : Reader → Reader → ℕ → ℕ → Expression → List Token → Read Expression
climbed one others zero low left ts = Got left ts
climbed one others (suc n) low left ts = more one low left ts >>= climbed others others n (suc low)

-- Reads an expression of rank at most a number that no quantifier begins.
abbrev pub full : Reader → ℕ → List Token → Read Expression
full self zero ts = operand self ts
full self (suc k) ts = full self k ts >>= more self (suc k)

-- The parts of `x: t. a` with the places of its symbols.
abbrev pub Bounds : Type 0
Bounds = List ℕ × (Span × (TypeName × (Span × Expression)))

-- The tree of a quantifier at `s`, its variable, the variable's type and its body. Its place
-- reaches to the end of the body.
abbrev pub bound_tree : Bool → Span → Bounds → Expression
bound_tree up s (x, (colon, (t, (dot, a)))) = Expression.bound up x t a (reach s (end_of a))

-- Reads what follows a quantifier: a variable, `:`, its type, `.` and the body.
abbrev pub bound_parts : Reader → List Token → Read Bounds
bound_parts self ts = pair word
    (pair (expect marks.Colon) (pair type_name (pair (expect marks.Dot) (self Whole)))) ts

-- Reads what follows the quantifier at `s`, and gives the tree.
abbrev pub bound : Reader → Bool → Span → List Token → Read Expression
bound self up s ts = mapped (bound_tree up s) (bound_parts self) ts

-- Reads a quantified expression after a quantifier, otherwise an expression of rank at most 8.
abbrev pub quantified : Reader → List Token → Option (Bool × Span × List Token) → Read Expression
quantified self ts None = full self 8 ts
quantified self ts (Some (up, s, r)) = bound self up s r

-- `expr`
abbrev pub whole : Reader → List Token → Read Expression
whole self ts = quantified self ts (quantifier_at ts)

-- Reads a `Part` whose own parts `self` reads.
abbrev pub step : Reader → Reader
step self Whole ts = whole self ts
step self (Full k) ts = full self k ts
step self (More k left) ts = more self k left ts

-- Reads a `Part`. Fuel above the number of tokens does not run out.
abbrev pub reading : ℕ → Reader
reading zero q ts = Out
reading (suc n) q ts = step (reading n) q ts

-- `expr`
abbrev pub expr : ℕ → List Token → Read Expression
expr n ts = reading n Whole ts
