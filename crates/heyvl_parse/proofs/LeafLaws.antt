-- An identifier or a number that the next token does not continue is a whole expression and a whole
-- right side.
use Rattle.heyvl_parse.proofs.RankClimbs.{climb_ends, full_climbed}
use Rattle.heyvl_parse.specs.readers.Combinators.{is_operator, is_there, starts}
use Rattle.heyvl_parse.specs.internal.Leaves.{goes_on, is_alone, is_leaf, leaf, leaf_of}
use Rattle.heyvl_parse.specs.readers.ReadParts.{Got, Read, Whole, by_kind, climbed, full, given, is_mark, mapped, operand, operator_of, operator_within, placed, quantified, quantifier_of, reading, within, ◌>>=◌}
use Rattle.heyvl_parse.specs.internal.Rights.{called_behind, is_a_word, kind_right, right, right_by, right_if}
use Rattle.heyvl_parse.specs.declared.rights.RightStart.TheVariants as right_starts
use Rattle.heyvl_syntax.specs.Expressions.{Expression}
use Rattle.heyvl_syntax.specs.Statements.{RightSide}
use Rattle.heyvl_syntax.specs.declared.marks.Mark.TheVariants as marks
use Rattle.heyvl_syntax.specs.declared.operators.BinaryOp.{BinaryOp}
use Rattle.heyvl_syntax.specs.declared.tokens.Token.{Token}
use Rattle.heyvl_syntax.specs.declared.tokens.TokenKind.TheVariants as kinds
use Rattle.heyvl_syntax.specs.declared.tokens.TokenKind.{TokenKind}
use Rattle.std.proofs.Common.{Bool, List, None, Option, Some, [], ap, arith, cond, false, length, not, refl, suc, sym, true, zero, ◌&&◌, ◌<◌, ◌∙◌, ◌∷◌, ◌≡◌, ℕ}

neither_first : (a b : Bool) → cond a true b ≡ false → a ≡ false
neither_first false b e = refl
neither_first true b e = cc

neither_second : (a b : Bool) → cond a true b ≡ false → b ≡ false
neither_second false b e = e
neither_second true b e = cc

quiet_word : (a b : Bool) → (a && not b) ≡ true → b ≡ false
quiet_word true false e = refl
quiet_word true true e = cc
quiet_word false b e = cc

is_true : (a b : Bool) → (a && b) ≡ true → a ≡ true
is_true true b e = refl
is_true false b e = cc

no_operator : (ts : List Token) → starts goes_on ts ≡ false → operator_within 1 8 ts ≡ None
no_operator [] e = refl
no_operator (t ∷ ts) e = go (operator_of t.kind) (neither_second (is_mark marks.ParenLeft t.kind) (is_operator t.kind) e)
  where
    go : (o : Option BinaryOp) → is_there o ≡ false → placed t.span ts (within 1 8 o) ≡ None
    go None e = refl
    go (Some op) e = cc

no_call_here : (ts : List Token) → starts goes_on ts ≡ false → starts (is_mark marks.ParenLeft) ts ≡ false
no_call_here [] e = refl
no_call_here (t ∷ ts) e = neither_first (is_mark marks.ParenLeft t.kind) (is_operator t.kind) e

-- An operand that no operator follows.
full_of : (m : ℕ) (x : Expression) (all ts : List Token) → operand (reading m) all ≡ Got x ts → length ts < m → operator_within 1 8 ts ≡ None → full (reading m) 8 all ≡ Got x ts
full_of m x all ts first lt none =
    full_climbed (reading m) 8 all ∙ ap (λ (r : Read Expression). r >>= climbed (reading m) (reading m) 8 1) first ∙ climb_ends (λ r. r ≡ Got x ts) 1 8 x ts none (omega arith) refl m m lt lt

pub alone_whole : (ts : List Token) → is_alone ts ≡ true → (n : ℕ) → length ts < n → reading n Whole ts ≡ leaf ts
alone_whole [] on n h = cc
alone_whole (t ∷ ts) on zero h = absurd (omega arith)
alone_whole (t ∷ ts) on (suc m) h = go t.kind refl (is_true (is_leaf t.kind) (not (starts goes_on ts)) on)
  where
    none : operator_within 1 8 ts ≡ None
    none = no_operator ts (quiet_word (is_leaf t.kind) (starts goes_on ts) on)

    same : (kind : TokenKind) (x : Expression) → t.kind ≡ kind → quantifier_of kind ≡ None → by_kind (reading m) kind t.span ts (t ∷ ts) ≡ Got x ts → leaf_of kind t.span ≡ Some x → reading (suc m) Whole (t ∷ ts) ≡ leaf (t ∷ ts)
    same kind x is plain first one =
        ap (λ o. quantified (reading m) (t ∷ ts) (placed t.span ts o)) (ap quantifier_of is ∙ plain)
        ∙ full_of m x (t ∷ ts) ts (ap (λ k. by_kind (reading m) k t.span ts (t ∷ ts)) is ∙ first) (omega arith) none
        ∙ sym (ap (λ k. given (leaf_of k t.span) (t ∷ ts) ts) is ∙ ap (λ o. given o (t ∷ ts) ts) one)

    go : (kind : TokenKind) → t.kind ≡ kind → is_leaf kind ≡ true → reading (suc m) Whole (t ∷ ts) ≡ leaf (t ∷ ts)
    go (kinds.Word w) is leaf_is = same (kinds.Word w) (Expression.name w t.span) is refl refl refl
    go (kinds.Number n) is leaf_is = same (kinds.Number n) (Expression.number n t.span) is refl refl refl
    go (kinds.Key k) is leaf_is = cc
    go (kinds.Mark k) is leaf_is = cc

pub alone_right : (ts : List Token) → is_alone ts ≡ true → (n : ℕ) → length ts < n → right n ts ≡ mapped RightSide.plain leaf ts
alone_right [] on n h = cc
alone_right (t ∷ ts) on n h = go t.kind refl (is_true (is_leaf t.kind) (not (starts goes_on ts)) on)
  where
    quiet : starts (is_mark marks.ParenLeft) ts ≡ false
    quiet = no_call_here ts (quiet_word (is_leaf t.kind) (starts goes_on ts) on)

    same : (kind : TokenKind) → t.kind ≡ kind → called_behind (is_a_word kind) ts ≡ false → kind_right kind ≡ right_starts.Plain → right n (t ∷ ts) ≡ mapped RightSide.plain leaf (t ∷ ts)
    same kind is plain start =
        ap (λ b. right_if n b (t ∷ ts)) (ap (λ k. called_behind (is_a_word k) ts) is ∙ plain)
        ∙ ap (λ s. right_by n s (t ∷ ts)) (ap kind_right is ∙ start)
        ∙ ap (λ (r : Read Expression). r >>= λ x rest. Got (RightSide.plain x) rest) (alone_whole (t ∷ ts) on n h)

    go : (kind : TokenKind) → t.kind ≡ kind → is_leaf kind ≡ true → right n (t ∷ ts) ≡ mapped RightSide.plain leaf (t ∷ ts)
    go (kinds.Word w) is leaf_is = same (kinds.Word w) is quiet refl
    go (kinds.Number k) is leaf_is = same (kinds.Number k) is refl refl
    go (kinds.Key k) is leaf_is = cc
    go (kinds.Mark k) is leaf_is = cc
