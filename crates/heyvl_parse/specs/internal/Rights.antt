-- Reading right sides.
use Rattle.heyvl_parse.specs.readers.Combinators.{is_key, lead, list, list0, starts, trail}
use Rattle.heyvl_parse.specs.readers.ReadParts.{Read, expr, is_mark, mapped, pair, word}
use Rattle.heyvl_parse.specs.declared.rights.RightStart.TheVariants as starts_as
use Rattle.heyvl_parse.specs.declared.rights.RightStart.{RightStart}
use Rattle.heyvl_syntax.specs.Expressions.{Expression}
use Rattle.heyvl_syntax.specs.Statements.{RightSide}
use Rattle.heyvl_syntax.specs.declared.keys.Key.TheVariants as keys
use Rattle.heyvl_syntax.specs.declared.keys.Key.{Key}
use Rattle.heyvl_syntax.specs.declared.marks.Mark.TheVariants as marks
use Rattle.heyvl_syntax.specs.declared.tokens.Token.{Token}
use Rattle.heyvl_syntax.specs.declared.tokens.TokenKind.TheVariants as kinds
use Rattle.heyvl_syntax.specs.declared.tokens.TokenKind.{TokenKind}
use Rattle.std.specs.Prelude.{Bool, List, [], false, true, ◌∷◌, ℕ}

abbrev pub expressions : ℕ → List Token → Read (List Expression)
expressions n ts = list (expr n) n ts

-- `'(' list0(expr) ')'`
abbrev pub arguments : ℕ → List Token → Read (List Expression)
arguments n ts = lead (is_mark marks.ParenLeft)
    (trail (list0 (expr n) n) (is_mark marks.ParenRight)) ts

abbrev pub call : ℕ → List Token → Read (List ℕ × List Expression)
call n ts = pair word (arguments n) ts

abbrev pub enclosed_expr : ℕ → List Token → Read Expression
enclosed_expr n ts = lead (is_mark marks.ParenLeft) (trail (expr n) (is_mark marks.ParenRight)) ts

-- `'(' expr ',' expr ')'`
abbrev pub two : ℕ → List Token → Read (Expression × Expression)
two n ts = lead (is_mark marks.ParenLeft)
    (pair (expr n) (lead (is_mark marks.Comma) (trail (expr n) (is_mark marks.ParenRight)))) ts

-- `expr ':' expr`
abbrev pub weighted : ℕ → List Token → Read (Expression × Expression)
weighted n ts = pair (expr n) (lead (is_mark marks.Colon) (expr n)) ts

abbrev pub weights : ℕ → List Token → Read (List (Expression × Expression))
weights n ts = lead (is_mark marks.BraceLeft)
    (trail (list (weighted n) n) (is_mark marks.BraceRight)) ts

abbrev pub is_a_word : TokenKind → Bool
is_a_word (kinds.Word w) = true
is_a_word (kinds.Key k) = false
is_a_word (kinds.Number n) = false
is_a_word (kinds.Mark m) = false

abbrev pub called_behind : Bool → List Token → Bool
called_behind false ts = false
called_behind true ts = starts (is_mark marks.ParenLeft) ts

-- Whether the tokens begin with an identifier and `(`.
abbrev pub is_call : List Token → Bool
is_call [] = false
is_call (t ∷ ts) = called_behind (is_a_word t.kind) ts

abbrev pub key_right : Key → RightStart
key_right keys.Flip = starts_as.Flip
key_right keys.Unif = starts_as.Unif
key_right keys.Choose = starts_as.Choose
key_right _ = starts_as.Plain

abbrev pub kind_right : TokenKind → RightStart
kind_right (kinds.Key k) = key_right k
kind_right (kinds.Word w) = starts_as.Plain
kind_right (kinds.Number n) = starts_as.Plain
kind_right (kinds.Mark m) = starts_as.Plain

abbrev pub right_start : List Token → RightStart
right_start [] = starts_as.Plain
right_start (t ∷ ts) = kind_right t.kind

abbrev pub call_tree : List ℕ × List Expression → RightSide
call_tree p = RightSide.call p.0 p.1

abbrev pub unif_tree : Expression × Expression → RightSide
unif_tree p = RightSide.unif p.0 p.1

abbrev pub flip : ℕ → List Token → Read RightSide
flip n ts = mapped RightSide.flip (lead (is_key keys.Flip) (enclosed_expr n)) ts

abbrev pub unif : ℕ → List Token → Read RightSide
unif n ts = mapped unif_tree (lead (is_key keys.Unif) (two n)) ts

abbrev pub choose : ℕ → List Token → Read RightSide
choose n ts = mapped RightSide.choose (lead (is_key keys.Choose) (weights n)) ts

abbrev pub right_by : ℕ → RightStart → List Token → Read RightSide
right_by n starts_as.Flip ts = flip n ts
right_by n starts_as.Unif ts = unif n ts
right_by n starts_as.Choose ts = choose n ts
right_by n starts_as.Plain ts = mapped RightSide.plain (expr n) ts

abbrev pub no_call : ℕ → List Token → Read RightSide
no_call n ts = right_by n (right_start ts) ts

abbrev pub right_if : ℕ → Bool → List Token → Read RightSide
right_if n true ts = mapped call_tree (call n) ts
right_if n false ts = no_call n ts

-- `right`
abbrev pub right : ℕ → List Token → Read RightSide
right n ts = right_if n (is_call ts) ts
