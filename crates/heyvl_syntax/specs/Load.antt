-- The *load* of a text: a measure of how deeply its brackets and operators are nested, computed
-- from the tokens. This project's own.
--
-- The load is computed from a list of counts, one for each open bracket and one for the text
-- outside of all brackets, the innermost first. After the tokens of `x + (y * (` the counts are 0,
-- 1 and 1, and the load is 2 + 2 = 4.
use Rattle.heyvl_syntax.specs.declared.keys.Key.TheVariants as keys
use Rattle.heyvl_syntax.specs.declared.keys.Key.{Key}
use Rattle.heyvl_syntax.specs.declared.marks.Mark.TheVariants as marks
use Rattle.heyvl_syntax.specs.declared.marks.Mark.{Mark}
use Rattle.heyvl_syntax.specs.declared.tokens.Token.{Token}
use Rattle.heyvl_syntax.specs.declared.tokens.TokenKind.TheVariants as kinds
use Rattle.heyvl_syntax.specs.declared.tokens.TokenKind.{TokenKind}
use Rattle.std.specs.List.{position_or_len, sum}
use Rattle.std.specs.Prelude.{List, [], length, nat_lt, ◌+◌, ◌-◌, ◌∷◌, ℕ}

-- The effect of a token on the list of counts.
pub data Effect : Type 0 where
  opens : Effect  -- one more count, of 0
  closes : Effect  -- without the innermost count, if there is more than one
  adds : Effect  -- 1 more in the innermost count
  resets : Effect  -- 0 as the innermost count
  keeps : Effect  -- the same counts

-- The effect of each symbol: brackets open and close, operators add, `,` `;` `=` and `@` reset, and
-- the others keep the counts.
abbrev pub mark_effect : Mark → Effect
mark_effect marks.ParenLeft = opens
mark_effect marks.ParenRight = closes
mark_effect marks.BraceLeft = opens
mark_effect marks.BraceRight = closes
mark_effect marks.BracketLeft = opens
mark_effect marks.BracketRight = closes
mark_effect marks.Comma = resets
mark_effect marks.Colon = keeps
mark_effect marks.Semi = resets
mark_effect marks.Dot = keeps
mark_effect marks.Assign = resets
mark_effect marks.Same = adds
mark_effect marks.Differ = adds
mark_effect marks.Less = adds
mark_effect marks.AtMost = adds
mark_effect marks.CoImply = adds
mark_effect marks.More = adds
mark_effect marks.AtLeast = adds
mark_effect marks.Plus = adds
mark_effect marks.Minus = adds
mark_effect marks.Star = adds
mark_effect marks.Slash = adds
mark_effect marks.AndAnd = adds
mark_effect marks.OrOr = adds
mark_effect marks.Bang = adds
mark_effect marks.Tilde = adds
mark_effect marks.Imply = adds
mark_effect marks.Arrow = keeps
mark_effect marks.Question = keeps
mark_effect marks.AtSign = resets

-- The effect of each keyword: the ones that begin a procedure, a clause, a statement or an `else`
-- reset, `sup`, `inf`, `\cap` and `\cup` add, and the others keep the counts.
abbrev pub key_effect : Key → Effect
key_effect keys.Proc = resets
key_effect keys.CoProc = resets
key_effect keys.Pre = resets
key_effect keys.Post = resets
key_effect keys.Var = resets
key_effect keys.If = resets
key_effect keys.Else = resets
key_effect keys.While = resets
key_effect keys.Assert = resets
key_effect keys.Assume = resets
key_effect keys.CoAssert = resets
key_effect keys.CoAssume = resets
key_effect keys.Havoc = resets
key_effect keys.CoHavoc = resets
key_effect keys.Validate = resets
key_effect keys.CoValidate = resets
key_effect keys.Reward = resets
key_effect keys.Tick = resets
key_effect keys.TrueWord = keeps
key_effect keys.FalseWord = keeps
key_effect keys.BoolWord = keeps
key_effect keys.IntWord = keeps
key_effect keys.UIntWord = keeps
key_effect keys.URealWord = keeps
key_effect keys.EURealWord = keeps
key_effect keys.RealWord = keeps
key_effect keys.Ite = keeps
key_effect keys.Flip = keeps
key_effect keys.Unif = keeps
key_effect keys.Choose = keeps
key_effect keys.Sup = adds
key_effect keys.Inf = adds
key_effect keys.Cap = adds
key_effect keys.Cup = adds
key_effect keys.Infty = keeps

-- The effect of a token. Identifiers and numbers keep the counts.
abbrev pub effect : TokenKind → Effect
effect (kinds.Word name) = keeps
effect (kinds.Number lit) = keeps
effect (kinds.Key key) = key_effect key
effect (kinds.Mark mark) = mark_effect mark

-- The counts after a token with the given effect.
abbrev pub changed : List ℕ → Effect → List ℕ
changed counts opens = 0 ∷ counts
changed (c ∷ d ∷ counts) closes = d ∷ counts
changed (c ∷ []) closes = c ∷ []
changed [] closes = []
changed (c ∷ counts) adds = (c + 1) ∷ counts
changed [] adds = []
changed (c ∷ counts) resets = 0 ∷ counts
changed [] resets = []
changed counts keeps = counts

-- `counts_after counts t`: the counts after the token `t`.
abbrev pub counts_after : List ℕ → Token → List ℕ
counts_after counts t = changed counts (effect t.kind)

-- The load of a list of counts: their sum, plus the number of open brackets.
abbrev pub load : List ℕ → ℕ
load counts = sum counts + (length counts - 1)

-- `loads counts ts`: the load after each of the tokens `ts`, where `counts` are the counts before
-- them.
abbrev pub loads : List ℕ → List Token → List ℕ
loads counts [] = []
loads counts (t ∷ ts) = load (counts_after counts t) ∷ loads (counts_after counts t) ts

-- The index of the first token after which the load exceeds 200, or the number of tokens if there
-- is none.
abbrev pub overload : List Token → ℕ
overload tokens = position_or_len (nat_lt 200) (loads (0 ∷ []) tokens)
