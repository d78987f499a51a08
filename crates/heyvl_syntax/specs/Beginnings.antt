-- Beginnings of texts: the tokens with which a text may begin, and the first token with which no
-- text continues. A production is a relation `spells` between a tree, such as a file, and the
-- tokens that spell it. This project's own.
use Rattle.heyvl_syntax.specs.declared.tokens.Token.{Token}
use Rattle.std.specs.Prelude.{List, length, take, ◌++◌, ◌+◌, ◌<◌, ◌≤◌, ℕ}

-- Some text that `spells` admits begins with `tokens`.
pub record IsBeginning {A : Type 0} (spells : A → List Token → Type 0) (tokens : List Token)
    : Type 0 where
  pub whole : A
  pub more : List Token
  pub spelled : spells whole (tokens ++ more)

-- `IsUnexpected spells tokens i`: `tokens` spell nothing, and the token at index `i` is the first
-- unexpected one: the tokens before it are the beginning of some text, and with it they are not. If
-- all tokens are the beginning of some text, `i` is their number. For files and the tokens of
-- `coproc proc`, `i` is 1.
pub record IsUnexpected {A : Type 0} (spells : A → List Token → Type 0) (tokens : List Token)
    (i : ℕ) : Type 0 where
  pub inside : i ≤ length tokens
  pub none : (whole : A) → spells whole tokens → ⊥
  pub before : IsBeginning spells (take i tokens)
  pub here : i < length tokens → IsBeginning spells (take (i + 1) tokens) → ⊥
