-- The first error of tokens that have to spell one thing, such as an expression. This project's
-- own.
use Rattle.heyvl_parse.specs.declared.parser.ParseStop.TheVariants as stops
use Rattle.heyvl_parse.specs.declared.parser.ParseStop.{ParseStop}
use Rattle.heyvl_syntax.specs.Beginnings.{IsUnexpected}
use Rattle.heyvl_syntax.specs.Grammar.{IsFull}
use Rattle.heyvl_syntax.specs.SourceFaults.{IsLight, IsOverload}
use Rattle.heyvl_syntax.specs.declared.tokens.Token.{Token}
use Rattle.std.specs.Prelude.{List, ◌≡◌, ◌⊎◌, ℕ}

-- `IsSpellingFault spells told tokens number i`: the first error of `tokens`, which have to spell a
-- thing of the production `spells`, is `number` at the index `i`. It is 5 at the first token after
-- which the load exceeds its limit, otherwise `told` at the least index at which nothing goes on.
abbrev pub IsSpellingFault : {A : Type 0} → (A → List Token → Type 0) → ℕ → List Token → ℕ → ℕ
    → Type 0
IsSpellingFault spells told tokens number i =
    ((number ≡ 5) × IsOverload tokens i)
    ⊎ ((number ≡ told) × IsLight tokens × IsUnexpected spells tokens i)

-- `IsExpressionFault tokens number i`: the first error of `tokens`, which have to spell an
-- expression, is `number` at `i`. Example: `x +` has the error 4 at the index 2.
abbrev pub IsExpressionFault : List Token → ℕ → ℕ → Type 0
IsExpressionFault = IsSpellingFault IsFull 4

-- `IsExpressionStop tokens stop`: `stop` is the first error of `tokens` as an expression, or says
-- that memory ran out.
abbrev pub IsExpressionStop : List Token → ParseStop → Type 0
IsExpressionStop tokens (stops.Fault number i) = IsExpressionFault tokens number i
IsExpressionStop tokens (stops.Memory error) = Unit {0}
