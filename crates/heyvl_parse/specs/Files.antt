-- The errors of tokens that spell no file. This project's own.
use Rattle.heyvl_parse.specs.declared.parser.ParseStop.TheVariants as stops
use Rattle.heyvl_parse.specs.declared.parser.ParseStop.{ParseStop}
use Rattle.heyvl_syntax.specs.SourceFaults.{IsTokenFault}
use Rattle.heyvl_syntax.specs.declared.tokens.Token.{Token}
use Rattle.std.specs.Prelude.{List, ◌≡◌, ℕ}

-- `IsParseStop tokens stop`: `stop` is the first error of `tokens`, with its number and the index
-- of its token, or says that memory ran out.
abbrev pub IsParseStop : List Token → ParseStop → Type 0
IsParseStop tokens (stops.Fault number i) = IsTokenFault tokens number i
IsParseStop tokens (stops.Memory error) = Unit {0}

-- `IsParseMemory stop`: `stop` says that memory ran out.
abbrev pub IsParseMemory : ParseStop → Type 0
IsParseMemory (stops.Fault number i) = ⊥
IsParseMemory (stops.Memory error) = Unit {0}

-- `IsThisParseStop number i stop`: `stop` is the error `number` at the token `i`, or says that
-- memory ran out.
abbrev pub IsThisParseStop : ℕ → ℕ → ParseStop → Type 0
IsThisParseStop number i (stops.Fault other j) = (other ≡ number) × (j ≡ i)
IsThisParseStop number i (stops.Memory error) = Unit {0}
