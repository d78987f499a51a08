-- The first error of tokens that have to spell a program of guarded commands. This project's own.
use Rattle.heyvl_parse.specs.Spellings.{IsSpellingFault}
use Rattle.heyvl_syntax.specs.declared.tokens.Token.{Token}
use Rattle.guarded_commands.specs.Grammar.{IsProgram}
use Rattle.guarded_commands.specs.declared.stops.PgclStop.TheVariants as stops
use Rattle.guarded_commands.specs.declared.stops.PgclStop.{PgclStop}
use Rattle.std.specs.Prelude.{List, ◌≡◌, ℕ}

-- `IsProgramFault tokens number i`: the first error of `tokens` is `number` at the index `i`. It is
-- 5 at the first token after which the load exceeds its limit, otherwise 30 at the least index at
-- which no program goes on, which may be the end of the tokens.
abbrev pub IsProgramFault : List Token → ℕ → ℕ → Type 0
IsProgramFault = IsSpellingFault IsProgram 30

-- `IsPgclStop tokens stop`: `stop` is the first error of `tokens` as a program, or says that memory
-- ran out.
abbrev pub IsPgclStop : List Token → PgclStop → Type 0
IsPgclStop tokens (stops.Fault number i) = IsProgramFault tokens number i
IsPgclStop tokens (stops.Memory error) = Unit {0}

-- `IsPgclMemory stop`: `stop` says that memory ran out.
abbrev pub IsPgclMemory : PgclStop → Type 0
IsPgclMemory (stops.Fault number i) = ⊥
IsPgclMemory (stops.Memory error) = Unit {0}

-- `IsThisPgclStop number i stop`: `stop` is the error `number` at the token `i`, or says that
-- memory ran out.
abbrev pub IsThisPgclStop : ℕ → ℕ → PgclStop → Type 0
IsThisPgclStop number i (stops.Fault other j) = (other ≡ number) × (j ≡ i)
IsThisPgclStop number i (stops.Memory error) = Unit {0}
