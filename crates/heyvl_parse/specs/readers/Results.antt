-- The results of the parser's functions, and those of reading.
use Rattle.heyvl_parse.specs.readers.ReadParts.{Bad, Got, Read}
use Rattle.heyvl_parse.specs.declared.stops.PartStop.TheVariants.{Fault, Memory}
use Rattle.heyvl_parse.specs.declared.stops.PartStop.{PartStop}
use Rattle.heyvl_syntax.specs.declared.tokens.Token.{Token}
use Rattle.std.specs.Prelude.{Err, List, Ok, Result, length, ◌≡◌}

-- `Fails stop read`: `stop` is the error of `read`, given by the number of tokens from it on, or
-- says that memory ran out.
abbrev pub Fails : {Y : Type 0} → PartStop → Read Y → Type 0
Fails (Fault left) read = (rest : List Token) × (read ≡ Bad rest) × (length rest ≡ left)
Fails (Memory error) read = Unit {0}

-- `Gives view rest result read`: `result` has the value of `read`, by `view`, and the tokens after
-- it, by `rest`; or it has the error of `read`, or says that memory ran out.
abbrev pub Gives : {X Y : Type 0} → (X → Y) → (X → List Token) → Result X PartStop → Read Y → Type 0
Gives view rest (Ok x) read = read ≡ Got (view x) (rest x)
Gives view rest (Err e) read = Fails e read
