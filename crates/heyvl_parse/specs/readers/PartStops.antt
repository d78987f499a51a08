-- Why tokens that have to spell one thing do not.
use Rattle.heyvl_parse.specs.declared.stops.PartStop.TheVariants as parts
use Rattle.heyvl_parse.specs.declared.stops.PartStop.{PartStop}
use Rattle.heyvl_syntax.specs.Beginnings.{IsUnexpected}
use Rattle.heyvl_syntax.specs.declared.tokens.Token.{Token}
use Rattle.std.specs.Prelude.{List, length, ◌-◌, ◌≤◌}

-- `IsPartStop spells tokens stop`: `stop` is the first error of `tokens`, which have to spell a
-- thing of the production `spells`, or says that memory ran out. The error is given by the number
-- of tokens from it on.
abbrev pub IsPartStop : {A : Type 0} → (A → List Token → Type 0) → List Token → PartStop → Type 0
IsPartStop spells tokens (parts.Fault left) =
    (left ≤ length tokens) × IsUnexpected spells tokens (length tokens - left)
IsPartStop spells tokens (parts.Memory error) = Unit {0}
