-- Whether an earlier procedure has a name.
use Rattle.std.specs.Prelude.{Bool, None, Option, Some, false, nat_lt, ℕ}
use Rattle.typed_expressions.specs.Signatures.{Signature}

-- Whether the procedure that a name calls comes before the one with the number `n`.
abbrev pub is_before : ℕ → Option Signature → Bool
is_before n None = false
is_before n (Some p) = nat_lt p.number n
