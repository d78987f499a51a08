use Rattle.guarded_commands.proofs.reserved_names.reserved_at.Given as goal
use Rattle.guarded_commands.specs.ReservedNames.{IsReservedAt}
use Rattle.std.proofs.Common.{◌<◌, ℕ}

abbrev pub invariant-tokens : goal.invariant-tokens
invariant-tokens l = (i : ℕ) → i < l.index → IsReservedAt l.declarations l.tokens i → ⊥
