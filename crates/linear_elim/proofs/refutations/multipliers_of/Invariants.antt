use Rattle.std.proofs.Common.{◌≡◌, ℕ, map, take}
use Rattle.std.specs.Prelude.{ℤ, unsigned_abs}
use Rattle.linear_elim.proofs.refutations.multipliers_of.Given as goal

abbrev pub invariant-loop-index : goal.invariant-loop-index
invariant-loop-index l = l.multipliers.items ≡ map (λ (s : ℕ × ℤ). (s.0, unsigned_abs s.1)) (take l.index-index l.index-items)
