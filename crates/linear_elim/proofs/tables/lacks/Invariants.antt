use Rattle.std.proofs.Common.{◌≡◌, ℕ, ◌<◌, ◌≤◌}
use Rattle.linear_elim.specs.internal.CountedRows.{home, print_of, print_at, IsFull}
use Rattle.linear_elim.proofs.tables.lacks.Given as goal

abbrev pub invariant-loop-place : goal.invariant-loop-place
invariant-loop-place l = (j : ℕ) → home l.table.places l.number ≤ j → j < l.place → IsFull l.prints j × (print_at l.prints j ≡ print_of l.number → ⊥)
