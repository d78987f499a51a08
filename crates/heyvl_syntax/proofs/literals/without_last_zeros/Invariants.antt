use Rattle.heyvl_syntax.proofs.literals.without_last_zeros.Given as goal
use Rattle.heyvl_syntax.specs.Literals.{without_last_zeros}
use Rattle.std.proofs.Common.{length, ◌≡◌, ◌≤◌}

abbrev pub invariant-zeros : goal.invariant-zeros
invariant-zeros l = record {
  shorter : length l.kept ≤ length l.digits;
  same : without_last_zeros l.digits ≡ without_last_zeros l.kept;
}

abbrev pub decreases-zeros : goal.decreases-zeros
decreases-zeros l = length l.kept
