use Rattle.heyvl_syntax.proofs.comments.first_close.Given as goal
use Rattle.heyvl_syntax.specs.internal.Fronts.{close_from}
use Rattle.std.proofs.Common.{length, ◌+◌, ◌≡◌}

abbrev pub invariant-bytes : goal.invariant-bytes
invariant-bytes l = record {
  within : l.inner + length l.rest ≡ length l.bytes;
  same : close_from 0 l.bytes ≡ close_from l.inner l.rest;
}

abbrev pub decreases-bytes : goal.decreases-bytes
decreases-bytes l = length l.rest
