use Rattle.std.proofs.Common.{length, ◌+◌, ◌≤◌}
use Rattle.cert_text.specs.internal.ReadStates.{state_of}
use Rattle.cert_text.proofs.Progress.{IsProgress}
use Rattle.cert_text.proofs.reader.read_cert.Given as goal

abbrev pub decreases-lines : goal.decreases-lines
decreases-lines l = length l.rest

abbrev pub invariant-lines : goal.invariant-lines
invariant-lines l = IsProgress l.fn.bytes l.rest l.number (state_of l.reading) × (l.number + length l.rest ≤ length l.fn.bytes + 1)
