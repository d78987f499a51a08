use Rattle.heyvl_parse.proofs.statements.skip.Given as goal
use Rattle.heyvl_parse.specs.internal.Statements.{skip}
use Rattle.std.proofs.Common.{length, ◌≡◌, ◌≤◌}

abbrev pub invariant-semis : goal.invariant-semis
invariant-semis l = record { shorter : length l.rest ≤ length l.tokens; same : skip l.tokens ≡ skip l.rest }

abbrev pub decreases-semis : goal.decreases-semis
decreases-semis l = length l.rest
