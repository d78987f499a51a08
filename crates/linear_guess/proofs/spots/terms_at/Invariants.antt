use Rattle.std.proofs.Common.{◌≡◌, drop}
use Rattle.std.specs.Prelude.{◌+ℤ◌}
use Rattle.linear_rows.specs.Terms.{sum_at}
use Rattle.linear_guess.specs.Spots.{top_at}
use Rattle.linear_guess.proofs.spots.terms_at.Given as goal

abbrev pub invariant-loop-x : goal.invariant-loop-x
invariant-loop-x l = l.sum +ℤ sum_at (top_at l.tops) (drop l.x-index l.terms) ≡ sum_at (top_at l.tops) l.terms
