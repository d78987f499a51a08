use Rattle.std.proofs.Common.{◌≡◌, ℕ, ◌<◌, get_or, false}
use Rattle.linear_rows.specs.SameTerms.{same_terms}
use Rattle.linear_elim.proofs.gathered_rows.place_of.Given as goal

abbrev pub invariant-loop-i : goal.invariant-loop-i
invariant-loop-i l = (j : ℕ) → j < l.i → same_terms (get_or l.rows j l.r).row.terms l.r.row.terms ≡ false
