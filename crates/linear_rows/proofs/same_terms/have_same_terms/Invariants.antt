use Rattle.std.proofs.Common.{◌≡◌, drop}
use Rattle.linear_rows.specs.SameTerms.{same_terms}
use Rattle.linear_rows.proofs.same_terms.have_same_terms.Given as goal

abbrev pub invariant-loop-i : goal.invariant-loop-i
invariant-loop-i l = same_terms (drop l.i l.a) (drop l.i l.b) ≡ same_terms l.fn.a l.fn.b
