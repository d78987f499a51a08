use Rattle.std.proofs.Common.{◌≡◌, ◌+◌, ◌-◌, ◌≤◌, drop, length}
use Rattle.std.specs.Prelude.{pos}
use Rattle.linear_rows.specs.Terms.{IsNormal}
use Rattle.linear_rows.specs.TermResults.{mixed_terms}
use Rattle.linear_rows.specs.Divisors.{common}
use Rattle.linear_elim.specs.internal.Fingerprints.{hashed_all, fingerprint}
use Rattle.linear_elim.proofs.join_numbers.summed.Given as goal

abbrev pub invariant-loop-i : goal.invariant-loop-i
invariant-loop-i l = record { left_within : l.i ≤ length l.a; right_within : l.j ≤ length l.b; left_rest : IsNormal (drop l.i l.a); right_rest : IsNormal (drop l.j l.b); divisor : common (mixed_terms (pos l.p) (drop l.i l.a) (pos l.q) (drop l.j l.b)) l.divisor ≡ common (mixed_terms (pos l.p) l.a (pos l.q) l.b) l.n; number : hashed_all l.number (mixed_terms (pos l.p) (drop l.i l.a) (pos l.q) (drop l.j l.b)) ≡ fingerprint (mixed_terms (pos l.p) l.a (pos l.q) l.b) }

abbrev pub decreases-loop-i : goal.decreases-loop-i
decreases-loop-i l = (length l.a + length l.b) - (l.i + l.j)
