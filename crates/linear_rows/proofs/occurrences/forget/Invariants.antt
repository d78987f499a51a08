use Rattle.std.proofs.Common.{◌≡◌, ℕ, ◌<◌, ◌≤◌, length, get_or}
use Rattle.std.specs.Prelude.{None}
use Rattle.linear_rows.specs.internal.FirstRows.{before}
use Rattle.linear_rows.proofs.occurrences.forget.Given as goal

abbrev pub invariant-loop-x : goal.invariant-loop-x
invariant-loop-x l = record {
  same : length l.first ≡ length l.initial.first;
  done : (k : ℕ) → k < l.x → get_or l.first k None ≡ before l.len (get_or l.initial.first k None);
  left : (k : ℕ) → l.x ≤ k → get_or l.first k None ≡ get_or l.initial.first k None;
}
