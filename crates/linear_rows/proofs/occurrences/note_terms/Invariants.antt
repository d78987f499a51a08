use Rattle.std.proofs.Common.{◌≡◌, ℕ, ◌<◌, length, take, get_or, eqb}
use Rattle.std.specs.Prelude.{None}
use Rattle.std.specs.List.{list_any}
use Rattle.std.specs.Option.{option_or}
use Rattle.linear_rows.specs.internal.FirstRows.{here}
use Rattle.linear_rows.proofs.occurrences.note_terms.Given as goal

abbrev pub invariant-loop-term : goal.invariant-loop-term
invariant-loop-term l = record {
  same : length l.first ≡ length l.initial.first;
  each : (x : ℕ) → x < length l.initial.first → get_or l.first x None ≡ option_or (get_or l.initial.first x None) (here x l.row (list_any (λ t. eqb t.0 x) (take l.term-index l.terms)));
}
