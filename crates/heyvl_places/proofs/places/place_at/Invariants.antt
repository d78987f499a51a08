use Rattle.heyvl_places.proofs.places.place_at.Given as goal
use Rattle.heyvl_places.specs.Places.{column_of, line_of}
use Rattle.std.proofs.Common.{length, ◌+◌, ◌<◌, ◌^◌, ◌≡◌, ◌≤◌}

abbrev pub invariant-loop-byte : goal.invariant-loop-byte
invariant-loop-byte l = record {
  short : length l.before < 2 ^ 31;
  line : l.place.line ≡ line_of l.before l.byte-index;
  column : l.place.column ≡ column_of l.before l.byte-index;
  few_lines : l.place.line ≤ l.byte-index + 1;
  few_columns : l.place.column ≤ l.byte-index + 1;
}
