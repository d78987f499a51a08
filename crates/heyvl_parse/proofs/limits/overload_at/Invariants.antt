use Rattle.heyvl_parse.proofs.limits.overload_at.Given as goal
use Rattle.heyvl_parse.specs.internal.HeldCounts.{IsCounted, counts_of}
use Rattle.heyvl_syntax.specs.Load.{loads, overload}
use Rattle.std.proofs.Common.{drop, ltb, ◌+◌, ◌≡◌, ◌≤◌}
use Rattle.std.specs.List.{position_or_len}

-- The load is within the limit after each token so far.
abbrev pub invariant-tokens : goal.invariant-tokens
invariant-tokens l = record {
  counted : IsCounted l.counts;
  light : l.counts.load ≤ 200;
  none_yet : overload l.tokens ≡ l.index + position_or_len (ltb 200) (loads (counts_of l.counts) (drop l.index l.tokens));
}
