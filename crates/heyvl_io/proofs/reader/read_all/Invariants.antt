use Rattle.std.proofs.Common.{◌-◌, ◌+◌, ◌≡◌, ◌≤◌, [], ◌∷◌, ◌++◌, vec_len}
use Rattle.heyvl_io.specs.Bytes.{before_rest}
use Rattle.heyvl_io.specs.History.{handed_out}
use Rattle.heyvl_io.specs.Order.{order_after}
use Rattle.heyvl_io.proofs.reader.read_all.Given as goal

-- The bytes so far are those that were read, and the bytes that are left follow them.
abbrev pub invariant-loop-end : goal.invariant-loop-end
invariant-loop-end g l = record {
  within : vec_len l.bytes ≤ l.limit;
  history : g.F.Source.history l.source ≡ g.F.Source.history l.fn.source ++ handed_out l.name l.bytes.items ∷ [];
  so_far : g.F.Source.holds l.fn.source l.name ≡ before_rest l.bytes.items (g.F.Source.left l.source);
  order : g.F.Source.order l.source ≡ order_after (g.F.Source.names l.fn.source) l.name (g.F.Source.order l.fn.source);
  names : g.F.Source.names l.source ≡ g.F.Source.names l.fn.source;
  holds : g.F.Source.holds l.source ≡ g.F.Source.holds l.fn.source;
  count : g.F.Source.faults l.fn.source ≤ g.F.Source.faults l.source;
}

abbrev pub decreases-loop-end : goal.decreases-loop-end
decreases-loop-end g l = l.limit + 1 - vec_len l.bytes
