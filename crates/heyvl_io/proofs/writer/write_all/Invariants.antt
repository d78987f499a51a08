use Rattle.std.proofs.Common.{length, ◌-◌, ◌≡◌, ◌≤◌, take}
use Rattle.heyvl_io.specs.Bytes.{with_appended}
use Rattle.heyvl_io.proofs.writer.write_all.Given as goal

-- -
abbrev pub invariant-loop-done : goal.invariant-loop-done
invariant-loop-done g l = record {
  within : l.done ≤ length l.bytes;
  front : g.K.Sink.written l.sink ≡ with_appended (g.K.Sink.written l.fn.sink) (take l.done l.bytes);
  count : g.K.Sink.faults l.fn.sink ≤ g.K.Sink.faults l.sink;
}

abbrev pub decreases-loop-done : goal.decreases-loop-done
decreases-loop-done g l = length l.bytes - l.done
