use Rattle.std.proofs.Common.{◌≤◌, ◌+◌, ◌-◌, length, take, drop, ap, ◌∙◌, arith, length-drop}
use Rattle.std.proofs.lemmas.List.{take_rest}
use Rattle.heyvl_io.specs.Bytes.{with_appended}
use Rattle.heyvl_io.proofs.Told.{take_further, appended_twice}
use Rattle.heyvl_io.proofs.writer.write_all.Goals as goal

pub loop-done-preserved : goal.loop-done-preserved
loop-done-preserved g c =
    let done = c.loop-done.done in
    let count = c.in-Ok.count in
    let bytes = c.args.bytes.now in
    let old = g.K.Sink.written c.args.sink.now in
    let fits : count ≤ length (drop done bytes) = rw take_rest at c.in-Ok.ensures.fits in
    record {
      within = omega (arith, fits, length-drop done bytes);
      front =
          c.in-Ok.ensures.front
          ∙ ap (λ w. with_appended w (take count (take (length bytes - done) (drop done bytes)))) c.loop-done.invariant.front
          ∙ ap (λ piece. with_appended (with_appended old (take done bytes)) (take count piece)) (take_rest bytes done)
          ∙ appended_twice old (take done bytes) (take count (drop done bytes)) (take (done + count) bytes) (take_further done count bytes);
      count = omega (arith, c.in-Ok.ensures.count);
    }
