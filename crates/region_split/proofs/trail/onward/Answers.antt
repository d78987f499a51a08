use Rattle.std.proofs.Common.{◌≡◌, ◌++◌, take, refl, ap, ◌∙◌, arith}
use Rattle.std.proofs.Math.Seq.{take-append_seam}
use Rattle.region_split.proofs.Trails.{comes_by, taken_twice}
use Rattle.region_split.proofs.trail.onward.Goals as goal

pub returns : goal.returns
returns c g h o =
    let rows = c.args.trail.now.rows.items in
    let m = c.len-count.ensures in
    let l = c.args.trail.now.rows.ok.0 in
    let k : take c.len-count.result (rows ++ h.more) ≡ rows = ap (λ j. take j (rows ++ h.more)) (omega (arith, m, l)) ∙ take-append_seam rows h.more in
    let s = c.truncate-2.ensures (rows ++ h.more) rows (rw c.deref_mut.ensures.value h.remembers) (taken_twice (rows ++ h.more) c.len-count.result ∙ ap (take c.len-count.result) k) in
    comes_by g c.args.trail.now _ c.args.answer c.args.way h o c.in_ok-push.ensures.items c.in_ok-push-2.ensures.items refl (rw k at (c.truncate.ensures _ _ h.occurrences)) s h.known
