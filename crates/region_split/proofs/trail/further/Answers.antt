use Rattle.std.proofs.Common.{length, take, refl, sym, ap, ◌∙◌, subst, arith}
use Rattle.linear_rows.specs.Occurrences.{AreOccurrences}
use Rattle.region_split.proofs.Trails.{stands_further, noted_first}
use Rattle.region_split.proofs.trail.further.Goals as goal

pub returns : goal.returns
returns c g ps h e o k =
    let n = c.len-count.ensures in
    let l = c.args.trail.now.rows.ok.0 in
    let d = c.deref.ensures.value in
    let f = noted_first c.args.trail.now.rows.items c.args.row _ c.len-count.result c.in_ok-push-3.ensures.items (omega (arith, n, l)) in
    let before = subst (λ rows. AreOccurrences (length g.types) rows c.args.trail.now.occurrences) (sym (ap (take c.len-count.result) d ∙ f)) h.occurrences in
    stands_further g ps c.args.trail.now _ c.args.answer c.args.way c.args.row h e o k c.in_ok-push.ensures.items c.in_ok-push-2.ensures.items c.in_ok-push-3.ensures.items (subst (λ rows. AreOccurrences (length g.types) rows c.note.new.self) d (c.note.ensures (length g.types) before)) refl h.known
