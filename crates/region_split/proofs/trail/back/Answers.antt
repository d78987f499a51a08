use Rattle.std.proofs.Common.{length, length-append, [], ◌∷◌, refl, ap, ◌∙◌, arith}
use Rattle.region_split.proofs.Trails.{stood_before, no_places}
use Rattle.region_split.proofs.trail.back.Goals as goal

pub returns-in_default-pop-clause-back : goal.returns-in_default-pop-clause-back
returns-in_default-pop-clause-back c g h = let k = rw c.in_default-pop.is at c.pop-2.ensures.cases in let t = c.args.trail.now.places.ok.0 in absurd (no_places g c.args.trail.now h (omega (arith, k, t)))

pub returns-clause-back : goal.returns-clause-back
returns-clause-back c g h =
    let e = c.saturating_sub-left.ensures in
    let f = c.len.ensures in
    let o = c.args.trail.now.rows.ok.0 in
    stood_before g c.args.trail.now _ _ c.in-Some-pop.way c.saturating_sub-left.result c.row_count.result h c.in-Some.ensures.items c.in-Some-pop.ensures.items (c.row_count.ensures c.in-Some.answer.held) (omega (arith, e, f, o)) c.truncate.ensures.items refl refl h.known

pub returns-clause-shorter : goal.returns-clause-shorter
returns-clause-shorter c = let i = ap length c.in-Some.ensures.items ∙ length-append c.pop.new.self.items (c.in-Some.answer ∷ []) in omega (arith, i)
