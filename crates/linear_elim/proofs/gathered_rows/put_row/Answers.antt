use Rattle.std.proofs.Common.{subst, sym, ◌∙◌, length, ap}
use Rattle.linear_elim.specs.internal.Places.{IsPlace}
use Rattle.linear_elim.proofs.Places.{put_last, put_stronger, put_weaker}
use Rattle.linear_elim.proofs.FingerprintSearch.{replaced}
use Rattle.linear_elim.proofs.gathered_rows.put_row.Goals as goal

pub returns-in_ok-push_row-clause-rows : goal.returns-in_ok-push_row-clause-rows
returns-in_ok-push_row-clause-rows c =
    let p = subst (λ ks. IsPlace c.args.r ks c.place_in-place.result) c.deref.ensures.value c.place_in-place.ensures in
    put_last c.args.r c.args.rows.now.items _ c.place_in-place.result p (c.if-place-len.true ∙ c.len.ensures ∙ sym c.deref.ensures.len ∙ ap length c.deref.ensures.value) c.in_ok-push_row.ensures.rows

pub returns-then-is_stronger_than-clause-rows : goal.returns-then-is_stronger_than-clause-rows
returns-then-is_stronger_than-clause-rows c =
    let p = subst (λ ks. IsPlace c.args.r ks c.place_in-place.result) c.deref.ensures.value c.place_in-place.ensures in
    put_stronger c.args.r _ c.args.rows.now.items c.place_in-place.result p (λ e. c.if-place-len.false (e ∙ sym (c.len.ensures ∙ sym c.deref.ensures.len ∙ ap length c.deref.ensures.value))) c.index.ensures (sym c.is_stronger_than.ensures ∙ c.if-is_stronger_than.true)

pub returns-then-is_stronger_than-clause-places : goal.returns-then-is_stronger_than-clause-places
returns-then-is_stronger_than-clause-places c =
    let p = subst (λ ks. IsPlace c.args.r ks c.place_in-place.result) c.deref.ensures.value c.place_in-place.ensures in
    replaced c.args.places.now c.args.rows.now.items c.args.r c.place_in-place.result p (λ e. c.if-place-len.false (e ∙ sym (c.len.ensures ∙ sym c.deref.ensures.len ∙ ap length c.deref.ensures.value))) c.requires

pub returns-else-is_stronger_than-clause-rows : goal.returns-else-is_stronger_than-clause-rows
returns-else-is_stronger_than-clause-rows c =
    let p = subst (λ ks. IsPlace c.args.r ks c.place_in-place.result) c.deref.ensures.value c.place_in-place.ensures in
    put_weaker c.args.r _ c.args.rows.now.items c.place_in-place.result p (λ e. c.if-place-len.false (e ∙ sym (c.len.ensures ∙ sym c.deref.ensures.len ∙ ap length c.deref.ensures.value))) c.index.ensures (sym c.is_stronger_than.ensures ∙ c.if-is_stronger_than.false)
