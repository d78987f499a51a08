use Rattle.std.proofs.Common.{◌≡◌, sym, subst, ap, ◌∙◌}
use Rattle.std.specs.Prelude.{Some, nat_eq}
use Rattle.std.specs.HashMap.{Updates}
use Rattle.linear_rows.specs.Row.{Row}
use Rattle.linear_elim.specs.Joins.{Derived}
use Rattle.linear_elim.specs.internal.Fingerprints.{fingerprint, ArePlaces}
use Rattle.linear_elim.proofs.FingerprintSearch.{noted, kept}
use Rattle.linear_elim.proofs.gathered_rows.push_row.Goals as goal
use Rattle.linear_elim.proofs.gathered_rows.push_row.Goals.{then-not-contains_key+in_ok-insert, else-not-contains_key}

pub returns-clause-places : goal.returns-clause-places
returns-clause-places c =
    let f : c.fingerprint-key.result ≡ fingerprint c.args.r.row.terms = (c.fingerprint-key.ensures ∙ ap fingerprint (c.deref.ensures.value ∙ ap (λ (x : Row). x.terms) c.row.view_is ∙ ap (λ (x : Derived). x.row.terms) c.r.view_is)) in
    elim c.if-not-contains_key.branch [
      | then-not-contains_key+in_ok-insert w ↦ subst (λ m. ArePlaces m c.push.new.self.items) (sym w.places-is) (noted c.args.places.now w.insert.new.self c.args.rows.now.items c.push.new.self.items c.args.r c.fingerprint-key.result f c.requires (sym c.contains_key.ensures ∙ w.if-not-contains_key.true) (subst (λ n. Updates nat_eq c.args.places.now w.insert.new.self c.fingerprint-key.result (Some n)) (w.len.ensures ∙ c.args.rows.now.ok.0) w.in_ok-insert.ensures.updates) c.in_ok-push.ensures.items)
      | else-not-contains_key w ↦ subst (λ m. ArePlaces m c.push.new.self.items) (sym w.places-is) (kept c.args.places.now c.args.rows.now.items c.push.new.self.items c.args.r c.fingerprint-key.result f c.requires (sym c.contains_key.ensures ∙ w.if-not-contains_key.false) c.in_ok-push.ensures.items)
    ]
