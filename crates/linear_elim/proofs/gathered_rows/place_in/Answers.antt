use Rattle.std.proofs.Common.{rules, ◌≡◌, ◌<◌, sym, ap, ◌∙◌, length}
use Rattle.std.proofs.lemmas.List.{get_or_default}
use Rattle.std.specs.Prelude.{Some, None}
use Rattle.linear_rows.specs.Row.{Row}
use Rattle.linear_elim.specs.Joins.{Derived}
use Rattle.linear_elim.specs.internal.Fingerprints.{fingerprint, first_with}
use Rattle.linear_rows.specs.SameTerms.{same_terms}
use Rattle.linear_elim.proofs.FingerprintSearch.{first-there, place_absent, place_found}
use Rattle.linear_elim.proofs.gathered_rows.place_in.Goals as goal

pub offset_bounds-rows-place : goal.offset_bounds-rows-place
offset_bounds-rows-place c =
    let e : first_with (fingerprint c.args.r.now.row.terms) c.args.rows.now ≡ Some c.in-Some.place = ap (λ q. first_with q c.args.rows.now) (sym (c.fingerprint-key.ensures ∙ ap fingerprint (c.deref.ensures.value ∙ ap (λ (x : Row). x.terms) c.row.view_is ∙ ap (λ (x : Derived). x.row.terms) c.r.view_is))) ∙ sym (c.requires c.fingerprint-key.result) ∙ sym c.get.ensures.value ∙ sym c.copied.ensures ∙ c.in-Some.is in
    let l : c.in-Some.place < length c.args.rows.now = first-there (fingerprint c.args.r.now.row.terms) c.args.rows.now c.args.r.now c.in-Some.place e in
    search rules

pub bounds-rows-place : goal.bounds-rows-place
bounds-rows-place c =
    let e : first_with (fingerprint c.args.r.now.row.terms) c.args.rows.now ≡ Some c.in-Some.place = ap (λ q. first_with q c.args.rows.now) (sym (c.fingerprint-key.ensures ∙ ap fingerprint (c.deref.ensures.value ∙ ap (λ (x : Row). x.terms) c.row.view_is ∙ ap (λ (x : Derived). x.row.terms) c.r.view_is))) ∙ sym (c.requires c.fingerprint-key.result) ∙ sym c.get.ensures.value ∙ sym c.copied.ensures ∙ c.in-Some.is in
    first-there (fingerprint c.args.r.now.row.terms) c.args.rows.now c.args.r.now c.in-Some.place e

pub returns-in-None : goal.returns-in-None
returns-in-None c =
    let e : first_with (fingerprint c.args.r.now.row.terms) c.args.rows.now ≡ None = ap (λ q. first_with q c.args.rows.now) (sym (c.fingerprint-key.ensures ∙ ap fingerprint (c.deref.ensures.value ∙ ap (λ (x : Row). x.terms) c.row.view_is ∙ ap (λ (x : Derived). x.row.terms) c.r.view_is))) ∙ sym (c.requires c.fingerprint-key.result) ∙ sym c.get.ensures.value ∙ sym c.copied.ensures ∙ c.in-None.is in
    place_absent c.args.r.now c.args.rows.now e

pub returns-then-are_alike : goal.returns-then-are_alike
returns-then-are_alike c =
    let e : first_with (fingerprint c.args.r.now.row.terms) c.args.rows.now ≡ Some c.in-Some.place = ap (λ q. first_with q c.args.rows.now) (sym (c.fingerprint-key.ensures ∙ ap fingerprint (c.deref.ensures.value ∙ ap (λ (x : Row). x.terms) c.row.view_is ∙ ap (λ (x : Derived). x.row.terms) c.r.view_is))) ∙ sym (c.requires c.fingerprint-key.result) ∙ sym c.get.ensures.value ∙ sym c.copied.ensures ∙ c.in-Some.is in
    let l : c.in-Some.place < length c.args.rows.now = first-there (fingerprint c.args.r.now.row.terms) c.args.rows.now c.args.r.now c.in-Some.place e in
    let s = ap (λ (x : Derived). same_terms x.row.terms c.args.r.now.row.terms) (get_or_default c.args.rows.now c.in-Some.place c.args.r.now c.index-rows-place.result l ∙ sym c.index-rows-place.is) in
    place_found c.args.r.now c.args.rows.now c.in-Some.place e (s ∙ sym c.if-are_alike.ensures)
