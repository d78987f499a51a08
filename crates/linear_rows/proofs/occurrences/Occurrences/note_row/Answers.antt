use Rattle.std.proofs.Common.{◌≡◌, sym, ap, ◌∙◌, subst}
use Rattle.std.proofs.lemmas.List.{with_items_is}
use Rattle.linear_rows.proofs.FirstRows.{noted_row, WasNoted}
use Rattle.linear_rows.proofs.occurrences.Occurrences.note_row.Goals as goal

pub returns : goal.returns
returns c count rows h n =
    let o = c.args.self.now in
    let index = c.args.index in
    let new = c.note_terms.new.first in
    let terms : c.deref.result.now ≡ c.args.row.now.terms = c.deref.ensures.value ∙ ap (λ r. r.terms) c.row.view_is in
    let items = with_items_is o.first new (c.note_terms.ensures.length ∙ c.deref_mut.ensures.len) in
    let a = subst (λ old. WasNoted index c.deref.result.now old new) c.deref_mut.ensures.value (record { same = c.note_terms.ensures.length; each = c.note_terms.ensures.each }) in
    let b = subst (λ xs. WasNoted index xs o.first.items new) terms a in
    noted_row count index rows c.args.row.now o _ h n (subst (WasNoted index c.args.row.now.terms o.first.items) (sym items) b)
