use Rattle.std.proofs.Common.{sym, ◌∙◌, subst}
use Rattle.std.proofs.lemmas.List.{with_items_is}
use Rattle.linear_rows.proofs.FirstRows.{first_noted, WasForgotten}
use Rattle.linear_rows.proofs.occurrences.Occurrences.truncate.Goals as goal

pub returns : goal.returns
returns c count rows h =
    let o = c.args.self.now in
    let len = c.args.len in
    let new = c.forget.new.first in
    let items = with_items_is o.first new (c.forget.ensures.length ∙ c.deref_mut.ensures.len) in
    let a = subst (λ old. WasForgotten len old new) c.deref_mut.ensures.value (record { same = c.forget.ensures.length; each = c.forget.ensures.each }) in
    first_noted count len rows o _ h (subst (WasForgotten len o.first.items) (sym items) a)
