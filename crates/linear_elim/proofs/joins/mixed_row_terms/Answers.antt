use Rattle.std.proofs.Common.{◌&&◌, ap, ap₂, ◌∙◌}
use Rattle.linear_elim.proofs.Numbers.{ok_map, wide_argument}
use Rattle.linear_elim.proofs.joins.mixed_row_terms.Goals as goal

pub returns-clause-some : goal.returns-clause-some
returns-clause-some c = ok_map c.mixed.result _ _ (λ o h. h ∙ ap₂ (λ a b. a && b) (wide_argument c.args.p _ _ c.requires.p_narrow (c.deref.ensures.value ∙ ap (λ r. r.terms) c.a.view_is) c.requires.left.narrow) (wide_argument c.args.q _ _ c.requires.q_narrow (c.deref-2.ensures.value ∙ ap (λ r. r.terms) c.b.view_is) c.requires.right.narrow)) c.mixed.ensures.fits
