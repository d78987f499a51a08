use Rattle.std.proofs.Common.{ap, ◌∙◌}
use Rattle.heylo_formula.specs.PlainTrees.{form_of}
use Rattle.heyvl_acts.specs.Acts.{Act}
use Rattle.k_induction.proofs.Joins.{two_more}
use Rattle.k_induction.proofs.copies.last_copy.Goals as goal

pub returns : goal.returns
returns c = two_more _ _ _ _ _ _ _ _ c.in_ok-made.ensures (c.in_ok-stated.ensures ∙ ap (λ kind. Act.check kind (form_of c.args.inv.now) c.args.span) c.must.ensures) c.in_ok-no_more.ensures c.in_ok-push.ensures.items c.in_ok-push-2.ensures.items
