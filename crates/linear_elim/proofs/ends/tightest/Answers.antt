use Rattle.std.proofs.Common.{◌≡◌, subst, ap, sym, ◌∙◌, true}
use Rattle.std.specs.Prelude.{IfSome}
use Rattle.linear_rows.specs.Numbers.{fits}
use Rattle.linear_elim.specs.internal.ChoiceSteps.{IsTightest, narrow_end}
use Rattle.linear_elim.proofs.EndRuns.{tight_none, tight_first, tight_more, tight_item, tight_end}
use Rattle.linear_elim.proofs.ends.tightest.Goals as goal
use Rattle.linear_elim.proofs.ends.tightest.Goals.{in-None, in-Some-found}

pub loop-r-init : goal.loop-r-init
loop-r-init c = tight_none c.args.side c.args.x c.args.chosen.now c.args.rows.now

pub tighter-requires-clause-first : goal.tighter-requires-clause-first
tighter-requires-clause-first c = subst (λ o. IfSome o (λ e. fits e.place ≡ true)) c.in-Some-found.is c.loop-r.invariant.narrow

pub loop-r-preserved : goal.loop-r-preserved
loop-r-preserved c =
    let e = ap (λ r. narrow_end c.args.x c.args.chosen.now r.row) (sym c.r.view_is) ∙ sym c.row_end.ensures ∙ c.in-Some.is in
    tight_item c.args.side c.args.x c.args.chosen.now c.args.rows.now c.loop-r.r-index c.r-item.result c.match-found.found c.loop-r-test.true c.r-item.is
    (elim c.match-found.branch [
      | in-None w ↦ subst (IsTightest c.args.side c.args.x c.args.chosen.now _) (sym w.found-is) (tight_first c.args.side c.args.x c.args.chosen.now _ c.r-item.result c.in-Some.end (subst (IsTightest c.args.side c.args.x c.args.chosen.now _) w.in-None.is c.loop-r.invariant) e)
      | in-Some-found w ↦ subst (IsTightest c.args.side c.args.x c.args.chosen.now _) (sym w.found-is) (tight_more c.args.side c.args.x c.args.chosen.now _ c.r-item.result w.in-Some-found.before c.in-Some.end _ (subst (IsTightest c.args.side c.args.x c.args.chosen.now _) w.in-Some-found.is c.loop-r.invariant) e w.tighter.ensures.fits w.tighter.ensures.values)
    ])

pub returns : goal.returns
returns c = tight_end c.args.side c.args.x c.args.chosen.now c.args.rows.now c.loop-r.r-index c.loop-r.found c.loop-r-test.false c.loop-r.invariant
