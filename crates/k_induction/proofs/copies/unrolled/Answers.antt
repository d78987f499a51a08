use Rattle.std.proofs.Common.{ap, ◌∙◌, sym, arith}
use Rattle.heylo_formula.specs.PlainTrees.{cond_of, form_of}
use Rattle.heyvl_acts.specs.PlainActs.{acts_of}
use Rattle.k_induction.specs.Copies.{another_copy, if_holds}
use Rattle.k_induction.proofs.Joins.{one_more_copy}
use Rattle.k_induction.proofs.copies.unrolled.Goals as goal

pub loop-count-preserved : goal.loop-count-preserved
loop-count-preserved c =
    c.in_ok-made-2.ensures
    ∙ (ap (λ others. another_copy c.args.up c.args.span (form_of c.args.inv.now) (acts_of c.args.body.now) others) (c.in_ok-others.ensures ∙ ap (λ acts. if_holds c.args.span (cond_of c.args.guard.now) acts) c.loop-count.invariant)
    ∙ sym (one_more_copy c.args.up c.args.span (cond_of c.args.guard.now) (form_of c.args.inv.now) (acts_of c.args.body.now) c.loop-count.count (omega arith)))
