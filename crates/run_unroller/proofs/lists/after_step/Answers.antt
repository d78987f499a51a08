use Rattle.std.proofs.Common.{ap, ap₂, sym, subst, ◌∙◌}
use Rattle.heyvl_num.specs.WeightedSums.{joined, scaled}
use Rattle.heyvl_acts.specs.PlainActs.{procedures_of}
use Rattle.heyvl_acts.specs.Rules.{Each}
use Rattle.run_machine.specs.ConfigConditions.{HasRoom, IsConfig}
use Rattle.run_machine.specs.Names.{stored}
use Rattle.run_machine.specs.SameConfigurations.{same_stored}
use Rattle.run_unroller.specs.Causes.{all_brought, brought, first_cause}
use Rattle.run_unroller.specs.MergedLists.{merged_onto}
use Rattle.run_unroller.specs.RunLists.{follow}
use Rattle.run_unroller.specs.internal.Extensions.{Extends}
use Rattle.run_unroller.specs.internal.RunViews.{runs_of}
use Rattle.run_unroller.proofs.StepOutcomes.{joined_next, joined_none, onto_more, onto_none}
use Rattle.run_unroller.proofs.lists.after_step.Goals as goal

pub loop-config-init : goal.loop-config-init
loop-config-init c =
    let ps = procedures_of c.args.typed.now in
    let none = c.new-next.ensures in
    let all = c.into_iter-config-iterator.ensures.into_iter_gives.0 in
    record {
      causes = ap₂ (λ es l. first_cause es (all_brought ps c.args.script.now (runs_of l))) (sym none) (sym all);
      list = ap₂ (λ es l. merged_onto same_stored es (joined (follow ps c.args.script.now) (runs_of l))) (sym none) (sym all);
      configs = subst (λ l. Each (λ x. IsConfig ps x.1) (runs_of l)) (sym all) c.requires.configs;
      rooms = subst (λ l. Each (λ x. HasRoom x.1) (runs_of l)) (sym all) c.requires.rooms;
    }

pub loop-config-preserved : goal.loop-config-preserved
loop-config-preserved c =
    let ps = procedures_of c.args.typed.now in
    let script = c.args.script.now in
    let now = runs_of c.loop-config.next.entries.entries in
    let ys = runs_of c.next.new.self in
    let w = c.in-Some.weight in
    let one = stored c.in-Some.config in
    let more = c.in-Some.ensures.steps in
    let new = subst (λ o. Extends now (runs_of c.follow_run.new.next.entries.entries) (brought ps script one.items w one) (scaled w (follow ps script one)) o) c.in_default.is c.in_ok-cause.ensures in
    record {
      causes = c.loop-config.invariant.causes ∙ ap (λ l. first_cause now (all_brought ps script (runs_of l))) more ∙ new.0 (all_brought ps script ys);
      list = c.loop-config.invariant.list ∙ ap (λ l. merged_onto same_stored now (joined (follow ps script) (runs_of l))) more ∙ ap (merged_onto same_stored now) (joined_next (follow ps script) (w, one) ys) ∙ onto_more same_stored now (scaled w (follow ps script one)) (joined (follow ps script) ys) ∙ ap (λ l. merged_onto same_stored l (joined (follow ps script) ys)) new.1;
      configs = (subst (λ l. Each (λ x. IsConfig ps x.1) (runs_of l)) more c.loop-config.invariant.configs).1;
      rooms = (subst (λ l. Each (λ x. HasRoom x.1) (runs_of l)) more c.loop-config.invariant.rooms).1;
    }

pub returns : goal.returns
returns c =
    let ps = procedures_of c.args.typed.now in
    let script = c.args.script.now in
    let now = runs_of c.loop-config.next.entries.entries in
    let none = c.in-None.ensures.steps.0 in (
      c.loop-config.invariant.causes ∙ ap (λ l. first_cause now (all_brought ps script (runs_of l))) none,
      sym (c.loop-config.invariant.list ∙ ap (λ l. merged_onto same_stored now (joined (follow ps script) (runs_of l))) none ∙ ap (merged_onto same_stored now) (joined_none (follow ps script)) ∙ onto_none same_stored now),
    )
