use Rattle.std.proofs.Common.{ap, subst, ◌∙◌, ◌++◌, ◌∷◌, [], map}
use Rattle.std.specs.Vec.Iter.{into_iter_items}
use Rattle.heyvl_num.specs.Rational.{◌*ʳ◌}
use Rattle.heyvl_num.specs.WeightedSums.{scaled}
use Rattle.run_machine.specs.Replies.{stored_outcome, stored_outcomes}
use Rattle.run_machine.specs.SameConfigurations.{same_stored}
use Rattle.run_unroller.specs.Causes.{Brought, first_cause}
use Rattle.run_unroller.specs.MergedLists.{merged_onto}
use Rattle.run_unroller.specs.internal.Extensions.{Extends}
use Rattle.run_unroller.specs.internal.RunViews.{runs_of}
use Rattle.run_unroller.proofs.StepOutcomes.{nothing_left, onto_more, onto_none, scaled_next, scaled_none}
use Rattle.run_unroller.proofs.lists.join_all.Goals as goal

pub loop-outcome-preserved : goal.loop-outcome-preserved
loop-outcome-preserved c =
    let ys = into_iter_items c.next.new.self in
    let w = c.args.weight.now in
    let now = runs_of c.loop-outcome.next.entries.entries in
    let x = stored_outcome c.in-Some.outcome in
    let more = c.in-Some.ensures.steps.0 in
    let joined = subst (λ o. Extends now (runs_of c.join_outcome.new.next.entries.entries) (Brought.joins w x ∷ []) ((w *ʳ x.0, x.1) ∷ []) o) c.in_default.is c.in_ok-cause.ensures in
    record {
      causes = λ rest. c.loop-outcome.invariant.causes rest ∙ ap (λ l. first_cause now (map (Brought.joins w) (stored_outcomes l) ++ rest)) more ∙ joined.0 (map (Brought.joins w) (stored_outcomes ys) ++ rest);
      list = c.loop-outcome.invariant.list ∙ ap (λ l. merged_onto same_stored now (scaled w (stored_outcomes l))) more ∙ ap (merged_onto same_stored now) (scaled_next w x (stored_outcomes ys)) ∙ onto_more same_stored now ((w *ʳ x.0, x.1) ∷ []) (scaled w (stored_outcomes ys)) ∙ ap (λ l. merged_onto same_stored l (scaled w (stored_outcomes ys))) joined.1;
    }

pub returns : goal.returns
returns c =
    let w = c.args.weight.now in
    let now = runs_of c.loop-outcome.next.entries.entries in
    let none = nothing_left _ (into_iter_items c.loop-outcome.outcome-iterator) c.loop-outcome.outcome-iterator.rest.ok.0 c.in-None.ensures.steps.0 in (
      λ rest. c.loop-outcome.invariant.causes rest ∙ ap (λ l. first_cause now (map (Brought.joins w) (stored_outcomes l) ++ rest)) none,
      c.loop-outcome.invariant.list ∙ ap (λ l. merged_onto same_stored now (scaled w (stored_outcomes l))) none ∙ ap (merged_onto same_stored now) (scaled_none w) ∙ onto_none same_stored now,
    )
