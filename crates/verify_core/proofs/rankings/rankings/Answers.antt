use Rattle.std.proofs.Common.{ap, refl, subst, sym, ◌∙◌}
use Rattle.std.specs.Vec.Iter.{into_iter_items}
use Rattle.heyvl_acts.specs.Acts.{procedure_at}
use Rattle.heyvl_acts.specs.PlainActs.{procedures_of}
use Rattle.heyvl_acts.specs.Rules.{Each}
use Rattle.ranking_rule.specs.Rankings.{RankedLoop}
use Rattle.verify_core.specs.Rankings.{ranked_loops}
use Rattle.loop_encodings.proofs.exported.FromRules.{is_there, rules_at}
use Rattle.verify_core.proofs.GoalOutcomes.{nothing_left}
use Rattle.verify_core.proofs.MainGoals.{here}
use Rattle.verify_core.proofs.RankedNumbers.{all_rankings, each_ranked, next_ranking, no_rankings}
use Rattle.verify_core.proofs.rankings.rankings.Goals as goal

pub loop-number-init : goal.loop-number-init
loop-number-init c =
    let ps = procedures_of c.args.typed.now in
    let q = procedure_at ps c.args.p in
    let h = here c.args.typed.now c.args.p c.index.result.now c.requires.rules c.requires.there c.index.ensures in
    let e = ap ranked_loops h ∙ (sym c.in_ok-numbers.ensures ∙ sym c.into_iter-number-iterator.ensures.into_iter_gives.0) in
    record {
      goals = no_rankings ps c.args.p (ranked_loops q) _ c.new-all.result.items e c.new-all.ensures.items;
      named = subst (λ ns. Each (RankedLoop q) ns) e (each_ranked ps q (rules_at c.args.typed.now c.args.p c.requires.rules (is_there c.args.typed.now c.args.p c.requires.there)));
    }

pub ranking_goal-requires-clause-ranked : goal.ranking_goal-requires-clause-ranked
ranking_goal-requires-clause-ranked c = (subst (λ ns. Each (RankedLoop (procedure_at (procedures_of c.args.typed.now) c.args.p)) ns) c.in-Some.ensures.steps.0 c.loop-number.invariant.named).0

pub loop-number-preserved : goal.loop-number-preserved
loop-number-preserved c =
    let ps = procedures_of c.args.typed.now in
    let named = subst (λ ns. Each (RankedLoop (procedure_at ps c.args.p)) ns) c.in-Some.ensures.steps.0 c.loop-number.invariant.named in
    record {
      goals = next_ranking ps c.args.p (ranked_loops (procedure_at ps c.args.p)) _ (into_iter_items c.next.new.self) _ _ _ _ c.in-Some.ensures.steps.0 c.in_ok-push.ensures.items (record { proc = refl; id_of = refl; ranked = named.0; made = c.in_ok-made.ensures named.0 }) c.loop-number.invariant.goals;
      named = named.1;
    }

pub returns : goal.returns
returns c = all_rankings (procedures_of c.args.typed.now) c.args.p (ranked_loops (procedure_at (procedures_of c.args.typed.now) c.args.p)) _ c.loop-number.all.items (nothing_left _ (into_iter_items c.loop-number.number-iterator) c.loop-number.number-iterator.rest.ok.0 c.in-None.ensures.steps.0) c.loop-number.invariant.goals
