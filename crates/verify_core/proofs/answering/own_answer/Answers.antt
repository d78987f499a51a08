use Rattle.std.proofs.Common.{ap, sym, ◌∙◌}
use Rattle.heyvl_acts.specs.Acts.{TypedProcedure, procedure_at}
use Rattle.heyvl_acts.specs.PlainActs.{procedures_of}
use Rattle.loop_encodings.proofs.exported.FromRules.{is_there, procedure_is, rules_at}
use Rattle.loop_encodings.specs.BoundGoals.{bound_goals}
use Rattle.verify_core.specs.Rankings.{ranked_loops}
use Rattle.verify_core.proofs.DecidedGoals.{bounds_settle, rankings_settle}
use Rattle.verify_core.proofs.OwnAnswers.{own_answer}
use Rattle.verify_core.proofs.answering.own_answer.Goals as goal

pub settle_all-requires : goal.settle_all-requires
settle_all-requires c = bounds_settle c.prenexed_goals_speak_of_choices.ensures.goals c.generated_form_means_acts.ensures.typed c.generated_form_means_acts.ensures.over c.encodings_are_over_their_variables.ensures.over (procedures_of c.args.typed.now) c.requires.rules.each c.args.p (is_there c.args.typed.now c.args.p c.requires.there) c.args.way c.requires.ready (bound_goals (procedure_at (procedures_of c.args.typed.now) c.args.p)) _ c.in_ok-bounds.ensures

pub settle_all-requires-2 : goal.settle_all-requires-2
settle_all-requires-2 c =
    let ps = procedures_of c.args.typed.now in
    let l = is_there c.args.typed.now c.args.p c.requires.there in
    rankings_settle c.ranking_goals_say_rankings.ensures.goals c.ranking_goals_say_rankings.ensures.few ps c.args.p l (rules_at c.args.typed.now c.args.p c.requires.rules l) c.args.way c.requires.ready (ranked_loops (procedure_at ps c.args.p)) _ c.in_ok-rankings.ensures

pub returns : goal.returns
returns c = own_answer c.args.way (procedures_of c.args.typed.now) c.args.p _ _ _ _ _ _ _ _ _ _ _ c.in_ok-bounds.ensures c.in_ok-rankings.ensures c.in_ok-bound.ensures c.in_ok-ranked.ensures (c.in_ok-name.ensures ∙ sym (ap (λ (y : TypedProcedure). y.name) (procedure_is c.args.typed.now.procs.items c.args.p c.index.result.now c.requires.there c.index.ensures))) c.in_ok-verdict.ensures.verdict c.in_ok-loops.ensures.loops c.in_ok-verdict.ensures.made c.in_ok-loops.ensures.made
