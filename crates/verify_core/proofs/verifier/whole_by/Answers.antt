use Rattle.std.proofs.Common.{subst, ◌∙◌}
use Rattle.std.proofs.lemmas.List.{length-map}
use Rattle.heyvl_acts.specs.PlainActs.{procedure_of, procedures_of}
use Rattle.heyvl_acts.specs.Rules.{Each}
use Rattle.verdict_report.specs.PlacedAnswers.{IsAnswerPlaced}
use Rattle.verify_core.specs.Outcomes.{all_outcomes}
use Rattle.verify_core.specs.internal.SettledGoals.{outcome_by}
use Rattle.verify_core.proofs.Headlines.{headline}
use Rattle.verify_core.proofs.OutcomesMean.{are_outcomes}
use Rattle.verify_core.proofs.OwnAnswers.{own_length, whole}
use Rattle.verify_core.proofs.PlacedAnswers.{answers_placed}
use Rattle.verify_core.proofs.verifier.whole_by.Goals as goal

pub answers-requires-clause-each : goal.answers-requires-clause-each
answers-requires-clause-each c = own_length c.args.way (procedures_of c.args.typed.now) _ _ _ _ c.in_ok-own.ensures ∙ length-map c.args.typed.now.procs.items procedure_of

pub returns-clause-whole : goal.returns-clause-whole
returns-clause-whole c = whole c.args.way (procedures_of c.args.typed.now) _ _ _ _ c.in_ok-own.ensures c.in_ok-answers.ensures

pub returns-clause-placed : goal.returns-clause-placed
returns-clause-placed c =
    let ps = procedures_of c.args.typed.now in
    let way = c.args.way in
    let all = c.in_ok-answers.answers.items in
    let w = whole way ps _ _ _ _ c.in_ok-own.ensures c.in_ok-answers.ensures in
    let are = are_outcomes c.certified_goals_hold.ensures c.prenexed_goals_speak_of_choices.ensures.goals c.generated_form_means_acts.ensures.typed c.generated_form_means_acts.ensures.over c.encodings_are_over_their_variables.ensures.over c.ranking_goals_say_rankings.ensures.goals ps c.requires.rules.each way w.table w.ranks w.found w.ranks_found in
    λ n h. subst (λ k. Each (IsAnswerPlaced n k) all) (length-map c.args.typed.now.procs.items procedure_of) (answers_placed n ps (all_outcomes (outcome_by way) w.table) (all_outcomes (outcome_by way) w.ranks) all c.requires.rules.each are h w.answers_of)

pub returns-clause-headline : goal.returns-clause-headline
returns-clause-headline c =
    let ps = procedures_of c.args.typed.now in
    let way = c.args.way in
    let all = c.in_ok-answers.answers.items in
    let w = whole way ps _ _ _ _ c.in_ok-own.ensures c.in_ok-answers.ensures in
    let are = are_outcomes c.certified_goals_hold.ensures c.prenexed_goals_speak_of_choices.ensures.goals c.generated_form_means_acts.ensures.typed c.generated_form_means_acts.ensures.over c.encodings_are_over_their_variables.ensures.over c.ranking_goals_say_rankings.ensures.goals ps c.requires.rules.each way w.table w.ranks w.found w.ranks_found in
    headline c.made_goals_say_bounds.ensures c.shown_bounds_hold.ensures c.broken_goals_break_bounds.ensures c.encodings_are_over_their_variables.ensures.over c.generated_form_means_acts.ensures.value c.generated_form_means_acts.ensures.typed c.generated_form_means_acts.ensures.over c.prenexed_goals_speak_of_choices.ensures.failing ps c.requires.rules.each (all_outcomes (outcome_by way) w.table) (all_outcomes (outcome_by way) w.ranks) are c.rankings_bound_turns.ensures c.ranking_goals_say_rankings.ensures.holds c.ranking_goals_say_rankings.ensures.failing all w.answers_of
