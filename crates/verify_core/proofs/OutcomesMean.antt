-- The meaning of the outcomes of a file's goals, of bounds and of rankings.
use Rattle.std.proofs.Common.{◌≡◌, ◌<◌, ℕ, ap, subst, sym, List, [], ◌∷◌, length}
use Rattle.std.specs.List.{AllZip}
use Rattle.farkas_check.specs.CertificateLaws.{CertifiedGoalsHold}
use Rattle.heylo_formula.specs.GoalOrder.{loop_of}
use Rattle.heylo_formula.specs.declared.goals.GoalId.{GoalId}
use Rattle.heyvl_acts.specs.Acts.{TypedProcedure, procedure_at}
use Rattle.heyvl_acts.specs.Rules.{Each, MeetsRules}
use Rattle.loop_encodings.proofs.exported.FromRules.{each_at}
use Rattle.loop_encodings.specs.BoundGoals.{BoundGoal, bound_goals, goal_id}
use Rattle.loop_encodings.specs.EncodingLaws.{EncodingIsOver}
use Rattle.ranking_rule.specs.Laws.{RankingGoalsAreGoals}
use Rattle.ranking_rule.specs.RankingGoals as ranking
use Rattle.ranking_rule.specs.Rankings.{RankedLoop}
use Rattle.verify_core.specs.NumberedLists.{row_at}
use Rattle.verify_core.specs.Outcomes.{IsTold, all_outcomes, outcomes}
use Rattle.verify_core.specs.Questions.{IsGoalOf, goal, question}
use Rattle.verify_core.specs.Rankings.{IsRankingGoal, ranked_loops}
use Rattle.verify_core.specs.Tables.{AreBoundsFound, AreFound, AreRankingsFound, GoalWith, HasFound}
use Rattle.verify_core.specs.declared.outcomes.GoalOutcome.{GoalOutcome}
use Rattle.verify_core.specs.declared.outcomes.Outcome.{Outcome}
use Rattle.verify_core.specs.declared.settled_goals.Way.{Way}
use Rattle.verify_core.specs.internal.SettledGoals.{Finding, Finds, outcome_by}
use Rattle.verify_core.proofs.AskedGoals.{goal_is, proper}
use Rattle.verify_core.proofs.GoalOutcomes.{told_is}
use Rattle.verify_core.proofs.MadeGoals.{Means, means}
use Rattle.verify_core.proofs.SideBySide.{numbered_map, row_of, zip_seconds}
use Rattle.vp_generator.specs.Laws.{GeneratedFormIsFormula}
use Rattle.vp_generator.specs.Over.{GeneratedFormIsOver}
use Rattle.vp_generator.specs.PrenexedGoals.{PrenexedGoalsAreGoals}

pub record IsBoundOutcome (ps : List TypedProcedure) (p : ℕ) (asked : BoundGoal) (o : GoalOutcome) : Type 0 where
  pub id_of : o.goal.id ≡ goal_id asked
  pub means : Means (goal (question ps (procedure_at ps p) asked)) o.outcome

pub record IsRankingOutcome (ps : List TypedProcedure) (p n : ℕ) (o : GoalOutcome) : Type 0 where
  pub loop : RankedLoop (procedure_at ps p) n
  pub number : loop_of o.goal.id ≡ n
  pub means : Means (ranking.goal (procedure_at ps p) loop.head loop.body loop.rank) o.outcome

pub record AreOutcomes (ps : List TypedProcedure) (table ranks : List (List GoalOutcome)) : Type 0 where
  pub bounds : (p : ℕ) → p < length ps → AllZip (IsBoundOutcome ps p) (bound_goals (procedure_at ps p)) (row_at table p)
  pub rankings : (p : ℕ) → p < length ps → AllZip (IsRankingOutcome ps p) (ranked_loops (procedure_at ps p)) (row_at ranks p)

row_means : {I : Type 0} (way : Way) (Is : I → GoalWith (Finding way) → Type 0) (Says : I → GoalOutcome → Type 0) (is : List I) (gs : List (GoalWith (Finding way))) → ((i : I) (g : GoalWith (Finding way)) → Is i g → Says i (record { goal = g.goal; outcome = outcome_by way g.found })) → AllZip Is is gs → AllZip Says is (outcomes (outcome_by way) gs)
row_means way Is Says [] [] f h = tt
row_means way Is Says [] (g ∷ gs) f h = absurd h
row_means way Is Says (i ∷ is) [] f h = absurd h
row_means way Is Says (i ∷ is) (g ∷ gs) f h = (f i g h.0, row_means way Is Says is gs f h.1)

module _ (law : CertifiedGoalsHold) (goals : PrenexedGoalsAreGoals) (formula : GeneratedFormIsFormula) (over : GeneratedFormIsOver) (encoded : EncodingIsOver) (rankings : RankingGoalsAreGoals) (ps : List TypedProcedure) (rules : Each (MeetsRules ps) ps) (way : Way) where
  bound_row : (p : ℕ) (asked : List BoundGoal) (gs : List (GoalWith (Finding way))) → p < length ps → AreFound (IsGoalOf ps p) (Finds way) asked gs → AllZip (IsBoundOutcome ps p) asked (outcomes (outcome_by way) gs)
  bound_row p asked gs there h = row_means way (λ (b : BoundGoal) (g : GoalWith (Finding way)). HasFound (IsGoalOf ps p b) (Finds way) g) (IsBoundOutcome ps p) asked gs (λ b g f. record {
    id_of = f.goal.id_of;
    means =
        let q = question ps (procedure_at ps p) b in
        means law way q.found (goal q) g.goal g.found (goal_is goals q (proper formula over encoded ps rules p there b)).typed f.goal.made f.found;
  }) h

  ranking_row : (p : ℕ) (ns : List ℕ) (gs : List (GoalWith (Finding way))) → p < length ps → AreFound (IsRankingGoal ps p) (Finds way) ns gs → AllZip (IsRankingOutcome ps p) ns (outcomes (outcome_by way) gs)
  ranking_row p ns gs there h = row_means way (λ (n : ℕ) (g : GoalWith (Finding way)). HasFound (IsRankingGoal ps p n) (Finds way) g) (IsRankingOutcome ps p) ns gs (λ n g f. record {
    loop = f.goal.ranked;
    number = ap loop_of f.goal.id_of;
    means =
        let l = f.goal.ranked in
        let q = procedure_at ps p in
        means law way (ranking.generated l.body l.rank) (ranking.goal q l.head l.body l.rank) g.goal g.found (rankings ps q n l (each_at (MeetsRules ps) ps p rules there)).typed f.goal.made f.found;
  }) h

  pub are_outcomes : (table ranks : List (List (GoalWith (Finding way)))) → AreBoundsFound (Finds way) ps 0 ps table → AreRankingsFound (Finds way) ps 0 ps ranks → AreOutcomes ps (all_outcomes (outcome_by way) table) (all_outcomes (outcome_by way) ranks)
  are_outcomes table ranks b r = record {
    bounds = λ p l. row_of (λ k q os. k < length ps → AllZip (IsBoundOutcome ps k) (bound_goals q) os) ps (all_outcomes (outcome_by way) table) p l (numbered_map (λ k q gs. AreFound (IsGoalOf ps k) (Finds way) (bound_goals q) gs) (λ k q os. k < length ps → AllZip (IsBoundOutcome ps k) (bound_goals q) os) (outcomes (outcome_by way)) 0 ps table (λ k q gs h there. bound_row k (bound_goals q) gs there h) b) l;
    rankings = λ p l. row_of (λ k q os. k < length ps → AllZip (IsRankingOutcome ps k) (ranked_loops q) os) ps (all_outcomes (outcome_by way) ranks) p l (numbered_map (λ k q gs. AreFound (IsRankingGoal ps k) (Finds way) (ranked_loops q) gs) (λ k q os. k < length ps → AllZip (IsRankingOutcome ps k) (ranked_loops q) os) (outcomes (outcome_by way)) 0 ps ranks (λ k q gs h there. ranking_row k (ranked_loops q) gs there h) r) l;
  }

-- ---- The goal that a verdict reports

-- It is the goal `asked` of the bound, and its outcome has its meaning.
pub record IsToldOf (ps : List TypedProcedure) (p : ℕ) (id : GoalId) (o : Outcome) : Type 0 where
  pub asked : BoundGoal
  pub named : goal_id asked ≡ id
  pub means : Means (goal (question ps (procedure_at ps p) asked)) o

pub told_means : (ps : List TypedProcedure) (p : ℕ) (goals : List BoundGoal) (os : List GoalOutcome) (id : GoalId) (o : Outcome) → AllZip (IsBoundOutcome ps p) goals os → IsTold os id o → IsToldOf ps p id o
told_means ps p goals os id o h t =
    let each = zip_seconds (IsBoundOutcome ps p) Says goals os (λ b x k. record { asked = b; named = sym k.id_of; means = k.means }) h in
    subst (λ i. IsToldOf ps p i o) t.id_of (told_is Says os (record { goal = t.goal; outcome = o }) each t.told_of).0
  where
    Says : GoalOutcome → Type 0
    Says x = IsToldOf ps p x.goal.id x.outcome
