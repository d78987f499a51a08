-- Answers by decisions or by certificates keep the promises of the headline.
use Rattle.std.proofs.Common.{◌≡◌, ◌<◌, ◌+◌, ℕ, sym, subst, arith, List, [], ◌∷◌, length}
use Rattle.std.specs.Borrow.{Bor}
use Prim.Native.Nat.{suc}
use Rattle.bounded_runs.specs.Law.{BrokenGoalsBreakBounds, ShownBoundsHold}
use Rattle.farkas_check.specs.CertificateLaws.{CertifiedGoalsHold}
use Rattle.goal_answers.specs.declared.decisions.Decision.{Decision}
use Rattle.goal_answers.specs.declared.named_goals.NamedGoal.{NamedGoal}
use Rattle.goal_answers.specs.declared.trees.GoalCert.{GoalCert}
use Rattle.heylo_formula.specs.Formula.{Form}
use Rattle.heylo_formula.specs.Goals.{Goal, goal_of}
use Rattle.heylo_formula.specs.TypedGoals.{HasItsVariables, IsGoal, IsTypedGoal}
use Rattle.heylo_formula.specs.declared.goals.Made.{Made}
use Rattle.heylo_formula.specs.declared.goals.Made.TheVariants as made
use Rattle.heyvl_acts.specs.Acts.{TypedProcedure, procedure_at}
use Rattle.heyvl_acts.specs.Rules.{Each, MeetsRules}
use Rattle.loop_encodings.proofs.exported.FromRules.{each_at}
use Rattle.loop_encodings.specs.BoundGoals.{bound_goals}
use Rattle.loop_encodings.specs.EncodingLaws.{EncodingIsOver}
use Rattle.ranking_rule.specs.Laws.{RankingGoalsAreGoals, RankingGoalsFail, RankingGoalsHold, RankingsBoundTurns}
use Rattle.ranking_rule.specs.RankingGoals as ranking
use Rattle.region_split.specs.DecisionLaws.{DecisionsTell}
use Rattle.verdict_report.specs.declared.answers.Answer.{Answer}
use Rattle.verify_core.specs.AnsweredProcedures.{AreAnswered}
use Rattle.verify_core.specs.CheckedAnswers.{IsCheckedFile}
use Rattle.verify_core.specs.GoalDecisions.{DecidedGoal, Decides, IsDecisionOf}
use Rattle.verify_core.specs.GoalLaws.{MadeGoalsSayBounds}
use Rattle.verify_core.specs.Headline.{IsHeadline}
use Rattle.verify_core.specs.NumberedLists.{AllNumbered}
use Rattle.verify_core.specs.Outcomes.{all_outcomes}
use Rattle.verify_core.specs.Questions.{IsGoalOf, goal, question}
use Rattle.verify_core.specs.Rankings.{IsRankingGoal, ranked_loops}
use Rattle.verify_core.specs.Tables.{AreFound, GoalWith}
use Rattle.verify_core.specs.declared.settled_goals.Way.{Way}
use Rattle.verify_core.specs.declared.settled_goals.Way.TheVariants.{Check, Decide}
use Rattle.verify_core.specs.internal.SettledGoals.{Finding, Finds, TellsOf, outcome_by}
use Rattle.verify_core.proofs.AskedGoals.{goal_is, proper}
use Rattle.verify_core.proofs.Headlines.{headline}
use Rattle.verify_core.proofs.OutcomesMean.{AreOutcomes, are_outcomes}
use Rattle.vp_generator.specs.Laws.{GeneratedFormIsFormula, GeneratedFormMeansActs}
use Rattle.vp_generator.specs.Over.{GeneratedFormIsOver}
use Rattle.vp_generator.specs.PrenexedGoals.{IsMadeWithin, PrenexedGoalsAreGoals, PrenexedGoalsFailByChoices}

-- ---- The meaning of decisions

told : DecisionsTell → (f : Form) (g : Goal) (m : Made) (d : Decision) → IsGoal g → IsMadeWithin f g m → IsDecisionOf m d → TellsOf m d
told tell f g (made.Goal x) d i h k = tell (goal_of x) d (subst IsTypedGoal (sym h.0) i.typed) (subst HasItsVariables (sym h.0) i.over) k
told tell f g made.Depth d i h k = tt
told tell f g made.Nodes d i h k = tt

-- Each decision of a goal for which `Is` holds has its meaning.
abbrev Tell : {I : Type 0} → (I → NamedGoal → Type 0) → Type 0
Tell {I} Is = (i : I) (g : NamedGoal) (d : Decision) → Is i g → IsDecisionOf g.made d → TellsOf g.made d

row_tells : {I : Type 0} (Is : I → NamedGoal → Type 0) (is : List I) (ds : List DecidedGoal) → Tell Is → AreFound Is Decides is ds → AreFound Is (Finds Decide) is ds
row_tells Is [] [] f h = tt
row_tells Is [] (d ∷ ds) f h = absurd h
row_tells Is (i ∷ is) [] f h = absurd h
row_tells Is (i ∷ is) (d ∷ ds) f h = (record { goal = h.0.goal; found = (h.0.found, f i d.goal d.found h.0.goal h.0.found) }, row_tells Is is ds f h.1)

table_tells : {I : Type 0} (Is : ℕ → I → NamedGoal → Type 0) (ids : TypedProcedure → List I) (n k : ℕ) (qs : List TypedProcedure) (table : List (List DecidedGoal)) → k + length qs ≡ n → ((j : ℕ) → j < n → Tell (Is j))
    → AllNumbered (λ j q ds. AreFound (Is j) Decides (ids q) ds) k qs table → AllNumbered (λ j q ds. AreFound (Is j) (Finds Decide) (ids q) ds) k qs table
table_tells Is ids n k [] [] e f h = tt
table_tells Is ids n k [] (r ∷ table) e f h = absurd h
table_tells Is ids n k (q ∷ qs) [] e f h = absurd h
table_tells Is ids n k (q ∷ qs) (r ∷ table) e f h = (row_tells (Is k) (ids q) r (f k (omega (arith, e))) h.0, table_tells Is ids n (suc k) qs table (omega (arith, e)) f h.1)

-- ---- The promises

pub record Laws : Type 0 where
  pub tell : DecisionsTell
  pub certified : CertifiedGoalsHold
  pub say : MadeGoalsSayBounds
  pub shown : ShownBoundsHold
  pub broken : BrokenGoalsBreakBounds
  pub encoded : EncodingIsOver
  pub means : GeneratedFormMeansActs
  pub formula : GeneratedFormIsFormula
  pub over : GeneratedFormIsOver
  pub goals : PrenexedGoalsAreGoals
  pub failing : PrenexedGoalsFailByChoices
  pub rankings : RankingGoalsAreGoals
  pub hold : RankingGoalsHold
  pub unrank : RankingGoalsFail
  pub bound : RankingsBoundTurns

module _ (laws : Laws) (ps : List TypedProcedure) (rules : Each (MeetsRules ps) ps) where
  bound_tells : (p : ℕ) → p < length ps → Tell (IsGoalOf ps p)
  bound_tells p there b g d is k =
      let q = question ps (procedure_at ps p) b in
      told laws.tell q.found (goal q) g.made d (goal_is laws.goals q (proper laws.formula laws.over laws.encoded ps rules p there b)) is.made k

  ranking_tells : (p : ℕ) → p < length ps → Tell (IsRankingGoal ps p)
  ranking_tells p there n g d is k =
      let l = is.ranked in
      let q = procedure_at ps p in
      told laws.tell (ranking.generated l.body l.rank) (ranking.goal q l.head l.body l.rank) g.made d (laws.rankings ps q n l (each_at (MeetsRules ps) ps p rules there)) is.made k

  outcomes_are : (way : Way) (table ranks : List (List (GoalWith (Finding way)))) → AllNumbered (λ k q gs. AreFound (IsGoalOf ps k) (Finds way) (bound_goals q) gs) 0 ps table → AllNumbered (λ k q gs. AreFound (IsRankingGoal ps k) (Finds way) (ranked_loops q) gs) 0 ps ranks
      → AreOutcomes ps (all_outcomes (outcome_by way) table) (all_outcomes (outcome_by way) ranks)
  outcomes_are way table ranks b r = are_outcomes laws.certified laws.goals laws.formula laws.over laws.encoded laws.rankings ps rules way table ranks b r

  pub decided_outcomes : (answers : List Answer) (made : List NamedGoal) (certs : List GoalCert) (h : AreAnswered ps answers made certs) → AreOutcomes ps (all_outcomes (outcome_by Decide) h.table) (all_outcomes (outcome_by Decide) h.ranks)
  decided_outcomes answers made certs h =
      let bounds = table_tells (IsGoalOf ps) bound_goals (length ps) 0 ps h.table (omega arith) bound_tells h.decided in
      let ranks = table_tells (IsRankingGoal ps) ranked_loops (length ps) 0 ps h.ranks (omega arith) ranking_tells h.ranks_decided in
      outcomes_are Decide h.table h.ranks bounds ranks

  pub checked_outcomes : (given : Bor (List GoalCert)) (answers : List Answer) (h : IsCheckedFile ps given.now answers) → AreOutcomes ps (all_outcomes (outcome_by (Check given)) h.table) (all_outcomes (outcome_by (Check given)) h.ranks)
  checked_outcomes given answers h = outcomes_are (Check given) h.table h.ranks h.checked h.ranks_checked

  pub answers_promise : (answers : List Answer) (made : List NamedGoal) (certs : List GoalCert) → AreAnswered ps answers made certs → IsHeadline ps answers
  answers_promise answers made certs h = headline laws.say laws.shown laws.broken laws.encoded laws.means laws.formula laws.over laws.failing ps rules (all_outcomes (outcome_by Decide) h.table) (all_outcomes (outcome_by Decide) h.ranks) (decided_outcomes answers made certs h) laws.bound laws.hold laws.unrank answers h.answers_of

  pub checked_promise : (given : Bor (List GoalCert)) (answers : List Answer) → IsCheckedFile ps given.now answers → IsHeadline ps answers
  checked_promise given answers h = headline laws.say laws.shown laws.broken laws.encoded laws.means laws.formula laws.over laws.failing ps rules (all_outcomes (outcome_by (Check given)) h.table) (all_outcomes (outcome_by (Check given)) h.ranks) (checked_outcomes given answers h) laws.bound laws.hold laws.unrank answers h.answers_of
