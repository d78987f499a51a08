-- The promises of answers, about goals and about runs, follow from the outcomes of the goals.
use Rattle.std.proofs.Common.{◌≡◌, ◌<◌, ℕ, sym, ap, ◌∙◌, subst, append-nil, arith, true, List, [], ◌∷◌, ◌++◌, length, take}
use Rattle.std.proofs.lemmas.Bool.{false≢true}
use Rattle.std.specs.List.{AllZip}
use Rattle.std.specs.Prelude.{Vec}
use Rattle.std.specs.declared.alloc.Global.{Global}
use Prim.Native.Nat.{zero, suc}
use Rattle.heylo_formula.specs.Choices.{Choices}
use Rattle.heylo_formula.specs.Goals.{Compares, Goal, Holds}
use Rattle.heylo_formula.specs.Meaning.{value}
use Rattle.heylo_formula.specs.State.{environment}
use Rattle.heylo_formula.specs.declared.goals.GoalId.{GoalId}
use Rattle.heylo_formula.specs.declared.goals.GoalId.TheVariants.{Main}
use Rattle.heylo_formula.specs.declared.values.Val.{Val}
use Rattle.heyvl_acts.specs.Acts.{TypedProcedure, Variable, acts_in, procedure_at, variables}
use Rattle.heyvl_acts.specs.Forward.{forward}
use Rattle.heyvl_acts.specs.Places.{in_order}
use Rattle.heyvl_acts.specs.Program.{IsProgram}
use Rattle.heyvl_acts.specs.Rules.{Each, MeetsRules}
use Rattle.heyvl_acts.specs.Straight.{IsStraight}
use Rattle.loop_encodings.specs.BoundGoals.{BoundGoal, BoundGoalsHold, GoalFails, GoalHolds, bound_goals, goal_variables}
use Rattle.loop_encodings.proofs.exported.BoundNames.{same_goal}
use Rattle.loop_encodings.specs.Encoding.{all_variables}
use Rattle.loop_encodings.specs.EncodingLaws.{EncodingIsOver}
use Rattle.bounded_runs.specs.Law.{BrokenGoalsBreakBounds, IsShown, ShownBoundsHold}
use Rattle.ranking_rule.specs.Laws.{RankingGoalsFail, RankingGoalsHold, RankingsBoundTurns}
use Rattle.verdict_report.specs.VerdictsOn.{IsVerdictOn}
use Rattle.verdict_report.specs.declared.answers.Answer.{Answer}
use Rattle.verdict_report.specs.declared.answers.Verdict.{Verdict}
use Rattle.verdict_report.specs.declared.answers.Verdict.TheVariants.{Verified, Valid, NotVerified, Unknown, Unchecked, Conditional, NoBody}
use Rattle.verify_core.specs.GoalLaws.{MadeGoalsSayBounds}
use Rattle.verify_core.specs.Headline.{IsBrokenFrom, IsFalseAsShown, IsFalsifiedIn, IsHeadline, says_proved}
use Rattle.verify_core.specs.NumberedLists.{row_at}
use Rattle.verify_core.specs.Outcomes.{IsTold, all_proved, is_proved}
use Rattle.verify_core.specs.Questions.{goal, question}
use Rattle.verify_core.specs.Rankings.{ranked_loops}
use Rattle.verify_core.specs.Verdicts.{AreAnswers, IsAnswer, IsClosed, IsVerdict}
use Rattle.verify_core.specs.declared.outcomes.GoalOutcome.{GoalOutcome}
use Rattle.verify_core.specs.declared.outcomes.Outcome.{Outcome}
use Rattle.verify_core.specs.declared.outcomes.Outcome.TheVariants as outcome
use Rattle.verify_core.proofs.FalsifiedGoals.{falsified_in}
use Rattle.verify_core.proofs.GoalOutcomes.{IsProvedOne, each_proved}
use Rattle.verify_core.proofs.MadeGoals.{Means}
use Rattle.verify_core.proofs.OutcomesMean.{AreOutcomes, IsBoundOutcome, told_means}
use Rattle.verify_core.proofs.OwnEncoding.{itself, none_fresh}
use Rattle.verify_core.proofs.RankedLoops.{ranked_loop, unranked_as_shown, unranked_loop}
use Rattle.verify_core.proofs.SideBySide.{IsPlaced, placed}
use Rattle.vp_generator.specs.Laws.{GeneratedFormIsFormula, GeneratedFormMeansActs}
use Rattle.vp_generator.specs.Over.{GeneratedFormIsOver}
use Rattle.vp_generator.specs.PrenexedGoals.{PrenexedGoalsFailByChoices}

-- ---- Proved goals hold

pub proved_holds : (g : Goal) (o : Outcome) → Means g o → is_proved o ≡ true → Holds g
proved_holds g outcome.Proved m e = m
proved_holds g (outcome.Falsified s) m e = absurd (false≢true e)
proved_holds g (outcome.Unknown c) m e = absurd (false≢true e)
proved_holds g (outcome.Missed k) m e = absurd (false≢true e)

row_holds : (ps : List TypedProcedure) (p : ℕ) (goals : List BoundGoal) (os : List GoalOutcome) → AllZip (IsBoundOutcome ps p) goals os → Each IsProvedOne os → Each (λ b. Holds (goal (question ps (procedure_at ps p) b))) goals
row_holds ps p [] os h e = tt
row_holds ps p (b ∷ goals) [] h e = absurd h
row_holds ps p (b ∷ goals) (o ∷ os) h e = (proved_holds (goal (question ps (procedure_at ps p) b)) o.outcome h.0.means e.0, row_holds ps p goals os h.1 e.1)

each_there : {A : Type 0} (P Q : A → Type 0) (xs : List A) → ((x : A) → P x → Q x) → Each P xs → Each Q xs
each_there P Q [] f h = tt
each_there P Q (x ∷ xs) f h = (f x h.0, each_there P Q xs f h.1)

-- ---- The answers

pub program_there : (ps : List TypedProcedure) (q : ℕ) → IsProgram (procedure_at ps q) → q < length ps
program_there [] q h = absurd (cc)
program_there (p ∷ ps) zero h = omega arith
program_there (p ∷ ps) (suc q) h = let k = program_there ps q h in omega (arith, k)

answered : (ps : List TypedProcedure) (table ranks : List (List GoalOutcome)) (all before behind : List Answer) (a : Answer) (p : ℕ) → AreAnswers ps table ranks 0 ps all → all ≡ before ++ (a ∷ behind) → length before ≡ p → IsPlaced (IsAnswer ps table ranks) (length ps) p p a
answered ps table ranks all before behind a p h e place = placed (IsAnswer ps table ranks) ps all before behind a p h e place

record Said (ps : List TypedProcedure) (table : List (List GoalOutcome)) (p : ℕ) (v : Verdict) : Type 0 where
  pub verdict : IsVerdict ps table p v
  pub there : p < length ps

said : (ps : List TypedProcedure) (table ranks : List (List GoalOutcome)) (answers : List Answer) (p : ℕ) (v : Verdict) → AreAnswers ps table ranks 0 ps answers → IsVerdictOn answers p v → Said ps table p v
said ps table ranks answers p v h on =
    let r = answered ps table ranks answers on.before on.behind on.answer p h on.all on.place in
    record { verdict = subst (IsVerdict ps table p) on.verdict r.is.verdict; there = r.there }

module _ (same : MadeGoalsSayBounds) (shown_bounds : ShownBoundsHold) (broken_goals : BrokenGoalsBreakBounds) (over : EncodingIsOver) (means : GeneratedFormMeansActs) (formula : GeneratedFormIsFormula) (generated_over : GeneratedFormIsOver) (failing : PrenexedGoalsFailByChoices) (ps : List TypedProcedure) (rules : Each (MeetsRules ps) ps) (table ranks : List (List GoalOutcome)) (are : AreOutcomes ps table ranks) where
  held : (p : ℕ) → p < length ps → all_proved (row_at table p) ≡ true → BoundGoalsHold ps (procedure_at ps p)
  held p l e = each_there (λ b. Holds (goal (question ps (procedure_at ps p) b))) (GoalHolds ps (procedure_at ps p)) (bound_goals (procedure_at ps p)) (λ b. (same ps p b rules l).0) (row_holds ps p (bound_goals (procedure_at ps p)) (row_at table p) (are.bounds p l) (each_proved (row_at table p) e))

  shown : (q : ℕ) → IsClosed ps table q → IsShown ps q
  shown q h = record { program = h.program; goals = held q (program_there ps q h.program) h.proved }

  false_as_shown : (p : ℕ) (id : GoalId) (s : Vec Val Global) → p < length ps → IsTold (row_at table p) id (outcome.Falsified s) → IsFalseAsShown ps p id s.items
  false_as_shown p id s l t =
      let k = told_means ps p (bound_goals (procedure_at ps p)) (row_at table p) id (outcome.Falsified s) (are.bounds p l) t in
      record { goal = k.asked; id_of = k.named; fails = k.means }

  shown_falsified : (p : ℕ) (id : GoalId) (s : Vec Val Global) → p < length ps → IsTold (row_at table p) id (outcome.Falsified s) → IsFalsifiedIn ps p id s.items
  shown_falsified p id s l t =
      let k = false_as_shown p id s l t in
      subst (λ i. IsFalsifiedIn ps p i s.items) k.id_of (falsified_in means formula generated_over over failing ps rules p l k.goal s.items k.fails)

  broken : (p : ℕ) (s : Vec Val Global) → p < length ps → IsTold (row_at table p) Main (outcome.Falsified s) → IsProgram (procedure_at ps p) → Each IsStraight (in_order (acts_in (procedure_at ps p).body)) → IsBrokenFrom ps p (take (length (variables (procedure_at ps p))) s.items)
  broken p s l e program straight =
      let q = procedure_at ps p in
      let acts = acts_in q.body in
      let v : all_variables ps q ≡ variables q = ap (λ r. variables q ++ r) (none_fresh ps acts straight) ∙ append-nil (variables q) in
      let r = take (length (variables q)) s.items in
      let k = shown_falsified p Main s l e in
      let main = subst (λ (b : BoundGoal). GoalFails ps q b (take (length (goal_variables ps q b)) s.items)) (same_goal k.goal BoundGoal.main k.id_of) k.fails in
      let f : GoalFails ps q BoundGoal.main r = subst (λ (vs : List Variable). GoalFails ps q BoundGoal.main (take (length vs) s.items)) v main in
      record {
        state = k.state;
        broken = λ n m. broken_goals ps p r f.choices rules l program straight k.state (λ h. f.fails (subst (λ a. Compares q.co (value q.pre (environment r) Choices.stop) (forward a (value q.post) (environment r) f.choices)) (sym (itself ps q (length (variables q)) acts straight)) h)) n m;
      }

  proved_held : (p : ℕ) (v : Verdict) → Said ps table p v → says_proved v ≡ true → BoundGoalsHold ps (procedure_at ps p)
  proved_held p Verified k e = held p k.there k.verdict.0.proved
  proved_held p (Valid why) k e = held p k.there k.verdict.0
  proved_held p (Conditional q) k e = held p k.there k.verdict.0.proved
  proved_held p (NotVerified id s) k e = absurd (false≢true e)
  proved_held p (Unknown id cause) k e = absurd (false≢true e)
  proved_held p (Unchecked id miss) k e = absurd (false≢true e)
  proved_held p NoBody k e = absurd (false≢true e)

  pub headline : RankingsBoundTurns → RankingGoalsHold → RankingGoalsFail → (answers : List Answer) → AreAnswers ps table ranks 0 ps answers → IsHeadline ps answers
  headline bound hold unrank answers h = record {
    verified = λ p on. let k = said ps table ranks answers p Verified h on in shown_bounds ps p rules k.there (record { itself = shown p k.verdict.0; reached = λ q m. shown q (k.verdict.1 q m) });
    ranked = λ p n on.
        let r = answered ps table ranks answers on.before on.behind on.answer p h on.all on.place in
        ranked_loop bound hold ps p n (ranked_loops (procedure_at ps p)) (row_at ranks p) on.answer.loops.items on.line rules r.there (are.rankings p r.there) r.is.loops on.listed on.number on.verdict;
    falsified = λ p s on program straight. let k = said ps table ranks answers p (NotVerified Main s) h on in broken p s k.there k.verdict program straight;
    proved = λ p v on e. proved_held p v (said ps table ranks answers p v h on) e;
    shown = λ p id s on. let k = said ps table ranks answers p (NotVerified id s) h on in shown_falsified p id s k.there k.verdict;
    unranked = λ p n s on.
        let r = answered ps table ranks answers on.before on.behind on.answer p h on.all on.place in
        unranked_loop unrank ps p n s.items rules r.there (unranked_as_shown ps p n (ranked_loops (procedure_at ps p)) (row_at ranks p) on.answer.loops.items on.line s (are.rankings p r.there) r.is.loops on.listed on.number on.verdict);
    as_shown = λ p id s on. let k = said ps table ranks answers p (NotVerified id s) h on in false_as_shown p id s k.there k.verdict;
    unranked_as_shown = λ p n s on.
        let r = answered ps table ranks answers on.before on.behind on.answer p h on.all on.place in
        unranked_as_shown ps p n (ranked_loops (procedure_at ps p)) (row_at ranks p) on.answer.loops.items on.line s (are.rankings p r.there) r.is.loops on.listed on.number on.verdict;
  }
