-- A ranking whose goal holds bounds the iterations of its loop.
use Rattle.std.proofs.Common.{◌≡◌, ℕ, ◌<◌, refl, sym, ◌∙◌, subst, arith, List, [], ◌∷◌, length, map, slice_index_or}
use Rattle.std.specs.List.{AllZip, Contains}
use Rattle.std.specs.Prelude.{Vec}
use Rattle.std.specs.declared.alloc.Global.{Global}
use Prim.Native.Nat.{zero, suc}
use Rattle.heylo_formula.specs.Goals.{Holds}
use Rattle.heylo_formula.specs.declared.values.Val.{Val}
use Rattle.heyvl_acts.specs.Acts.{TypedProcedure, procedure_at}
use Rattle.heyvl_acts.specs.Rules.{Each, MeetsRules}
use Rattle.loop_encodings.proofs.exported.FromRules.{each_at}
use Rattle.ranking_rule.specs.Laws.{RankingGoalsFail, RankingGoalsHold, RankingsBoundTurns}
use Rattle.ranking_rule.specs.RankingGoals.{goal}
use Rattle.ranking_rule.specs.Rankings.{RankedLoop}
use Rattle.region_split.specs.Meanings.{Fails}
use Rattle.verdict_report.specs.declared.answers.LoopAnswer.{LoopAnswer}
use Rattle.verdict_report.specs.declared.answers.RankVerdict.TheVariants.{NotRanked, Ranked}
use Rattle.verify_core.specs.Headline.{IsRankedLoop, IsUnrankedAsShown, IsUnrankedIn}
use Rattle.verify_core.specs.Outcomes.{loop_answer, rank_of}
use Rattle.verify_core.specs.declared.outcomes.GoalOutcome.{GoalOutcome}
use Rattle.verify_core.specs.declared.outcomes.Outcome.{Outcome}
use Rattle.verify_core.specs.declared.outcomes.Outcome.TheVariants.{Proved, Falsified, Unknown, Missed}
use Rattle.verify_core.proofs.MadeGoals.{Means}
use Rattle.verify_core.proofs.OutcomesMean.{IsRankingOutcome}

-- ---- From the goal

pub turns_bounded : RankingsBoundTurns → RankingGoalsHold → (ps : List TypedProcedure) (p n : ℕ) (l : RankedLoop (procedure_at ps p) n) → Each (MeetsRules ps) ps → p < length ps → Holds (goal (procedure_at ps p) l.head l.body l.rank) → IsRankedLoop ps p n
turns_bounded bound hold ps p n l rules there h =
    let meets = each_at (MeetsRules ps) ps p rules there in
    let is = (hold ps (procedure_at ps p) n l meets).1 h in
    record { loop = l; ranking = is; turns = bound ps p n l meets is }

-- ---- From the outcome of the goal

pub record IsOutcomeAt (ps : List TypedProcedure) (p : ℕ) (a : LoopAnswer) : Type 0 where
  pub goal : GoalOutcome
  pub is_of : IsRankingOutcome ps p a.number goal
  pub rank : a.rank ≡ rank_of goal.outcome

at_place : (ps : List TypedProcedure) (p : ℕ) (ns : List ℕ) (os : List GoalOutcome) (k : ℕ) (a : LoopAnswer) → AllZip (IsRankingOutcome ps p) ns os → k < length (map loop_answer os) → slice_index_or (map loop_answer os) k a ≡ a → IsOutcomeAt ps p a
at_place ps p ns [] k a h l e = absurd (omega (arith, l))
at_place ps p [] (o ∷ os) k a h l e = absurd h
at_place ps p (n ∷ ns) (o ∷ os) zero a h l e = subst (IsOutcomeAt ps p) e (record { goal = o; is_of = subst (λ m. IsRankingOutcome ps p m o) (sym h.0.number) h.0; rank = refl })
at_place ps p (n ∷ ns) (o ∷ os) (suc k) a h l e = at_place ps p ns os k a h.1 (omega (arith, l)) e

outcome_at : (ps : List TypedProcedure) (p : ℕ) (ns : List ℕ) (os : List GoalOutcome) (ls : List LoopAnswer) (a : LoopAnswer) → AllZip (IsRankingOutcome ps p) ns os → ls ≡ map loop_answer os → Contains ls a → IsOutcomeAt ps p a
outcome_at ps p ns os ls a h e c = let there = subst (λ l. Contains l a) e c in at_place ps p ns os there.0 a h there.1 there.2

ranked_by : (o : Outcome) → rank_of o ≡ Ranked → o ≡ Proved
ranked_by Proved e = refl
ranked_by (Falsified s) e = cc
ranked_by (Unknown c) e = cc
ranked_by (Missed m) e = cc

pub ranked_loop : RankingsBoundTurns → RankingGoalsHold → (ps : List TypedProcedure) (p n : ℕ) (ns : List ℕ) (os : List GoalOutcome) (ls : List LoopAnswer) (a : LoopAnswer) → Each (MeetsRules ps) ps → p < length ps → AllZip (IsRankingOutcome ps p) ns os → ls ≡ map loop_answer os → Contains ls a → a.number ≡ n → a.rank ≡ Ranked → IsRankedLoop ps p n
ranked_loop bound hold ps p n ns os ls a rules there h r c e v =
    let x = outcome_at ps p ns os ls a h r c in
    let l = x.is_of.loop in
    let holds = subst (Means (goal (procedure_at ps p) l.head l.body l.rank)) (ranked_by x.goal.outcome (sym x.rank ∙ v)) x.is_of.means in
    subst (IsRankedLoop ps p) e (turns_bounded bound hold ps p a.number l rules there holds)

falsified_by : (o : Outcome) (s : Vec Val Global) → rank_of o ≡ NotRanked s → o ≡ Falsified s
falsified_by Proved s e = cc
falsified_by (Falsified t) s e = cc
falsified_by (Unknown c) s e = cc
falsified_by (Missed m) s e = cc

pub unranked_as_shown : (ps : List TypedProcedure) (p n : ℕ) (ns : List ℕ) (os : List GoalOutcome) (ls : List LoopAnswer) (a : LoopAnswer) (s : Vec Val Global) → AllZip (IsRankingOutcome ps p) ns os → ls ≡ map loop_answer os → Contains ls a → a.number ≡ n → a.rank ≡ NotRanked s → IsUnrankedAsShown ps p n s.items
unranked_as_shown ps p n ns os ls a s h r c e v =
    let x = outcome_at ps p ns os ls a h r c in
    let l = x.is_of.loop in
    let f : Fails (goal (procedure_at ps p) l.head l.body l.rank) s.items = subst (Means (goal (procedure_at ps p) l.head l.body l.rank)) (falsified_by x.goal.outcome s (sym x.rank ∙ v)) x.is_of.means in
    subst (λ m. IsUnrankedAsShown ps p m s.items) e (record { loop = l; fails = f })

pub unranked_loop : RankingGoalsFail → (ps : List TypedProcedure) (p n : ℕ) (s : List Val) → Each (MeetsRules ps) ps → p < length ps → IsUnrankedAsShown ps p n s → IsUnrankedIn ps p n s
unranked_loop fail ps p n s rules there u = let l = u.loop in record { loop = l; fails = fail ps (procedure_at ps p) n l (each_at (MeetsRules ps) ps p rules there) s u.fails.typed u.fails.fails }
