-- If no cause applies to a goal, its answers are complete.
use Rattle.std.proofs.Common.{◌≡◌, ◌↔◌, ◌<◌, ℕ, refl, sym, ap, ◌∙◌, subst, arith, true, List, [], ◌∷◌, ◌++◌, length, map, slice_index_or, take}
use Rattle.std.proofs.lemmas.Bool.{false≢true}
use Rattle.std.specs.List.{AllZip, Contains}
use Rattle.std.specs.Prelude.{Some, None, Vec}
use Rattle.std.specs.declared.alloc.Global.{Global}
use Prim.Native.Nat.{zero, suc}
use Rattle.goal_answers.specs.declared.causes.Cause.{Cause}
use Rattle.goal_answers.specs.declared.decisions.Decision.{Decision}
use Rattle.goal_answers.specs.declared.decisions.Decision.TheVariants.{Proved, Falsified, Unknown}
use Rattle.goal_answers.specs.declared.misses.Miss.{Miss}
use Rattle.goal_answers.specs.declared.named_goals.NamedGoal.{NamedGoal}
use Rattle.goal_answers.specs.declared.trees.GoalCert.{GoalCert}
use Rattle.heyvl_num.specs.Rational.{Rational}
use Rattle.heylo_formula.specs.Formula.{Form}
use Rattle.heylo_formula.specs.GoalOrder.{loop_of}
use Rattle.heylo_formula.specs.declared.goals.GoalId.{GoalId}
use Rattle.heylo_formula.specs.declared.goals.Made.{Made}
use Rattle.heylo_formula.specs.declared.goals.Made.TheVariants as made
use Rattle.heylo_formula.specs.declared.values.Val.{Val}
use Rattle.heyvl_acts.specs.Acts.{Acts, Head, TypedProcedure, procedure_at, variables}
use Rattle.heyvl_acts.specs.Rules.{Each}
use Rattle.loop_encodings.specs.BoundGoals.{BoundGoal, BoundGoalsHold, GoalFails, GoalHolds, bound_goals, goal_id, goal_variables}
use Rattle.loop_encodings.proofs.exported.BoundNames.{same_goal}
use Rattle.ranking_rule.specs.RankingGoals as ranking
use Rattle.ranking_rule.specs.Rankings.{IsNoRanking, IsRanking, RankedLoop}
use Rattle.region_split.specs.DecisionLaws.{DecisionsTell}
use Rattle.verdict_report.specs.VerdictsOn.{IsVerdictOn, IsVerdictOnLoop}
use Rattle.verdict_report.specs.declared.answers.Answer.{Answer}
use Rattle.verdict_report.specs.declared.answers.LoopAnswer.{LoopAnswer}
use Rattle.verdict_report.specs.declared.answers.RankVerdict.{RankVerdict}
use Rattle.verdict_report.specs.declared.answers.RankVerdict.TheVariants as rank
use Rattle.verdict_report.specs.declared.answers.Verdict.{Verdict}
use Rattle.verdict_report.specs.declared.answers.Verdict.TheVariants as verdict
use Rattle.verify_core.specs.AnsweredProcedures.{AreAnswered}
use Rattle.verify_core.specs.CertifiedGoals as certified
use Rattle.verify_core.specs.GoalDecisions.{DecidedGoal, Decides, IsDecisionOf, outcome_of}
use Rattle.verify_core.specs.Headline.{IsHeadline, says_proved}
use Rattle.verify_core.specs.NumberedLists.{row_at}
use Rattle.verify_core.specs.Outcomes.{IsTold, all_outcomes, loop_answer, outcomes, rank_of}
use Rattle.verify_core.specs.Questions.{IsGoalOf}
use Rattle.verify_core.specs.Rankings.{IsRankingGoal, ranked_loops}
use Rattle.verify_core.specs.SingleGoals.{GoalsAreMeantAlone, IsMeantAlone}
use Rattle.verify_core.specs.Tables.{AreFound}
use Rattle.verify_core.specs.Verdicts.{IsAnswer, IsVerdict}
use Rattle.answer_laws.specs.CompleteAnswers.{DecisionsAreComplete, GoalsAreComplete, IsBoundWithinReach, IsCompleteAlone, IsGoalWithinReach, IsRankingWithinReach, IsWithinReach, RankVerdictsAreComplete, VerdictsAreComplete}
use Rattle.answer_laws.specs.Named.{GoalOutcome, Outcome}
use Rattle.answer_laws.proofs.Rows.{IsPlaced, placed, row_of, row_outcomes}
use Rattle.answer_laws.proofs.Told.{told_is}

-- ---- One goal

pub decisions_complete : DecisionsTell → DecisionsAreComplete
decisions_complete tell g (Proved t) typed over none d = (λ e. tell g (Proved t) typed over d, λ h. refl)
decisions_complete tell g (Falsified s) typed over none d = (λ e. absurd (false≢true e), λ h. let f = tell g (Falsified s) typed over d in absurd (f.fails (h s.items f.typed)))
decisions_complete tell g (Unknown c) typed over none d = (λ e. absurd (false≢true e), λ h. absurd (none c d))

known : (m : Made) (d : Decision) (c : Cause) → IsDecisionOf m d → IsWithinReach m → outcome_of d ≡ outcome_of (Unknown c) → ⊥
known (made.Goal g) (Proved t) c h r e = cc
known (made.Goal g) (Falsified s) c h r e = cc
known (made.Goal g) (Unknown b) c h r e = r b h
known made.Depth d c h r e = r
known made.Nodes d c h r e = r

pub unmissed : (d : Decision) (m : Miss) → outcome_of d ≡ certified.outcome_of (Some m) → ⊥
unmissed (Proved t) m e = cc
unmissed (Falsified s) m e = cc
unmissed (Unknown c) m e = cc

rank_known : (m : Made) (d : Decision) (c : Cause) → IsDecisionOf m d → IsWithinReach m → rank_of (outcome_of d) ≡ rank.Unknown c → ⊥
rank_known (made.Goal g) (Proved t) c h r e = cc
rank_known (made.Goal g) (Falsified s) c h r e = cc
rank_known (made.Goal g) (Unknown b) c h r e = r b h
rank_known made.Depth d c h r e = r
rank_known made.Nodes d c h r e = r

rank_unmissed : (d : Decision) (m : Miss) → rank_of (outcome_of d) ≡ rank.Unchecked m → ⊥
rank_unmissed (Proved t) m e = cc
rank_unmissed (Falsified s) m e = cc
rank_unmissed (Unknown c) m e = cc

-- ---- Each goal of a bound alone

complete_one : (ps : List TypedProcedure) (p : ℕ) (asked : BoundGoal) (g : NamedGoal) (d : Decision) → IsGoalOf ps p asked g → IsDecisionOf g.made d → IsMeantAlone ps p asked (record { goal = g; outcome = outcome_of d }) → IsCompleteAlone ps p asked (record { goal = g; outcome = outcome_of d })
complete_one ps p asked g (Proved t) is k m r = (m.proved, λ h. refl)
complete_one ps p asked g (Falsified s) is k m r = (m.proved, λ h. let f = m.falsified s refl in absurd (f.fails (h (take (length (goal_variables ps (procedure_at ps p) asked)) s.items) f.choices f.state)))
complete_one ps p asked g (Unknown c) is k m r = (m.proved, λ h. absurd (known g.made (Unknown c) c k (r g.made is.made) refl))

complete_row : (ps : List TypedProcedure) (p : ℕ) (ids : List BoundGoal) (gs : List DecidedGoal) → AreFound (IsGoalOf ps p) Decides ids gs → AllZip (IsMeantAlone ps p) ids (outcomes outcome_of gs) → AllZip (IsCompleteAlone ps p) ids (outcomes outcome_of gs)
complete_row ps p [] [] h m = tt
complete_row ps p [] (g ∷ gs) h m = absurd h
complete_row ps p (i ∷ ids) [] h m = absurd h
complete_row ps p (i ∷ ids) (g ∷ gs) h m = (complete_one ps p i g.goal g.found h.0.goal h.0.found m.0, complete_row ps p ids gs h.1 m.1)

pub goals_complete : GoalsAreMeantAlone → GoalsAreComplete
goals_complete law ps answers told certs rules are p there =
    let ids = bound_goals (procedure_at ps p) in
    let row : AreFound (IsGoalOf ps p) Decides ids (row_at are.table p) = row_of (λ k q gs. AreFound (IsGoalOf ps k) Decides (bound_goals q) gs) ps are.table p there are.decided in
    let same = row_outcomes outcome_of are.table p in
    let meant = subst (λ os. AllZip (IsMeantAlone ps p) ids os) same (law ps answers told certs rules are p there) in
    subst (λ os. AllZip (IsCompleteAlone ps p) ids os) (sym same) (complete_row ps p ids (row_at are.table p) row meant)

-- ---- The goals of a bound

-- The goal is one of the bound, which holds, and its outcome is known.
record IsKnown (ps : List TypedProcedure) (p : ℕ) (o : GoalOutcome) : Type 0 where
  asked : BoundGoal
  named : o.goal.id ≡ goal_id asked
  holds : GoalHolds ps (procedure_at ps p) asked
  known : (c : Cause) → o.outcome ≡ outcome_of (Unknown c) → ⊥
  unmissed : (m : Miss) → o.outcome ≡ certified.outcome_of (Some m) → ⊥

known_row : (ps : List TypedProcedure) (p : ℕ) (ids : List BoundGoal) (gs : List DecidedGoal) → AreFound (IsGoalOf ps p) Decides ids gs → Each (IsGoalWithinReach ps p) ids → Each (GoalHolds ps (procedure_at ps p)) ids → Each (IsKnown ps p) (outcomes outcome_of gs)
known_row ps p [] [] h r e = tt
known_row ps p [] (g ∷ gs) h r e = absurd h
known_row ps p (i ∷ ids) [] h r e = absurd h
known_row ps p (i ∷ ids) (g ∷ gs) h r e = (
  record {
    asked = i;
    named = h.0.goal.id_of;
    holds = e.0;
    known = λ c. known g.goal.made g.found c h.0.found (r.0 g.goal.made h.0.goal.made);
    unmissed = λ m. unmissed g.found m;
  },
  known_row ps p ids gs h.1 r.1 e.1,
)

module _ (ps : List TypedProcedure) (answers : List Answer) (all : List NamedGoal) (certs : List GoalCert) (are : AreAnswered ps answers all certs) (says : IsHeadline ps answers) (p : ℕ) where
  answered : (before behind : List Answer) (a : Answer) → answers ≡ before ++ (a ∷ behind) → length before ≡ p → IsPlaced (IsAnswer ps (all_outcomes outcome_of are.table) (all_outcomes outcome_of are.ranks)) (length ps) p p a
  answered before behind a e place = placed (IsAnswer ps (all_outcomes outcome_of are.table) (all_outcomes outcome_of are.ranks)) ps answers before behind a p are.answers_of e place

  known_at : p < length ps → IsBoundWithinReach ps p → BoundGoalsHold ps (procedure_at ps p) → Each (IsKnown ps p) (row_at (all_outcomes outcome_of are.table) p)
  known_at there r h = subst (Each (IsKnown ps p)) (sym (row_outcomes outcome_of are.table p)) (known_row ps p (bound_goals (procedure_at ps p)) (row_at are.table p) (row_of (λ k q gs. AreFound (IsGoalOf ps k) Decides (bound_goals q) gs) ps are.table p there are.decided) r h)

  told_known : (id : GoalId) (o : Outcome) → Each (IsKnown ps p) (row_at (all_outcomes outcome_of are.table) p) → (t : IsTold (row_at (all_outcomes outcome_of are.table) p) id o) → IsKnown ps p (record { goal = t.goal; outcome = o })
  told_known id o h t = (told_is (IsKnown ps p) (row_at (all_outcomes outcome_of are.table) p) (record { goal = t.goal; outcome = o }) h t.told_of).0

  shown_or_holds : (id : GoalId) (s : Vec Val Global) (g : BoundGoal) → IsVerdictOn answers p (verdict.NotVerified id s) → goal_id g ≡ id → GoalHolds ps (procedure_at ps p) g → ⊥
  shown_or_holds id s g on e h =
      let k = says.shown p id s on in
      let f = subst (λ (b : BoundGoal). GoalFails ps (procedure_at ps p) b (take (length (goal_variables ps (procedure_at ps p) b)) s.items)) (same_goal k.goal g (k.id_of ∙ sym e)) k.fails in
      f.fails (h (take (length (goal_variables ps (procedure_at ps p) g)) s.items) f.choices f.state)

  must_prove : (v : Verdict) → ((procedure_at ps p).body ≡ None → ⊥) → Each (IsKnown ps p) (row_at (all_outcomes outcome_of are.table) p) → IsVerdictOn answers p v → IsVerdict ps (all_outcomes outcome_of are.table) p v → says_proved v ≡ true
  must_prove verdict.Verified b h on k = refl
  must_prove (verdict.Valid why) b h on k = refl
  must_prove (verdict.Conditional q) b h on k = refl
  must_prove verdict.NoBody b h on k = absurd (b k)
  must_prove (verdict.NotVerified id s) b h on k = let t = told_known id (outcome_of (Falsified s)) h k in absurd (shown_or_holds id s t.asked on (sym t.named ∙ k.id_of) t.holds)
  must_prove (verdict.Unknown id c) b h on k = absurd ((told_known id (outcome_of (Unknown c)) h k).known c refl)
  must_prove (verdict.Unchecked id m) b h on k = absurd ((told_known id (certified.outcome_of (Some m)) h k).unmissed m refl)

  verdict_complete : (v : Verdict) → ((procedure_at ps p).body ≡ None → ⊥) → IsBoundWithinReach ps p → IsVerdictOn answers p v → (says_proved v ≡ true) ↔ BoundGoalsHold ps (procedure_at ps p)
  verdict_complete v b r on =
      let a = answered on.before on.behind on.answer on.all on.place in
      (λ e. says.proved p v on e, λ h. must_prove v b (known_at a.there r h) on (subst (IsVerdict ps (all_outcomes outcome_of are.table) p) on.verdict a.is.verdict))

pub verdicts_complete : VerdictsAreComplete
verdicts_complete ps answers all certs are says p v b r on = verdict_complete ps answers all certs are says p v b r on

-- ---- The goals of rankings

same_some : {A : Type 0} (a b : A) → Some a ≡ Some b → a ≡ b
same_some a b e = cc

same_loop : (p : TypedProcedure) (n : ℕ) (k l : RankedLoop p n) (P : Head → Acts → Rational × Form → Type 0) → P k.head k.body k.rank → P l.head l.body l.rank
same_loop p n k l P h =
    let both : ◌≡◌ {A = Head × Acts} (k.head, k.body) (l.head, l.body) = same_some (k.head, k.body) (l.head, l.body) (sym k.named ∙ l.named) in
    let heads : k.head ≡ l.head = ap (λ (x : Head × Acts). x.0) both in
    let bodies : k.body ≡ l.body = ap (λ (x : Head × Acts). x.1) both in
    let ranks : k.rank ≡ l.rank = same_some k.rank l.rank (sym k.ranked ∙ (ap (λ (x : Head). x.rank) heads ∙ l.ranked)) in
    subst (λ x. P x l.body l.rank) heads (subst (λ x. P k.head x l.rank) bodies (subst (λ x. P k.head k.body x) ranks h))

-- The goal of the loop that an answer is on, and its decision.
record IsDecidedFor (ps : List TypedProcedure) (p : ℕ) (a : LoopAnswer) : Type 0 where
  decided : DecidedGoal
  is_of : IsRankingGoal ps p a.number decided.goal
  decides : Decides decided.goal decided.found
  rank : a.rank ≡ rank_of (outcome_of decided.found)

decided_for : (ps : List TypedProcedure) (p : ℕ) (ns : List ℕ) (gs : List DecidedGoal) (k : ℕ) (a : LoopAnswer) → AreFound (IsRankingGoal ps p) Decides ns gs → k < length (map loop_answer (outcomes outcome_of gs)) → slice_index_or (map loop_answer (outcomes outcome_of gs)) k a ≡ a → IsDecidedFor ps p a
decided_for ps p ns [] k a h l e = absurd (omega (arith, l))
decided_for ps p [] (g ∷ gs) k a h l e = absurd h
decided_for ps p (n ∷ ns) (g ∷ gs) zero a h l e = subst (IsDecidedFor ps p) e (record { decided = g; is_of = subst (λ m. IsRankingGoal ps p m g.goal) (sym (ap loop_of h.0.goal.id_of)) h.0.goal; decides = h.0.found; rank = refl })
decided_for ps p (n ∷ ns) (g ∷ gs) (suc k) a h l e = decided_for ps p ns gs k a h.1 (omega (arith, l)) e

module _ (ps : List TypedProcedure) (answers : List Answer) (all : List NamedGoal) (certs : List GoalCert) (are : AreAnswered ps answers all certs) (says : IsHeadline ps answers) (p n : ℕ) (l : RankedLoop (procedure_at ps p) n) where
  decided_on : (v : RankVerdict) (on : IsVerdictOnLoop answers p n v) → IsDecidedFor ps p on.line
  decided_on v on =
      let a = answered ps answers all certs are says p on.before on.behind on.answer on.all on.place in
      let row = a.is.loops ∙ ap (λ os. map loop_answer os) (row_outcomes outcome_of are.ranks p) in
      let c = subst (λ ls. Contains ls on.line) row on.listed in
      decided_for ps p (ranked_loops (procedure_at ps p)) (row_at are.ranks p) c.0 on.line (row_of (λ k q gs. AreFound (IsRankingGoal ps k) Decides (ranked_loops q) gs) ps are.ranks p a.there are.ranks_decided) c.1 c.2

  within_reach : (v : RankVerdict) (on : IsVerdictOnLoop answers p n v) → IsRankingWithinReach (procedure_at ps p) n l → IsWithinReach (decided_on v on).decided.goal.made
  within_reach v on r =
      let d = decided_on v on in
      let g : IsRankingGoal ps p n d.decided.goal = subst (λ m. IsRankingGoal ps p m d.decided.goal) on.number d.is_of in
      r d.decided.goal.made (same_loop (procedure_at ps p) n g.ranked l (λ h b k. ranking.IsMadeOf (procedure_at ps p) h b k d.decided.goal.made) g.made)

  rank_decided : (v : RankVerdict) (on : IsVerdictOnLoop answers p n v) → rank_of (outcome_of (decided_on v on).decided.found) ≡ v
  rank_decided v on = sym (decided_on v on).rank ∙ on.verdict

  must_rank : (v : RankVerdict) → IsRankingWithinReach (procedure_at ps p) n l → IsVerdictOnLoop answers p n v → IsRanking (procedure_at ps p) l.head l.body l.rank → v ≡ rank.Ranked
  must_rank rank.Ranked r on h = refl
  must_rank (rank.NotRanked s) r on h =
      let u = says.unranked p n s on in
      let f = same_loop (procedure_at ps p) n u.loop l (λ d b k. IsNoRanking (procedure_at ps p) d b k (take (length (variables (procedure_at ps p))) s.items)) u.fails in
      absurd (f.fails (h (take (length (variables (procedure_at ps p))) s.items) f.choices f.state))
  must_rank (rank.Unknown c) r on h = let d = decided_on (rank.Unknown c) on in absurd (rank_known d.decided.goal.made d.decided.found c d.decides (within_reach (rank.Unknown c) on r) (rank_decided (rank.Unknown c) on))
  must_rank (rank.Unchecked m) r on h = absurd (rank_unmissed (decided_on (rank.Unchecked m) on).decided.found m (rank_decided (rank.Unchecked m) on))

  rank_complete : (v : RankVerdict) → IsRankingWithinReach (procedure_at ps p) n l → IsVerdictOnLoop answers p n v → (v ≡ rank.Ranked) ↔ IsRanking (procedure_at ps p) l.head l.body l.rank
  rank_complete v r on = (λ e. let k = says.ranked p n (subst (IsVerdictOnLoop answers p n) e on) in same_loop (procedure_at ps p) n k.loop l (IsRanking (procedure_at ps p)) k.ranking, λ h. must_rank v r on h)

pub rank_verdicts_complete : RankVerdictsAreComplete
rank_verdicts_complete ps answers all certs are says p n v l r on = rank_complete ps answers all certs are says p n l v r on
