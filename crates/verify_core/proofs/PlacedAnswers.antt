-- The places that answers name are in the text, if those of the procedures are.
use Rattle.std.proofs.Common.{◌≡◌, ◌<◌, ◌≤◌, ◌+◌, ◌==◌, ◌||◌, ℕ, refl, sym, ap, ◌∙◌, subst, arith, Bool, true, false, not, List, [], ◌∷◌, length, map, ⊎_elim}
use Rattle.std.proofs.lemmas.Bool.{cases_eq, false≢true, ne_eqb, or_cases}
use Rattle.std.specs.List.{AllZip}
use Rattle.std.specs.Prelude.{Option, Some, None, if◌then◌else◌}
use Prim.Native.Nat.{zero, suc}
use Rattle.heyvl_places.specs.declared.spans.Span.{Span}
use Rattle.heylo_formula.specs.Binders.{has_binder}
use Rattle.heyvl_acts.specs.Acts.{Act, Acts, TypedProcedure, acts_in, procedure_at}
use Rattle.heyvl_acts.specs.Places.{in_order}
use Rattle.heyvl_acts.specs.Program.{Reaches, Reason, calls, first_break, reason_of_break, why_no_program}
use Rattle.heyvl_acts.specs.Program.Reaches.{directly, onward}
use Rattle.heyvl_acts.specs.Rules.{Each, IsTypedAct, MeetsRules}
use Rattle.loop_encodings.specs.BoundGoals.{bound_goals}
use Rattle.proc_contracts.specs.Reasons.{plain}
use Rattle.proc_contracts.specs.declared.reasons.WhyNot.{WhyNot}
use Rattle.ranking_rule.specs.RankingGoals as ranking
use Rattle.verdict_report.specs.PlacedAnswers.{IsAnswerPlaced, IsLoopPlaced, IsRankPlaced, IsReasonPlaced, IsVerdictPlaced}
use Rattle.verdict_report.specs.declared.answers.Answer.{Answer}
use Rattle.verdict_report.specs.declared.answers.Verdict.{Verdict}
use Rattle.verdict_report.specs.declared.answers.Verdict.TheVariants as verdict
use Rattle.heylo_formula.specs.Goals.{Goal}
use Rattle.linear_form.specs.Nonlinear.{nonlinear_product}
use Rattle.verify_core.specs.Outcomes.{loop_answer, rank_of}
use Rattle.verify_core.specs.Verdicts.{AreAnswers, IsVerdict}
use Rattle.verify_core.specs.declared.outcomes.GoalOutcome.{GoalOutcome}
use Rattle.verify_core.specs.declared.outcomes.Outcome.{Outcome}
use Rattle.verify_core.specs.declared.outcomes.Outcome.TheVariants.{Proved, Falsified, Unknown, Missed}
use Rattle.verify_core.proofs.MadeGoals.{Means}
use Rattle.verify_core.proofs.OutcomesMean.{AreOutcomes, IsBoundOutcome, IsRankingOutcome, told_means}
use Rattle.heyvl_acts.specs.StandingParts.{ActStands, StandsWithin}
use Rattle.verify_core.specs.NumberedLists.{row_at}
use Rattle.verify_core.specs.Rankings.{ranked_loops}
use Rattle.verify_core.proofs.StandingActs.{goal_stands, stands_at}
use Rattle.verify_core.proofs.StandingRankings.{ranking_stands}

same_some : {A : Type 0} (a b : A) → Some a ≡ Some b → a ≡ b
same_some a b e = cc

-- ---- Reasons

span_stands : (n : ℕ) (r s : Span) → r.from ≤ n → Some r ≡ Some s → s.from ≤ n
span_stands n r s h e = let k : r.from ≡ s.from = ap (λ (x : Span). x.from) (same_some r s e) in omega (arith, k, h)

break_stands : (n : ℕ) (co : Bool) (acts : List Act) (s : Span) → Each (ActStands n) acts → first_break co acts ≡ Some s → s.from ≤ n
break_stands n co [] s h e = absurd (cc)
break_stands n co (Act.set x t span ∷ rest) s h e = break_stands n co rest s h.1 e
break_stands n co (Act.draw x qs span ∷ rest) s h e = break_stands n co rest s h.1 e
break_stands n co (Act.toss x f span ∷ rest) s h e = break_stands n co rest s h.1 e
break_stands n co (Act.any x up ty span ∷ rest) s h e = break_stands n co rest s h.1 e
break_stands n co (Act.reward f span ∷ rest) s h e = break_stands n co rest s h.1 e
break_stands n co (Act.ifs arms x span ∷ rest) s h e = break_stands n co rest s h.1 e
break_stands n true (Act.pick true a b span ∷ rest) s h e = break_stands n true rest s h.1 e
break_stands n true (Act.pick false a b span ∷ rest) s h e = span_stands n span s h.0 e
break_stands n false (Act.pick true a b span ∷ rest) s h e = span_stands n span s h.0 e
break_stands n false (Act.pick false a b span ∷ rest) s h e = break_stands n false rest s h.1 e
break_stands n co (Act.check kind f span ∷ rest) s h e = span_stands n span s h.0.0 e
break_stands n co (Act.validate d span ∷ rest) s h e = span_stands n span s h.0 e
break_stands n co (Act.loop g b ∷ rest) s h e = break_stands n co rest s h.1 e
break_stands n co (Act.call xs q es span ∷ rest) s h e = break_stands n co rest s h.1 e

same_place : (r s : Span) → ◌≡◌ {A = Option Reason} (Some (Reason.statement r)) (Some (Reason.statement s)) → r ≡ s
same_place r s e = cc

which_break : (a b : Bool) (o : Option Span) (s : Span) → (if a then Some Reason.no_wlp else (if b then Some Reason.quantifier else reason_of_break o)) ≡ Some (Reason.statement s) → o ≡ Some s
which_break true b o s e = absurd (cc)
which_break false true o s e = absurd (cc)
which_break false false None s e = absurd (cc)
which_break false false (Some r) s e = ap (λ (x : Span). Some x) (same_place r s e)

reason_by : (n : ℕ) (p : TypedProcedure) (b : Option Acts) (s : Span) → p.body ≡ b → Each (ActStands n) (in_order (acts_in p.body)) → why_no_program p ≡ Some (Reason.statement s) → s.from ≤ n
reason_by n p None s e h k = absurd (let z : ◌≡◌ {A = Option Reason} (Some Reason.no_body) (Some (Reason.statement s)) = rw e at k in cc)
reason_by n p (Some acts) s e h k = break_stands n p.co (in_order acts) s (subst (λ b. Each (ActStands n) (in_order (acts_in b))) e h) (which_break (not (p.co || p.weak)) (has_binder p.post) (first_break p.co (in_order acts)) s (rw e at k))

pub reason_placed : (n : ℕ) (p : TypedProcedure) (why : WhyNot) → StandsWithin n p → why_no_program p ≡ Some (plain why) → IsReasonPlaced n why
reason_placed n p WhyNot.NoBody h e = tt
reason_placed n p WhyNot.NoWlp h e = tt
reason_placed n p WhyNot.Quantifier h e = tt
reason_placed n p (WhyNot.Statement s) h e = reason_by n p p.body s refl h.acts e

-- ---- Procedures that are reached

calls_there : (ps : List TypedProcedure) (p : TypedProcedure) (q : ℕ) (acts : List Act) → Each (IsTypedAct ps p) acts → calls q acts ≡ true → q < length ps
calls_there ps p q [] h e = absurd (false≢true e)
calls_there ps p q (Act.set x t span ∷ rest) h e = calls_there ps p q rest h.1 e
calls_there ps p q (Act.draw x qs span ∷ rest) h e = calls_there ps p q rest h.1 e
calls_there ps p q (Act.toss x f span ∷ rest) h e = calls_there ps p q rest h.1 e
calls_there ps p q (Act.any x up ty span ∷ rest) h e = calls_there ps p q rest h.1 e
calls_there ps p q (Act.reward f span ∷ rest) h e = calls_there ps p q rest h.1 e
calls_there ps p q (Act.ifs arms x span ∷ rest) h e = calls_there ps p q rest h.1 e
calls_there ps p q (Act.pick up a b span ∷ rest) h e = calls_there ps p q rest h.1 e
calls_there ps p q (Act.check kind f span ∷ rest) h e = calls_there ps p q rest h.1 e
calls_there ps p q (Act.validate d span ∷ rest) h e = calls_there ps p q rest h.1 e
calls_there ps p q (Act.loop g b ∷ rest) h e = calls_there ps p q rest h.1 e
calls_there ps p q (Act.call xs r es span ∷ rest) h e =
    ⊎_elim (λ k. ⊎_elim (λ z. subst (λ i. i < length ps) z h.0.there) (λ z. absurd (false≢true (sym (ne_eqb r q z) ∙ k))) (cases_eq r q)) (λ k. calls_there ps p q rest h.1 k) (or_cases (r == q) (calls q rest) e)

typed_at : (ps qs : List TypedProcedure) (p : ℕ) → Each (MeetsRules ps) qs → Each (IsTypedAct ps (procedure_at qs p)) (in_order (acts_in (procedure_at qs p).body))
typed_at ps [] p h = tt
typed_at ps (q ∷ qs) zero h = h.0.typed
typed_at ps (q ∷ qs) (suc p) h = typed_at ps qs p h.1

reached_there : (ps : List TypedProcedure) (p q : ℕ) → Each (MeetsRules ps) ps → Reaches ps p q → q < length ps
reached_there ps _ _ h (directly p q c) = calls_there ps (procedure_at ps p) q (in_order (acts_in (procedure_at ps p).body)) (typed_at ps ps p h) c
reached_there ps _ _ h (onward p q r c k) = reached_there ps q r h k

-- ---- Answers

verdict_placed : (n : ℕ) (ps : List TypedProcedure) (table : List (List GoalOutcome)) (p : ℕ) (v : Verdict) → Each (MeetsRules ps) ps → Each (StandsWithin n) ps → AllZip (IsBoundOutcome ps p) (bound_goals (procedure_at ps p)) (row_at table p) → IsVerdict ps table p v → IsVerdictPlaced n (length ps) v
verdict_placed n ps table p verdict.Verified r s o h = tt
verdict_placed n ps table p (verdict.Valid why) r s o h = reason_placed n (procedure_at ps p) why (stands_at n ps p s) h.1.1
verdict_placed n ps table p (verdict.Conditional q) r s o h = reached_there ps p q r h.1.reached
verdict_placed n ps table p (verdict.NotVerified id t) r s o h = tt
verdict_placed n ps table p (verdict.Unknown id c) r s o h = let k = told_means ps p (bound_goals (procedure_at ps p)) (row_at table p) id (Unknown c) o h in k.means n (λ t e. goal_stands n ps p k.asked t s e)
verdict_placed n ps table p verdict.NoBody r s o h = tt
verdict_placed n ps table p (verdict.Unchecked id miss) r s o h = tt

rank_placed : (n : ℕ) (g : Goal) (o : Outcome) → ((t : Span) → nonlinear_product g ≡ Some t → t.from ≤ n) → Means g o → IsRankPlaced n (rank_of o)
rank_placed n g Proved f m = tt
rank_placed n g (Falsified s) f m = tt
rank_placed n g (Unknown c) f m = m n f
rank_placed n g (Missed k) f m = tt

loops_placed : (n : ℕ) (ps : List TypedProcedure) (p : ℕ) (ns : List ℕ) (os : List GoalOutcome) → Each (StandsWithin n) ps → AllZip (IsRankingOutcome ps p) ns os → Each (IsLoopPlaced n) (map loop_answer os)
loops_placed n ps p ns [] s h = tt
loops_placed n ps p [] (o ∷ os) s h = absurd h
loops_placed n ps p (k ∷ ns) (o ∷ os) s h =
    let l = h.0.loop in
    (rank_placed n (ranking.goal (procedure_at ps p) l.head l.body l.rank) o.outcome (λ t e. ranking_stands n ps p k l t s e) h.0.means, loops_placed n ps p ns os s h.1)

placed_from : (n : ℕ) (ps : List TypedProcedure) (table ranks : List (List GoalOutcome)) (k : ℕ) (qs : List TypedProcedure) (answers : List Answer) → Each (MeetsRules ps) ps → AreOutcomes ps table ranks → Each (StandsWithin n) ps → k + length qs ≡ length ps → AreAnswers ps table ranks k qs answers → Each (IsAnswerPlaced n (length ps)) answers
placed_from n ps table ranks k [] [] r o s e h = tt
placed_from n ps table ranks k [] (a ∷ rest) r o s e h = absurd h
placed_from n ps table ranks k (q ∷ qs) [] r o s e h = absurd h
placed_from n ps table ranks k (q ∷ qs) (a ∷ rest) r o s e h =
    let l : k < length ps = omega (arith, e) in (
      record {
        verdict = verdict_placed n ps table k a.verdict r s (o.bounds k l) h.0.verdict;
        loops = subst (λ x. Each (IsLoopPlaced n) x) (sym h.0.loops) (loops_placed n ps k (ranked_loops (procedure_at ps k)) (row_at ranks k) s (o.rankings k l));
      },
      placed_from n ps table ranks (suc k) qs rest r o s (omega (arith, e)) h.1,
    )

pub answers_placed : (n : ℕ) (ps : List TypedProcedure) (table ranks : List (List GoalOutcome)) (answers : List Answer) → Each (MeetsRules ps) ps → AreOutcomes ps table ranks → Each (StandsWithin n) ps → AreAnswers ps table ranks 0 ps answers → Each (IsAnswerPlaced n (length ps)) answers
answers_placed n ps table ranks answers r o s h = placed_from n ps table ranks 0 ps answers r o s (first (length ps)) h
  where
    first : (k : ℕ) → 0 + k ≡ k
    first k = omega arith
