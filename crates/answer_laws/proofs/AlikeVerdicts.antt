-- Tables whose outcomes agree determine verdicts that agree.
use Rattle.std.proofs.Common.{◌≡◌, ◌⊎◌, ◌<◌, ℕ, refl, sym, ap, ap₂, ◌∙◌, subst, Bool, true, false, List, [], ◌∷◌, inl, inr}
use Rattle.std.proofs.lemmas.Bool.{cases_order, false≢true}
use Rattle.std.specs.List.{AllZip}
use Rattle.std.specs.Option.{option_or}
use Rattle.std.specs.Prelude.{◌&&◌, Option, Some, None, Vec, if◌then◌else◌}
use Rattle.std.specs.declared.alloc.Global.{Global}
use Rattle.goal_answers.specs.declared.causes.Cause.{Cause}
use Rattle.goal_answers.specs.declared.decisions.Decision.TheVariants.{Falsified, Unknown}
use Rattle.goal_answers.specs.declared.misses.Miss.{Miss}
use Rattle.heylo_formula.specs.declared.goals.GoalId.{GoalId}
use Rattle.heylo_formula.specs.declared.values.Val.{Val}
use Rattle.heyvl_acts.specs.Acts.{Acts, TypedProcedure, procedure_at}
use Rattle.heyvl_acts.specs.Program.{IsProgram, Reason, why_no_program}
use Rattle.heyvl_acts.specs.Rules.{Each}
use Rattle.proc_contracts.specs.Reasons.{plain}
use Rattle.proc_contracts.specs.declared.reasons.WhyNot.{WhyNot}
use Rattle.verdict_report.specs.declared.answers.Verdict.{Verdict}
use Rattle.verdict_report.specs.declared.answers.Verdict.TheVariants as verdict
use Rattle.verify_core.specs.CertifiedGoals as certified
use Rattle.verify_core.specs.GoalDecisions.{outcome_of}
use Rattle.verify_core.specs.NumberedLists.{row_at}
use Rattle.verify_core.specs.Outcomes.{IsTold, all_proved, first_with, is_falsified, is_open, is_proved, told}
use Rattle.verify_core.specs.Verdicts.{IsClosed, IsFirstOpen, IsVerdict}
use Rattle.answer_laws.specs.Named.{GoalOutcome, Outcome}
use Rattle.answer_laws.proofs.Told.{IsLawfulOne, same_some, told_unproved}

-- Outcomes that agree by `R` have the same tests, and yield verdicts that agree by `V`.
pub record Agree (R : Outcome → Outcome → Type 0) (V : Verdict → Verdict → Type 0) : Type 0 where
  pub proved_test : (o u : Outcome) → R o u → is_proved o ≡ is_proved u
  pub falsified_test : (o u : Outcome) → R o u → is_falsified o ≡ is_falsified u
  pub open_test : (o u : Outcome) → R o u → is_open o ≡ is_open u
  pub apart : (c : Cause) (m : Miss) → R (outcome_of (Unknown c)) (certified.outcome_of (Some m)) → ⊥
  pub apart_back : (m : Miss) (c : Cause) → R (certified.outcome_of (Some m)) (outcome_of (Unknown c)) → ⊥
  pub falsified : (i : GoalId) (s r : Vec Val Global) → R (outcome_of (Falsified s)) (outcome_of (Falsified r)) → V (verdict.NotVerified i s) (verdict.NotVerified i r)
  pub unknown : (i : GoalId) (c d : Cause) → R (outcome_of (Unknown c)) (outcome_of (Unknown d)) → V (verdict.Unknown i c) (verdict.Unknown i d)
  pub missed : (i : GoalId) (m n : Miss) → R (certified.outcome_of (Some m)) (certified.outcome_of (Some n)) → V (verdict.Unchecked i m) (verdict.Unchecked i n)
  pub no_body : V verdict.NoBody verdict.NoBody
  pub valid : (why : WhyNot) → V (verdict.Valid why) (verdict.Valid why)
  pub conditional : (q : ℕ) → V (verdict.Conditional q) (verdict.Conditional q)
  pub verified : V verdict.Verified verdict.Verified

-- Two goals with the same name, whose outcomes agree.
abbrev pub AlikeGoals : (R : Outcome → Outcome → Type 0) → GoalOutcome → GoalOutcome → Type 0
AlikeGoals R o u = (o.goal.id ≡ u.goal.id) × R o.outcome u.outcome

-- In the table, procedures without a body have no goals, and an outcome that is falsified or open
-- is not proved.
pub record IsOrdinary (ps : List TypedProcedure) (T : List (List GoalOutcome)) : Type 0 where
  pub bare : (p : ℕ) → (procedure_at ps p).body ≡ None → row_at T p ≡ []
  pub lawful : (p : ℕ) → Each IsLawfulOne (row_at T p)

-- ---- The reported goal

abbrev SameFound : (R : Outcome → Outcome → Type 0) → Option GoalOutcome → Option GoalOutcome → Type 0
SameFound R None None = Unit {0}
SameFound R (Some o) (Some u) = AlikeGoals R o u
SameFound R None (Some u) = ⊥
SameFound R (Some o) None = ⊥

first_by : (R : Outcome → Outcome → Type 0) (o u : GoalOutcome) (a b : Bool) (x y : Option GoalOutcome) → a ≡ b → AlikeGoals R o u → SameFound R x y → SameFound R (if a then Some o else x) (if b then Some u else y)
first_by R o u true true x y e h k = h
first_by R o u true false x y e h k = absurd (false≢true (sym e))
first_by R o u false true x y e h k = absurd (false≢true e)
first_by R o u false false x y e h k = k

first_alike : (R : Outcome → Outcome → Type 0) (test : Outcome → Bool) → ((o u : Outcome) → R o u → test o ≡ test u) → (os us : List GoalOutcome) → AllZip (AlikeGoals R) os us → SameFound R (first_with test os) (first_with test us)
first_alike R test same [] [] h = tt
first_alike R test same [] (u ∷ us) h = absurd h
first_alike R test same (o ∷ os) [] h = absurd h
first_alike R test same (o ∷ os) (u ∷ us) h = first_by R o u (test o.outcome) (test u.outcome) (first_with test os) (first_with test us) (same o.outcome u.outcome h.0.1) h.0 (first_alike R test same os us h.1)

or_alike : (R : Outcome → Outcome → Type 0) (a b c d : Option GoalOutcome) → SameFound R a b → SameFound R c d → SameFound R (option_or a c) (option_or b d)
or_alike R None None c d h k = k
or_alike R (Some o) (Some u) c d h k = h
or_alike R None (Some u) c d h k = absurd h
or_alike R (Some o) None c d h k = absurd h

proved_alike : (R : Outcome → Outcome → Type 0) → ((o u : Outcome) → R o u → is_proved o ≡ is_proved u) → (os us : List GoalOutcome) → AllZip (AlikeGoals R) os us → all_proved os ≡ all_proved us
proved_alike R same [] [] h = refl
proved_alike R same [] (u ∷ us) h = absurd h
proved_alike R same (o ∷ os) [] h = absurd h
proved_alike R same (o ∷ os) (u ∷ us) h = ap₂ (λ x y. x && y) (same o.outcome u.outcome h.0.1) (proved_alike R same os us h.1)

told_bare : (ps : List TypedProcedure) (T : List (List GoalOutcome)) → IsOrdinary ps T → (p : ℕ) (i : GoalId) (o : Outcome) → IsTold (row_at T p) i o → (procedure_at ps p).body ≡ None → ⊥
told_bare ps T t p i o h e = let k : told [] ≡ Some (record { goal = h.goal; outcome = o }) = subst (λ os. told os ≡ Some (record { goal = h.goal; outcome = o })) (t.bare p e) h.told_of in cc

-- ---- Reasons

bare_no_program : (p : TypedProcedure) → p.body ≡ None → IsProgram p → ⊥
bare_no_program p e h = subst (λ (o : Option Acts). why_no_program (record p { body = o }) ≡ None → ⊥) (sym e) (λ k. cc) h

reason_or_program : (r : Reason) (o : Option Reason) → o ≡ Some r → o ≡ None → ⊥
reason_or_program r o e h = cc

abbrev reason_of : Reason → WhyNot
reason_of Reason.no_body = WhyNot.NoBody
reason_of Reason.no_wlp = WhyNot.NoWlp
reason_of Reason.quantifier = WhyNot.Quantifier
reason_of (Reason.statement span) = WhyNot.Statement span

reason_of_plain : (why : WhyNot) → reason_of (plain why) ≡ why
reason_of_plain WhyNot.NoBody = refl
reason_of_plain WhyNot.NoWlp = refl
reason_of_plain WhyNot.Quantifier = refl
reason_of_plain (WhyNot.Statement span) = refl

plain_one : (v w : WhyNot) → plain v ≡ plain w → v ≡ w
plain_one v w e = sym (reason_of_plain v) ∙ (ap reason_of e ∙ reason_of_plain w)

-- ---- Verdicts

module _ (R : Outcome → Outcome → Type 0) (V : Verdict → Verdict → Type 0) (agree : Agree R V) (ps : List TypedProcedure) (T U : List (List GoalOutcome)) (t : IsOrdinary ps T) (u : IsOrdinary ps U) (rows : (q : ℕ) → AllZip (AlikeGoals R) (row_at T q) (row_at U q)) (p : ℕ) where
  proved_both : (q : ℕ) → all_proved (row_at T q) ≡ all_proved (row_at U q)
  proved_both q = proved_alike R agree.proved_test (row_at T q) (row_at U q) (rows q)

  told_both : SameFound R (told (row_at T p)) (told (row_at U p))
  told_both = or_alike R (first_with is_falsified (row_at T p)) (first_with is_falsified (row_at U p)) (first_with is_open (row_at T p)) (first_with is_open (row_at U p)) (first_alike R is_falsified agree.falsified_test (row_at T p) (row_at U p) (rows p)) (first_alike R is_open agree.open_test (row_at T p) (row_at U p) (rows p))

  both_told : (i j : GoalId) (o w : Outcome) → IsTold (row_at T p) i o → IsTold (row_at U p) j w → (i ≡ j) × R o w
  both_told i j o w h k =
      let a : SameFound R (Some (record { goal = h.goal; outcome = o })) (told (row_at U p)) = subst (λ x. SameFound R x (told (row_at U p))) h.told_of told_both in
      let b : AlikeGoals R (record { goal = h.goal; outcome = o }) (record { goal = k.goal; outcome = w }) = subst (λ x. SameFound R (Some (record { goal = h.goal; outcome = o })) x) k.told_of a in
      (sym h.id_of ∙ (b.0 ∙ k.id_of), b.1)

  told_or_proved : (i : GoalId) (o : Outcome) → IsTold (row_at T p) i o → all_proved (row_at U p) ≡ true → ⊥
  told_or_proved i o h e = told_unproved (row_at T p) (record { goal = h.goal; outcome = o }) (t.lawful p) h.told_of (proved_both p ∙ e)

  proved_or_told : (j : GoalId) (w : Outcome) → all_proved (row_at T p) ≡ true → IsTold (row_at U p) j w → ⊥
  proved_or_told j w e k = told_unproved (row_at U p) (record { goal = k.goal; outcome = w }) (u.lawful p) k.told_of (sym (proved_both p) ∙ e)

  closed_first : (q : ℕ) → IsClosed ps U q → IsClosed ps T q
  closed_first q h = record { proved = proved_both q ∙ h.proved; program = h.program }

  closed_second : (q : ℕ) → IsClosed ps T q → IsClosed ps U q
  closed_second q h = record { proved = sym (proved_both q) ∙ h.proved; program = h.program }

  one_open : (q r : ℕ) → IsFirstOpen ps T p q → IsFirstOpen ps U p r → q ≡ r
  one_open q r h k = from (cases_order q r)
    where
      from : (q ≡ r) ⊎ ((q < r) ⊎ (r < q)) → q ≡ r
      from (inl e) = e
      from (inr (inl l)) = absurd (h.is_open (closed_first q (k.closed_before q l h.reached)))
      from (inr (inr l)) = absurd (k.is_open (closed_second r (h.closed_before r l k.reached)))

  pub one_verdict : (v w : Verdict) → IsVerdict ps T p v → IsVerdict ps U p w → V v w
  one_verdict verdict.NoBody verdict.NoBody h k = agree.no_body
  one_verdict verdict.NoBody (verdict.NotVerified j r) h k = absurd (told_bare ps U u p j (outcome_of (Falsified r)) k h)
  one_verdict verdict.NoBody (verdict.Unknown j d) h k = absurd (told_bare ps U u p j (outcome_of (Unknown d)) k h)
  one_verdict verdict.NoBody (verdict.Unchecked j n) h k = absurd (told_bare ps U u p j (certified.outcome_of (Some n)) k h)
  one_verdict verdict.NoBody (verdict.Valid other) h k = absurd (k.1.0 h)
  one_verdict verdict.NoBody (verdict.Conditional x) h k = absurd (bare_no_program (procedure_at ps p) h k.0.program)
  one_verdict verdict.NoBody verdict.Verified h k = absurd (bare_no_program (procedure_at ps p) h k.0.program)
  one_verdict (verdict.NotVerified i s) verdict.NoBody h k = absurd (told_bare ps T t p i (outcome_of (Falsified s)) h k)
  one_verdict (verdict.NotVerified i s) (verdict.NotVerified j r) h k = let b = both_told i j (outcome_of (Falsified s)) (outcome_of (Falsified r)) h k in subst (λ x. V (verdict.NotVerified i s) (verdict.NotVerified x r)) b.0 (agree.falsified i s r b.1)
  one_verdict (verdict.NotVerified i s) (verdict.Unknown j d) h k = absurd (false≢true (sym (agree.falsified_test (outcome_of (Falsified s)) (outcome_of (Unknown d)) (both_told i j (outcome_of (Falsified s)) (outcome_of (Unknown d)) h k).1)))
  one_verdict (verdict.NotVerified i s) (verdict.Unchecked j n) h k = absurd (false≢true (sym (agree.falsified_test (outcome_of (Falsified s)) (certified.outcome_of (Some n)) (both_told i j (outcome_of (Falsified s)) (certified.outcome_of (Some n)) h k).1)))
  one_verdict (verdict.NotVerified i s) (verdict.Valid other) h k = absurd (told_or_proved i (outcome_of (Falsified s)) h k.0)
  one_verdict (verdict.NotVerified i s) (verdict.Conditional x) h k = absurd (told_or_proved i (outcome_of (Falsified s)) h k.0.proved)
  one_verdict (verdict.NotVerified i s) verdict.Verified h k = absurd (told_or_proved i (outcome_of (Falsified s)) h k.0.proved)
  one_verdict (verdict.Unknown i c) verdict.NoBody h k = absurd (told_bare ps T t p i (outcome_of (Unknown c)) h k)
  one_verdict (verdict.Unknown i c) (verdict.NotVerified j r) h k = absurd (false≢true (agree.falsified_test (outcome_of (Unknown c)) (outcome_of (Falsified r)) (both_told i j (outcome_of (Unknown c)) (outcome_of (Falsified r)) h k).1))
  one_verdict (verdict.Unknown i c) (verdict.Unknown j d) h k = let b = both_told i j (outcome_of (Unknown c)) (outcome_of (Unknown d)) h k in subst (λ x. V (verdict.Unknown i c) (verdict.Unknown x d)) b.0 (agree.unknown i c d b.1)
  one_verdict (verdict.Unknown i c) (verdict.Unchecked j n) h k = absurd (agree.apart c n (both_told i j (outcome_of (Unknown c)) (certified.outcome_of (Some n)) h k).1)
  one_verdict (verdict.Unknown i c) (verdict.Valid other) h k = absurd (told_or_proved i (outcome_of (Unknown c)) h k.0)
  one_verdict (verdict.Unknown i c) (verdict.Conditional x) h k = absurd (told_or_proved i (outcome_of (Unknown c)) h k.0.proved)
  one_verdict (verdict.Unknown i c) verdict.Verified h k = absurd (told_or_proved i (outcome_of (Unknown c)) h k.0.proved)
  one_verdict (verdict.Unchecked i m) verdict.NoBody h k = absurd (told_bare ps T t p i (certified.outcome_of (Some m)) h k)
  one_verdict (verdict.Unchecked i m) (verdict.NotVerified j r) h k = absurd (false≢true (agree.falsified_test (certified.outcome_of (Some m)) (outcome_of (Falsified r)) (both_told i j (certified.outcome_of (Some m)) (outcome_of (Falsified r)) h k).1))
  one_verdict (verdict.Unchecked i m) (verdict.Unknown j d) h k = absurd (agree.apart_back m d (both_told i j (certified.outcome_of (Some m)) (outcome_of (Unknown d)) h k).1)
  one_verdict (verdict.Unchecked i m) (verdict.Unchecked j n) h k = let b = both_told i j (certified.outcome_of (Some m)) (certified.outcome_of (Some n)) h k in subst (λ x. V (verdict.Unchecked i m) (verdict.Unchecked x n)) b.0 (agree.missed i m n b.1)
  one_verdict (verdict.Unchecked i m) (verdict.Valid other) h k = absurd (told_or_proved i (certified.outcome_of (Some m)) h k.0)
  one_verdict (verdict.Unchecked i m) (verdict.Conditional x) h k = absurd (told_or_proved i (certified.outcome_of (Some m)) h k.0.proved)
  one_verdict (verdict.Unchecked i m) verdict.Verified h k = absurd (told_or_proved i (certified.outcome_of (Some m)) h k.0.proved)
  one_verdict (verdict.Valid why) verdict.NoBody h k = absurd (h.1.0 k)
  one_verdict (verdict.Valid why) (verdict.NotVerified j r) h k = absurd (proved_or_told j (outcome_of (Falsified r)) h.0 k)
  one_verdict (verdict.Valid why) (verdict.Unknown j d) h k = absurd (proved_or_told j (outcome_of (Unknown d)) h.0 k)
  one_verdict (verdict.Valid why) (verdict.Unchecked j n) h k = absurd (proved_or_told j (certified.outcome_of (Some n)) h.0 k)
  one_verdict (verdict.Valid why) (verdict.Valid other) h k = subst (λ x. V (verdict.Valid why) (verdict.Valid x)) (plain_one why other (same_some (plain why) (plain other) (sym h.1.1 ∙ k.1.1))) (agree.valid why)
  one_verdict (verdict.Valid why) (verdict.Conditional x) h k = absurd (reason_or_program (plain why) (why_no_program (procedure_at ps p)) h.1.1 k.0.program)
  one_verdict (verdict.Valid why) verdict.Verified h k = absurd (reason_or_program (plain why) (why_no_program (procedure_at ps p)) h.1.1 k.0.program)
  one_verdict (verdict.Conditional q) verdict.NoBody h k = absurd (bare_no_program (procedure_at ps p) k h.0.program)
  one_verdict (verdict.Conditional q) (verdict.NotVerified j r) h k = absurd (proved_or_told j (outcome_of (Falsified r)) h.0.proved k)
  one_verdict (verdict.Conditional q) (verdict.Unknown j d) h k = absurd (proved_or_told j (outcome_of (Unknown d)) h.0.proved k)
  one_verdict (verdict.Conditional q) (verdict.Unchecked j n) h k = absurd (proved_or_told j (certified.outcome_of (Some n)) h.0.proved k)
  one_verdict (verdict.Conditional q) (verdict.Valid other) h k = absurd (reason_or_program (plain other) (why_no_program (procedure_at ps p)) k.1.1 h.0.program)
  one_verdict (verdict.Conditional q) (verdict.Conditional x) h k = subst (λ y. V (verdict.Conditional q) (verdict.Conditional y)) (one_open q x h.1 k.1) (agree.conditional q)
  one_verdict (verdict.Conditional q) verdict.Verified h k = absurd (h.1.is_open (closed_first q (k.1 q h.1.reached)))
  one_verdict verdict.Verified verdict.NoBody h k = absurd (bare_no_program (procedure_at ps p) k h.0.program)
  one_verdict verdict.Verified (verdict.NotVerified j r) h k = absurd (proved_or_told j (outcome_of (Falsified r)) h.0.proved k)
  one_verdict verdict.Verified (verdict.Unknown j d) h k = absurd (proved_or_told j (outcome_of (Unknown d)) h.0.proved k)
  one_verdict verdict.Verified (verdict.Unchecked j n) h k = absurd (proved_or_told j (certified.outcome_of (Some n)) h.0.proved k)
  one_verdict verdict.Verified (verdict.Valid other) h k = absurd (reason_or_program (plain other) (why_no_program (procedure_at ps p)) k.1.1 h.0.program)
  one_verdict verdict.Verified (verdict.Conditional x) h k = absurd (k.1.is_open (closed_second x (h.1 x k.1.reached)))
  one_verdict verdict.Verified verdict.Verified h k = agree.verified
