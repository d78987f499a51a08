-- The verdict on a procedure by its kind and by its own goals.
use Rattle.std.proofs.Common.{◌≡◌, ℕ, ◌+◌, ◌<◌, Bool, true, false, not, refl, ap, sym, subst, ◌∙◌, List, [], ◌∷◌, ◌++◌, get_or, length, take, Option, Some, None, if◌then◌else◌}
use Rattle.std.proofs.lemmas.Bool.{false≢true}
use Prim.Native.Nat.{zero, suc}
use Rattle.std.proofs.lemmas.List.{take_more}
use Rattle.heyvl_places.specs.declared.spans.Span.{Span}
use Rattle.heyvl_acts.specs.Acts.{Acts, TypedProcedure, nobody, procedure_at}
use Rattle.heyvl_acts.specs.Program.{IsProgram, Reason, reason_of_break, why_no_program}
use Rattle.proc_contracts.specs.Reasons.{plain}
use Rattle.proc_contracts.specs.declared.reasons.WhyNot.{WhyNot}
use Rattle.proc_contracts.specs.declared.reasons.WhyNot.TheVariants as why
use Rattle.verdict_report.specs.declared.answers.Verdict.{Verdict}
use Rattle.verdict_report.specs.declared.answers.Verdict.TheVariants as verdict
use Rattle.verify_core.specs.NumberedLists.{row_at}
use Rattle.verify_core.specs.Outcomes.{all_proved}
use Rattle.verify_core.specs.Verdicts.{IsClosed, IsVerdict}
use Rattle.verify_core.specs.declared.outcomes.GoalOutcome.{GoalOutcome}
use Rattle.verify_core.specs.internal.Marks.{IsMark, is_verified}
use Rattle.verify_core.specs.internal.Own.{IsKindVerdict, IsOwnVerdict, verdict_for}
use Rattle.verify_core.proofs.GoalOutcomes.{told_unproved}

-- ---- The kind

another_reason : (b c : Bool) (o : Option Span) → (if b then Some Reason.no_wlp else (if c then Some Reason.quantifier else reason_of_break o)) ≡ Some Reason.no_body → ⊥
another_reason true c o e = cc
another_reason false true o e = cc
another_reason false false (Some s) e = cc
another_reason false false None e = cc

no_other : (p : TypedProcedure) (r : Reason) → p.body ≡ None → Some r ≡ why_no_program p → (r ≡ Reason.no_body → ⊥) → ⊥
no_other p r b e n = n (inside (e ∙ ap (λ x. why_no_program (record p { body = x })) b))
  where
    inside : Some r ≡ Some Reason.no_body → r ≡ Reason.no_body
    inside h = cc

without_body : (p : TypedProcedure) → why_no_program p ≡ Some Reason.no_body → p.body ≡ None
without_body p e = of_body p.body refl
  where
    of_body : (b : Option Acts) → p.body ≡ b → p.body ≡ None
    of_body None h = h
    of_body (Some acts) h = absurd (another_reason _ _ _ (subst (λ x. why_no_program (record p { body = x }) ≡ Some Reason.no_body) h e))

pub of_reason : (p : TypedProcedure) (w : WhyNot) → Some (plain w) ≡ why_no_program p → IsKindVerdict p (verdict_for w)
of_reason p why.NoBody e = without_body p (sym e)
of_reason p why.NoWlp e = ((λ b. no_other p _ b e (λ h. cc)), sym e)
of_reason p why.Quantifier e = ((λ b. no_other p _ b e (λ h. cc)), sym e)
of_reason p (why.Statement s) e = ((λ b. no_other p _ b e (λ h. cc)), sym e)

-- ---- With its own goals

pub of_kind : (q : TypedProcedure) (os : List GoalOutcome) (v : Verdict) → all_proved os ≡ true → IsKindVerdict q v → IsOwnVerdict q os v
of_kind q os verdict.Verified e h = (e, h)
of_kind q os verdict.NoBody e h = h
of_kind q os (verdict.Unchecked id miss) e h = absurd h
of_kind q os (verdict.Valid w) e h = (e, h)
of_kind q os (verdict.NotVerified id s) e h = absurd h
of_kind q os (verdict.Unknown id c) e h = absurd h
of_kind q os (verdict.Conditional r) e h = absurd h

not_closed : (q : TypedProcedure) (os : List GoalOutcome) (v : Verdict) → IsOwnVerdict q os v → is_verified v ≡ false → all_proved os ≡ true → IsProgram q → ⊥
not_closed q os verdict.Verified h e f g = false≢true (sym e)
not_closed q os verdict.NoBody h e f g = apart (sym (ap (λ x. why_no_program (record q { body = x })) h) ∙ g)
  where
    apart : why_no_program (record q { body = None }) ≡ None → ⊥
    apart k = cc
not_closed q os (verdict.Unchecked id miss) h e f g = told_unproved os _ h.told_of f
not_closed q os (verdict.Valid w) h e f g = let a = h.1.1 in cc (a, g)
not_closed q os (verdict.NotVerified id s) h e f g = told_unproved os _ h.told_of f
not_closed q os (verdict.Unknown id c) h e f g = told_unproved os _ h.told_of f
not_closed q os (verdict.Conditional r) h e f g = h

closed : (q : TypedProcedure) (os : List GoalOutcome) (v : Verdict) → IsOwnVerdict q os v → is_verified v ≡ true → (all_proved os ≡ true) × IsProgram q
closed q os verdict.Verified h e = h
closed q os verdict.NoBody h e = absurd (false≢true e)
closed q os (verdict.Unchecked id miss) h e = absurd (false≢true e)
closed q os (verdict.Valid w) h e = absurd (false≢true e)
closed q os (verdict.NotVerified id s) h e = absurd (false≢true e)
closed q os (verdict.Unknown id c) h e = absurd (false≢true e)
closed q os (verdict.Conditional r) h e = absurd (false≢true e)

pub closes : (ps : List TypedProcedure) (table : List (List GoalOutcome)) (p : ℕ) (v : Verdict) → IsOwnVerdict (procedure_at ps p) (row_at table p) v → is_verified v ≡ true → IsClosed ps table p
closes ps table p v h e = let k = closed (procedure_at ps p) (row_at table p) v h e in record { proved = k.0; program = k.1 }

pub own_mark : (ps : List TypedProcedure) (table : List (List GoalOutcome)) (q : ℕ) (v : Verdict) (b : Bool) → is_verified v ≡ b → IsOwnVerdict (procedure_at ps q) (row_at table q) v → IsMark ps table q (not b)
own_mark ps table q v true e h = closes ps table q v h e
own_mark ps table q v false e h = λ c. not_closed (procedure_at ps q) (row_at table q) v h e c.proved c.program

pub stays : (ps : List TypedProcedure) (table : List (List GoalOutcome)) (p : ℕ) (v : Verdict) → IsOwnVerdict (procedure_at ps p) (row_at table p) v → (v ≡ verdict.Verified → ⊥) → IsVerdict ps table p v
stays ps table p verdict.Verified h e = absurd (e refl)
stays ps table p verdict.NoBody h e = h
stays ps table p (verdict.Unchecked id miss) h e = h
stays ps table p (verdict.Valid w) h e = h
stays ps table p (verdict.NotVerified id s) h e = h
stays ps table p (verdict.Unknown id c) h e = h
stays ps table p (verdict.Conditional q) h e = absurd h

-- ---- All procedures

pub take_procedures : (ps : List TypedProcedure) (p : ℕ) → p < length ps → take (p + 1) ps ≡ take p ps ++ procedure_at ps p ∷ []
take_procedures ps p l = take_more ps p nobody l ∙ ap (λ x. take p ps ++ x ∷ []) (here ps p)
  where
    here : (ps : List TypedProcedure) (p : ℕ) → get_or ps p nobody ≡ procedure_at ps p
    here [] p = refl
    here (x ∷ ps) zero = refl
    here (x ∷ ps) (suc p) = here ps p
