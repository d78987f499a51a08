-- Replies about two procedures, from the results of the parts of a command; and that a file has
-- only one such reply.
use Rattle.heyvl_acts.specs.Acts.{Acts, TypedProcedure, procedure_at}
use Rattle.heyvl_acts.specs.Places.{in_order}
use Rattle.heyvl_acts.specs.Program.{IsProgram}
use Rattle.heyvl_acts.specs.Rules.{Each, loop_numbers}
use Rattle.heyvl_syntax.specs.SourceFaults.{SourcesHaveNoFault}
use Rattle.spelled_files.specs.PrintLaws.{SpellingIsUnique}
use Rattle.heyvl_replies.proofs.SaidOfFiles.{said_of_file, same_number}
use Rattle.command_rules.specs.Messages.{Reply}
use Rattle.command_rules.specs.RunStarts.{procedure_named}
use Rattle.command_rules.specs.commands.Omega.{IsOmegaOf, OmegaPairsAreAnswered, TellsOmega}
use Rattle.command_rules.specs.commands.Remainder.{IsRemainderOf, RemainderPairsAreAnswered, TellsRemainder}
use Rattle.static_rules.specs.Files.{resolved}
use Rattle.lower_rules.specs.OmegaAnswers.{IsOmegaAnswer}
use Rattle.lower_rules.specs.RemainderAnswers.{HasBoundedTurns, HasSmallBound, IsRemainderAnswer}
use Rattle.lower_goals.specs.declared.answers.Omega.TheVariants as omega_answers
use Rattle.lower_goals.specs.declared.answers.Omega.{Omega}
use Rattle.lower_goals.specs.declared.remainder_answers.Remainder.TheVariants as remainder_answers
use Rattle.lower_goals.specs.declared.remainder_answers.Remainder.{Remainder}
use Rattle.lower_texts.specs.OmegaTexts as omega_texts
use Rattle.lower_texts.specs.RemainderTexts as remainder_texts
use Rattle.loop_encodings.specs.BoundGoals.{BoundGoal, GoalHolds, bound_goals}
use Rattle.std.proofs.Common.{List, None, Option, Some, inl, inr, map, refl, subst, sym, true, ◌∙◌, ◌∷◌, ◌≡◌, ◌⊎◌, ℕ}
use Rattle.verdict_report.specs.VerdictsOn.{IsVerdictOn, IsVerdictOnLoop}
use Rattle.verdict_report.specs.declared.answers.Answer.{Answer}
use Rattle.verdict_report.specs.declared.answers.RankVerdict.TheVariants.{Ranked}
use Rattle.verdict_report.specs.declared.answers.Verdict.TheVariants.{Verified}
use Rattle.verify_core.specs.Headline.{IsHeadline}

-- ---- If a state or a cause is shown, there is a pair

pub omega_has_pair : (ps : List TypedProcedure) (p q : ℕ) (answer : Omega) → IsOmegaAnswer ps p q answer → omega_texts.HasPair ps p q answer
omega_has_pair ps p q omega_answers.Holds is = tt
omega_has_pair ps p q (omega_answers.Fails step s) is = is.pair
omega_has_pair ps p q (omega_answers.Unknown step cause) is = is.pair
omega_has_pair ps p q omega_answers.Shape is = tt

pub remainder_has_pair : (ps : List TypedProcedure) (answers : List Answer) (p q : ℕ) (answer : Remainder) → IsRemainderAnswer ps answers p q answer → remainder_texts.HasPair ps p q answer
remainder_has_pair ps answers p q (remainder_answers.Holds step) is = tt
remainder_has_pair ps answers p q remainder_answers.NotVerified is = tt
remainder_has_pair ps answers p q remainder_answers.NotRanked is = tt
remainder_has_pair ps answers p q (remainder_answers.Fails s) is = is.pair
remainder_has_pair ps answers p q (remainder_answers.Unknown cause) is = is.pair
remainder_has_pair ps answers p q remainder_answers.Shape is = tt

-- ---- Facts from the answers of `verify`

record HasBody (p : TypedProcedure) : Type 0 where
  pub acts : Acts
  pub is : p.body ≡ Some acts

program_body : (p : TypedProcedure) → IsProgram p → HasBody p
program_body p h = go p.body refl h
  where
    go : (b : Option Acts) → p.body ≡ b → IsProgram (record p { body = b }) → HasBody p
    go None e k = absurd (cc)
    go (Some acts) e k = record { acts = acts; is = e }

abbrev weak_goals : Acts → List BoundGoal
weak_goals acts = BoundGoal.main ∷ (BoundGoal.pre ∷ (BoundGoal.post ∷ map BoundGoal.invariant (loop_numbers (in_order acts))))

goals_of_weak : (p : TypedProcedure) (acts : Acts) → p.body ≡ Some acts → p.weak ≡ true → bound_goals p ≡ weak_goals acts
goals_of_weak p acts e w = subst (λ b. bound_goals (record p { body = b }) ≡ weak_goals acts) (sym e) (subst (λ v. bound_goals (record p { body = Some acts; weak = v }) ≡ weak_goals acts) (sym w) refl)

-- The bound of a program with `@wlp` that is verified, whose post is at most 1.
pub gives_bound : (ps : List TypedProcedure) (answers : List Answer) (p : ℕ) → IsHeadline ps answers → IsVerdictOn answers p Verified → (procedure_at ps p).weak ≡ true → IsProgram (procedure_at ps p) → HasSmallBound ps p
gives_bound ps answers p h is weak program =
    let q = procedure_at ps p in
    let b = program_body q program in
    record { bound = h.verified p is; post = (subst (Each (GoalHolds ps q)) (goals_of_weak q b.acts b.is weak) (h.proved p Verified is refl)).1.1.0 }

pub gives_turns : (ps : List TypedProcedure) (answers : List Answer) (p n : ℕ) → IsHeadline ps answers → IsVerdictOnLoop answers p n Ranked → HasBoundedTurns ps p n
gives_turns ps answers p n h is = let r = h.ranked p n is in record { loop = r.loop; turns = r.turns }

-- ---- There is only one reply

no_pair : (ps : List TypedProcedure) (procedure name : List ℕ) (p q : ℕ) → procedure_named procedure ps ≡ Some p → procedure_named name ps ≡ Some q → (procedure_named procedure ps ≡ None) ⊎ (procedure_named name ps ≡ None) → ⊥
no_pair ps procedure name p q first second (inl none) = let no : ◌≡◌ {A = Option ℕ} None (Some p) = sym none ∙ first in cc
no_pair ps procedure name p q first second (inr none) = let no : ◌≡◌ {A = Option ℕ} None (Some q) = sym none ∙ second in cc

omega_told : (procedure name bytes : List ℕ) (ps : List TypedProcedure) (reply : Reply) (p q : ℕ) → procedure_named procedure ps ≡ Some p → procedure_named name ps ≡ Some q → IsOmegaOf procedure name bytes ps reply → TellsOmega bytes ps p q reply
omega_told procedure name bytes ps reply p q first second (IsOmegaOf.by_name missing e) = absurd (no_pair ps procedure name p q first second missing)
omega_told procedure name bytes ps reply p q first second (IsOmegaOf.by_pair m n named also tells) =
    subst (λ i. TellsOmega bytes ps i q reply) (same_number m p (sym named ∙ first)) (subst (λ i. TellsOmega bytes ps m i reply) (same_number n q (sym also ∙ second)) tells)

pub omega_pairs : SourcesHaveNoFault → SpellingIsUnique → OmegaPairsAreAnswered
omega_pairs clean unique procedure name bytes file reply is none p q first second replied =
    omega_told procedure name bytes (resolved file) reply p q first second (said_of_file clean unique (IsOmegaOf procedure name bytes) bytes file reply is none replied)

remainder_told : (procedure name bytes : List ℕ) (ps : List TypedProcedure) (reply : Reply) (p q : ℕ) → procedure_named procedure ps ≡ Some p → procedure_named name ps ≡ Some q → IsRemainderOf procedure name bytes ps reply → TellsRemainder bytes ps p q reply
remainder_told procedure name bytes ps reply p q first second (IsRemainderOf.by_name missing e) = absurd (no_pair ps procedure name p q first second missing)
remainder_told procedure name bytes ps reply p q first second (IsRemainderOf.by_pair m n named also tells) =
    subst (λ i. TellsRemainder bytes ps i q reply) (same_number m p (sym named ∙ first)) (subst (λ i. TellsRemainder bytes ps m i reply) (same_number n q (sym also ∙ second)) tells)

pub remainder_pairs : SourcesHaveNoFault → SpellingIsUnique → RemainderPairsAreAnswered
remainder_pairs clean unique procedure name bytes file reply is none p q first second replied =
    remainder_told procedure name bytes (resolved file) reply p q first second (said_of_file clean unique (IsRemainderOf procedure name bytes) bytes file reply is none replied)
