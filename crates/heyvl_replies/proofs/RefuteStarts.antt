-- The state in which the runs of `refute` start, and that there is only one reply to a file without
-- an error and a script.
use Prim.Native.Nat.{suc, zero}
use Rattle.goal_answers.specs.declared.named_goals.NamedGoal.{NamedGoal}
use Rattle.goal_answers.specs.declared.trees.GoalCert.{GoalCert}
use Rattle.heylo_formula.specs.declared.values.Val.{Val}
use Rattle.heyvl_acts.specs.Acts.{TypedProcedure, procedure_at}
use Rattle.spelled_files.specs.PrintLaws.{SpellingIsUnique}
use Rattle.heyvl_syntax.specs.SourceFaults.{SourcesHaveNoFault}
use Rattle.heyvl_replies.proofs.SaidOfFiles.{no_other_program, said_of_file, same_number}
use Rattle.command_rules.specs.Messages.{Reply}
use Rattle.command_rules.specs.RunStarts.{known_at, procedure_named}
use Rattle.command_rules.specs.commands.Refute.IsRefuteOf.{by_name, by_program, by_script, by_search, by_shape}
use Rattle.command_rules.specs.commands.Refute.{CoprocsAreSearched, IsRefuteOf, TellsRefuted, refute_start, refuted_reply, shown_by, shown_of}
use Rattle.static_rules.specs.Files.{resolved}
use Rattle.refute_runs.specs.RefutedAnswers.{IsRefutedAnswer}
use Rattle.refute_runs.specs.Violations.{NumbersAreOfRuns, ViolationIsOfRuns}
use Rattle.refute_runs.specs.declared.answers.Refuted.TheVariants.{Stopped, Violation, Within}
use Rattle.refute_runs.specs.declared.answers.Refuted.{Refuted}
use Rattle.run_machine.specs.ConfigConditions.{ReachesPrograms}
use Rattle.run_script.proofs.exported.UniqueScripts.{scripts_are_unique, scripts_have_no_fault}
use Rattle.run_script.specs.Scripts.{Script, Spells}
use Rattle.run_script.specs.Starts.{start_state_over}
use Rattle.run_script.specs.declared.scripts.Setting.{Setting}
use Rattle.std.proofs.Common.{List, None, Option, Some, [], ap, arith, false, get_or, length, refl, subst, sym, true, ◌<◌, ◌∙◌, ◌∷◌, ◌≡◌, ℕ}
use Rattle.verdict_report.specs.declared.answers.Answer.{Answer}
use Rattle.verify_core.specs.AnsweredProcedures.{AreAnswered}
use Rattle.verify_core.specs.Headline.{IsHeadline}

pub shown_is : (answers : List Answer) (p : ℕ) (x : Answer) → p < length answers → x ≡ get_or answers p x → shown_by x.verdict ≡ shown_of answers p
shown_is [] p x lt is = absurd (omega (arith, lt))
shown_is (y ∷ rest) zero x lt is = ap (λ (a : Answer). shown_by a.verdict) is
shown_is (y ∷ rest) (suc p) x lt is = shown_is rest p x (omega (arith, lt)) is

pub starts_at : (p q : TypedProcedure) (a b : List Setting) (s t : List Val) → p ≡ q → a ≡ b → s ≡ t → start_state_over p a s ≡ start_state_over q b t
starts_at p q a b s t e f g = ap (λ x. start_state_over x a s) e ∙ (ap (λ x. start_state_over q x s) f ∙ ap (λ x. start_state_over q b x) g)

-- The reply to a search, with answers.
module _ (ps : List TypedProcedure) (p : ℕ) (s : Script) (said : List Answer) (made : List NamedGoal) (certs : List GoalCert) (are : AreAnswered ps said made certs) (promised : IsHeadline ps said) where
  tells_by : (answer : Refuted) → IsRefutedAnswer ps p (refute_start ps p s said) s.decisions s.steps answer → ViolationIsOfRuns ps p (refute_start ps p s said) s.decisions answer
      → NumbersAreOfRuns ps p (refute_start ps p s said) s.decisions s.steps answer → TellsRefuted ps p s (refuted_reply (procedure_at ps p).name s.steps said answer)
  tells_by (Violation step sum bound) is violation numbers =
      record { made = made; certs = certs; are_answers = are; headline = promised; answer = Violation step sum bound; is_answer = is; violation = violation; numbers = numbers; told = refl }
  tells_by (Within sum bound) is violation numbers =
      record { made = made; certs = certs; are_answers = are; headline = promised; answer = Within sum bound; is_answer = is; violation = violation; numbers = numbers; told = refl }
  tells_by (Stopped step stopped) is violation numbers =
      record { made = made; certs = certs; are_answers = are; headline = promised; answer = Stopped step stopped; is_answer = is; violation = violation; numbers = numbers; told = refl }

  pub tells_refuted : (answer : Refuted) (reply : Reply) → IsRefutedAnswer ps p (refute_start ps p s said) s.decisions s.steps answer → ViolationIsOfRuns ps p (refute_start ps p s said) s.decisions answer
      → NumbersAreOfRuns ps p (refute_start ps p s said) s.decisions s.steps answer → reply ≡ refuted_reply (procedure_at ps p).name s.steps said answer → TellsRefuted ps p s reply
  tells_refuted answer reply is violation numbers e = subst (λ (r : Reply). TellsRefuted ps p s r) (sym e) (tells_by answer is violation numbers)

module _ (ps : List TypedProcedure) (name script : List ℕ) (reply : Reply) (s : Script) (p : ℕ) (named : procedure_named name ps ≡ Some p) (read : Spells (known_at ps (procedure_named name ps)) s script) where
  searched : (procedure_at ps p).co ≡ true → ReachesPrograms ps p → IsRefuteOf name script ps reply → TellsRefuted ps p s reply
  searched upper programs (by_script line fault e) = absurd (scripts_have_no_fault (known_at ps (procedure_named name ps)) s script line read fault)
  searched upper programs (by_name t keeps none e) = absurd (let no : ◌≡◌ {A = Option ℕ} None (Some p) = sym none ∙ named in cc)
  searched upper programs (by_shape t keeps q found lower e) =
      let same : q ≡ p = same_number q p (sym found ∙ named) in
      absurd (let no : false ≡ true = sym lower ∙ (ap (λ i. (procedure_at ps i).co) same ∙ upper) in cc)
  searched upper programs (by_program t keeps q found lower r first e) = absurd (no_other_program ps q r (subst (ReachesPrograms ps) (same_number p q (sym named ∙ found)) programs) first)
  searched upper programs (by_search t keeps q found lower reach tells) =
      subst (λ (n : ℕ). TellsRefuted ps n s reply) (same_number q p (sym found ∙ named)) (subst (λ (u : Script). TellsRefuted ps q u reply) (scripts_are_unique (known_at ps (procedure_named name ps)) t s script keeps read) tells)

pub coprocs_searched : SourcesHaveNoFault → SpellingIsUnique → CoprocsAreSearched
coprocs_searched clean unique name bytes script file reply is none s p named read upper programs replied =
    let same : Spells (known_at (resolved file) (procedure_named name (resolved file))) s script = subst (λ (found : Option ℕ). Spells (known_at (resolved file) found) s script) (sym named) read in
    searched (resolved file) name script reply s p named same upper programs (said_of_file clean unique (IsRefuteOf name script) bytes file reply is none replied)
