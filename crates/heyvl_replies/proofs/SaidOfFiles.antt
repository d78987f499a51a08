-- Replies of the commands to files without an error, and the numbers of their answers.
use Rattle.cert_text.specs.Certificates.{certificates_of}
use Rattle.cert_text.specs.Texts.{Spells}
use Rattle.goal_answers.specs.declared.trees.GoalCert.{GoalCert}
use Rattle.heyvl_acts.specs.Acts.{TypedProcedure}
use Rattle.heyvl_syntax.specs.Grammar as grammar
use Rattle.heyvl_syntax.specs.Procedures.{Procedure}
use Rattle.heyvl_syntax.specs.SourceFaults.{IsSource, SourcesHaveNoFault}
use Rattle.spelled_files.specs.Sources.IsFileFault.{spelling, static}
use Rattle.command_rules.specs.FileReplies.IsTypedReply.{by_fault, by_file}
use Rattle.spelled_files.specs.Sources.{IsFileFault}
use Rattle.command_rules.specs.FileReplies.{IsAnsweredWhole, IsSpelledReply, IsTypedReply}
use Rattle.command_rules.specs.Messages.{Reply, answered}
use Rattle.spelled_files.specs.PrintLaws.{SpellingIsUnique}
use Rattle.command_rules.specs.RunStarts.IsFirstNoProgram.{itself, reached}
use Rattle.command_rules.specs.RunStarts.{IsFirstNoProgram, known_at, procedure_named}
use Rattle.command_rules.specs.Statuses.{answers_status, leaves_open, refutes}
use Rattle.command_rules.specs.commands.Certify.{FilesAreCertified, IsCertification}
use Rattle.command_rules.specs.commands.Check.IsCheckedReply.{by_certificates, by_line}
use Rattle.command_rules.specs.commands.Check.{FilesAreChecked, IsCheckReport, IsCheckedReply}
use Rattle.command_rules.specs.commands.Print.{FilesArePrinted, printed}
use Rattle.command_rules.specs.commands.Run.IsRunOf.{by_name, by_program, by_run, by_script}
use Rattle.command_rules.specs.commands.Run.{IsRunOf, ProgramsAreRun, TellsRun}
use Rattle.command_rules.specs.commands.Verify.{FilesAreVerified, IsReport}
use Rattle.command_rules.specs.Reports.{IsSummary}
use Rattle.command_rules.specs.commands.Generate.{GeneratedTextsAreAnswered, IsGenReply}
use Rattle.typed_expressions.specs.Signatures.{called}
use Rattle.std.proofs.lemmas.List.{length-map}
use Rattle.static_rules.specs.Files.{first_fault, resolved, typed}
use Rattle.typed_expressions.specs.Findings.{Finding}
use Rattle.run_machine.specs.ConfigConditions.{ReachesPrograms}
use Rattle.run_script.proofs.exported.UniqueScripts.{scripts_are_unique, scripts_have_no_fault}
use Rattle.run_script.specs.Scripts as scripts
use Rattle.run_script.specs.Scripts.{Script}
use Rattle.std.proofs.Common.{Bool, List, None, Option, Some, [], ap, arith, false, refl, length, subst, suc, sym, true, ◌∙◌, ◌∷◌, ◌≡◌, ◌≤◌, ℕ}
use Rattle.std.specs.List.{list_any}
use Rattle.std.specs.Prelude.{if◌then◌else◌}
use Rattle.verdict_report.specs.declared.answers.Answer.{Answer}
use Rattle.verify_core.specs.Verdicts.{AreAnswers}

-- ---- Files

spelled : (bytes : List ℕ) (file : List Procedure) → IsSource bytes file → grammar.Spells bytes file
spelled bytes file is = record { tokens = is.tokens; lexes = is.lexes; is_file = is.is_file }

same_file : SpellingIsUnique → (bytes : List ℕ) (file other : List Procedure) → IsSource bytes file → IsSource bytes other → file ≡ other
same_file unique bytes file other is also = unique bytes file other (spelled bytes file is) (spelled bytes other also)

pub one_for_each : (ps : List TypedProcedure) (table ranks : _) (p : ℕ) (qs : List TypedProcedure) (answers : List Answer) → AreAnswers ps table ranks p qs answers → length answers ≡ length qs
one_for_each ps table ranks p [] [] h = refl
one_for_each ps table ranks p [] (a ∷ rest) h = absurd h
one_for_each ps table ranks p (q ∷ qs) [] h = absurd h
one_for_each ps table ranks p (q ∷ qs) (a ∷ rest) h = ap suc (one_for_each ps table ranks (suc p) qs rest h.1)

at_most_two : (answers : List Answer) → answers_status answers ≤ 2
at_most_two answers = by (list_any refutes answers) (list_any leaves_open answers)
  where
    by : (a b : Bool) → (if a then 1 else if b then 2 else 0) ≤ 2
    by true b = omega arith
    by false true = omega arith
    by false false = omega arith

answered_whole : (file : List TypedProcedure) (reply : Reply) (text : List ℕ) → length reply.answers ≡ length file → reply ≡ answered reply.answers text → IsAnsweredWhole file reply
answered_whole file reply text each e = record {
  each = each;
  fault = ap (λ (r : Reply). r.fault) e;
  status = subst (λ (n : ℕ). n ≤ 2) (sym (ap (λ (r : Reply). r.status) e)) (at_most_two reply.answers);
}

-- ---- Replies to files without an error

no_fault_is_none : (f : Finding) → ◌≡◌ {A = Option Finding} None (Some f) → ⊥
no_fault_is_none f e = cc

faultless_file : SourcesHaveNoFault → SpellingIsUnique → (bytes : List ℕ) (file : List Procedure) (n : ℕ) (p : _) → IsSource bytes file → first_fault file ≡ None → IsFileFault bytes n p → ⊥
faultless_file clean unique bytes file n p is none (spelling fault) = clean bytes file n p is fault
faultless_file clean unique bytes file n p is none (static other also found) = no_fault_is_none (n, p) (sym none ∙ (ap first_fault (same_file unique bytes file other is also) ∙ found))

pub said_of_file : SourcesHaveNoFault → SpellingIsUnique → (Says : List TypedProcedure → Reply → Type 0) (bytes : List ℕ) (file : List Procedure) (reply : Reply) → IsSource bytes file → first_fault file ≡ None → IsTypedReply Says bytes reply → Says (resolved file) reply
said_of_file clean unique Says bytes file reply is none (by_fault n p fault e) = absurd (faultless_file clean unique bytes file n p is none fault)
said_of_file clean unique Says bytes file reply is none (by_file other also nothing told) = subst (λ (f : List Procedure). Says (resolved f) reply) (same_file unique bytes other file also is) told

pub printed_told : SourcesHaveNoFault → SpellingIsUnique → FilesArePrinted
printed_told clean unique bytes file reply is (IsSpelledReply.by_fault n p fault e) = absurd (clean bytes file n p is fault)
printed_told clean unique bytes file reply is (IsSpelledReply.by_file other also e) = e ∙ ap printed (same_file unique bytes other file also is)

pub verified : SourcesHaveNoFault → SpellingIsUnique → FilesAreVerified
verified clean unique bytes file reply is none replied =
    let report : IsReport bytes (resolved file) reply = said_of_file clean unique (IsReport bytes) bytes file reply is none replied in
    (report, answered_whole (resolved file) reply _ (one_for_each (resolved file) _ _ 0 (resolved file) reply.answers report.are_answers.answers_of) report.is_reply)

pub certified : SourcesHaveNoFault → SpellingIsUnique → FilesAreCertified
certified clean unique bytes file reply is none replied =
    let made : IsCertification (resolved file) reply = said_of_file clean unique IsCertification bytes file reply is none replied in
    (made, answered_whole (resolved file) reply _ (one_for_each (resolved file) _ _ 0 (resolved file) reply.answers made.are_answers.answers_of) made.is_reply)

check_reported : (bytes text : List ℕ) (ps : List TypedProcedure) (certs : List GoalCert) (reply : Reply) → Spells (certificates_of certs) text → IsCheckedReply bytes text ps reply → IsCheckReport bytes ps text reply
check_reported bytes text ps certs reply spells (by_line line fault e) = absurd (fault.unfinished (certificates_of certs) spells)
check_reported bytes text ps certs reply spells (by_certificates report) = report

pub checked : SourcesHaveNoFault → SpellingIsUnique → FilesAreChecked
checked clean unique bytes text file certs reply is none spells replied =
    let report : IsCheckReport bytes (resolved file) text reply =
    check_reported bytes text (resolved file) certs reply spells (said_of_file clean unique (IsCheckedReply bytes text) bytes file reply is none replied) in
    (report, answered_whole (resolved file) reply _ (one_for_each (resolved file) _ _ 0 (resolved file) reply.answers report.checked.answers_of) report.is_reply)

-- ---- Replies about programs

pub same_number : (p q : ℕ) → ◌≡◌ {A = Option ℕ} (Some p) (Some q) → p ≡ q
same_number p q e = cc

none_not_some : (p : ℕ) → ◌≡◌ {A = Option ℕ} None (Some p) → ⊥
none_not_some p e = cc

pub no_other_program : (ps : List TypedProcedure) (p q : ℕ) → ReachesPrograms ps p → IsFirstNoProgram ps p q → ⊥
no_other_program ps p q programs (itself differs) = differs programs.itself
no_other_program ps p q programs (reached r program reaches differs before) = differs (programs.reached r reaches)

program_run : (name script : List ℕ) (ps : List TypedProcedure) (reply : Reply) (s : Script) (p : ℕ) → procedure_named name ps ≡ Some p
    → scripts.Spells (known_at ps (procedure_named name ps)) s script → ReachesPrograms ps p → IsRunOf name script ps reply → TellsRun ps p s reply
program_run name script ps reply s p named read programs (by_script line fault e) = absurd (scripts_have_no_fault (known_at ps (procedure_named name ps)) s script line read fault)
program_run name script ps reply s p named read programs (by_name t keeps none e) = absurd (none_not_some p (sym none ∙ named))
program_run name script ps reply s p named read programs (by_program t keeps q found r first e) =
    absurd (no_other_program ps q r (subst (ReachesPrograms ps) (same_number p q (sym named ∙ found)) programs) first)
program_run name script ps reply s p named read programs (by_run t keeps q found reach tells) =
    subst (λ (n : ℕ). TellsRun ps n s reply) (same_number q p (sym found ∙ named)) (subst (λ (u : Script). TellsRun ps q u reply) (scripts_are_unique (known_at ps (procedure_named name ps)) t s script keeps read) tells)

pub run_told : SourcesHaveNoFault → SpellingIsUnique → ProgramsAreRun
run_told clean unique name bytes script file reply is none s p named read programs replied =
    let same : scripts.Spells (known_at (resolved file) (procedure_named name (resolved file))) s script =
    subst (λ (found : Option ℕ). scripts.Spells (known_at (resolved file) found) s script) (sym named) read in
    program_run name script (resolved file) reply s p named same programs (said_of_file clean unique (IsRunOf name script) bytes file reply is none replied)

-- ---- Replies about generated texts

pub gen_answered : GeneratedTextsAreAnswered
gen_answered n reply fits is =
    let s = is.summary in
    let each : length reply.answers ≡ length (resolved s.file) = one_for_each (resolved s.file) _ _ 0 (resolved s.file) reply.answers s.answered.answers_of in
    record {
      each = each ∙ length-map s.file (typed (called s.file)) ∙ s.count;
      fault = ap (λ (r : Reply). r.fault) is.is_reply;
      status = subst (λ (k : ℕ). k ≤ 2) (sym (ap (λ (r : Reply). r.status) is.is_reply)) (at_most_two reply.answers);
    }

pub gen_said : (n : ℕ) (answers : List Answer) (text : List ℕ) (reply : Reply) → IsSummary n answers text → reply ≡ answered answers text → IsGenReply n reply
gen_said n answers text reply made is = subst (λ (r : Reply). IsGenReply n r) (sym is) (record { text = text; summary = made; is_reply = refl })
