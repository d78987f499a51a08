-- What the laws of the commands need to know of each reply, with a lemma for each command.
use Rattle.heyvl_acts.specs.Acts.{TypedProcedure}
use Rattle.heyvl_places.specs.declared.spans.Span.{Span}
use Rattle.heyvl_syntax.specs.Grammar.{Spells}
use Rattle.heyvl_syntax.specs.Procedures.{Procedure}
use Rattle.heyvl_syntax.specs.SourceFaults.{IsSource, IsSourceFault, SourcesHaveNoFault}
use Rattle.tool_laws.specs.FaultLaws.{MayTell}
use Rattle.spelled_files.specs.Sources.IsFileFault.{spelling, static}
use Rattle.spelled_files.specs.Sources.{IsFileFault}
use Rattle.command_rules.specs.FileReplies.{IsSpelledReply, IsTypedReply}
use Rattle.generated_files.specs.Texts.{generated_text}
use Rattle.command_rules.specs.Messages.{Reply, answered, source_fault}
use Rattle.spelled_files.specs.PrintLaws.{SpellingIsUnique}
use Rattle.command_rules.specs.commands.Certify.{IsCertification}
use Rattle.command_rules.specs.commands.Check.IsCheckedReply.{by_certificates, by_line}
use Rattle.command_rules.specs.commands.Check.{IsCheckedReply}
use Rattle.command_rules.specs.commands.Generate.{IsGenReply}
use Rattle.command_rules.specs.commands.Omega.{IsOmegaOf, omega_reply}
use Rattle.command_rules.specs.commands.Pgcl.{IsPgclReply}
use Rattle.command_rules.specs.commands.Print.{printed}
use Rattle.command_rules.specs.commands.Refute.{IsRefuteOf, refuted_reply}
use Rattle.command_rules.specs.commands.Remainder.{IsRemainderOf, remainder_reply}
use Rattle.command_rules.specs.commands.Run.IsRunOf.{by_name, by_program, by_run, by_script}
use Rattle.command_rules.specs.commands.Run.{IsRunOf, run_reply}
use Rattle.command_rules.specs.commands.Verify.{IsReport}
use Rattle.command_rules.specs.commands.{Front, IsReplyTo, row_of, verified_text}
use Rattle.command_rules.specs.declared.faults.Fault.TheVariants as faults
use Rattle.command_rules.specs.declared.faults.Fault.{Fault}
use Rattle.command_words.specs.declared.requests.Settings.TheVariants.{Certify, Check, Gen, Omega, Pgcl, Print, Refute, Remainder, Run, Verify}
use Rattle.command_words.specs.declared.requests.Settings.{Settings}
use Rattle.static_rules.specs.Files.{first_fault, resolved}
use Rattle.typed_expressions.specs.Findings.{Finding}
use Rattle.lower_goals.specs.declared.answers.Omega.TheVariants as omega_answers
use Rattle.lower_goals.specs.declared.answers.Omega.{Omega as OmegaAnswer}
use Rattle.lower_goals.specs.declared.remainder_answers.Remainder.TheVariants as remainder_answers
use Rattle.lower_goals.specs.declared.remainder_answers.Remainder.{Remainder as RemainderAnswer}
use Rattle.refute_runs.specs.declared.answers.Refuted.TheVariants.{Stopped, Violation, Within}
use Rattle.refute_runs.specs.declared.answers.Refuted.{Refuted}
use Rattle.run_unroller.specs.declared.answers.Unrolled.TheVariants as answers
use Rattle.run_unroller.specs.declared.answers.Unrolled.{Unrolled}
use Rattle.std.proofs.Common.{Bool, List, None, Option, Some, [], ap, false, refl, subst, sym, true, ◌∙◌, ◌≡◌, ℕ}
use Rattle.std.proofs.lemmas.Bool.{false≢true}
use Rattle.std.specs.Prelude.{◌≢◌}
use Rattle.verdict_report.specs.declared.answers.Answer.{Answer}
use Rattle.verify_core.specs.Headline.{IsHeadline}

-- ---- Faults

-- The fault occurs after the files of a command were read, and is no error of a file.
abbrev pub is_told_late : Fault → Bool
is_told_late faults.Nothing = true
is_told_late faults.Usage = false
is_told_late (faults.Read k) = false
is_told_late (faults.TooLong k) = false
is_told_late (faults.Source number place) = false
is_told_late (faults.Cert line) = true
is_told_late (faults.Script line) = true
is_told_late faults.NoProcedure = true
is_told_late faults.Shape = true
is_told_late (faults.NotProgram p) = true
is_told_late (faults.Run stopped) = true
is_told_late faults.Write = false
is_told_late faults.Memory = false

-- The fault occurs after the files of a command were read.
abbrev pub is_told : Fault → Bool
is_told faults.Nothing = true
is_told faults.Usage = false
is_told (faults.Read k) = false
is_told (faults.TooLong k) = false
is_told (faults.Source number place) = true
is_told (faults.Cert line) = true
is_told (faults.Script line) = true
is_told faults.NoProcedure = true
is_told faults.Shape = true
is_told (faults.NotProgram p) = true
is_told (faults.Run stopped) = true
is_told faults.Write = false
is_told faults.Memory = false

late_is_told : (f : Fault) → is_told_late f ≡ true → is_told f ≡ true
late_is_told faults.Nothing e = refl
late_is_told faults.Usage e = absurd (false≢true e)
late_is_told (faults.Read k) e = absurd (false≢true e)
late_is_told (faults.TooLong k) e = absurd (false≢true e)
late_is_told (faults.Source number place) e = refl
late_is_told (faults.Cert line) e = refl
late_is_told (faults.Script line) e = refl
late_is_told faults.NoProcedure e = refl
late_is_told faults.Shape e = refl
late_is_told (faults.NotProgram p) e = refl
late_is_told (faults.Run stopped) e = refl
late_is_told faults.Write e = absurd (false≢true e)
late_is_told faults.Memory e = absurd (false≢true e)

one_finding : (n m : ℕ) (p q : Span) → faults.Source n p ≡ faults.Source m q → ◌≡◌ {A = Finding} (n, p) (m, q)
one_finding n m p q e = let numbers : n ≡ m = cc in let places : p ≡ q = cc in cc

told_finding : (bytes : List ℕ) (reply : Reply) (n m : ℕ) (p q : Span) → reply ≡ source_fault bytes n p → reply.fault ≡ faults.Source m q → ◌≡◌ {A = Finding} (n, p) (m, q)
told_finding bytes reply n m p q e f = one_finding n m p q (sym (ap (λ (r : Reply). r.fault) e) ∙ f)

-- ---- Facts about a reply

-- The file that the bytes spell, and the promises of answers about it.
pub record Promised (bytes : List ℕ) (answers : List Answer) : Type 0 where
  pub file : List Procedure
  pub spelled : IsSource bytes file
  pub faultless : first_fault file ≡ None
  pub headline : IsHeadline (resolved file) answers

-- If the command types its file, the first static error is reported.
abbrev StaticTold : Front → List ℕ → Reply → Type 0
StaticTold Front.other bytes reply = Unit {0}
StaticTold Front.spelled bytes reply = Unit {0}
StaticTold Front.typed bytes reply =
    SourcesHaveNoFault → SpellingIsUnique → (file : List Procedure) (number : ℕ) (place : Span) → IsSource bytes file → first_fault file ≡ Some (number, place) → reply ≡ source_fault bytes number place

-- The fault of the reply occurs after the files were read; if it is an error of the file, the file
-- has it; and the answers keep the promises of the headline.
pub record IsKnownReply (front : Front) (bytes text : List ℕ) (reply : Reply) : Type 0 where
  pub told : is_told reply.fault ≡ true
  pub there : (number : ℕ) (place : Span) → reply.fault ≡ faults.Source number place → MayTell front bytes number place
  pub static_told : StaticTold front bytes reply
  pub promised : reply.answers ≢ [] → Promised text reply.answers

-- The facts about a reply to typed procedures.
pub record IsKnownOf (ps : List TypedProcedure) (reply : Reply) : Type 0 where
  pub late : is_told_late reply.fault ≡ true
  pub promised : reply.answers ≢ [] → IsHeadline ps reply.answers

late_of : (reply other : Reply) → reply ≡ other → is_told_late other.fault ≡ true → is_told_late reply.fault ≡ true
late_of reply other e late = ap (λ (r : Reply). is_told_late r.fault) e ∙ late

pub no_message : (reply other : Reply) → reply ≡ other → reply.answers ≢ [] → other.answers ≡ [] → ⊥
no_message reply other e some none = some (ap (λ (r : Reply). r.answers) e ∙ none)

message_known : (ps : List TypedProcedure) (reply other : Reply) → reply ≡ other → is_told_late other.fault ≡ true → other.answers ≡ [] → IsKnownOf ps reply
message_known ps reply other e late none = record { late = late_of reply other e late; promised = λ some. absurd (no_message reply other e some none) }

-- ---- Commands that type their file

spelled : (bytes : List ℕ) (file : List Procedure) → IsSource bytes file → Spells bytes file
spelled bytes file is = record { tokens = is.tokens; lexes = is.lexes; is_file = is.is_file }

pub same_file : SpellingIsUnique → (bytes : List ℕ) (file other : List Procedure) → IsSource bytes file → IsSource bytes other → file ≡ other
same_file unique bytes file other is also = unique bytes file other (spelled bytes file is) (spelled bytes other also)

no_fault_is_none : (f : Finding) → ◌≡◌ {A = Option Finding} None (Some f) → ⊥
no_fault_is_none f e = cc

one_line : (bytes : List ℕ) (f g : Finding) → ◌≡◌ {A = Option Finding} (Some f) (Some g) → source_fault bytes f.0 f.1 ≡ source_fault bytes g.0 g.1
one_line bytes f g e = let same : f ≡ g = cc in ap (λ (h : Finding). source_fault bytes h.0 h.1) same

static_line : SourcesHaveNoFault → SpellingIsUnique → (bytes : List ℕ) (reply : Reply) (n : ℕ) (p : Span) → IsFileFault bytes n p → reply ≡ source_fault bytes n p
    → (file : List Procedure) (number : ℕ) (place : Span) → IsSource bytes file → first_fault file ≡ Some (number, place) → reply ≡ source_fault bytes number place
static_line clean unique bytes reply n p (spelling fault) e file number place is first = absurd (clean bytes file n p is fault)
static_line clean unique bytes reply n p (static other also found) e file number place is first =
    e ∙ one_line bytes (n, p) (number, place) (sym found ∙ (ap first_fault (same_file unique bytes other file also is) ∙ first))

fault_there : (bytes : List ℕ) (reply : Reply) (n : ℕ) (p : Span) → IsFileFault bytes n p → reply ≡ source_fault bytes n p → (number : ℕ) (place : Span) → reply.fault ≡ faults.Source number place → IsFileFault bytes number place
fault_there bytes reply n p fault e number place is = subst (λ (f : Finding). IsFileFault bytes f.0 f.1) (told_finding bytes reply n number p place e is) fault

late_is_no_source : (reply : Reply) (number : ℕ) (place : Span) → is_told_late reply.fault ≡ true → reply.fault ≡ faults.Source number place → ⊥
late_is_no_source reply number place late is = false≢true (sym (ap is_told_late is) ∙ late)

typed_known : (Says : List TypedProcedure → Reply → Type 0) (bytes : List ℕ) (reply : Reply) → ((ps : List TypedProcedure) → Says ps reply → IsKnownOf ps reply) → IsTypedReply Says bytes reply → IsKnownReply Front.typed bytes bytes reply
typed_known Says bytes reply known (IsTypedReply.by_fault n p fault e) = record {
  told = ap (λ (r : Reply). is_told r.fault) e;
  there = fault_there bytes reply n p fault e;
  static_told = λ clean unique file number place is first. static_line clean unique bytes reply n p fault e file number place is first;
  promised = λ some. absurd (no_message reply _ e some refl);
}
typed_known Says bytes reply known (IsTypedReply.by_file file is none says) =
    let k = known (resolved file) says in
    record {
      told = late_is_told reply.fault k.late;
      there = λ number place found. absurd (late_is_no_source reply number place k.late found);
      static_told = λ clean unique other number place also first. absurd (no_fault_is_none (number, place) (sym none ∙ (ap first_fault (same_file unique bytes file other is also) ∙ first)));
      promised = λ some. record { file = file; spelled = is; faultless = none; headline = k.promised some };
    }

-- ---- Commands that do not type their file

spelled_there : (bytes : List ℕ) (reply : Reply) (n : ℕ) (p : Span) → IsSourceFault bytes n p → reply ≡ source_fault bytes n p → (number : ℕ) (place : Span) → reply.fault ≡ faults.Source number place → IsSourceFault bytes number place
spelled_there bytes reply n p fault e number place is = subst (λ (f : Finding). IsSourceFault bytes f.0 f.1) (told_finding bytes reply n number p place e is) fault

print_known : (bytes : List ℕ) (reply : Reply) → IsSpelledReply (λ file r. r ≡ printed file) bytes reply → IsKnownReply Front.spelled bytes bytes reply
print_known bytes reply (IsSpelledReply.by_fault n p fault e) = record {
  told = ap (λ (r : Reply). is_told r.fault) e;
  there = spelled_there bytes reply n p fault e;
  static_told = tt;
  promised = λ some. absurd (no_message reply _ e some refl);
}
print_known bytes reply (IsSpelledReply.by_file file is e) = record {
  told = ap (λ (r : Reply). is_told r.fault) e;
  there = λ number place found. absurd (late_is_no_source reply number place (late_of reply (printed file) e refl) found);
  static_told = tt;
  promised = λ some. absurd (no_message reply (printed file) e some refl);
}

-- ---- Each command

report_known : (bytes : List ℕ) (ps : List TypedProcedure) (reply : Reply) → IsReport bytes ps reply → IsKnownOf ps reply
report_known bytes ps reply report = record { late = late_of reply _ report.is_reply refl; promised = λ some. report.headline }

certification_known : (ps : List TypedProcedure) (reply : Reply) → IsCertification ps reply → IsKnownOf ps reply
certification_known ps reply made = record { late = late_of reply _ made.is_reply refl; promised = λ some. made.headline }

check_known : (bytes text : List ℕ) (ps : List TypedProcedure) (reply : Reply) → IsCheckedReply bytes text ps reply → IsKnownOf ps reply
check_known bytes text ps reply (by_line line fault e) = message_known ps reply _ e refl refl
check_known bytes text ps reply (by_certificates report) = record { late = late_of reply _ report.is_reply refl; promised = λ some. report.headline }

unrolled_known : (ps : List TypedProcedure) (reply : Reply) (u : Unrolled) → reply ≡ run_reply u → IsKnownOf ps reply
unrolled_known ps reply (answers.Sums sums) e = message_known ps reply _ e refl refl
unrolled_known ps reply (answers.Full step) e = message_known ps reply _ e refl refl
unrolled_known ps reply (answers.Deep step) e = message_known ps reply _ e refl refl
unrolled_known ps reply (answers.Bits step) e = message_known ps reply _ e refl refl

run_known : (name script : List ℕ) (ps : List TypedProcedure) (reply : Reply) → IsRunOf name script ps reply → IsKnownOf ps reply
run_known name script ps reply (by_script line fault e) = message_known ps reply _ e refl refl
run_known name script ps reply (by_name s read none e) = message_known ps reply _ e refl refl
run_known name script ps reply (by_program s read p named q found e) = message_known ps reply _ e refl refl
run_known name script ps reply (by_run s read p named reach tells) = unrolled_known ps reply tells.answer tells.told

omega_said : (ps : List TypedProcedure) (reply : Reply) (answer : OmegaAnswer) (text : List ℕ) → reply ≡ omega_reply answer text → IsKnownOf ps reply
omega_said ps reply omega_answers.Holds text e = message_known ps reply _ e refl refl
omega_said ps reply (omega_answers.Fails step s) text e = message_known ps reply _ e refl refl
omega_said ps reply (omega_answers.Unknown step cause) text e = message_known ps reply _ e refl refl
omega_said ps reply omega_answers.Shape text e = message_known ps reply _ e refl refl

omega_known : (procedure name bytes : List ℕ) (ps : List TypedProcedure) (reply : Reply) → IsOmegaOf procedure name bytes ps reply → IsKnownOf ps reply
omega_known procedure name bytes ps reply (IsOmegaOf.by_name missing e) = message_known ps reply _ e refl refl
omega_known procedure name bytes ps reply (IsOmegaOf.by_pair p q first second tells) = omega_said ps reply tells.answer tells.text tells.told

remainder_said : (ps : List TypedProcedure) (reply : Reply) (answer : RemainderAnswer) (text : List ℕ) → reply ≡ remainder_reply answer text → IsKnownOf ps reply
remainder_said ps reply (remainder_answers.Holds step) text e = message_known ps reply _ e refl refl
remainder_said ps reply (remainder_answers.Fails s) text e = message_known ps reply _ e refl refl
remainder_said ps reply remainder_answers.NotVerified text e = message_known ps reply _ e refl refl
remainder_said ps reply remainder_answers.NotRanked text e = message_known ps reply _ e refl refl
remainder_said ps reply (remainder_answers.Unknown cause) text e = message_known ps reply _ e refl refl
remainder_said ps reply remainder_answers.Shape text e = message_known ps reply _ e refl refl

remainder_known : (procedure name bytes : List ℕ) (ps : List TypedProcedure) (reply : Reply) → IsRemainderOf procedure name bytes ps reply → IsKnownOf ps reply
remainder_known procedure name bytes ps reply (IsRemainderOf.by_name missing e) = message_known ps reply _ e refl refl
remainder_known procedure name bytes ps reply (IsRemainderOf.by_pair p q first second tells) = remainder_said ps reply tells.answer tells.text tells.told

stopped_late : (stopped : Unrolled) → is_told_late (run_reply stopped).fault ≡ true
stopped_late (answers.Sums sums) = refl
stopped_late (answers.Full step) = refl
stopped_late (answers.Deep step) = refl
stopped_late (answers.Bits step) = refl

refuted_late : (name : List ℕ) (steps : ℕ) (said : List Answer) (answer : Refuted) → is_told_late (refuted_reply name steps said answer).fault ≡ true
refuted_late name steps said (Violation step sum bound) = refl
refuted_late name steps said (Within sum bound) = refl
refuted_late name steps said (Stopped step stopped) = stopped_late stopped

refute_known : (name script : List ℕ) (ps : List TypedProcedure) (reply : Reply) → IsRefuteOf name script ps reply → IsKnownOf ps reply
refute_known name script ps reply (IsRefuteOf.by_script line fault e) = message_known ps reply _ e refl refl
refute_known name script ps reply (IsRefuteOf.by_name s read none e) = message_known ps reply _ e refl refl
refute_known name script ps reply (IsRefuteOf.by_shape s read p named upper e) = message_known ps reply _ e refl refl
refute_known name script ps reply (IsRefuteOf.by_program s read p named upper q found e) = message_known ps reply _ e refl refl
refute_known name script ps reply (IsRefuteOf.by_search s read p named upper reach tells) =
    record { late = late_of reply _ tells.told (refuted_late _ s.steps reply.answers tells.answer); promised = λ some. tells.headline }

-- ---- A command that reads no HeyVL

pgcl_known : (bytes : List ℕ) (reply : Reply) → IsPgclReply bytes reply → IsKnownReply Front.other bytes bytes reply
pgcl_known bytes reply (IsPgclReply.by_fault n p fault e) = record {
  told = ap (λ (r : Reply). is_told r.fault) e;
  there = λ number place found. tt;
  static_told = tt;
  promised = λ some. absurd (no_message reply _ e some refl);
}
pgcl_known bytes reply (IsPgclReply.by_file file is e) = record {
  told = ap (λ (r : Reply). is_told r.fault) e;
  there = λ number place found. tt;
  static_told = tt;
  promised = λ some. absurd (no_message reply (printed file) e some refl);
}

gen_known : (n : ℕ) (bytes : List ℕ) (reply : Reply) → IsGenReply n reply → IsKnownReply Front.other bytes (generated_text n) reply
gen_known n bytes reply is =
    let s = is.summary in
    record {
      told = ap (λ (r : Reply). is_told r.fault) is.is_reply;
      there = λ number place found. absurd (late_is_no_source reply number place (late_of reply (answered reply.answers is.text) is.is_reply refl) found);
      static_told = tt;
      promised = λ some. record { file = s.file; spelled = s.spelled; faultless = s.faultless; headline = s.headline };
    }

pub reply_known : (settings : Settings) (bytes second : List ℕ) (reply : Reply) → IsReplyTo settings bytes second reply → IsKnownReply (row_of settings).front bytes (verified_text settings bytes) reply
reply_known (Verify file) bytes second reply said = typed_known (IsReport bytes) bytes reply (λ ps. report_known bytes ps reply) said
reply_known (Print file) bytes second reply said = print_known bytes reply said
reply_known (Run file procedure script) bytes second reply said = typed_known (IsRunOf procedure second) bytes reply (λ ps. run_known procedure second ps reply) said
reply_known (Certify file) bytes second reply said = typed_known IsCertification bytes reply (λ ps. certification_known ps reply) said
reply_known (Check file certificates) bytes second reply said = typed_known (IsCheckedReply bytes second) bytes reply (λ ps. check_known bytes second ps reply) said
reply_known (Gen n) bytes second reply said = gen_known n bytes reply said
reply_known (Pgcl file) bytes second reply said = pgcl_known bytes reply said
reply_known (Omega file procedure name) bytes second reply said = typed_known (IsOmegaOf procedure name bytes) bytes reply (λ ps. omega_known procedure name bytes ps reply) said
reply_known (Remainder file procedure name) bytes second reply said = typed_known (IsRemainderOf procedure name bytes) bytes reply (λ ps. remainder_known procedure name bytes ps reply) said
reply_known (Refute file procedure script) bytes second reply said = typed_known (IsRefuteOf procedure second) bytes reply (λ ps. refute_known procedure second ps reply) said
