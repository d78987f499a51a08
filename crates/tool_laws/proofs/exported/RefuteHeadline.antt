-- The meaning of the violations of `refute`, from the reply of a call.
use Rattle.heylo_formula.specs.declared.values.Val.{Val}
use Rattle.heyvl_acts.specs.Acts.{TypedProcedure, procedure_at}
use Rattle.heyvl_num.specs.ExtendedNumbers.{value_of}
use Rattle.heyvl_num.specs.Value.{Value}
use Rattle.tool_laws.proofs.exported.CallLemmas.{came_to}
use Rattle.tool_laws.proofs.LowStatuses.{SaidTyped, came_low, status_is, written_low}
use Rattle.tool_laws.specs.Calls.{Call}
use Rattle.command_rules.specs.Messages.{Reply}
use Rattle.tool_laws.specs.Outcomes.{HasCause, IsDelivered, IsWritten, Writing}
use Rattle.tool_laws.specs.Refutations.{BrokenBoundsAreNeverVerified, IsRefutedFrom, ViolationsAreMeant}
use Rattle.command_rules.specs.RunStarts.{known_at}
use Rattle.command_rules.specs.commands.Refute.IsRefuteOf.{by_name, by_program, by_script, by_search, by_shape}
use Rattle.command_rules.specs.commands.Refute.{IsRefuteOf, refute_start, refuted_reply, violated}
use Rattle.command_rules.specs.commands.Run.{run_reply}
use Rattle.command_words.specs.Requests.{Files}
use Rattle.tool_laws.specs.declared.outcomes.Outcome.{Outcome}
use Rattle.command_words.specs.declared.requests.Settings.TheVariants.{Refute}
use Rattle.static_rules.specs.Files.{resolved}
use Rattle.refute_runs.specs.RefutedAnswers.{IsRefutedAnswer}
use Rattle.refute_runs.specs.ScriptedSums.{AreOfRuns}
use Rattle.refute_runs.specs.Violations.{IsViolation, NumbersAreOfRuns, ViolationIsOfRuns}
use Rattle.refute_runs.specs.declared.answers.Refuted.TheVariants.{Stopped, Violation, Within}
use Rattle.refute_runs.specs.declared.answers.Refuted.{Refuted}
use Rattle.run_script.specs.Scripts.{Script, Spells}
use Rattle.run_script.specs.Starts.{known_of}
use Rattle.run_unroller.specs.declared.answers.Unrolled.TheVariants as answers
use Rattle.run_unroller.specs.declared.answers.Unrolled.{Unrolled}
use Rattle.std.proofs.Common.{List, Option, Some, ap, arith, subst, sym, ◌∙◌, ◌≡◌, ◌≤◌, ℕ}
use Rattle.verdict_report.specs.declared.answers.Answer.{Answer}

low : (n : ℕ) → n ≡ 1 → n ≤ 2
low n e = omega (arith, e)

stopped_status : (stopped : Unrolled) → (run_reply stopped).status ≡ 1 → ⊥
stopped_status (answers.Sums sums) e = omega (arith, e)
stopped_status (answers.Full step) e = omega (arith, e)
stopped_status (answers.Deep step) e = omega (arith, e)
stopped_status (answers.Bits step) e = omega (arith, e)

-- A violation in these procedures, with its step and its numbers.
record Violated (ps : List TypedProcedure) (p : ℕ) (s : Script) (start : List Val) (said : List Answer) (reply : Reply) : Type 0 where
  step : ℕ
  few : step ≤ s.steps
  violation : IsViolation ps p start s.decisions step
  sum : Value
  bound : Value
  numbers : AreOfRuns ps p start s.decisions step sum bound
  told : reply ≡ violated (procedure_at ps p).name step sum bound said

violated_by : (ps : List TypedProcedure) (p : ℕ) (s : Script) (start : List Val) (said : List Answer) (reply : Reply) (answer : Refuted) → IsRefutedAnswer ps p start s.decisions s.steps answer → ViolationIsOfRuns ps p start s.decisions answer
    → NumbersAreOfRuns ps p start s.decisions s.steps answer → reply ≡ refuted_reply (procedure_at ps p).name s.steps said answer → reply.status ≡ 1 → Violated ps p s start said reply
violated_by ps p s start said reply (Violation step sum bound) is violation numbers e one =
    let may = is.may in
    record { step = step; few = may.steps; violation = violation; sum = value_of sum; bound = value_of bound; numbers = numbers; told = e }
violated_by ps p s start said reply (Within sum bound) is violation numbers e one = let no : 0 ≡ 1 = status_is reply _ 1 e one in absurd (omega (arith, no))
violated_by ps p s start said reply (Stopped step stopped) is violation numbers e one = absurd (stopped_status stopped (status_is reply _ 1 e one))

refuted_by : BrokenBoundsAreNeverVerified → (name procedure script : List ℕ) (made : Call) (done : Writing) (outcome : Outcome) (reply : Reply) → reply.status ≡ 1 → IsWritten reply done outcome → outcome.answers.items ≡ reply.answers
    → (f : SaidTyped (λ bytes text. IsRefuteOf procedure text) (Files.two name script) made reply) → IsRefuteOf procedure f.text (resolved f.file) reply → IsRefutedFrom name procedure script made done outcome
refuted_by never name procedure script made done outcome reply one written same f (by_script line fault e) = let no : 3 ≡ 1 = status_is reply _ 1 e one in absurd (omega (arith, no))
refuted_by never name procedure script made done outcome reply one written same f (by_name s read none e) = let no : 3 ≡ 1 = status_is reply _ 1 e one in absurd (omega (arith, no))
refuted_by never name procedure script made done outcome reply one written same f (by_shape s read p named upper e) = let no : 3 ≡ 1 = status_is reply _ 1 e one in absurd (omega (arith, no))
refuted_by never name procedure script made done outcome reply one written same f (by_program s read p named upper q first e) = let no : 3 ≡ 1 = status_is reply _ 1 e one in absurd (omega (arith, no))
refuted_by never name procedure script made done outcome reply one written same f (by_search s read p named upper programs tells) =
    let ps = resolved f.file in
    let known : Spells (Some (known_of (procedure_at (resolved f.file) p))) s f.text = subst (λ (found : Option ℕ). Spells (known_at (resolved f.file) found) s f.text) named read in
    let v : Violated (resolved f.file) p s (refute_start (resolved f.file) p s reply.answers) reply.answers reply = violated_by (resolved f.file) p s (refute_start (resolved f.file) p s reply.answers) reply.answers reply tells.answer tells.is_answer tells.violation tells.numbers tells.told one in
    let violation = v.violation in
    record {
      bytes = f.bytes;
      text = f.text;
      read = f.read;
      file = f.file;
      spelled = f.spelled;
      faultless = f.faultless;
      number = p;
      named = named;
      programs = programs;
      said = s;
      spells = known;
      start = refute_start (resolved f.file) p s reply.answers;
      starts = ap (refute_start (resolved f.file) p s) (sym same);
      step = v.step;
      few = v.few;
      violation = v.violation;
      sum = v.sum;
      bound = v.bound;
      numbers = v.numbers;
      no_bound = λ other alike. violation.refutes (resolved other) alike;
      unverified = λ other alike none. never other p none (violation.refutes (resolved other) alike);
      written = subst (λ (r : Reply). IsWritten r done outcome) (v.told ∙ ap (violated (procedure_at (resolved f.file) p).name v.step v.sum v.bound) (sym same)) written;
    }

pub violations_meant : BrokenBoundsAreNeverVerified → (made : Call) (done : Writing) (outcome : Outcome) (reply : Reply) → HasCause made reply → IsDelivered reply done outcome → ViolationsAreMeant made done outcome
violations_meant never made done outcome reply cause delivered name procedure script asks is_one =
    let written = written_low reply done outcome (low outcome.status is_one) delivered.delivered in
    let one = sym written.status ∙ is_one in
    let f = came_low (λ bytes text. IsRefuteOf procedure text) (Refute name procedure script) (Files.two name script) made reply (λ bytes text told. told) (low reply.status one) (came_to (Refute name procedure script) made reply asks cause) in
    refuted_by never name procedure script made done outcome reply one written delivered.answers f f.says
