-- The meaning of the numbers of `run`, from the reply of a call.
use Rattle.heyvl_acts.specs.Acts.{TypedProcedure, procedure_at}
use Rattle.heyvl_acts.specs.Rules.{Each, MeetsRules}
use Rattle.heyvl_places.specs.declared.spans.Span.{Span}
use Rattle.heyvl_syntax.specs.Procedures.{Procedure}
use Rattle.heyvl_syntax.specs.SourceFaults.{IsSource}
use Rattle.tool_laws.proofs.exported.CallLemmas.CameTo.{failed, said, too_long}
use Rattle.tool_laws.proofs.exported.CallLemmas.{CameTo, came_to}
use Rattle.tool_laws.specs.Calls.{Call}
use Rattle.command_rules.specs.FileReplies.IsTypedReply.{by_fault, by_file}
use Rattle.tool_laws.specs.Headline.{IsSummedFrom, SumsAreMeant, scripted_runs}
use Rattle.command_rules.specs.Messages.{Reply, message}
use Rattle.tool_laws.specs.Outcomes.{HasCause, IsCut, IsDelivered, IsWritten, Writing}
use Rattle.command_rules.specs.RunStarts.{known_at, procedure_named}
use Rattle.run_script.proofs.exported.StartStates.{start_typed}
use Rattle.run_script.specs.Scripts.{Script, Spells}
use Rattle.run_script.specs.Starts.{known_of, start_state}
use Rattle.run_script.specs.Texts.{sums_text}
use Rattle.command_rules.specs.commands.Run.IsRunOf.{by_name, by_program, by_run, by_script}
use Rattle.command_rules.specs.commands.Run.{IsRunOf, IsRunReply, run_reply, runs_by}
use Rattle.command_words.specs.Requests.{Files}
use Rattle.command_rules.specs.declared.faults.Fault.TheVariants as faults
use Rattle.command_rules.specs.declared.faults.Fault.{Fault}
use Rattle.tool_laws.specs.declared.outcomes.Outcome.{Outcome}
use Rattle.command_words.specs.declared.requests.Settings.TheVariants.{Run}
use Rattle.static_rules.specs.Files.{file_findings, first_fault, resolved}
use Rattle.typed_expressions.specs.Findings.{Finding, first}
use Rattle.resolved_laws.specs.ResolvedLaws.{ResolvedProceduresMeetRules}
use Rattle.run_machine.specs.ConfigConditions.{ReachesPrograms}
use Rattle.run_unroller.specs.Totals.{Totals}
use Rattle.run_unroller.specs.UnrollLaws.{AreSums, UnrolledSumsAreMeant}
use Rattle.run_unroller.specs.Unrolling.{Unrolling, totals_of, unrolling_of}
use Rattle.run_unroller.specs.declared.answers.Unrolled.TheVariants as answers
use Rattle.run_unroller.specs.declared.answers.Unrolled.{Unrolled}
use Rattle.std.proofs.Common.{List, None, Option, Some, [], ap, inl, inr, refl, subst, sym, ◌∙◌, ◌∷◌, ◌≡◌, ◌⊎◌, ℕ}

-- ---- Every other reply has a fault

pub fault_is : (reply other : Reply) (f : Fault) → reply ≡ other → reply.fault ≡ f → other.fault ≡ f
fault_is reply other f e h = sym (ap (λ (r : Reply). r.fault) e) ∙ h

pub no_read : (k : ℕ) → faults.Read k ≡ faults.Nothing → ⊥
no_read k e = cc

pub not_long : (k : ℕ) → faults.TooLong k ≡ faults.Nothing → ⊥
not_long k e = cc

pub no_source : (number : ℕ) (place : Span) → faults.Source number place ≡ faults.Nothing → ⊥
no_source number place e = cc

no_script : (line : ℕ) → faults.Script line ≡ faults.Nothing → ⊥
no_script line e = cc

no_name : faults.NoProcedure ≡ faults.Nothing → ⊥
no_name e = cc

no_program : (p : ℕ) → faults.NotProgram p ≡ faults.Nothing → ⊥
no_program p e = cc

no_stop : (stopped : Unrolled) → faults.Run stopped ≡ faults.Nothing → ⊥
no_stop stopped e = cc

no_write : faults.Write ≡ faults.Nothing → ⊥
no_write e = cc

-- ---- The result of a run

-- The sums of a run that was not stopped.
record Told (ps : List TypedProcedure) (p : ℕ) (s : Script) (reply : Reply) : Type 0 where
  numbers : Totals
  unrolls : runs_by ps p s ≡ Unrolling.sums numbers
  told : reply ≡ message faults.Nothing (sums_text numbers)

told_by : (ps : List TypedProcedure) (p : ℕ) (s : Script) (reply : Reply) (u : Unrolled) → unrolling_of u ≡ runs_by ps p s → reply ≡ run_reply u → reply.fault ≡ faults.Nothing → Told ps p s reply
told_by ps p s reply (answers.Sums sums) unrolls e finished = record { numbers = totals_of sums; unrolls = sym unrolls; told = e }
told_by ps p s reply (answers.Full step) unrolls e finished = absurd (no_stop (answers.Full step) (fault_is reply _ faults.Nothing e finished))
told_by ps p s reply (answers.Deep step) unrolls e finished = absurd (no_stop (answers.Deep step) (fault_is reply _ faults.Nothing e finished))
told_by ps p s reply (answers.Bits step) unrolls e finished = absurd (no_stop (answers.Bits step) (fault_is reply _ faults.Nothing e finished))

-- The sums for a procedure and a script in a file with these typed procedures.
record Summed (ps : List TypedProcedure) (procedure text : List ℕ) (reply : Reply) : Type 0 where
  number : ℕ
  named : procedure_named procedure ps ≡ Some number
  programs : ReachesPrograms ps number
  said : Script
  spells : Spells (Some (known_of (procedure_at ps number))) said text
  numbers : Totals
  sums : AreSums (procedure_at ps number) (scripted_runs ps number said said.steps) numbers
  told : reply ≡ message faults.Nothing (sums_text numbers)

run_summed : UnrolledSumsAreMeant → (ps : List TypedProcedure) → Each (MeetsRules ps) ps → (procedure text : List ℕ) (reply : Reply) → reply.fault ≡ faults.Nothing → IsRunOf procedure text ps reply → Summed ps procedure text reply
run_summed meant ps rules procedure text reply finished (by_script line fault e) = absurd (no_script line (fault_is reply _ faults.Nothing e finished))
run_summed meant ps rules procedure text reply finished (by_name s read none e) = absurd (no_name (fault_is reply _ faults.Nothing e finished))
run_summed meant ps rules procedure text reply finished (by_program s read p named q first e) = absurd (no_program q (fault_is reply _ faults.Nothing e finished))
run_summed meant ps rules procedure text reply finished (by_run s read p named programs tells) =
    let known : Spells (Some (known_of (procedure_at ps p))) s text = subst (λ (found : Option ℕ). Spells (known_at ps found) s text) named read in
    let t = told_by ps p s reply tells.answer tells.unrolls tells.told finished in
    record {
      number = p;
      named = named;
      programs = programs;
      said = s;
      spells = known;
      numbers = t.numbers;
      sums = meant ps p rules programs (start_state (procedure_at ps p) s.settings) (start_typed (procedure_at ps p) s.settings) s.decisions s.steps t.numbers t.unrolls;
      told = t.told;
    }

-- The file that the bytes spell, and the sums of its run.
record Spelled (procedure bytes text : List ℕ) (reply : Reply) : Type 0 where
  file : List Procedure
  spelled : IsSource bytes file
  faultless : first_fault file ≡ None
  summed : Summed (resolved file) procedure text reply

pub nothing_found : (xs : List Finding) → first xs ≡ None → xs ≡ []
nothing_found [] e = refl
nothing_found (x ∷ xs) e = absurd (cc)

replied_summed : UnrolledSumsAreMeant → ResolvedProceduresMeetRules → (procedure bytes text : List ℕ) (reply : Reply) → reply.fault ≡ faults.Nothing → IsRunReply procedure bytes text reply → Spelled procedure bytes text reply
replied_summed meant ruled procedure bytes text reply finished (by_fault number place fault e) = absurd (no_source number place (fault_is reply _ faults.Nothing e finished))
replied_summed meant ruled procedure bytes text reply finished (by_file file is none told) = record { file = file; spelled = is; faultless = none; summed = run_summed meant (resolved file) (ruled file (nothing_found (file_findings file) none)) procedure text reply finished told }

-- ---- The outcome of a call

-- If an outcome has no fault, it was written as a whole, and its reply has none.
pub written_whole : (reply : Reply) (done : Writing) (outcome : Outcome) → outcome.fault ≡ faults.Nothing → IsWritten reply done outcome ⊎ IsCut reply done outcome → IsWritten reply done outcome
written_whole reply done outcome finished (inl written) = written
written_whole reply done outcome finished (inr cut) = absurd (no_write (sym cut.fault ∙ finished))

from_came : UnrolledSumsAreMeant → ResolvedProceduresMeetRules → (name procedure script : List ℕ) (made : Call) (done : Writing) (outcome : Outcome) (reply : Reply) → outcome.fault ≡ faults.Nothing → IsWritten reply done outcome
    → CameTo (Run name procedure script) (Files.two name script) made reply → IsSummedFrom name procedure script made done outcome
from_came meant ruled name procedure script made done outcome reply finished written (failed k rose e) = absurd (no_read k (fault_is reply _ faults.Nothing e (sym written.fault ∙ finished)))
from_came meant ruled name procedure script made done outcome reply finished written (too_long k taken e) = absurd (not_long k (fault_is reply _ faults.Nothing e (sym written.fault ∙ finished)))
from_came meant ruled name procedure script made done outcome reply finished written (said bytes text read replied) =
    let f = replied_summed meant ruled procedure bytes text reply (sym written.fault ∙ finished) replied in
    let s = f.summed in
    record {
      bytes = bytes;
      text = text;
      read = read;
      file = f.file;
      spelled = f.spelled;
      faultless = f.faultless;
      number = s.number;
      named = s.named;
      programs = s.programs;
      said = s.said;
      spells = s.spells;
      numbers = s.numbers;
      sums = s.sums;
      written = subst (λ (r : Reply). IsWritten r done outcome) s.told written;
    }

pub sums_meant : UnrolledSumsAreMeant → ResolvedProceduresMeetRules → (made : Call) (done : Writing) (outcome : Outcome) (reply : Reply) → HasCause made reply → IsDelivered reply done outcome → SumsAreMeant made done outcome
sums_meant meant ruled made done outcome reply cause delivered name procedure script asks finished =
    from_came meant ruled name procedure script made done outcome reply finished (written_whole reply done outcome finished delivered.delivered) (came_to (Run name procedure script) made reply asks cause)
