-- Replies to a program of guarded commands, from the results of the parts of `pgcl`.
use Rattle.spelled_files.specs.Programs.{IsProgramFile, IsProgramStop, ProgramFaultIsUnique, ProgramFileIsUnique, ProgramFilesAreSpelled, ProgramFilesHaveNoFault}
use Rattle.spelled_files.specs.declared.stops.SourceStop.TheVariants.{Fault, Memory}
use Rattle.spelled_files.specs.declared.stops.SourceStop.{SourceStop}
use Rattle.heyvl_places.specs.declared.spans.Span.{Span}
use Rattle.heyvl_syntax.specs.Grammar.{Spells}
use Rattle.heyvl_syntax.specs.Procedures.{Procedure}
use Rattle.command_rules.specs.Messages.{Reply, source_fault}
use Rattle.command_rules.specs.Responses.{reply_of}
use Rattle.command_rules.specs.commands.Pgcl.IsPgclReply.{by_fault, by_file}
use Rattle.command_rules.specs.commands.Pgcl.{IsPgclReply, ProgramFaultsAreTold, ProgramsAreTranslated}
use Rattle.command_rules.specs.commands.Print.{printed}
use Rattle.command_rules.specs.declared.responses.Response.{Response}
use Rattle.command_rules.specs.Refusals.{IsRefusal}
use Rattle.std.proofs.Common.{Err, IfOk, List, Ok, Result, ap, subst, sym, ◌∙◌, ◌≡◌, ℕ}
use Rattle.std.specs.declared.alloc.AllocError.{AllocError}

pub program_said : (bytes : List ℕ) (file : List Procedure) (r : Result Response AllocError) → IsProgramFile bytes file → IfOk r (λ x. reply_of x ≡ printed file) → IfOk r (λ x. IsPgclReply bytes (reply_of x))
program_said bytes file (Ok x) is said = by_file file is said
program_said bytes file (Err e) is said = tt

pub program_refused : (bytes : List ℕ) (stop : SourceStop) (r : Result Response AllocError) → IsProgramStop bytes stop → IfOk r (λ x. IsRefusal bytes stop (reply_of x)) → IfOk r (λ x. IsPgclReply bytes (reply_of x))
program_refused bytes (Fault number place) (Ok x) is said = by_fault number place is said
program_refused bytes (Memory error) (Ok x) is said = absurd said
program_refused bytes stop (Err e) is said = tt

-- ---- One reply for each program

one_line : (bytes : List ℕ) (n m : ℕ) (p q : Span) → n ≡ m → p ≡ q → source_fault bytes n p ≡ source_fault bytes m q
one_line bytes n m p q e f = ap (λ k. source_fault bytes k p) e ∙ ap (λ s. source_fault bytes m s) f

module _ (one : ProgramFileIsUnique) (first : ProgramFaultIsUnique) (clean : ProgramFilesHaveNoFault) where
  is_printed : (bytes : List ℕ) (file : List Procedure) (reply : Reply) → IsProgramFile bytes file → IsPgclReply bytes reply → reply ≡ printed file
  is_printed bytes file reply is (by_fault n p fault e) = absurd (clean bytes file n p is fault)
  is_printed bytes file reply is (by_file other also e) = e ∙ ap printed (one bytes other file also is)

  pub translated : ProgramFilesAreSpelled → ProgramsAreTranslated
  translated spelled bytes file reply is said =
      let text = is_printed bytes file reply is said in
      let again = spelled bytes file is in
      (text, (again.0, subst (λ (bs : List ℕ). Spells bs again.0) (sym (ap (λ (r : Reply). r.output) text)) again.1, again.2))

  pub told : ProgramFaultsAreTold
  told bytes n p reply fault (by_fault m q other e) = let same = first bytes m n q p other fault in e ∙ one_line bytes m n q p same.0 same.1
  told bytes n p reply fault (by_file file is e) = absurd (clean bytes file n p is fault)
