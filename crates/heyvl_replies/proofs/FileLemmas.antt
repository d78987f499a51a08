-- Replies to the bytes of a file, from the results of the parts of a command.
use Rattle.heyvl_acts.specs.Acts.{TypedProcedure}
use Rattle.heyvl_acts.specs.PlainActs.{procedures_of}
use Rattle.heyvl_acts.specs.declared.typed_trees.Typed.{Typed}
use Rattle.heyvl_syntax.specs.Procedures.{Procedure}
use Rattle.heyvl_syntax.specs.SourceFaults.{IsSource}
use Rattle.command_rules.specs.FileReplies.{IsSpelledReply, IsTypedReply}
use Rattle.command_rules.specs.Messages.{Reply}
use Rattle.command_rules.specs.Responses.{reply_of}
use Rattle.command_rules.specs.declared.responses.Response.{Response}
use Rattle.spelled_files.specs.declared.stops.SourceStop.TheVariants.{Fault, Memory}
use Rattle.spelled_files.specs.declared.stops.SourceStop.{SourceStop}
use Rattle.spelled_files.specs.Sources.{IsSourceStop, IsSpellingStop, IsTypedSource}
use Rattle.command_rules.specs.Refusals.{IsRefusal}
use Rattle.std.proofs.Common.{Err, IfOk, List, Ok, Result, subst, ℕ}
use Rattle.std.specs.declared.alloc.AllocError.{AllocError}

-- ---- Commands that type their file

pub typed_said : (Says : List TypedProcedure → Reply → Type 0) (bytes : List ℕ) (typed : Typed) (r : Result Response AllocError) → IsTypedSource bytes typed
    → IfOk r (λ x. Says (procedures_of typed) (reply_of x)) → IfOk r (λ x. IsTypedReply Says bytes (reply_of x))
typed_said Says bytes typed (Ok x) is said = IsTypedReply.by_file is.file is.spelled is.faultless (subst (λ (ps : List TypedProcedure). Says ps (reply_of x)) is.same said)
typed_said Says bytes typed (Err e) is said = tt

pub typed_refused : (Says : List TypedProcedure → Reply → Type 0) (bytes : List ℕ) (stop : SourceStop) (r : Result Response AllocError) → IsSourceStop bytes stop
    → IfOk r (λ x. IsRefusal bytes stop (reply_of x)) → IfOk r (λ x. IsTypedReply Says bytes (reply_of x))
typed_refused Says bytes (Fault number place) (Ok x) is said = IsTypedReply.by_fault number place is said
typed_refused Says bytes (Memory error) (Ok x) is said = absurd said
typed_refused Says bytes stop (Err e) is said = tt

-- ---- Commands that do not type their file

pub spelled_said : (Says : List Procedure → Reply → Type 0) (bytes : List ℕ) (file : List Procedure) (r : Result Response AllocError) → IsSource bytes file
    → IfOk r (λ x. Says file (reply_of x)) → IfOk r (λ x. IsSpelledReply Says bytes (reply_of x))
spelled_said Says bytes file (Ok x) is said = IsSpelledReply.by_file file is said
spelled_said Says bytes file (Err e) is said = tt

pub spelled_refused : (Says : List Procedure → Reply → Type 0) (bytes : List ℕ) (stop : SourceStop) (r : Result Response AllocError) → IsSpellingStop bytes stop
    → IfOk r (λ x. IsRefusal bytes stop (reply_of x)) → IfOk r (λ x. IsSpelledReply Says bytes (reply_of x))
spelled_refused Says bytes (Fault number place) (Ok x) is said = IsSpelledReply.by_fault number place is said
spelled_refused Says bytes (Memory error) (Ok x) is said = absurd said
spelled_refused Says bytes stop (Err e) is said = tt
