-- The number of names of a source that are started.
use Rattle.heyvl_io.specs.Order.{Order, first, order_after, other}
use Rattle.heyvl_io.specs.OrderLaws.{NextNameCounts}
use Rattle.tool_laws.proofs.CommandReplies.{is_told, reply_known}
use Rattle.tool_laws.specs.Calls.IsReadReply.{by_bytes, by_length, by_source}
use Rattle.tool_laws.specs.Calls.{Call, IsFilesReply, IsReadReply, IsSaid, Moment, Names}
use Rattle.command_rules.specs.Messages.{Reply}
use Rattle.tool_laws.specs.Outcomes.HasCause.{by_command, by_words}
use Rattle.tool_laws.specs.Outcomes.{HasCause, IsAnswered, IsCut, IsOutOfMemory, IsWritten, Writing}
use Rattle.tool_laws.specs.SourceUses.{IsReadInTurn, IsStartedRight, IsUntouched}
use Rattle.tool_laws.specs.StartLaws.{AreFirst, HasNamesOf, StartsAreCounted, starts_of}
use Rattle.command_words.specs.Words.{AskFor}
use Rattle.command_rules.specs.commands.{IsReplyTo}
use Rattle.command_words.specs.Requests.{Files, files_of}
use Rattle.command_rules.specs.declared.faults.Fault.TheVariants as faults
use Rattle.command_rules.specs.declared.faults.Fault.{Fault}
use Rattle.tool_laws.specs.declared.outcomes.Outcome.{Outcome}
use Rattle.command_words.specs.declared.requests.Settings.{Settings}
use Rattle.std.proofs.Common.{IfSome, List, Some, ap, inl, inr, subst, sym, true, ◌∙◌, ◌≡◌, ◌⊎◌, ℕ}
use Rattle.std.proofs.lemmas.Bool.{false≢true}
use Rattle.std.specs.Prelude.{slice_get}

first_not_other : (k : ℕ) (o : Order) → o ≡ first k → o ≡ other → ⊥
first_not_other k o e f = let no : first k ≡ other = sym e ∙ f in cc

-- ---- The order of starts

file_first : NextNameCounts → (names : Names) (file : List ℕ) (before after : Moment) → before.order ≡ first 0 → slice_get names.order 0 ≡ Some file → after.order ≡ order_after names.order file before.order → after.order ≡ first 1
file_first next names file before after fresh is started = started ∙ (ap (order_after names.order file) fresh ∙ next names.order 0 file is)

second_next : NextNameCounts → (names : Names) (name : List ℕ) (o p : Order) → o ≡ first 1 → slice_get names.order 1 ≡ Some name → p ≡ order_after names.order name o → p ≡ first 2
second_next next names name o p one is started = started ∙ (ap (order_after names.order name) one ∙ next names.order 1 name is)

-- ---- Nothing else is started

untouched_ends : (before after : Moment) → before.order ≡ first 0 → IsUntouched before after → after.order ≡ other → ⊥
untouched_ends before after fresh untouched = first_not_other 0 after.order (untouched.order ∙ fresh)

turn_ends : NextNameCounts → (files : Files) (names : Names) (before after : Moment) → before.order ≡ first 0 → AreFirst files names.order → IsReadInTurn files names before after → after.order ≡ other → ⊥
turn_ends next Files.none names before after fresh are untouched = untouched_ends before after fresh untouched
turn_ends next (Files.one file) names before after fresh is started = first_not_other 1 after.order (file_first next names file before after fresh is started.order)
turn_ends next (Files.two file second) names before after fresh are (inl started) = first_not_other 1 after.order (file_first next names file before after fresh are.0 started.order)
turn_ends next (Files.two file second) names before after fresh are (inr (between, started, after_it)) =
    first_not_other 2 after.order (second_next next names second between.order after.order (file_first next names file before between fresh are.0 started.order) are.1 after_it.order)

asked_ends : NextNameCounts → (made : Call) (NoMemory : Type 0) (settings : Settings) → HasNamesOf made → AskFor made.words settings
    → IsReadInTurn (files_of settings) made.names made.before made.after ⊎ (NoMemory × IsUntouched made.before made.after) → made.after.order ≡ other → ⊥
asked_ends next made NoMemory settings has asks (inl turn) = turn_ends next (files_of settings) made.names made.before made.after has.fresh (has.files settings asks) turn
asked_ends next made NoMemory settings has asks (inr out) = untouched_ends made.before made.after has.fresh out.1

never_other : NextNameCounts → (made : Call) (NoMemory : Type 0) → HasNamesOf made → IsStartedRight made NoMemory → made.after.order ≡ other → ⊥
never_other next made NoMemory has right e = untouched_ends made.before made.after has.fresh (right.no_start (λ settings asks. asked_ends next made NoMemory settings has asks (right.start settings asks) e)) e

-- ---- Nothing is started without files

turn_without_files : (files : Files) (names : Names) (before after : Moment) → files ≡ Files.none → before.order ≡ first 0 → IsReadInTurn files names before after → after.order ≡ first 0
turn_without_files files names before after none fresh turn =
    let untouched : IsUntouched before after = subst (λ (f : Files). IsReadInTurn f names before after) none turn in
    untouched.order ∙ fresh

none_without_files : (made : Call) (NoMemory : Type 0) → HasNamesOf made → IsStartedRight made NoMemory → (settings : Settings) → AskFor made.words settings → files_of settings ≡ Files.none → made.after.order ≡ first 0
none_without_files made NoMemory has right settings asks none = by (right.start settings asks)
  where
    by : IsReadInTurn (files_of settings) made.names made.before made.after ⊎ (NoMemory × IsUntouched made.before made.after) → made.after.order ≡ first 0
    by (inl turn) = turn_without_files (files_of settings) made.names made.before made.after none has.fresh turn
    by (inr out) = out.1.order ∙ has.fresh

-- ---- The fault and the number of starts

abbrev TellsFault : Fault → Moment → Type 0
TellsFault fault after = IfSome (starts_of fault) (λ n. after.order ≡ first n)

told_by : (reply said : Reply) (after : Moment) → reply ≡ said → TellsFault said.fault after → TellsFault reply.fault after
told_by reply said after e = subst (λ (f : Fault). TellsFault f after) (sym (ap (λ (r : Reply). r.fault) e))

told_tells_none : (f : Fault) (after : Moment) → is_told f ≡ true → TellsFault f after
told_tells_none faults.Nothing after e = tt
told_tells_none faults.Usage after e = absurd (false≢true e)
told_tells_none (faults.Read k) after e = absurd (false≢true e)
told_tells_none (faults.TooLong k) after e = absurd (false≢true e)
told_tells_none (faults.Source number place) after e = tt
told_tells_none (faults.Cert line) after e = tt
told_tells_none (faults.Script line) after e = tt
told_tells_none faults.NoProcedure after e = tt
told_tells_none faults.Shape after e = tt
told_tells_none (faults.NotProgram p) after e = tt
told_tells_none (faults.Run stopped) after e = tt
told_tells_none faults.Write after e = tt
told_tells_none faults.Memory after e = tt

reply_tells_none : (settings : Settings) (bytes second : List ℕ) (reply : Reply) (after : Moment) → IsReplyTo settings bytes second reply → TellsFault reply.fault after
reply_tells_none settings bytes second reply after said = let k = reply_known settings bytes second reply said in told_tells_none reply.fault after k.told

second_tells : NextNameCounts → (settings : Settings) (names : Names) (second bytes : List ℕ) (between after : Moment) (reply : Reply) → between.order ≡ first 1 → slice_get names.order 1 ≡ Some second
    → IsReadReply 1 names second (λ text now r. IsSaid (IsReplyTo settings bytes text) now after r) between after reply → TellsFault reply.fault after
second_tells next settings names second bytes between after reply one is (by_source started rose e) = told_by reply _ after e (second_next next names second between.order after.order one is started.order)
second_tells next settings names second bytes between after reply one is (by_length long e) = told_by reply _ after e (second_next next names second between.order after.order one is long.order)
second_tells next settings names second bytes between after reply one is (by_bytes now text read rest) = reply_tells_none settings bytes text reply after rest.1

reading_tells : NextNameCounts → (settings : Settings) (files : Files) (names : Names) (before after : Moment) (reply : Reply) → before.order ≡ first 0 → AreFirst files names.order
    → IsFilesReply files (IsReplyTo settings) names before after reply → TellsFault reply.fault after
reading_tells next settings Files.none names before after reply fresh are at_once = reply_tells_none settings _ _ reply after at_once.1
reading_tells next settings (Files.one file) names before after reply fresh is (by_source started rose e) = told_by reply _ after e (file_first next names file before after fresh is started.order)
reading_tells next settings (Files.one file) names before after reply fresh is (by_length long e) = told_by reply _ after e (file_first next names file before after fresh is long.order)
reading_tells next settings (Files.one file) names before after reply fresh is (by_bytes now bytes read rest) = reply_tells_none settings bytes _ reply after rest.1
reading_tells next settings (Files.two file second) names before after reply fresh are (by_source started rose e) = told_by reply _ after e (file_first next names file before after fresh are.0 started.order)
reading_tells next settings (Files.two file second) names before after reply fresh are (by_length long e) = told_by reply _ after e (file_first next names file before after fresh are.0 long.order)
reading_tells next settings (Files.two file second) names before after reply fresh are (by_bytes between bytes read rest) =
    second_tells next settings names second bytes between after reply (file_first next names file before between fresh are.0 read.order) are.1 rest

cause_tells : NextNameCounts → (made : Call) (NoMemory : Type 0) (reply : Reply) → HasNamesOf made → IsStartedRight made NoMemory → HasCause made reply → TellsFault reply.fault made.after
cause_tells next made NoMemory reply has right (by_words usage e) = told_by reply _ made.after e (let untouched = right.no_start usage in untouched.order ∙ has.fresh)
cause_tells next made NoMemory reply has right (by_command settings asks read) = reading_tells next settings (files_of settings) made.names made.before made.after reply has.fresh (has.files settings asks) read

delivered_tells : (reply : Reply) (done : Writing) (outcome : Outcome) (after : Moment) → TellsFault reply.fault after → IsWritten reply done outcome ⊎ IsCut reply done outcome → TellsFault outcome.fault after
delivered_tells reply done outcome after tells (inl written) = subst (λ (f : Fault). TellsFault f after) (sym written.fault) tells
delivered_tells reply done outcome after tells (inr cut) = subst (λ (f : Fault). TellsFault f after) (sym cut.fault) tt

outcome_tells : NextNameCounts → (made : Call) (done : Writing) (outcome : Outcome) → HasNamesOf made → IsStartedRight made (outcome.fault ≡ faults.Memory) → IsAnswered made done outcome ⊎ IsOutOfMemory done outcome → TellsFault outcome.fault made.after
outcome_tells next made done outcome has right (inl answered) =
    delivered_tells answered.reply done outcome made.after (cause_tells next made (outcome.fault ≡ faults.Memory) answered.reply has right answered.cause) answered.is_delivered.delivered
outcome_tells next made done outcome has right (inr out) = subst (λ (f : Fault). TellsFault f made.after) (sym out.fault) tt

pub counted : NextNameCounts → StartsAreCounted
counted next made done outcome has right answered = (outcome_tells next made done outcome has right answered, (never_other next made (outcome.fault ≡ faults.Memory) has right, none_without_files made (outcome.fault ≡ faults.Memory) has right))
