-- Worked calls of `check a s`: the reply for each way in which reading may end, and that there is
-- no other reply.
use Rattle.heyvl_io.proofs.exported.Histories.{length-since_start}
use Rattle.heyvl_io.specs.Faults.{Rose}
use Rattle.heyvl_io.specs.History.{History, IsTaken, handed_out, since_start}
use Rattle.heyvl_io.specs.Order.{Order, first, order_after, other, untold}
use Rattle.heyvl_places.specs.declared.spans.Span.{Span}
use Rattle.heyvl_syntax.specs.SourceFaults.{IsSourceFault}
use Rattle.tool_laws.proofs.exported.CallLemmas.{same_settings}
use Rattle.tool_laws.specs.Calls.IsReadReply.{by_bytes, by_length, by_source}
use Rattle.spelled_files.specs.Sources.{file_limit}
use Rattle.tool_laws.specs.Calls.{Call, IsFilesReply, IsRead, IsReadReply, IsSaid, Moment, Names, call, file_too_long, moment, names_holding, read_fault}
use Rattle.spelled_files.specs.Sources.IsFileFault.{spelling}
use Rattle.command_rules.specs.FileReplies.IsTypedReply.{by_fault}
use Rattle.command_rules.specs.Messages.{Reply, source_fault}
use Rattle.tool_laws.specs.Outcomes.HasCause.{by_command, by_words}
use Rattle.tool_laws.specs.Outcomes.{HasCause, IsCut, IsDelivered, IsWritten, Writing, usage}
use Rattle.command_rules.specs.Statuses.{fault_status}
use Rattle.command_words.specs.Words.{AskFor, IsUsage}
use Rattle.command_words.specs.Forms.{usage_line}
use Rattle.command_rules.specs.commands.{IsReplyTo}
use Rattle.command_words.specs.Requests.{files_of}
use Rattle.command_rules.specs.declared.faults.Fault.TheVariants as faults
use Rattle.tool_laws.specs.declared.outcomes.Outcome.{Outcome}
use Rattle.command_words.specs.declared.requests.Settings.TheVariants.{Certify, Check, Gen, Omega, Pgcl, Print, Refute, Remainder, Run, Verify}
use Rattle.command_words.specs.declared.requests.Settings.{Settings}
use Rattle.run_unroller.specs.declared.answers.Unrolled.TheVariants.{Bits}
use Rattle.std.proofs.Common.{List, None, Option, Some, [], ap, arith, codes, inl, inr, length, refl, subst, sym, ◌+◌, ◌++◌, ◌∙◌, ◌∷◌, ◌≡◌, ◌≤◌, ◌⊎◌, ℕ}
use Rattle.std.specs.Prelude.{if◌then◌else◌}
use Rattle.std.specs.Str.{bytes_eq}

-- ---- The calls

abbrev pub file_name : List ℕ
file_name = codes "a"

abbrev pub second_name : List ℕ
second_name = codes "s"

abbrev pub asked : Settings
asked = Check file_name second_name

abbrev pub words : List (List ℕ)
words = codes "check" ∷ file_name ∷ second_name ∷ []

pub asks : AskFor words asked
asks = record { words_are = refl; arguments = refl; fits = refl }

-- A source with both names, in their order, and the bytes of each, if it reports them.
abbrev pub Told : Type 0
Told = List ℕ → Option (List ℕ)

abbrev pub source : Told → Names
source told = names_holding (file_name ∷ second_name ∷ []) told

abbrev pub silent : Told
silent name = None

-- `a` has four bytes, and `s` six.
abbrev pub telling : Told
telling name = if bytes_eq name file_name then Some (codes "proc") else (if bytes_eq name second_name then Some (codes "caesar") else None)

-- The source before the call, and the call that ends at `after`.
abbrev pub start : Moment
start = moment (first 0) [] 0

abbrev pub until : Told → Moment → Call
until told after = call words (source told) start after

-- The histories in which these bytes of FILE, or of both files, were read.
abbrev pub of_file : List ℕ → History
of_file bytes = handed_out file_name bytes ∷ []

abbrev pub of_both : List ℕ → List ℕ → History
of_both bytes text = handed_out file_name bytes ∷ (handed_out second_name text ∷ [])

-- ---- From a cause to the reply

-- The reply after FILE was read.
abbrev Rest : Told → Moment → List ℕ → Moment → Reply → Type 0
Rest told after bytes between reply = IsReadReply 1 (source told) second_name (λ text now r. IsSaid (IsReplyTo asked bytes text) now after r) between after reply

abbrev Answer : Told → Moment → Reply → Type 0
Answer told after reply = IsReadReply 0 (source told) file_name (Rest told after) start after reply

answer_of : (told : Told) (after : Moment) (reply : Reply) → HasCause (until told after) reply → Answer told after reply
answer_of told after reply (by_words refused e) = absurd (refused asked asks)
answer_of told after reply (by_command settings also read) =
    subst (λ (t : Settings). IsFilesReply (files_of t) (IsReplyTo t) (source told) start after reply) (same_settings words settings asked also asks) read

abbrev number : Order → ℕ
number untold = 0
number (first k) = 1 + k
number other = 100

differs : (o p : Order) → o ≡ p → number o ≡ number p
differs o p e = ap number e

second_order : (told : Told) (after between : Moment) (bytes : List ℕ) (reply : Reply) → Rest told after bytes between reply → after.order ≡ order_after (source told).order second_name between.order
second_order told after between bytes reply (by_source started rose e) = started.order
second_order told after between bytes reply (by_length long e) = long.order
second_order told after between bytes reply (by_bytes now text read (same, said)) = sym (ap (λ (m : Moment). m.order) same) ∙ read.order

second_started : (told : Told) (after between : Moment) (bytes : List ℕ) (reply : Reply) → IsRead (source told) file_name bytes start between → Rest told after bytes between reply → after.order ≡ first 2
second_started told after between bytes reply read rest = second_order told after between bytes reply rest ∙ ap (order_after (source told).order second_name) read.order

-- ---- FILE cannot be read

abbrev file_fails : Moment
file_fails = moment (first 1) (of_file (codes "pro")) 1

file_failed : HasCause (until silent file_fails) (read_fault 0)
file_failed = by_command asked asks (by_source (record { order = refl; taken = record { bytes = codes "pro"; one = refl; few = omega arith } }) (inl (omega arith)) refl)

not_three : (name bytes : List ℕ) (before : History) → length (since_start (before ++ handed_out name bytes ∷ [])) ≡ 3 → length bytes ≡ file_limit + 1 → ⊥
not_three name bytes before three long = let all = length-since_start before (before ++ handed_out name bytes ∷ []) name bytes refl in omega (arith, three, long, all)

file_failed_only : (reply : Reply) → HasCause (until silent file_fails) reply → reply ≡ read_fault 0
file_failed_only reply cause = by (answer_of silent file_fails reply cause)
  where
    by : Answer silent file_fails reply → reply ≡ read_fault 0
    by (by_source started rose e) = e
    by (by_length long e) = absurd (not_three file_name long.bytes [] (ap (λ (h : History). length (since_start h)) (sym long.history)) long.long)
    by (by_bytes between bytes read rest) = absurd (omega (arith, differs _ _ (second_started silent file_fails between bytes reply read rest)))

-- ---- FILE is too long

-- `many` has one byte more than a file may have.
module _ (many : List ℕ) (too_many : length many ≡ file_limit + 1) where
  abbrev file_long : Moment
  file_long = moment (first 1) (of_file many) 0

  file_was_long : HasCause (until silent file_long) (file_too_long 0)
  file_was_long = by_command asked asks (by_length (record { bytes = many; order = refl; history = refl; long = too_many; holds = tt }) refl)

  no_few : IsTaken [] (of_file many) file_name file_limit → ⊥
  no_few taken =
      let all : length many ≡ length taken.bytes = ap (λ (h : History). length (since_start h)) taken.one in
      let few = taken.few in
      omega (arith, all, few, too_many)

  file_was_long_only : (reply : Reply) → HasCause (until silent file_long) reply → reply ≡ file_too_long 0
  file_was_long_only reply cause = by (answer_of silent file_long reply cause)
    where
      by : Answer silent file_long reply → reply ≡ file_too_long 0
      by (by_source started rose e) = absurd (no_few started.taken)
      by (by_length long e) = e
      by (by_bytes between bytes read rest) = absurd (omega (arith, differs _ _ (second_started silent file_long between bytes reply read rest)))

  -- If the source reports that FILE is short, this does not happen.
  no_short_file_is_long : (reply : Reply) → HasCause (until telling file_long) reply → ⊥
  no_short_file_is_long reply cause = by (answer_of telling file_long reply cause)
    where
      by : Answer telling file_long reply → ⊥
      by (by_source started rose e) = no_few started.taken
      by (by_length long e) = let longer = long.holds in omega (arith, longer)
      by (by_bytes between bytes read rest) = omega (arith, differs _ _ (second_started telling file_long between bytes reply read rest))

-- ---- The second file cannot be read

abbrev pub second_fails : Moment
second_fails = moment (first 2) (of_both (codes "proc") (codes "cae")) 1

file_was_read : IsRead (source telling) file_name (codes "proc") start (moment (first 1) (of_file (codes "proc")) 0)
file_was_read = record { order = refl; history = refl; short = omega arith; holds = refl; faults = omega arith }

second_failed : HasCause (until telling second_fails) (read_fault 1)
second_failed =
    by_command asked asks
    (by_bytes (moment (first 1) (of_file (codes "proc")) 0) (codes "proc") file_was_read
    (by_source (record { order = refl; taken = record { bytes = codes "cae"; one = refl; few = omega arith } }) (inl (omega arith)) refl))

pub last_taken : (before after : History) (name bytes : List ℕ) → after ≡ before ++ handed_out name bytes ∷ [] → length bytes ≡ length (since_start after)
last_taken before after name bytes e = sym (length-since_start before after name bytes e)

-- The error of FILE, which ends too early, is not reported.
second_failed_only : (reply : Reply) → HasCause (until telling second_fails) reply → reply ≡ read_fault 1
second_failed_only reply cause = by (answer_of telling second_fails reply cause)
  where
    behind : (between : Moment) (bytes : List ℕ) → Rest telling second_fails bytes between reply → reply ≡ read_fault 1
    behind between bytes (by_source started rose e) = e
    behind between bytes (by_length long e) =
        let three : length long.bytes ≡ 3 = last_taken between.history _ second_name long.bytes long.history in
        let all = long.long in
        absurd (omega (arith, three, all))
    behind between bytes (by_bytes now text read (same, said)) =
        let three : length text ≡ 3 = last_taken between.history _ second_name text read.history ∙ ap (λ (m : Moment). length (since_start m.history)) same in
        let all : length text ≡ 6 = ap length read.holds in
        absurd (omega (arith, three, all))

    by : Answer telling second_fails reply → reply ≡ read_fault 1
    by (by_source started rose e) = absurd (omega (arith, differs _ _ started.order))
    by (by_length long e) = absurd (omega (arith, differs _ _ long.order))
    by (by_bytes between bytes read rest) = behind between bytes rest

-- ---- The second file is too long

-- `many` has one byte more than a file may have.
module _ (many : List ℕ) (too_many : length many ≡ file_limit + 1) where
  abbrev second_long : Moment
  second_long = moment (first 2) (of_both [] many) 0

  second_was_long : HasCause (until silent second_long) (file_too_long 1)
  second_was_long =
      by_command asked asks
      (by_bytes (moment (first 1) (of_file []) 0) [] (record { order = refl; history = refl; short = omega arith; holds = tt; faults = omega arith })
      (by_length (record { bytes = many; order = refl; history = refl; long = too_many; holds = tt }) refl))

  second_was_long_only : (reply : Reply) → HasCause (until silent second_long) reply → reply ≡ file_too_long 1
  second_was_long_only reply cause = by (answer_of silent second_long reply cause)
    where
      behind : (between : Moment) (bytes : List ℕ) → Rest silent second_long bytes between reply → reply ≡ file_too_long 1
      behind between bytes (by_source started rose e) =
          let taken = started.taken in
          let all : length taken.bytes ≡ length many = last_taken between.history _ second_name taken.bytes taken.one in
          let few = taken.few in
          absurd (omega (arith, all, few, too_many))
      behind between bytes (by_length long e) = e
      behind between bytes (by_bytes now text read (same, said)) =
          let all : length text ≡ length many = last_taken between.history _ second_name text read.history ∙ ap (λ (m : Moment). length (since_start m.history)) same in
          let short : length text ≤ 1048576 = read.short in
          absurd (omega (arith, all, short, too_many))

      by : Answer silent second_long reply → reply ≡ file_too_long 1
      by (by_source started rose e) = absurd (omega (arith, differs _ _ started.order))
      by (by_length long e) = absurd (omega (arith, differs _ _ long.order))
      by (by_bytes between bytes read rest) = behind between bytes rest

-- ---- Both were read

abbrev both_read : Moment
both_read = moment (first 2) (of_both (codes "proc") (codes "caesar")) 0

no_rise : (before : ℕ) → Rose before 0 → ⊥
no_rise before (inl more) = omega (arith, more)
no_rise before (inr top) = omega (arith, top)

-- The reply is the one to the bytes of both names.
both_were_read : (reply : Reply) → HasCause (until telling both_read) reply → IsReplyTo asked (codes "proc") (codes "caesar") reply
both_were_read reply cause = by (answer_of telling both_read reply cause)
  where
    behind : (between : Moment) (bytes : List ℕ) → bytes ≡ codes "proc" → Rest telling both_read bytes between reply → IsReplyTo asked (codes "proc") (codes "caesar") reply
    behind between bytes is (by_source started rose e) = absurd (no_rise between.faults rose)
    behind between bytes is (by_length long e) =
        let six : length long.bytes ≡ 6 = last_taken between.history _ second_name long.bytes long.history in
        let all = long.long in
        absurd (omega (arith, six, all))
    behind between bytes is (by_bytes now text read (same, said)) =
        subst (λ (t : List ℕ). IsReplyTo asked (codes "proc") t reply) read.holds (subst (λ (b : List ℕ). IsReplyTo asked b text reply) is said)

    by : Answer telling both_read reply → IsReplyTo asked (codes "proc") (codes "caesar") reply
    by (by_source started rose e) = absurd (omega (arith, differs _ _ started.order))
    by (by_length long e) = absurd (omega (arith, differs _ _ long.order))
    by (by_bytes between bytes read rest) = behind between bytes read.holds rest

second_was_read : IsRead (source telling) second_name (codes "caesar") (moment (first 1) (of_file (codes "proc")) 0) both_read
second_was_read = record { order = refl; history = refl; short = omega arith; holds = refl; faults = omega arith }

-- An error of FILE is reported, whatever the second file has.
fault_of_file : (number : ℕ) (place : Span) → IsSourceFault (codes "proc") number place → HasCause (until telling both_read) (source_fault (codes "proc") number place)
fault_of_file number place fault =
    by_command asked asks (by_bytes (moment (first 1) (of_file (codes "proc")) 0) (codes "proc") file_was_read (by_bytes both_read (codes "caesar") second_was_read (refl, by_fault number place (spelling fault) refl)))

-- ---- Other orders

-- No reply follows from another order: the second file first, one of them twice, or a third name.
other_order : (told : Told) (history : History) (rises : ℕ) (reply : Reply) → HasCause (until told (moment other history rises)) reply → ⊥
other_order told history rises reply cause = by (answer_of told (moment other history rises) reply cause)
  where
    by : Answer told (moment other history rises) reply → ⊥
    by (by_source started rose e) = omega (arith, differs _ _ started.order)
    by (by_length long e) = omega (arith, differs _ _ long.order)
    by (by_bytes between bytes read rest) = omega (arith, differs _ _ (second_started told (moment other history rises) between bytes reply read rest))

-- No reply follows if nothing was started.
no_start : (told : Told) (history : History) (rises : ℕ) (reply : Reply) → HasCause (until told (moment (first 0) history rises)) reply → ⊥
no_start told history rises reply cause = by (answer_of told (moment (first 0) history rises) reply cause)
  where
    by : Answer told (moment (first 0) history rises) reply → ⊥
    by (by_source started rose e) = omega (arith, differs _ _ started.order)
    by (by_length long e) = omega (arith, differs _ _ long.order)
    by (by_bytes between bytes read rest) = omega (arith, differs _ _ (second_started told (moment (first 0) history rises) between bytes reply read rest))

-- ---- Arguments that are not a valid command

abbrev pub lone : List (List ℕ)
lone = codes "check" ∷ []

pub no_command : IsUsage lone
no_command (Verify f) e = let n = ap length e.words_are in omega (arith, n)
no_command (Print f) e = let n = ap length e.words_are in omega (arith, n)
no_command (Run f p q) e = let n = ap length e.words_are in omega (arith, n)
no_command (Certify f) e = let n = ap length e.words_are in omega (arith, n)
no_command (Check f c) e = let n = ap length e.words_are in omega (arith, n)
no_command (Gen n) e = let m = ap length e.words_are in omega (arith, m)
no_command (Pgcl f) e = let n = ap length e.words_are in omega (arith, n)
no_command (Omega f p q) e = let n = ap length e.words_are in omega (arith, n)
no_command (Remainder f p q) e = let n = ap length e.words_are in omega (arith, n)
no_command (Refute f p q) e = let n = ap length e.words_are in omega (arith, n)

told_usage : HasCause (call lone (source silent) start start) usage
told_usage = by_words no_command refl

told_usage_only : (after : Moment) (reply : Reply) → HasCause (call lone (source silent) start after) reply → reply ≡ usage
told_usage_only after reply (by_words refused e) = e
told_usage_only after reply (by_command settings also read) = absurd (no_command settings also)

-- The line as it is written.
usage_is : usage_line ≡ codes "usage: caesar verify FILE | print FILE | run FILE PROC SCRIPT | certify FILE | check FILE CERT | gen N | pgcl FILE | omega FILE PROC NAME | remainder FILE PROC NAME | refute FILE PROC SCRIPT\n"
usage_is = refl

-- ---- Statuses

statuses :
    (fault_status faults.Nothing ≡ 0) × (fault_status faults.Usage ≡ 4) × (fault_status (faults.Read 0) ≡ 5) × (fault_status (faults.Read 1) ≡ 5)
    × (fault_status (faults.TooLong 0) ≡ 3) × (fault_status (faults.TooLong 1) ≡ 3) × (fault_status (faults.Source 4 (record { from = 0; to = 0 })) ≡ 3)
    × (fault_status (faults.Cert 1) ≡ 3) × (fault_status (faults.Script 1) ≡ 3) × (fault_status faults.NoProcedure ≡ 3) × (fault_status faults.Shape ≡ 3) × (fault_status (faults.NotProgram 0) ≡ 3)
    × (fault_status (faults.Run (Bits 1)) ≡ 8) × (fault_status faults.Write ≡ 6) × (fault_status faults.Memory ≡ 7)
statuses = (refl, refl, refl, refl, refl, refl, refl, refl, refl, refl, refl, refl, refl, refl, refl)

-- A delivered `read fault` has the status 5, or 6 if the sink failed.
read_fault_status : (done : Writing) (outcome : Outcome) → IsDelivered (read_fault 1) done outcome → (outcome.status ≡ 5) ⊎ (outcome.status ≡ 6)
read_fault_status done outcome delivered = by delivered.delivered
  where
    by : IsWritten (read_fault 1) done outcome ⊎ IsCut (read_fault 1) done outcome → (outcome.status ≡ 5) ⊎ (outcome.status ≡ 6)
    by (inl written) = inl written.status
    by (inr cut) = inr cut.status
