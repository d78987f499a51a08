-- The cause of a reply, from the results of reading; and the command that arguments ask for.
use Rattle.heyvl_io.proofs.exported.Histories.{length-since_start}
use Rattle.heyvl_io.specs.Faults.{Rose}
use Rattle.heyvl_io.specs.History.{History, IsTaken, since_start}
use Rattle.heyvl_io.specs.Order.{order_after}
use Rattle.heyvl_io.specs.declared.reader.ReadStop.TheVariants as stops
use Rattle.heyvl_io.specs.declared.reader.ReadStop.{ReadStop}
use Rattle.tool_laws.specs.Calls.IsReadReply.{by_bytes, by_length, by_source}
use Rattle.spelled_files.specs.Sources.{file_limit}
use Rattle.tool_laws.specs.Calls.{AreRead, Call, IsFilesReply, IsLong, IsRead, IsReadReply, IsSaid, Moment, Names, file_too_long, read_fault}
use Rattle.command_rules.specs.Messages.{Reply}
use Rattle.tool_laws.specs.Outcomes.HasCause.{by_command, by_words}
use Rattle.tool_laws.specs.Outcomes.{HasCause}
use Rattle.command_rules.specs.Responses.{reply_of}
use Rattle.tool_laws.specs.SourceUses.{IsReadInTurn, IsStartedOnce}
use Rattle.command_words.specs.Words.{AskFor}
use Rattle.command_rules.specs.commands.{IsReplyTo}
use Rattle.command_words.specs.Requests.{Files, files_of, request_of, words_of}
use Rattle.command_words.specs.declared.requests.Settings.TheVariants.{Certify, Check, Gen, Omega, Pgcl, Print, Refute, Remainder, Run, Verify}
use Rattle.command_words.specs.declared.requests.Settings.{Settings}
use Rattle.command_rules.specs.declared.responses.Response.{Response}
use Rattle.tool_laws.specs.Refusals.{IsUnread}
use Rattle.std.proofs.Common.{Bool, Err, IfOk, IfSome, List, Ok, Result, [], ap, arith, codes, false, inl, inr, length, refl, subst, sym, true, ◌+◌, ◌<◌, ◌^◌, ◌∙◌, ◌∷◌, ◌≡◌, ◌≤◌, ℕ}
use Rattle.command_words.specs.LineCounts.{is_line_count}
use Rattle.std.proofs.lemmas.Bool.Decides.{nat_tests}
use Rattle.std.proofs.lemmas.Fmt.{decimal_is_IsNumeral}
use Rattle.std.specs.Str.Parse.{digits_value}
use Rattle.std.specs.Prelude.{IsErrOf, if◌then◌else◌, nat_lt, ◌↔◌}
use Rattle.std.specs.Str.{bytes_eq}
use Rattle.std.specs.declared.alloc.AllocError.{AllocError}

-- ---- The command that arguments ask for

settings_of : List (List ℕ) → Settings
settings_of (w ∷ f ∷ []) = if bytes_eq w (codes "verify") then Verify f else (if bytes_eq w (codes "print") then Print f else (if bytes_eq w (codes "certify") then Certify f else (if bytes_eq w (codes "pgcl") then Pgcl f else Gen (digits_value 10 f))))
settings_of (w ∷ f ∷ g ∷ []) = Check f g
settings_of (w ∷ f ∷ g ∷ h ∷ more) = if bytes_eq w (codes "run") then Run f g h else (if bytes_eq w (codes "omega") then Omega f g h else (if bytes_eq w (codes "remainder") then Remainder f g h else Refute f g h))
settings_of other = Print []

few_lines : (n : ℕ) → is_line_count n ≡ true → n < 2 ^ 64
few_lines n h = grind (arith, nat_tests)

settings_again : (s : Settings) → (request_of s).fits ≡ true → settings_of (words_of s) ≡ s
unfolding settings_of
settings_again (Verify f) h = refl
settings_again (Print f) h = refl
settings_again (Run f g h) fits = refl
settings_again (Certify f) h = refl
settings_again (Check f g) h = refl
settings_again (Gen n) h = ap Gen (decimal_is_IsNumeral n (few_lines n h)).1
settings_again (Pgcl f) h = refl
settings_again (Omega f g h) fits = refl
settings_again (Remainder f g h) fits = refl
settings_again (Refute f g h) fits = refl

pub same_settings : (words : List (List ℕ)) (s t : Settings) → AskFor words s → AskFor words t → s ≡ t
same_settings words s t asks also = sym (settings_again s asks.fits) ∙ (ap settings_of (sym asks.words_are ∙ also.words_are) ∙ settings_again t also.fits)

-- ---- Reading

pub text_said : (k : ℕ) (names : Names) (name bytes lent : List ℕ) (Says : List ℕ → Reply → Type 0) (before after : Moment) (r : Result Response AllocError) → lent ≡ bytes → IsRead names name bytes before after
    → IfOk r (λ x. Says lent (reply_of x)) → IfOk r (λ x. IsReadReply k names name (λ text now s. IsSaid (Says text) now after s) before after (reply_of x))
text_said k names name bytes lent Says before after (Ok x) is read said = by_bytes after bytes read (refl, subst (λ (bs : List ℕ). Says bs (reply_of x)) is said)
text_said k names name bytes lent Says before after (Err e) is read said = tt

pub one_said : (settings : Settings) (names : Names) (name bytes lent none : List ℕ) (before after : Moment) (r : Result Response AllocError) → lent ≡ bytes → none ≡ [] → IsRead names name bytes before after
    → IfOk r (λ x. IsReplyTo settings lent none (reply_of x)) → IfOk r (λ x. IsFilesReply (Files.one name) (IsReplyTo settings) names before after (reply_of x))
one_said settings names name bytes lent none before after r is empty read said =
    subst (λ (ns : List ℕ). IfOk r (λ x. IsReadReply 0 names name (λ bs now s. IsSaid (IsReplyTo settings bs ns) now after s) before after (reply_of x))) empty
    (text_said 0 names name bytes lent (λ bs. IsReplyTo settings bs none) before after r is read said)

-- The second file is started after the first one was read.
pub two_said : (settings : Settings) (names later : Names) (file second bytes lent : List ℕ) (before between after : Moment) (r : Result Response AllocError) → later ≡ names → lent ≡ bytes → IsRead names file bytes before between
    → IfOk r (λ x. IsReadReply 1 later second (λ text now s. IsSaid (IsReplyTo settings lent text) now after s) between after (reply_of x))
    → IfOk r (λ x. IsFilesReply (Files.two file second) (IsReplyTo settings) names before after (reply_of x))
two_said settings names later file second bytes lent before between after (Ok x) same is read said =
    by_bytes between bytes read
    (subst (λ (ns : Names). IsReadReply 1 ns second (λ text now s. IsSaid (IsReplyTo settings bytes text) now after s) between after (reply_of x)) same
    (subst (λ (bs : List ℕ). IsReadReply 1 later second (λ text now s. IsSaid (IsReplyTo settings bs text) now after s) between after (reply_of x)) is said))
two_said settings names later file second bytes lent before between after (Err e) same is read said = tt

pub two_started : (names later : Names) (file second : List ℕ) (before between after : Moment) → later ≡ names → IsStartedOnce names file before between → IsStartedOnce later second between after → IsReadInTurn (Files.two file second) names before after
two_started names later file second before between after same first next = inr (between, first, subst (λ (ns : Names). IsStartedOnce ns second between after) same next)

pub files_said : (settings : Settings) (files other : Files) (names : Names) (before after : Moment) (r : Result Response AllocError) → files ≡ other → IfOk r (λ x. IsFilesReply files (IsReplyTo settings) names before after (reply_of x))
    → IfOk r (λ x. IsFilesReply other (IsReplyTo settings) names before after (reply_of x))
files_said settings files other names before after r same = subst (λ (fs : Files). IfOk r (λ x. IsFilesReply fs (IsReplyTo settings) names before after (reply_of x))) same

pub files_started : (files other : Files) (names : Names) (before after : Moment) → files ≡ other → IsReadInTurn files names before after → IsReadInTurn other names before after
files_started files other names before after same = subst (λ (fs : Files). IsReadInTurn fs names before after) same

not_long : (n : ℕ) → n ≤ file_limit + 1 → (n ≡ file_limit + 1 → ⊥) → n ≤ file_limit
not_long n few differs = by (nat_lt n (file_limit + 1)) refl
  where
    by : (b : Bool) → nat_lt n (file_limit + 1) ≡ b → n ≤ file_limit
    by true less = grind (arith, nat_tests)
    by false more = let same : n ≡ file_limit + 1 = grind (arith, nat_tests) in absurd (differs same)

few_taken : (before after : History) (name : List ℕ) → IsTaken before after name (file_limit + 1) → (length (since_start after) ≡ file_limit + 1 → ⊥) → IsTaken before after name file_limit
few_taken before after name taken differs = record {
  bytes = taken.bytes;
  one = taken.one;
  few = not_long (length taken.bytes) taken.few (λ long. differs (length-since_start before after name taken.bytes taken.one ∙ long));
}

same_stop : {A : Type 0} (all : Result A ReadStop) (stop other : ReadStop) → all ≡ Err stop → all ≡ Err other → stop ≡ other
same_stop {A = A} all stop other e f = let same : ◌≡◌ {A = Result A ReadStop} (Err stop) (Err other) = sym e ∙ f in cc

pub read_refused : {A : Type 0} (k : ℕ) (names : Names) (name : List ℕ) (Says : List ℕ → Moment → Reply → Type 0) (before after : Moment) (all : Result A ReadStop) (stop : ReadStop) (r : Result Response AllocError) → all ≡ Err stop
    → after.order ≡ order_after names.order name before.order → IsTaken before.history after.history name (file_limit + 1) → (IsErrOf all stops.Failed → Rose before.faults after.faults)
    → (IsErrOf all stops.TooLong ↔ (length (since_start after.history) ≡ file_limit + 1)) → (IsErrOf all stops.TooLong → IfSome (names.holds name) (λ held. file_limit < length held))
    → IfOk r (λ x. IsUnread k stop (reply_of x)) → IfOk r (λ x. IsReadReply k names name Says before after (reply_of x))
read_refused k names name Says before after all stops.Failed (Ok x) is order taken rose long longer said =
    by_source (record { order = order; taken = few_taken before.history after.history name taken (λ n. other_stop (same_stop all _ _ is (long.1 n))) }) (rose is) said
  where
    other_stop : stops.Failed ≡ stops.TooLong → ⊥
    other_stop e = cc
read_refused k names name Says before after all stops.TooLong (Ok x) is order taken rose long longer said =
    by_length (record { bytes = taken.bytes; order = order; history = taken.one; long = sym (length-since_start before.history after.history name taken.bytes taken.one) ∙ long.0 is; holds = longer is }) said
read_refused k names name Says before after all (stops.Memory error) (Ok x) is order taken rose long longer said = absurd said
read_refused k names name Says before after all stop (Err e) is order taken rose long longer said = tt

-- ---- The ways in which a command may end

-- The source failed, or a file was too long, or the files were read and the reply is the one to
-- their bytes.
pub data CameTo (settings : Settings) (files : Files) (made : Call) (reply : Reply) : Type 0 where
  failed : (k : ℕ) → Rose made.before.faults made.after.faults → reply ≡ read_fault k → CameTo settings files made reply
  too_long : (k : ℕ) → length (since_start made.after.history) ≡ file_limit + 1 → reply ≡ file_too_long k → CameTo settings files made reply
  said : (bytes text : List ℕ) → AreRead files made.names bytes text made.before made.after → IsReplyTo settings bytes text reply → CameTo settings files made reply

long_taken : (names : Names) (name : List ℕ) (before after : Moment) → IsLong names name before after → length (since_start after.history) ≡ file_limit + 1
long_taken names name before after is = length-since_start before.history after.history name is.bytes is.history ∙ is.long

rose_later : (a b c : ℕ) → a ≤ b → Rose b c → Rose a c
rose_later a b c le (inl lt) = inl (omega arith)
rose_later a b c le (inr top) = inr top

second_came : (settings : Settings) (file second bytes : List ℕ) (made : Call) (between : Moment) (reply : Reply) → IsRead made.names file bytes made.before between
    → IsReadReply 1 made.names second (λ text now r. IsSaid (IsReplyTo settings bytes text) now made.after r) between made.after reply → CameTo settings (Files.two file second) made reply
second_came settings file second bytes made between reply first (by_source started rose e) = failed 1 (rose_later made.before.faults between.faults made.after.faults first.faults rose) e
second_came settings file second bytes made between reply first (by_length is e) = too_long 1 (long_taken made.names second between made.after is) e
second_came settings file second bytes made between reply first (by_bytes now text read rest) =
    said bytes text (between, first, subst (λ (m : Moment). IsRead made.names second text between m) rest.0 read) rest.1

came_from : (settings : Settings) (files : Files) (made : Call) (reply : Reply) → IsFilesReply files (IsReplyTo settings) made.names made.before made.after reply → CameTo settings files made reply
came_from settings Files.none made reply at_once = said [] [] (at_once.0, refl, refl) at_once.1
came_from settings (Files.one file) made reply (by_source started rose e) = failed 0 rose e
came_from settings (Files.one file) made reply (by_length is e) = too_long 0 (long_taken made.names file made.before made.after is) e
came_from settings (Files.one file) made reply (by_bytes now bytes read rest) = said bytes [] (subst (λ (m : Moment). IsRead made.names file bytes made.before m) rest.0 read, refl) rest.1
came_from settings (Files.two file second) made reply (by_source started rose e) = failed 0 rose e
came_from settings (Files.two file second) made reply (by_length is e) = too_long 0 (long_taken made.names file made.before made.after is) e
came_from settings (Files.two file second) made reply (by_bytes between bytes read rest) = second_came settings file second bytes made between reply read rest

pub came_to : (settings : Settings) (made : Call) (reply : Reply) → AskFor made.words settings → HasCause made reply → CameTo settings (files_of settings) made reply
came_to settings made reply asks (by_words usage e) = absurd (usage settings asks)
came_to settings made reply asks (by_command other asked read) =
    subst (λ (s : Settings). CameTo s (files_of s) made reply) (same_settings made.words other settings asked asks) (came_from other (files_of other) made reply read)
