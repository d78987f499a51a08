-- A call of the program: its arguments, and the source before and after it. Replies of commands
-- that read files. This project's own.
use Rattle.spelled_files.specs.Sources.{file_limit}
use Rattle.heyvl_io.specs.Faults.{Rose}
use Rattle.heyvl_io.specs.History.{History, IsTaken, handed_out}
use Rattle.heyvl_io.specs.Order.{Order, order_after}
use Rattle.command_rules.specs.Messages.{Reply, message}
use Rattle.command_words.specs.Requests.{Files}
use Rattle.command_rules.specs.declared.faults.Fault.TheVariants as faults
use Rattle.std.specs.Prelude.{IfSome, List, Option, [], codes, length, ◌+◌, ◌++◌, ◌<◌, ◌∷◌, ◌≡◌}
use Rattle.std.specs.Prelude.{◌≤◌, ℕ}

-- The names of a source, in their order, and the bytes of each, if the source reports them.
pub record Names : Type 0 where
  pub order : List (List ℕ)
  pub holds : List ℕ → Option (List ℕ)

-- The names `order`, whose bytes `holds` gives.
abbrev pub names_holding : List (List ℕ) → (List ℕ → Option (List ℕ)) → Names
names_holding order holds = record { order = order; holds = holds }

-- A source at one time: the order in which its names were started so far, the bytes that were read
-- after each start, and the number of its failures.
pub record Moment : Type 0 where
  pub order : Order
  pub history : History
  pub faults : ℕ

-- The moment with this order, history and number of failures.
abbrev pub moment : Order → History → ℕ → Moment
moment order history faults = record { order = order; history = history; faults = faults }

-- The arguments of a call, the names of its source, and the source before and after the call.
pub record Call : Type 0 where
  pub words : List (List ℕ)
  pub names : Names
  pub before : Moment
  pub after : Moment

-- The call with these arguments, names and moments.
abbrev pub call : List (List ℕ) → Names → Moment → Moment → Call
call words names before after =
    record { words = words; names = names; before = before; after = after }

-- ---- Reading

-- Between `before` and `after`, `name` was started once and no other name was, and at most `most`
-- bytes were read after it.
pub record IsStarted (most : ℕ) (names : Names) (name : List ℕ) (before after : Moment)
    : Type 0 where
  pub order : after.order ≡ order_after names.order name before.order
  pub taken : IsTaken before.history after.history name most

-- `bytes` are the bytes of `name`, if the source reports them.
abbrev pub Holds : Names → List ℕ → List ℕ → Type 0
Holds names name bytes = IfSome (names.holds name) (λ held. bytes ≡ held)

-- `name` was started and nothing else, and `bytes` were read: all bytes of `name`, and at most
-- `file_limit` of them.
pub record IsRead (names : Names) (name bytes : List ℕ) (before after : Moment) : Type 0 where
  pub order : after.order ≡ order_after names.order name before.order
  pub history : after.history ≡ before.history ++ handed_out name bytes ∷ []
  pub short : length bytes ≤ file_limit
  pub holds : Holds names name bytes
  pub faults : before.faults ≤ after.faults

-- `IsLong names name before after`: between `before` and `after`, `name` was started and nothing
-- else, and `file_limit + 1` bytes were read after the start. If the source reports the bytes of
-- `name`, there are more than `file_limit` of them.
pub record IsLong (names : Names) (name : List ℕ) (before after : Moment) : Type 0 where
  pub bytes : List ℕ
  pub order : after.order ≡ order_after names.order name before.order
  pub history : after.history ≡ before.history ++ handed_out name bytes ∷ []
  pub long : length bytes ≡ file_limit + 1
  pub holds : IfSome (names.holds name) (λ held. file_limit < length held)

-- The files were read one after the other, and nothing else. The bytes of the first one are `bytes`
-- and those of the second one `second`; both are `[]` for a file that the command does not have.
abbrev pub AreRead : Files → Names → List ℕ → List ℕ → Moment → Moment → Type 0
AreRead Files.none names bytes second before after = (before ≡ after) × (bytes ≡ []) × (second ≡ [])
AreRead (Files.one file) names bytes second before after =
    IsRead names file bytes before after × (second ≡ [])
AreRead (Files.two file other) names bytes second before after = (between : Moment)
    × IsRead names file bytes before between × IsRead names other second between after

-- ---- Replies of commands that read files

-- The reply if the source fails at the file with the number `k`.
abbrev pub read_fault : ℕ → Reply
read_fault k = message (faults.Read k) (codes "read fault\n")

-- The reply if the file with the number `k` is longer than the limit.
abbrev pub file_too_long : ℕ → Reply
file_too_long k = message (faults.TooLong k) (codes "file too long\n")

-- The reply of a command that reads `name`, its file with the number `k`. Either the source fails,
-- or the file is longer than the limit, or all its bytes are read and `Says` relates them, the
-- moment after the reading and the reply.
pub data IsReadReply (k : ℕ) (names : Names) (name : List ℕ) (Says : List ℕ → Moment → Reply
    → Type 0) (before after : Moment) (reply : Reply) : Type 0 where
  by_source : IsStarted file_limit names name before after → Rose before.faults after.faults
      → reply ≡ read_fault k → IsReadReply k names name Says before after reply
  by_length : IsLong names name before after → reply ≡ file_too_long k
      → IsReadReply k names name Says before after reply
  by_bytes : (between : Moment) (bytes : List ℕ) → IsRead names name bytes before between
      → Says bytes between reply → IsReadReply k names name Says before after reply

-- The reply that `Says` demands, without a use of the source.
abbrev pub IsSaid : (Reply → Type 0) → Moment → Moment → Reply → Type 0
IsSaid Says now after reply = (now ≡ after) × Says reply

-- The reply of a command that reads its files in their order and then replies to their bytes as
-- `Says` demands. The bytes are `[]` for a file that the command does not have.
abbrev pub IsFilesReply : Files → (List ℕ → List ℕ → Reply → Type 0) → Names → Moment → Moment
    → Reply → Type 0
IsFilesReply Files.none Says names before after reply = IsSaid (Says [] []) before after reply
IsFilesReply (Files.one file) Says names before after reply =
    IsReadReply 0 names file (λ bytes now r. IsSaid (Says bytes []) now after r) before after reply
IsFilesReply (Files.two file second) Says names before after reply =
    IsReadReply 0 names file
    (λ bytes between r.
    IsReadReply 1 names second (λ text now s. IsSaid (Says bytes text) now after s) between
    after r) before after reply
