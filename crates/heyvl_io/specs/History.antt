-- The history of a source: its starts, and the bytes that were read. This project's own.
use Rattle.std.specs.Prelude.{◌≡◌, ℕ, ◌≤◌, List, [], ◌∷◌, ◌++◌, length}

-- A start: the name that was started, and the bytes that were read before the next start.
pub record Start : Type 0 where
  pub name : List ℕ
  pub bytes : List ℕ

-- The start of `name` after which `bytes` were read.
abbrev pub handed_out : List ℕ → List ℕ → Start
handed_out name bytes = record { name = name; bytes = bytes }

-- The starts so far, the oldest first. Failed ones are included.
abbrev pub History : Type 0
History = List Start

-- The history after a start of `name`, failed or not.
abbrev pub with_start : History → List ℕ → History
with_start history name = history ++ handed_out name [] ∷ []

-- The history after `bytes` were read, since the last start.
abbrev pub with_bytes : History → List ℕ → History
with_bytes [] bytes = []
with_bytes (s ∷ []) bytes = handed_out s.name (s.bytes ++ bytes) ∷ []
with_bytes (s ∷ (t ∷ more)) bytes = s ∷ with_bytes (t ∷ more) bytes

-- The bytes that were read since the last start.
abbrev pub since_start : History → List ℕ
since_start [] = []
since_start (s ∷ []) = s.bytes
since_start (s ∷ (t ∷ more)) = since_start (t ∷ more)

-- Between `before` and `after` there was one start, of `name`, and at most `most` bytes were read
-- after it.
pub record IsTaken (before after : History) (name : List ℕ) (most : ℕ) : Type 0 where
  pub bytes : List ℕ
  pub one : after ≡ before ++ handed_out name bytes ∷ []
  pub few : length bytes ≤ most
