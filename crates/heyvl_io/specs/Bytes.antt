-- Bytes that a source or a sink may report (`Some`) or not (`None`), and how a read or a write
-- changes them. This project's own.
use Rattle.std.specs.Prelude.{◌≡◌, ℕ, List, [], ◌++◌, take, Option, Some, None, IfSome}

-- `bytes` before the bytes that are left, if these are reported.
abbrev pub before_rest : List ℕ → Option (List ℕ) → Option (List ℕ)
before_rest bytes None = None
before_rest bytes (Some rest) = Some (bytes ++ rest)

-- `bytes` after the bytes that were written, if these are reported.
abbrev pub with_appended : Option (List ℕ) → List ℕ → Option (List ℕ)
with_appended None bytes = None
with_appended (Some written) bytes = Some (written ++ bytes)

-- If the bytes that are left are reported, there are none.
abbrev pub IsUsedUp : Option (List ℕ) → Type 0
IsUsedUp left = IfSome left (λ bytes. bytes ≡ [])

-- A read returned `n` bytes: the first `n` of the buffer were the first of `before`, and `after`
-- are the others. `n` is 0 only if no bytes were left.
pub record HandsOut (before after : Option (List ℕ)) (buffer : List ℕ) (n : ℕ) : Type 0 where
  pub front : before ≡ before_rest (take n buffer) after
  pub end : n ≡ 0 → IsUsedUp before
