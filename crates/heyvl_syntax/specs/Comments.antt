-- Comments: `//` up to the next line feed or the end, and `/*` up to the next `*/` after both of
-- its bytes. Comments do not nest, and may contain any bytes.
use Rattle.heyvl_places.specs.Places.{is_line_feed}
use Rattle.std.specs.List.{position_or_len, starts_with}
use Rattle.std.specs.Prelude.{Bool, List, codes, drop, false, nat_eq, true, ◌+◌, ◌<◌, ◌||◌, ◌≡◌, ℕ}

-- The bytes begin with `//`.
abbrev pub opens_line : List ℕ → Bool
opens_line bytes = starts_with nat_eq bytes (codes "//")

-- The bytes begin with `/*`.
abbrev pub opens_block : List ℕ → Bool
opens_block bytes = starts_with nat_eq bytes (codes "/*")

-- The bytes begin with `//` or `/*`.
abbrev pub opens_comment : List ℕ → Bool
opens_comment bytes = opens_line bytes || opens_block bytes

-- The bytes have `*/` at the index `place`.
abbrev pub closes_at : List ℕ → ℕ → Bool
closes_at bytes place = starts_with nat_eq (drop place bytes) (codes "*/")

-- The bytes begin with a line comment of `n` bytes. The line feed after it is not part of it.
pub record IsLineComment (bytes : List ℕ) (n : ℕ) : Type 0 where
  pub opens : opens_line bytes ≡ true
  pub ends : n ≡ position_or_len is_line_feed bytes

-- The bytes begin with a block comment of `n` bytes, with `inner` bytes between `/*` and the next
-- `*/`. The comment `/*/ a */` has 8 bytes: the star of `/*` does not close it.
pub record IsBlockComment (bytes : List ℕ) (n : ℕ) : Type 0 where
  pub opens : opens_block bytes ≡ true
  pub inner : ℕ
  pub closes : closes_at (drop 2 bytes) inner ≡ true
  pub first : (k : ℕ) → k < inner → closes_at (drop 2 bytes) k ≡ false
  pub ends : n ≡ 2 + inner + 2

-- The bytes begin with `/*`, and no `*/` follows.
pub record IsOpenComment (bytes : List ℕ) : Type 0 where
  pub opens : opens_block bytes ≡ true
  pub never : (k : ℕ) → closes_at (drop 2 bytes) k ≡ false
