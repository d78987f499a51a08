-- Places in a file: lines and columns, both counted from 1. A column counts bytes.
use Rattle.heyvl_places.specs.declared.places.Place.{Place}
use Rattle.std.specs.List.{suffix_len}
use Rattle.std.specs.Prelude.{Bool, List, count_by, not, take, ℕ, ◌+◌, ◌==◌}

-- `b` is a line feed.
abbrev pub is_line_feed : ℕ → Bool
is_line_feed b = b == 10

-- `line_of bytes at`: the line of the byte with index `at`: 1 plus the number of line feeds before
-- it. The length of `bytes` is the index of the end of the file.
abbrev pub line_of : List ℕ → ℕ → ℕ
line_of bytes at = count_by is_line_feed (take at bytes) + 1

-- `column_of bytes at`: the column of the byte with index `at`: 1 plus the number of bytes between
-- the last line feed before it, or the start of the file, and the byte.
abbrev pub column_of : List ℕ → ℕ → ℕ
column_of bytes at = suffix_len (λ b. not (is_line_feed b)) (take at bytes) + 1

-- The place of the byte with index `at`: its line and its column. In the bytes of "ab", a line feed
-- and "cd", index 3 is at line 2, column 1.
abbrev pub place_at : List ℕ → ℕ → Place
place_at bytes at = record { line = line_of bytes at; column = column_of bytes at }
