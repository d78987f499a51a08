-- Named texts in memory. This project's own.
use Rattle.std.specs.Prelude.{ℕ, Bool, List, [], map, drop, Option, Some, None, option_map}
use Rattle.std.specs.Prelude.{slice_get, find, Vec, String, string_bytes}
use Rattle.std.specs.Option.{option_map_or}
use Rattle.std.specs.Str.{bytes_eq}
use Rattle.std.specs.declared.alloc.Global.{Global}
use Rattle.heyvl_io.specs.Order.{Order, first, other}

-- A name and its bytes.
abbrev pub File : Type 0
File = String Global × Vec ℕ Global

-- The bytes of the names of the files, in the order of the files.
abbrev pub text_names : List File → List (List ℕ)
text_names files = map (λ file. string_bytes file.0) files

-- `is_named name file`: the name of `file` has exactly the bytes `name`.
abbrev pub is_named : List ℕ → File → Bool
is_named name file = bytes_eq name (string_bytes file.0)

-- `held_bytes files name`: the bytes of the first of `files` with the name `name`, if there is one.
abbrev pub held_bytes : List File → List ℕ → Option (List ℕ)
held_bytes files name = option_map (λ file. file.1.items) (find (is_named name) files)

-- The bytes of the started file, or `[]` if none is started.
abbrev pub started_bytes : List File → Option ℕ → List ℕ
started_bytes files None = []
started_bytes files (Some place) = option_map_or (λ file. file.1.items) (slice_get files place) []

-- The bytes of the started file from `place` on.
abbrev pub rest_at : List File → Option ℕ → ℕ → List ℕ
rest_at files started place = drop place (started_bytes files started)

-- The order with the given number of starts; `other` without one.
abbrev pub numbered_order : Option ℕ → Order
numbered_order None = other
numbered_order (Some k) = first k
