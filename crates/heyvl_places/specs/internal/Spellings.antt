-- The bytes of a name, by how they are stored.
use Rattle.heyvl_places.specs.declared.names.Spelling.{Spelling}
use Rattle.std.specs.Prelude.{List, min, take, ℕ}

abbrev pub spelled : Spelling → List ℕ
spelled (Spelling.Short len kept) = take (min len 22) kept
spelled (Spelling.Long bytes) = bytes.value.items
