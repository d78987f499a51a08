-- The order in which the names of a source were started. This project's own.
use Rattle.std.specs.Prelude.{ℕ, ◌+◌, Bool, false, List, slice_get, if◌then◌else◌}
use Rattle.std.specs.Option.{option_map_or}
use Rattle.std.specs.Str.{bytes_eq}

-- The order of the starts so far, failed ones included. `untold`: the source does not report it.
-- `first k`: they were of the first `k` names, in their order and once each. `other`: they were
-- not.
pub data Order : Type 0 where
  untold : Order
  first : (k : ℕ) → Order
  other : Order

-- Whether `name` is the one after the first `k` names.
abbrev pub is_next : List (List ℕ) → ℕ → List ℕ → Bool
is_next names k name = option_map_or (bytes_eq name) (slice_get names k) false

-- The order after one more start, of `name`.
abbrev pub order_after : List (List ℕ) → List ℕ → Order → Order
order_after names name untold = untold
order_after names name (first k) = if is_next names k name then first (k + 1) else other
order_after names name other = other
