-- Laws of the order of starts. This project's own.
use Rattle.std.specs.Prelude.{◌≡◌, ◌≢◌, ℕ, ◌+◌, List, Some, slice_get}
use Rattle.heyvl_io.specs.Order.{first, other, order_after}

-- A start of the next name counts one more.
abbrev pub NextNameCounts : Type 0
NextNameCounts = (names : List (List ℕ)) (k : ℕ) (name : List ℕ) → slice_get names k ≡ Some name
    → order_after names name (first k) ≡ first (k + 1)

-- A start of any other name ends the order.
abbrev pub OtherNameEnds : Type 0
OtherNameEnds = (names : List (List ℕ)) (k : ℕ) (name : List ℕ) → slice_get names k ≢ Some name
    → order_after names name (first k) ≡ other
