-- The numbers of lines that `gen` accepts, and their texts. This project's own.
use Rattle.heyvl_syntax.specs.SourceFaults.{procedure_limit}
use Rattle.std.specs.Prelude.{Bool, List, decimal, nat_le, true, ◌&&◌, ◌≡◌, ℕ}

-- Whether `n` is at least 1 and at most the number of procedures that a file may have.
abbrev pub is_line_count : ℕ → Bool
is_line_count n = nat_le 1 n && nat_le n procedure_limit

-- `word` is the number `n`, in decimal digits without a leading zero, and `gen` accepts it.
pub record AsksFor (n : ℕ) (word : List ℕ) : Type 0 where
  pub fits : is_line_count n ≡ true
  pub written : word ≡ decimal n
