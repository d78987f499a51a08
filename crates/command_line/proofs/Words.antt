-- The argument of `gen` as a number of lines.
use Rattle.command_words.specs.LineCounts.{AsksFor, is_line_count}
use Rattle.std.proofs.Common.{List, Ok, Result, arith, true, ◌≡◌, ◌≤◌, ℕ}
use Rattle.std.proofs.lemmas.Bool.Decides.{nat_tests}
use Rattle.std.proofs.lemmas.Fmt.{parse-decimal}
use Rattle.std.specs.Str.Parse.{ParsesUnsigned}

least : (n : ℕ) → is_line_count n ≡ true → 1 ≤ n
least n h = grind (arith, nat_tests)

most : (n : ℕ) → is_line_count n ≡ true → n ≤ 1024
most n h = grind (arith, nat_tests)

pub record Within (n : ℕ) : Type 0 where
  pub least : 1 ≤ n
  pub most : n ≤ 1024

pub within : (n : ℕ) → is_line_count n ≡ true → Within n
within n h = record { least = least n h; most = most n h }

pub parsed : {E : Type 0} (n : ℕ) (word : List ℕ) (r : Result ℕ E) → AsksFor n word → ParsesUnsigned 32 10 word r → r ≡ Ok n
parsed n word r asks read = let h = most n asks.fits in parse-decimal 32 n word r (omega arith) (omega arith) asks.written read
