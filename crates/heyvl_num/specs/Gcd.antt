-- The greatest common divisor of two natural numbers, by Euclid's algorithm.
use Rattle.std.specs.Prelude.{ℕ, ◌%◌}
use Prim.Native.Nat.{suc, zero}

-- `gcd_steps n a b`: at most `n` steps of Euclid's algorithm, which replaces `a` and `b` by `b` and
-- `a` modulo `b` until `b` is 0.
unfoldable pub gcd_steps : ℕ → ℕ → ℕ → ℕ
gcd_steps zero a b = a
gcd_steps (suc n) a zero = a
gcd_steps (suc n) a (suc b) = gcd_steps n (suc b) (a % suc b)

-- The greatest number that divides both `a` and `b`; 0 if both are 0. That of 12 and 18 is 6.
unfoldable pub gcd : ℕ → ℕ → ℕ
gcd a b = gcd_steps b a b
