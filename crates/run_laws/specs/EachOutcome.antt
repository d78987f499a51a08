-- A property of each outcome of a step or of a run. This project's own.
use Rattle.std.specs.Prelude.{List, [], ◌∷◌}
use Rattle.heyvl_num.specs.Rational.{Rational, zeroʳ, ◌≤ʳ◌}

-- No weight is negative, and `P` holds of each outcome.
abbrev pub EachOutcome : {A : Type 0} → (A → Type 0) → List (Rational × A) → Type 0
EachOutcome P [] = Unit {0}
EachOutcome P (x ∷ xs) = ((zeroʳ ≤ʳ x.0) × P x.1) × EachOutcome P xs
