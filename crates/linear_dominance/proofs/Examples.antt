-- Dominated rows, worked out by hand.
use Rattle.std.proofs.Common.{◌≡◌, ℕ, [], ◌∷◌, refl, false}
use Rattle.std.specs.Prelude.{ℤ, pos, negsuc}
use Rattle.linear_rows.specs.Terms.{add_term, add_terms}
use Rattle.linear_rows.specs.Row.{Row}
use Rattle.linear_dominance.specs.DominatedRows.{are_increases, undominated}

-- `k*x + a*y + b*z <= 0`, over the variables 0, 1 and 2.
abbrev row : ℤ → ℤ → ℤ → Row
row k a b = record { terms = (0, k) ∷ ((1, a) ∷ ((2, b) ∷ [])); rest = pos 0; strict = false }

abbrev not_negative : ℕ → Row
not_negative x = record { terms = (x, negsuc 0) ∷ []; rest = pos 0; strict = false }

-- If y and z are not negative, `-x + y + z <= 0` follows from `-x + 2*y + z <= 0`, and `x + 66*y +
-- z <= 0` from `x + 132*y + z <= 0`.
crossing : undominated (row (negsuc 0) (pos 1) (pos 1) ∷ (row (negsuc 0) (pos 2) (pos 1) ∷ (row (pos 1) (pos 66) (pos 1) ∷ (row (pos 1) (pos 132) (pos 1) ∷ (not_negative 1 ∷ (not_negative 2 ∷ [])))))) ≡ row (negsuc 0) (pos 2) (pos 1) ∷ (row (pos 1) (pos 132) (pos 1) ∷ (not_negative 1 ∷ (not_negative 2 ∷ [])))
unfolding add_term add_terms are_increases
crossing = refl

-- Without the sign row of y, none of them follows.
unsigned : undominated (row (negsuc 0) (pos 1) (pos 1) ∷ (row (negsuc 0) (pos 2) (pos 1) ∷ (not_negative 2 ∷ []))) ≡ row (negsuc 0) (pos 1) (pos 1) ∷ (row (negsuc 0) (pos 2) (pos 1) ∷ (not_negative 2 ∷ []))
unfolding add_term add_terms are_increases
unsigned = refl

abbrev pair : ℤ → Row
pair k = record { terms = (0, k) ∷ ((1, pos 1) ∷ []); rest = pos 0; strict = false }

abbrev at_least : ℤ → Row
at_least c = record { terms = (0, negsuc 0) ∷ []; rest = c; strict = false }

-- `x + y <= 0` follows from `2*x + y <= 0` if `-x <= 0` is a row, and does not follow with `-x + 3
-- <= 0` instead.
signed : undominated (pair (pos 1) ∷ (pair (pos 2) ∷ (at_least (pos 0) ∷ []))) ≡ pair (pos 2) ∷ (at_least (pos 0) ∷ [])
unfolding add_term add_terms are_increases
signed = refl

displaced : undominated (pair (pos 1) ∷ (pair (pos 2) ∷ (at_least (pos 3) ∷ []))) ≡ pair (pos 1) ∷ (pair (pos 2) ∷ (at_least (pos 3) ∷ []))
unfolding add_term add_terms are_increases
displaced = refl

-- A sign row is kept even if another row implies it: `x - y <= 0` and `-y <= 0`, if x is not
-- negative.
kept_sign : undominated (record { terms = (0, pos 1) ∷ ((1, negsuc 0) ∷ []); rest = pos 0; strict = false } ∷ (not_negative 0 ∷ (not_negative 1 ∷ []))) ≡ record { terms = (0, pos 1) ∷ ((1, negsuc 0) ∷ []); rest = pos 0; strict = false } ∷ (not_negative 0 ∷ (not_negative 1 ∷ []))
unfolding add_term add_terms are_increases
kept_sign = refl
