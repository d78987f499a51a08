-- Equality of lists of terms.
use Rattle.std.specs.Prelude.{ℕ, List, [], ◌∷◌, ℤ, pos, negsuc, Bool, true, false, eqb, ◌&&◌}

-- `same_number i k`: the integers `i` and `k` are equal.
abbrev pub same_number : ℤ → ℤ → Bool
same_number (pos a) (pos b) = eqb a b
same_number (pos a) (negsuc b) = false
same_number (negsuc a) (pos b) = false
same_number (negsuc a) (negsuc b) = eqb a b

-- `same_terms ts us`: the lists have the same variables with the same coefficients, in the same
-- order.
abbrev pub same_terms : List (ℕ × ℤ) → List (ℕ × ℤ) → Bool
same_terms [] [] = true
same_terms [] (u ∷ us) = false
same_terms (t ∷ ts) [] = false
same_terms (t ∷ ts) (u ∷ us) = (eqb t.0 u.0 && same_number t.1 u.1) && same_terms ts us
