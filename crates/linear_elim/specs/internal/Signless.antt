-- Rows without sign rows, for which steps are the same without dominated rows.
use Rattle.std.specs.Prelude.{◌≡◌, ℕ, List, [], ◌∷◌, ℤ, negsuc, true, false}
use Rattle.std.specs.List.{All}
use Rattle.linear_rows.specs.SameTerms.{same_terms}
use Rattle.linear_elim.specs.Joins.{Derived}
use Rattle.linear_elim.specs.Steps.{eliminate_one, tidied}
use Rattle.linear_elim.specs.declared.steps.After.{After}
use Rattle.linear_elim.specs.declared.steps.After.TheVariants.{Great, Few, Many}

-- `sign_terms x`: the terms of the row `-x <= 0`.
abbrev pub sign_terms : ℕ → List (ℕ × ℤ)
sign_terms x = (x, negsuc 0) ∷ []

-- `AreSignless xs rows`: no row has the terms of a sign row of a variable of `xs`.
abbrev pub AreSignless : List ℕ → List Derived → Type 0
AreSignless xs rows = All (λ x. All (λ r. same_terms r.row.terms (sign_terms x) ≡ false) rows) xs

-- `IsSignlessAfter later x rows a`: if `a` says so, no row after the step has the terms of a sign
-- row.
abbrev pub IsSignlessAfter : List ℕ → ℕ → List Derived → After → Type 0
IsSignlessAfter later x rows Great = Unit {0}
IsSignlessAfter later x rows (Few step next) = Unit {0}
IsSignlessAfter later x rows (Many found count signless) = signless ≡ true
    → AreSignless later (tidied (eliminate_one x rows))

-- `IsSignlessMany a`: the result `a` says so of the many rows.
abbrev pub IsSignlessMany : After → Type 0
IsSignlessMany Great = Unit {0}
IsSignlessMany (Few step next) = Unit {0}
IsSignlessMany (Many found count signless) = signless ≡ true
