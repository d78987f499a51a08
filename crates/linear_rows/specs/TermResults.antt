-- The results of the functions on lists of terms.
use Rattle.std.specs.Prelude.{ℕ, Bool, true, ◌&&◌, List, [], ◌∷◌, map, ℤ, pos, ◌*ℤ◌}
use Rattle.linear_rows.specs.Terms.{add_terms, is_wide, is_narrow}

-- `scaled_terms p ts`: `ts` with each coefficient multiplied by `p`.
abbrev pub scaled_terms : ℤ → List (ℕ × ℤ) → List (ℕ × ℤ)
scaled_terms p ts = map (λ (t : ℕ × ℤ). (t.0, p *ℤ t.1)) ts

-- `merged_terms ts us`: the sum of the linear sums `ts` and `us`.
abbrev pub merged_terms : List (ℕ × ℤ) → List (ℕ × ℤ) → List (ℕ × ℤ)
merged_terms ts us = add_terms (pos 1) ts us

-- `are_wide p ts`: `p` times each coefficient of `ts` is below 2^126 in absolute value.
unfoldable pub are_wide : ℤ → List (ℕ × ℤ) → Bool
are_wide p [] = true
are_wide p (t ∷ ts) = is_wide (p *ℤ t.1) && are_wide p ts

-- `mixed_terms p ts q us`: `p` times the sum `ts`, plus `q` times the sum `us`.
abbrev pub mixed_terms : ℤ → List (ℕ × ℤ) → ℤ → List (ℕ × ℤ) → List (ℕ × ℤ)
mixed_terms p ts q us = add_terms p ts (add_terms q us [])

-- `are_narrow ts`: each coefficient of `ts` is below 2^62 in absolute value.
abbrev pub are_narrow : List (ℕ × ℤ) → Bool
are_narrow [] = true
are_narrow (t ∷ ts) = is_narrow t.1 && are_narrow ts
