-- Linear sums: lists of terms, each a variable and its integer coefficient. Rows are made of them.
-- The multipliers of a combination are such a list too: there the variable is the index of a row.
use Rattle.std.specs.Prelude.{◌≡◌, ℕ, ◌<◌, ◌^◌, List, [], ◌∷◌, ℤ, pos, ◌+ℤ◌, ◌*ℤ◌, unsigned_abs}
use Rattle.std.specs.Prelude.{nat_lt, Bool, true, false, cond, eqb, ltb, ◌||◌}
use Rattle.std.specs.List.{All}
use Rattle.heyvl_num.specs.Value.{is_zero_num}

-- `sum_at f ts`: the value of the sum `ts` if variable `x` has the value `f x`.
unfoldable pub sum_at : (ℕ → ℤ) → List (ℕ × ℤ) → ℤ
sum_at f [] = pos 0
sum_at f (t ∷ ts) = (t.1 *ℤ f t.0) +ℤ sum_at f ts

-- `coefficient x ts`: the coefficient of `x` in `ts`, 0 if `x` does not occur.
unfoldable pub coefficient : ℕ → List (ℕ × ℤ) → ℤ
coefficient x [] = pos 0
coefficient x (t ∷ ts) = cond (eqb t.0 x) t.1 (pos 0) +ℤ coefficient x ts

-- `IsNormal ts`: the variables of `ts` increase, and no coefficient is 0.
abbrev pub IsNormal : List (ℕ × ℤ) → Type 0
IsNormal [] = Unit {0}
IsNormal (t ∷ ts) = ((t.1 ≡ pos 0) → ⊥) × (All (λ u. t.0 < u.0) ts × IsNormal ts)

-- `is_in v xs`: whether the variable `v` is in the list `xs`.
abbrev pub is_in : ℕ → List ℕ → Bool
is_in v [] = false
is_in v (x ∷ xs) = eqb v x || is_in v xs

-- `IsOver vs ts`: each variable of the sum `ts` is in the list `vs`.
abbrev pub IsOver : List ℕ → List (ℕ × ℤ) → Type 0
IsOver vs ts = All (λ t. is_in t.0 vs ≡ true) ts

-- `put_term v c ts`: the term `(v, c)` followed by `ts`; only `ts` if `c` is 0.
abbrev pub put_term : ℕ → ℤ → List (ℕ × ℤ) → List (ℕ × ℤ)
put_term v c ts = cond (is_zero_num c) ts ((v, c) ∷ ts)

-- `add_term v c ts`: the sum `ts` plus `c` times `v`, for a normal sum `ts`.
unfoldable pub add_term : ℕ → ℤ → List (ℕ × ℤ) → List (ℕ × ℤ)
add_term v c [] = put_term v c []
add_term v c (t ∷ ts) = cond (eqb v t.0) (put_term v (c +ℤ t.1) ts)
    (cond (ltb v t.0) (put_term v c (t ∷ ts)) (t ∷ add_term v c ts))

-- `add_terms k ts us`: `k` times the sum `ts`, plus the sum `us`.
unfoldable pub add_terms : ℤ → List (ℕ × ℤ) → List (ℕ × ℤ) → List (ℕ × ℤ)
add_terms k [] us = us
add_terms k (t ∷ ts) us = add_term t.0 (k *ℤ t.1) (add_terms k ts us)

-- `is_narrow z`: `z` is below 2^62 in absolute value, as each number of a row is.
abbrev pub is_narrow : ℤ → Bool
is_narrow z = nat_lt (unsigned_abs z) (2 ^ 62)

-- `is_wide z`: `z` is below 2^126 in absolute value, as each intermediate number in the computation
-- of a row is.
abbrev pub is_wide : ℤ → Bool
is_wide z = nat_lt (unsigned_abs z) (2 ^ 126)
