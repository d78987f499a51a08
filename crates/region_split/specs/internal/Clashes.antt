-- Pairs of rows whose sum has no variable and is false.
use Rattle.std.specs.Prelude.{◌≡◌, ◌⊎◌, ℕ, ◌+◌, ◌≤◌, ◌<◌, ◌^◌, List, [], ◌∷◌, ℤ, pos, ◌+ℤ◌, ◌<ℤ◌}
use Rattle.std.specs.Prelude.{unsigned_abs, true, ◌||◌}
use Rattle.linear_rows.specs.Row.{Row}

-- `Cancel least ts us`: the variables increase from `least` on, and the coefficients of each in
-- `ts` and `us` add up to 0.
abbrev pub Cancel : ℕ → List (ℕ × ℤ) → List (ℕ × ℤ) → Type 0
Cancel least [] [] = Unit {0}
Cancel least [] (u ∷ us) = ⊥
Cancel least (t ∷ ts) [] = ⊥
Cancel least (t ∷ ts) (u ∷ us) = (least ≤ t.0)
    × ((t.0 ≡ u.0)
    × ((unsigned_abs t.1 < 2 ^ 62) × ((t.1 +ℤ u.1 ≡ pos 0) × Cancel (t.0 + 1) ts us)))

-- `AddUp a b`: the constants of the rows add up to a number above 0, or to 0 while one of the rows
-- is strict.
pub record AddUp (a b : Row) : Type 0 where
  pub first_narrow : unsigned_abs a.rest < 2 ^ 62
  pub second_narrow : unsigned_abs b.rest < 2 ^ 62
  pub unmet : (pos 0 <ℤ (a.rest +ℤ b.rest))
      ⊎ (((a.rest +ℤ b.rest) ≡ pos 0) × ((a.strict || b.strict) ≡ true))

pub record Clash (a b : Row) : Type 0 where
  pub terms : Cancel 0 a.terms b.terms
  pub constants : AddUp a b
