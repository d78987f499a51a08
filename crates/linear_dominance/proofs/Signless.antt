-- If no row is a sign row, no row is dominated.
use Rattle.std.proofs.Common.{◌≡◌, ℕ, List, [], ◌∷◌, Bool, true, false, not, ◌&&◌, ◌||◌, refl, ap, ◌∙◌}
use Rattle.std.specs.Prelude.{ℤ, pos}
use Rattle.std.specs.Int.Signed.{lt_z}
use Rattle.std.specs.List.{list_any}
use Rattle.linear_rows.specs.Terms.{is_in}
use Rattle.linear_rows.specs.Row.{Row}
use Rattle.linear_dominance.specs.DominatedRows.{is_sign_row, signed_variables, less, are_increases, is_increase, dominates, is_dominated}

none_greater : (ts : List (ℕ × ℤ)) → is_increase [] ts ≡ false
unfolding are_increases
none_greater [] = refl
none_greater (t ∷ ts) = go (lt_z (pos 0) t.1)
  where
    go : (b : Bool) → ((b && is_in t.0 []) && are_increases [] ts) ≡ false
    go true = refl
    go false = refl

none_above : (r : Row) (ss : List Row) → list_any (λ s. dominates [] s r) ss ≡ false
none_above r [] = refl
none_above r (s ∷ ss) = ap (λ b. (b && (not (lt_z s.rest r.rest) && (s.strict || not r.strict))) || list_any (λ s. dominates [] s r) ss) (none_greater (less s.terms r.terms)) ∙ none_above r ss

pub never_dominated : (rows : List Row) (r : Row) → signed_variables rows ≡ [] → is_dominated rows r ≡ false
never_dominated rows r e = ap (λ signed. not (is_sign_row r) && list_any (λ s. dominates signed s r) rows) e ∙ go (is_sign_row r) (list_any (λ s. dominates [] s r) rows) (none_above r rows)
  where
    go : (a b : Bool) → b ≡ false → (not a && b) ≡ false
    go true b h = refl
    go false b h = h
