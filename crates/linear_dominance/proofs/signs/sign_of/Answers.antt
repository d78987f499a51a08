use Rattle.std.proofs.Common.{◌≡◌, ◌∙◌, ℕ, List, [], ◌∷◌, Bool, true, false, not, ◌&&◌, cond, length, refl, ap, sym}
use Rattle.std.specs.Prelude.{ℤ, negsuc, Some, None}
use Rattle.heyvl_num.specs.Value.{is_zero_num}
use Rattle.linear_rows.specs.Row.{Row}
use Rattle.linear_rows.specs.SameTerms.{same_number, same_terms}
use Rattle.linear_dominance.specs.DominatedRows.{first_variable, is_sign_row}
use Rattle.linear_dominance.proofs.signs.sign_of.Goals as goal

not_one : (ts : List (ℕ × ℤ)) (t : ℕ × ℤ) → (length ts ≡ 1 → ⊥) → same_terms ts (t ∷ []) ≡ false
not_one [] t n = refl
not_one (u ∷ []) t n = absurd (n refl)
not_one (u ∷ (v ∷ vs)) t n = go (same_number u.1 t.1) _
  where
    go : (a b : Bool) → ((b && a) && false) ≡ false
    go a true = two a
      where
        two : (a : Bool) → (a && false) ≡ false
        two true = refl
        two false = refl
    go a false = refl

no_sign : (r : Row) → (length r.terms ≡ 1 → ⊥) → None ≡ cond (is_sign_row r) (Some (first_variable r.terms)) None
no_sign r n = sym (ap (λ b. cond (b && (is_zero_num r.rest && not r.strict)) (Some (first_variable r.terms)) None) (not_one r.terms (first_variable r.terms, negsuc 0) n))

pub returns-then-terms-ne1 : goal.returns-then-terms-ne1
returns-then-terms-ne1 c = no_sign c.args.row.now (λ e. c.if-terms-ne1.true (ap length (c.deref-terms.ensures.value ∙ ap (λ r. r.terms) c.row.view_is) ∙ e))
