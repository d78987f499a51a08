-- The sign row of a variable is the row of its claim.
use Rattle.std.proofs.Common.{◌≡◌, ℕ, ◌+◌, add-one, List, [], ◌∷◌, ◌++◌, map, refl, sym, ap, ◌∙◌, false, cond, ◌&&◌}
use Rattle.std.specs.Prelude.{Some, None}
use Rattle.std.proofs.lemmas.List.{map-append}
use Rattle.heyvl_num.specs.Gcd.{gcd, gcd_steps}
use Rattle.heyvl_num.specs.Rational.{ratio, zeroʳ, oneʳ, ◌*ʳ◌}
use Rattle.heyvl_num.specs.Rounding.{floorʳ, ceilʳ}
use Rattle.heyvl_num.specs.Exact.{product_fits}
use Rattle.heyvl_num.specs.Value.{is_zeroʳ}
use Rattle.heylo_formula.specs.Typing.{Types}
use Rattle.linear_rows.specs.Terms.{is_narrow}
use Rattle.linear_rows.specs.Row.{Row}
use Rattle.linear_values.specs.Lin.{variable, scaled, is_sized}
use Rattle.linear_rows.specs.Numbers.{minus_oneʳ, fits}
use Rattle.linear_rows.specs.TermResults.{are_narrow}
use Rattle.linear_values.specs.Tightening.{Claim, common_multiple, common_divisor, factor, are_whole, tightened, with_row}
use Rattle.linear_form.specs.PathRows.{claim, negated}
use Rattle.linear_form.specs.internal.FurtherRows.{followed_by, rows_with, unsigned_in, one_more, all_unsigned_in, sign_row}
use Rattle.linear_values.proofs.exported.KeptTerms.{of_two}
use Rattle.linear_form.proofs.RowsOfClaims.{then_more}

sign_tightened : (types : Types) (x : ℕ) → tightened types (claim (negated (variable x)) false) ≡ Some (sign_row x)
unfolding tightened scaled minus_oneʳ zeroʳ oneʳ ◌*ʳ◌ ratio gcd gcd_steps is_zeroʳ is_sized fits common_multiple common_divisor factor product_fits floorʳ ceilʳ
sign_tightened types x = of_two (λ (r : Row). cond (are_narrow r.terms && is_narrow r.rest) (Some r) None ≡ Some (sign_row x)) (are_whole types (negated (variable x)).terms) (sign_row x) (sign_row x) refl refl

sign_follows : (types : Types) (rows : List Row) (x : ℕ) → rows_with types rows (claim (negated (variable x)) false ∷ []) ≡ Some (rows ++ (sign_row x ∷ []))
sign_follows types rows x = ap (λ o. followed_by rows (with_row o (Some []))) (sign_tightened types x)

abbrev pub sign_claims : List ℕ → List Claim
sign_claims xs = map (λ x. claim (negated (variable x)) false) xs

pub sign_passed : (types : Types) (rows made : List Row) (n : ℕ) → rows_with types rows (sign_claims (all_unsigned_in types rows n)) ≡ Some made → None ≡ unsigned_in types rows n → rows_with types rows (sign_claims (all_unsigned_in types rows (n + 1))) ≡ Some made
sign_passed types rows made n h e = ap (λ m. rows_with types rows (sign_claims (all_unsigned_in types rows m))) (add-one n) ∙ ap (λ o. rows_with types rows (sign_claims (one_more (all_unsigned_in types rows n) o))) (sym e) ∙ h

pub sign_step : (types : Types) (rows made made' : List Row) (r : Row) (n x : ℕ) → rows_with types rows (sign_claims (all_unsigned_in types rows n)) ≡ Some made → Some x ≡ unsigned_in types rows n → r ≡ sign_row x → made' ≡ made ++ (r ∷ []) → rows_with types rows (sign_claims (all_unsigned_in types rows (n + 1))) ≡ Some made'
sign_step types rows made made' r n x h e f g = ap (λ m. rows_with types rows (sign_claims (all_unsigned_in types rows m))) (add-one n) ∙ ap (λ o. rows_with types rows (sign_claims (one_more (all_unsigned_in types rows n) o))) (sym e) ∙ ap (rows_with types rows) (map-append (λ x. claim (negated (variable x)) false) (all_unsigned_in types rows n) (x ∷ [])) ∙ then_more types rows made (sign_claims (all_unsigned_in types rows n)) (claim (negated (variable x)) false ∷ []) h ∙ sign_follows types made x ∙ ap (λ r. Some (made ++ (r ∷ []))) (sym f) ∙ ap Some (sym g)
