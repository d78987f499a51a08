-- The comparison of a split.
use Rattle.std.proofs.Common.{◌≡◌, ℕ, [], ◌∷◌, sym, ap, ap₂, ◌∙◌, arith, lit<, true, false, cond, ◌&&◌, FitsSigned}
use Rattle.std.specs.Prelude.{ℤ, pos, negsuc, ◌*ℤ◌, Some, None}
use mir.Syntax.{w64}
use borrow.Author.Differences.{ints}
use Rattle.heyvl_num.specs.Gcd.{gcd, gcd_steps}
use Rattle.heyvl_num.specs.Exact.{is_small, product_fits, exact_product}
use Rattle.heyvl_num.specs.Rational.{ratio, oneʳ, ◌*ʳ◌}
use Rattle.heyvl_num.specs.Rounding.{whole}
use Rattle.heyvl_num.specs.Value.{is_zeroʳ}
use Rattle.heyvl_num.proofs.exported.Rationals.{zero-+ʳ}
use Rattle.linear_rows.specs.Numbers.{minus_oneʳ}
use Rattle.linear_rows.proofs.exported.Narrow.{small}
use Rattle.linear_values.proofs.exported.Factors.{whole_num}
use Rattle.linear_values.proofs.exported.TightRows.{whole_den}
use Rattle.linear_values.specs.Lin.{minus, plus, scaled}
use Rattle.linear_form.specs.Query.{Atom}
use Rattle.linear_form.specs.Splits.{split_at}

pub split_parts : (x : ℕ) (m : ℤ) → Atom.row (record { terms = (x, oneʳ) ∷ []; rest = minus_oneʳ *ʳ whole m }) false ≡ split_at x m
unfolding minus plus scaled is_zeroʳ minus_oneʳ ratio gcd gcd_steps
split_parts x m = ap (λ r. Atom.row (record { terms = (x, oneʳ) ∷ []; rest = r }) false) (sym (zero-+ʳ (minus_oneʳ *ʳ whole m)))

negative_fits : (n : ℤ) → FitsSigned w64 n → product_fits minus_oneʳ (whole n) ≡ true
unfolding product_fits minus_oneʳ ratio gcd gcd_steps
negative_fits n h = ap₂ (λ a d. is_small (negsuc 0 *ℤ a) && is_small (pos 1 *ℤ pos d)) (whole_num n) (whole_den n) ∙ ap₂ (λ a b. a && b) (small (negsuc 0 *ℤ n) (omega (arith, ints))) (small (pos 1 *ℤ pos 1) (lit< tt))

pub negative_found : (n : ℤ) → FitsSigned w64 n → exact_product minus_oneʳ (whole n) ≡ Some (minus_oneʳ *ʳ whole n)
unfolding exact_product
negative_found n h = ap (λ b. cond b (Some (minus_oneʳ *ʳ whole n)) None) (negative_fits n h)
