-- Rows whose elimination overflows.
use Rattle.std.proofs.Common.{◌≡◌, [], ◌∷◌, List, refl, false}
use Rattle.std.specs.Prelude.{pos, negsuc}
use Rattle.heyvl_num.specs.Gcd.{gcd, gcd_steps}
use Rattle.heylo_formula.specs.declared.types.Ty.{Ty}
use Rattle.linear_dominance.specs.DominatedRows.{are_increases}
use Rattle.linear_rows.specs.Row.{Row}
use Rattle.linear_rows.specs.Terms.{coefficient, add_term, add_terms}
use Rattle.linear_rows.specs.TermResults.{are_wide}
use Rattle.linear_rows.specs.Divisors.{common}
use Rattle.linear_rows.specs.VariableOrder.{put_variable, order_of}
use Rattle.linear_elim.specs.Answers.{eliminated_by, IsShortLimited, IsTooGreat, IsTooGreatBy}
use Rattle.linear_elim.specs.Joins.{mixed_row, lowest, join}
use Rattle.linear_elim.specs.Steps.{put_row, strongest, contradiction, pairs, fits_each, pairs_fit}
use Rattle.linear_elim.specs.Elimination.{run, start}
use Rattle.linear_elim.specs.Elimination.Outcome.{too_great}
use Rattle.linear_elim.specs.Elimination.Rule.{keeps, drops}

-- `-2^40 x + y + 1 <= 0` and `(2^40 - 1) x + 2^30 y <= 0`: without x, y has the coefficient 2^70 +
-- 2^40 - 1.
abbrev large : List Row
large = record { terms = (0, negsuc 1099511627775) ∷ (1, pos 1) ∷ []; rest = pos 1; strict = false } ∷ record { terms = (0, pos 1099511627775) ∷ (1, pos 1073741824) ∷ []; rest = pos 0; strict = false } ∷ []

large_ends : (eliminated_by keeps large (Ty.Int ∷ Ty.Int ∷ []) ≡ too_great) × (eliminated_by drops large (Ty.Int ∷ Ty.Int ∷ []) ≡ too_great)
unfolding coefficient add_term add_terms are_increases are_wide common mixed_row lowest join put_row put_variable order_of strongest contradiction pairs fits_each pairs_fit run start gcd gcd_steps
large_ends = (refl, refl)

-- A number of their elimination overflows, with dominated rows and without them.
large_in_elimination : IsTooGreat large (Ty.Int ∷ Ty.Int ∷ []) × IsShortLimited large (Ty.Int ∷ Ty.Int ∷ [])
large_in_elimination = (IsTooGreatBy.in_a_step large_ends.0, IsShortLimited.great (IsTooGreatBy.in_a_step large_ends.1))
