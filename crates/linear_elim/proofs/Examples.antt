-- Eliminations of small rows, computed.
use Rattle.std.proofs.Common.{◌≡◌, [], ◌∷◌, refl, true, false}
use Rattle.std.specs.Prelude.{pos, negsuc}
use Rattle.heyvl_num.specs.Gcd.{gcd, gcd_steps}
use Rattle.linear_rows.specs.Terms.{coefficient, add_term, add_terms}
use Rattle.linear_rows.specs.TermResults.{are_wide}
use Rattle.linear_rows.specs.Divisors.{common}
use Rattle.linear_elim.specs.Joins.{mixed_row, lowest, join}
use Rattle.linear_elim.specs.Steps.{put_row, strongest, contradiction, pairs, fits_each, pairs_fit}
use Rattle.linear_elim.specs.Elimination.{run, start, elimination}
use Rattle.linear_elim.specs.Elimination.Outcome.{refuted, standing}

-- `x < 0` and `-x <= 0`, each taken once, combine to `0 < 0`.
touching : elimination (0 ∷ []) (record { terms = (0, pos 1) ∷ []; rest = pos 0; strict = true } ∷ record { terms = (0, negsuc 0) ∷ []; rest = pos 0; strict = false } ∷ []) ≡ refuted (record { row = record { terms = []; rest = pos 0; strict = true }; shares = (0, pos 1) ∷ (1, pos 1) ∷ []; over = 1 })
unfolding coefficient add_term add_terms are_wide common mixed_row lowest join put_row strongest contradiction pairs fits_each pairs_fit run start gcd gcd_steps
touching = refl

-- `0 < 0` is itself a contradiction.
constant : elimination [] (record { terms = []; rest = pos 0; strict = true } ∷ []) ≡ refuted (record { row = record { terms = []; rest = pos 0; strict = true }; shares = (0, pos 1) ∷ []; over = 1 })
unfolding contradiction run start
constant = refl

-- `0 <= 0` is none.
no_contradiction : elimination [] (record { terms = []; rest = pos 0; strict = false } ∷ []) ≡ standing []
unfolding contradiction strongest run start
no_contradiction = refl

-- `2x <= 4y` and `4y < 2x` combine to `0 < 0`; each is taken as often as the coefficient of the
-- other says.
twice_each : elimination (0 ∷ 1 ∷ []) (record { terms = (0, pos 2) ∷ (1, negsuc 3) ∷ []; rest = pos 0; strict = false } ∷ record { terms = (0, negsuc 1) ∷ (1, pos 4) ∷ []; rest = pos 0; strict = true } ∷ []) ≡ refuted (record { row = record { terms = []; rest = pos 0; strict = true }; shares = (0, pos 2) ∷ (1, pos 2) ∷ []; over = 1 })
unfolding coefficient add_term add_terms are_wide common mixed_row lowest join put_row strongest contradiction pairs fits_each pairs_fit run start gcd gcd_steps
twice_each = refl
