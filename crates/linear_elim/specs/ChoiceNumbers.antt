-- The numbers of the greedy choice, and when one of them overflows. The limit of numbers is this
-- project's own.
use Rattle.std.specs.Prelude.{◌≡◌, ℕ, List, [], ◌∷◌, ◌++◌, reverse, map, ℤ, Bool, true, false, cond}
use Rattle.std.specs.Prelude.{eqb, not, Option, Some, None}
use Rattle.std.specs.List.{list_any}
use Rattle.heylo_formula.specs.declared.types.Ty.{Ty}
use Rattle.heyvl_num.specs.Rational.{Rational}
use Rattle.heyvl_num.specs.Rounding.{whole}
use Rattle.heyvl_num.specs.Exact.{exact_quotient, exact_sum, exact_product}
use Rattle.linear_rows.specs.Numbers.{fits}
use Rattle.linear_rows.specs.Terms.{coefficient}
use Rattle.linear_rows.specs.Row.{Row}
use Rattle.linear_rows.specs.GreedyPoint.{Interval, IsIntervalOf, IsChoice, Greedy, Chooses}
use Rattle.linear_rows.specs.GreedyPoint.{chosen_value}
use Rattle.heylo_formula.specs.Typing.{types_in}
use Rattle.linear_elim.specs.Elimination.{Step}

-- `added s p`: the sum of `s` and `p`; `None` if one of them is missing, or on overflow.
abbrev pub added : Option Rational → Option Rational → Option Rational
added None p = None
added (Some s) None = None
added (Some s) (Some p) = exact_sum s p

-- `sum_without x chosen ts o`: the sum `o` plus the terms `ts` except that of `x`, at the chosen
-- values.
unfoldable pub sum_without : ℕ → List (ℕ × Rational) → List (ℕ × ℤ) → Option Rational
    → Option Rational
sum_without x chosen [] o = o
sum_without x chosen (t ∷ ts) o = sum_without x chosen ts
    (cond (eqb t.0 x) o (added o (exact_product (whole t.1) (chosen_value t.0 chosen))))

-- `divided_by s k`: the product of the sum `s` and the factor `k`, which is -1 divided by a
-- coefficient.
abbrev pub divided_by : Option Rational → Option Rational → Option Rational
divided_by None k = None
divided_by (Some s) None = None
divided_by (Some s) (Some k) = exact_product s k

-- `end_of x chosen r`: the end that the row `r` gives to `x` at the chosen values, unless an
-- intermediate number overflows.
unfoldable pub end_of : ℕ → List (ℕ × Rational) → Row → Option Rational
end_of x chosen r = divided_by (sum_without x chosen r.terms (Some (whole r.rest)))
    (exact_quotient (ℤ.negsuc 0) (coefficient x r.terms))

-- `end_fits o`: there is an end, and its numerator and denominator are below 2^62 in absolute
-- value.
abbrev pub end_fits : Option Rational → Bool
end_fits None = false
end_fits (Some p) = fits p

-- `IsNextTooGreat rows vars s chosen`: in the choice for the variable of the step `s` after the
-- values `chosen`, the end that a row of the step gives overflows, or the chosen value does.
pub data IsNextTooGreat (rows : List Row) (vars : List Ty) (s : Step) (chosen : List (ℕ × Rational))
    : Type 0 where
  in_an_end : list_any (λ r. not (end_fits (end_of s.var chosen r.row))) (s.lows ++ s.ups) ≡ true
      → IsNextTooGreat rows vars s chosen
  in_a_value : (i : Interval) (v : Rational) → IsIntervalOf rows chosen s.var i
      → IsChoice i (types_in vars s.var) v → fits v ≡ false → IsNextTooGreat rows vars s chosen

-- `IsChoiceTooGreat rows vars steps`: the choice, from the last step on, reaches a step at which a
-- number overflows.
pub record IsChoiceTooGreat (rows : List Row) (vars : List Ty) (steps : List Step) : Type 0 where
  pub before : List Step
  pub next : Step
  pub after : List Step
  pub chosen : List (ℕ × Rational)
  pub splits : steps ≡ before ++ (next ∷ after)
  pub choice : Chooses rows vars (reverse (map (λ s. s.var) after)) [] (Greedy.chose chosen)
  pub too_great : IsNextTooGreat rows vars next chosen
