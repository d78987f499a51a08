-- Laws of the elimination by each rule, for every order of variables.
use Rattle.std.specs.Prelude.{◌≡◌, ℕ, ◌<◌, ◌^◌, List, unsigned_abs}
use Rattle.std.specs.List.{All}
use Rattle.linear_rows.specs.Terms.{coefficient, IsNormal, IsOver}
use Rattle.linear_rows.specs.Row.{Row}
use Rattle.linear_rows.specs.Solutions.{IsSolvable}
use Rattle.linear_rows.specs.Combination.{IsWideThroughout, IsContradiction}
use Rattle.linear_elim.specs.Joins.{Derived}
use Rattle.linear_elim.specs.Elimination.{Step, Rule, elimination_by, multipliers}
use Rattle.linear_elim.specs.Elimination.Outcome.{refuted, standing}

-- Rows that the elimination refutes have no solution.
abbrev pub RefutedNeverSolvable : Type 0
RefutedNeverSolvable = (rule : Rule) (order : List ℕ) (rows : List Row) (c : Derived)
    → elimination_by rule order rows ≡ refuted c → IsSolvable rows → ⊥

-- Rows of which none is left after all variables are eliminated are solvable.
abbrev pub StandingSolvable : Type 0
StandingSolvable = (rule : Rule) (order : List ℕ) (rows : List Row) (steps : List Step)
    → All (λ r. IsNormal r.terms × IsOver order r.terms) rows
    → elimination_by rule order rows ≡ standing steps → IsSolvable rows

-- The multipliers of the combination that refutes the rows combine them to a contradiction, unless
-- a multiplier or a partial sum overflows.
abbrev pub RefutedByMultipliers : Type 0
RefutedByMultipliers = (rule : Rule) (order : List ℕ) (rows : List Row) (c : Derived)
    → elimination_by rule order rows ≡ refuted c → All (λ m. unsigned_abs m.1 < 2 ^ 62) c.shares
    → ((x : ℕ) → IsWideThroughout (λ r. coefficient x r.terms) (multipliers c) rows)
    → IsWideThroughout (λ r. r.rest) (multipliers c) rows → IsContradiction (multipliers c) rows
