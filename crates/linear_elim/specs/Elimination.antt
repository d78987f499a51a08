-- The elimination with its limits. These definitions say when more than 4,096 rows, or an overflow,
-- are reported. All other answers are defined by the solutions of the rows.
use Rattle.std.specs.Prelude.{ℕ, List, [], ◌∷◌, length, map, unsigned_abs, ℤ, pos, cond, ltb}
use Rattle.std.specs.Prelude.{Option, Some, None}
use Prim.Native.Nat.{suc}
use Rattle.linear_rows.specs.Row.{Row}
use Rattle.linear_elim.specs.Joins.{Derived}
use Rattle.linear_elim.specs.Steps.{lowers, uppers, tidied, undominated, contradiction, step_fits}
use Rattle.linear_elim.specs.Steps.{eliminate_one}

-- The rows that bound a variable from below and from above, before its step.
pub record Step : Type 0 where
  pub var : ℕ
  pub lows : List Derived
  pub ups : List Derived

-- The first contradiction among rows, and the rows after they are tidied.
pub record Gathered : Type 0 where
  pub found : Option Derived
  pub rows : List Derived

-- Whether rows that another row dominates are kept or dropped.
pub data Rule : Type 0 where
  keeps : Rule
  drops : Rule

-- `tidied_by rule rows`: the tidied rows; `drops` leaves out those that another row dominates.
abbrev pub tidied_by : Rule → List Derived → List Derived
tidied_by keeps rows = tidied rows
tidied_by drops rows = undominated (tidied rows)

-- `gathered rule rows`: the first contradiction among `rows`, and the rows that `rule` leaves.
abbrev pub gathered : Rule → List Derived → Gathered
gathered rule rows = record { found = contradiction rows; rows = tidied_by rule rows }

-- The outcome of an elimination: `refuted`, a contradiction; `standing`, no row left after these
-- steps; `too_many`, more than 4,096 rows, with the numbers of steps and of rows; `too_great`, an
-- overflow.
pub data Outcome : Type 0 where
  refuted : Derived → Outcome
  standing : List Step → Outcome
  too_many : ℕ → ℕ → Outcome
  too_great : Outcome

-- `after_step s o`: the outcome `o` after the step `s`.
abbrev pub after_step : Step → Outcome → Outcome
after_step s (refuted c) = refuted c
after_step s (standing ss) = standing (s ∷ ss)
after_step s (too_many n c) = too_many n c
after_step s too_great = too_great

-- `ended_by found o`: the contradiction `found` if there is one, otherwise the outcome `o`.
abbrev pub ended_by : Option Derived → Outcome → Outcome
ended_by None o = o
ended_by (Some c) o = refuted c

-- `unless_many n rows o`: `too_many` after `n` steps if there are more than 4,096 rows, else `o`.
abbrev pub unless_many : ℕ → List Derived → Outcome → Outcome
unless_many n rows o = cond (ltb 4096 (length rows)) (too_many n (length rows)) o

-- `step_of x rows`: the step of the variable `x`.
abbrev pub step_of : ℕ → List Derived → Step
step_of x rows = record { var = x; lows = lowers x rows; ups = uppers x rows }

-- `run rule n xs g`: the outcome after `n` steps, with the variables `xs` to come. A contradiction
-- ends it, then more than 4,096 tidied rows, then an overflow in a step.
unfoldable pub run : Rule → ℕ → List ℕ → Gathered → Outcome
run rule n [] g = ended_by g.found (unless_many n g.rows (standing []))
run rule n (x ∷ xs) g = ended_by g.found
    (unless_many n g.rows
    (cond (step_fits x g.rows)
    (after_step (step_of x g.rows) (run rule (suc n) xs (gathered rule (eliminate_one x g.rows))))
    too_great))

-- `own k r`: the first row `r`, with index `k`, as a combination of itself.
abbrev pub own : ℕ → Row → Derived
own k r = record { row = r; shares = (k, pos 1) ∷ []; over = 1 }

-- `start k rows`: the first rows as combinations of themselves, with indexes from `k` on.
unfoldable pub start : ℕ → List Row → List Derived
start k [] = []
start k (r ∷ rs) = own k r ∷ start (suc k) rs

-- `elimination_by rule order rows`: the outcome of eliminating the variables in this order.
abbrev pub elimination_by : Rule → List ℕ → List Row → Outcome
elimination_by rule order rows = run rule 0 order (gathered rule (start 0 rows))

-- `elimination order rows`: the outcome of the plain elimination, which keeps dominated rows.
abbrev pub elimination : List ℕ → List Row → Outcome
elimination order rows = elimination_by keeps order rows

-- `multipliers c`: the multipliers of the combination `c`.
abbrev pub multipliers : Derived → List (ℕ × ℕ)
multipliers c = map (λ (s : ℕ × ℤ). (s.0, unsigned_abs s.1)) c.shares
