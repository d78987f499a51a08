-- The sums of a script's runs after each number of steps, and their comparison with a bound. This
-- project's own.
use Rattle.std.specs.Prelude.{◌≡◌, ℕ, List, Option, Some, None}
use Prim.Native.Nat.{zero, suc}
use Rattle.heyvl_num.specs.ExactValues.{exact_sumᵛ}
use Rattle.heyvl_num.specs.Value.{Value, ◌≤ᵛ◌, ◌<ᵛ◌}
use Rattle.heylo_formula.specs.declared.values.Val.{Val}
use Rattle.heyvl_acts.specs.Acts.{TypedProcedure}
use Rattle.run_machine.specs.Names.{Stored}
use Rattle.run_machine.specs.StoredStep.{stored_begin}
use Rattle.run_machine.specs.declared.configurations.Decide.{Decide}
use Rattle.run_unroller.specs.RunLists.{begun}
use Rattle.run_unroller.specs.Unrolling.{Unrolling, unrolled}

-- The result of unrolling for each number of steps.
abbrev pub Unrollings : Type 0
Unrollings = ℕ → Unrolling

-- The results of unrolling the runs under a script from the configuration `first`.
abbrev pub unrolled_from : List TypedProcedure → ℕ → Stored → List Decide → Unrollings
unrolled_from ps p first script s = unrolled ps p script s (begun first)

-- The results of unrolling the runs under a script from a state.
abbrev pub unrolled_in : List TypedProcedure → ℕ → List Val → List Decide → Unrollings
unrolled_in ps p state script = unrolled_from ps p (stored_begin ps p state) script

-- The reward plus the post, or nothing if there are no sums or their sum overflows.
abbrev pub together : Unrolling → Option Value
together (Unrolling.sums t) = exact_sumᵛ t.reward t.post
together (Unrolling.stopped cause step) = None

-- `sum` is the sum after `s` steps.
abbrev pub IsSum : Unrollings → ℕ → Value → Type 0
IsSum us s sum = together (us s) ≡ Some sum

-- There is a sum after `s` steps, and it is above the bound.
abbrev pub IsAbove : Unrollings → Value → ℕ → Type 0
IsAbove us bound s = (sum : Value) × (IsSum us s sum × (bound <ᵛ sum))

-- There is a sum after `s` steps, and it is not above the bound.
abbrev pub IsWithin : Unrollings → Value → ℕ → Type 0
IsWithin us bound s = (sum : Value) × (IsSum us s sum × (sum ≤ᵛ bound))

-- The sum after one step fewer than `s` is not above the bound. For 0 steps nothing is required.
abbrev pub IsWithinBefore : Unrollings → Value → ℕ → Type 0
IsWithinBefore us bound zero = Unit {0}
IsWithinBefore us bound (suc s) = IsWithin us bound s

-- The result of unrolling is a stop at the step `s`.
abbrev pub NamesStep : Unrolling → ℕ → Type 0
NamesStep (Unrolling.sums t) s = ⊥
NamesStep (Unrolling.stopped cause step) s = step ≡ s
