-- The answers of a search for a violation: which answers are allowed, and which one is given if all
-- numbers fit. This project's own.
use Rattle.std.specs.Prelude.{◌≡◌, ◌≤◌, ◌+◌, ℕ, List, Option, Some, None}
use Rattle.heyvl_num.specs.ExtendedNumbers.{value_of}
use Rattle.heyvl_num.specs.Value.{Value, ◌≤ᵛ◌, ◌<ᵛ◌}
use Rattle.heylo_formula.specs.declared.values.Val.{Val}
use Rattle.heyvl_acts.specs.Acts.{TypedProcedure, procedure_at}
use Rattle.quant_algebra.specs.ExactMeaning.{exact_value}
use Rattle.refute_runs.specs.Shortages.{IsShort}
use Rattle.refute_runs.specs.SumsAfter.{IsAbove, IsSum, IsWithinBefore, NamesStep, Unrollings}
use Rattle.refute_runs.specs.SumsAfter.{unrolled_in}
use Rattle.refute_runs.specs.declared.answers.Refuted.TheVariants.{Stopped, Violation, Within}
use Rattle.refute_runs.specs.declared.answers.Refuted.{Refuted}
use Rattle.run_machine.specs.declared.configurations.Decide.{Decide}
use Rattle.run_unroller.specs.Unrolling.{Unrolling, unrolling_of}
use Rattle.run_unroller.specs.declared.answers.Unrolled.TheVariants as unrolled

-- ---- Allowed answers, for at most n steps

-- The sum after `s` steps is above the pre, and the sum after one step fewer is not.
pub record PassesAt (us : Unrollings) (pre : Option Value) (n s : ℕ) (sum bound : Value)
    : Type 0 where
  pub steps : s ≤ n
  pub given : pre ≡ Some bound
  pub summed : IsSum us s sum
  pub above : bound <ᵛ sum
  pub before : IsWithinBefore us bound s

-- The sum after `n` steps is not above the pre.
pub record StaysWithin (us : Unrollings) (pre : Option Value) (n : ℕ) (sum bound : Value)
    : Type 0 where
  pub given : pre ≡ Some bound
  pub summed : IsSum us n sum
  pub within : sum ≤ᵛ bound

-- The step `s` is stopped, or a number overflows after `s` steps, which counts as the next step.
-- The sum after one step fewer is not above the pre.
pub data StopsAt (us : Unrollings) (pre : Option Value) (n s : ℕ) (answer : Unrolling)
    : Type 0 where
  by_step : (bound : Value) → 1 ≤ s → s ≤ n → NamesStep (us s) s → answer ≡ us s → pre ≡ Some bound
      → IsWithinBefore us bound s → StopsAt us pre n s answer
  by_number : s ≤ n → IsShort us pre s → answer ≡ unrolling_of (unrolled.Bits (s + 1))
      → ((bound : Value) → pre ≡ Some bound → IsWithinBefore us bound s) → StopsAt us pre n s answer

-- The answer is allowed.
abbrev pub MayCome : Unrollings → Option Value → ℕ → Refuted → Type 0
MayCome us pre n (Violation s sum bound) = PassesAt us pre n s (value_of sum) (value_of bound)
MayCome us pre n (Within sum bound) = StaysWithin us pre n (value_of sum) (value_of bound)
MayCome us pre n (Stopped s answer) = StopsAt us pre n s (unrolling_of answer)

-- ---- The answer if all numbers fit

-- After some number of steps, at most `n`, there is a sum above the pre.
pub record Passes (us : Unrollings) (pre : Option Value) (n : ℕ) : Type 0 where
  pub steps : ℕ
  pub few : steps ≤ n
  pub bound : Value
  pub given : pre ≡ Some bound
  pub above : IsAbove us bound steps

-- Nothing has stopped the runs, so there are sums.
abbrev pub GivesSums : Unrolling → Type 0
GivesSums (Unrolling.sums t) = Unit {0}
GivesSums (Unrolling.stopped cause step) = ⊥

-- The answer is `Violation` if some sum is above the pre; otherwise `Within` if there are sums
-- after `n` steps, and else `Stopped`. Exactly one of the three conditions holds, so it determines
-- the answer.
abbrev pub IsDecided : Unrollings → Option Value → ℕ → Refuted → Type 0
IsDecided us pre n (Violation s sum bound) = Passes us pre n
IsDecided us pre n (Within sum bound) = (Passes us pre n → ⊥) × GivesSums (us n)
IsDecided us pre n (Stopped s answer) = (Passes us pre n → ⊥) × (GivesSums (us n) → ⊥)

-- ---- The answers of a search

-- The answer is allowed. If no number overflows within `n` steps, it satisfies `IsDecided`. If the
-- pre has no exact value, it is `Stopped 0`, with `Bits` at step 1.
pub record IsAnswerOf (us : Unrollings) (pre : Option Value) (n : ℕ) (answer : Refuted)
    : Type 0 where
  pub may : MayCome us pre n answer
  pub decided : ((s : ℕ) → s ≤ n → IsShort us pre s → ⊥) → IsDecided us pre n answer
  pub no_pre : pre ≡ None → answer ≡ Stopped 0 (unrolled.Bits 1)

-- The answer on the runs of a script, of at most `n` steps, from a state of the procedure `p`.
abbrev pub IsRefutedAnswer : List TypedProcedure → ℕ → List Val → List Decide → ℕ → Refuted → Type 0
IsRefutedAnswer ps p state script n answer =
    IsAnswerOf (unrolled_in ps p state script) (exact_value (procedure_at ps p).pre state) n answer
