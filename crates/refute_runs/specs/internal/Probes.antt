-- The comparison of the sum after one number of steps, and the intermediate results of a search.
use Rattle.std.specs.Prelude.{◌≡◌, ◌≤◌, ◌<◌, ◌+◌, ℕ, None, Option, Some}
use Rattle.heyvl_num.specs.ExtendedNumbers.{value_of}
use Rattle.heyvl_num.specs.Value.{Value, ◌≤ᵛ◌, ◌<ᵛ◌}
use Rattle.refute_runs.specs.RefutedAnswers.{MayCome}
use Rattle.refute_runs.specs.Shortages.{IsShort}
use Rattle.refute_runs.specs.SumsAfter.{IsSum, IsWithinBefore, NamesStep, Unrollings, together}
use Rattle.refute_runs.specs.declared.answers.Refuted.TheVariants.{Stopped, Violation, Within}
use Rattle.refute_runs.specs.declared.answers.Refuted.{Refuted}
use Rattle.refute_runs.specs.declared.probes.Probe.TheVariants as probe
use Rattle.refute_runs.specs.declared.probes.Probe.{Probe}
use Rattle.run_unroller.specs.Unrolling.{Unrolling, unrolling_of}
use Rattle.run_unroller.specs.declared.answers.Unrolled.TheVariants as unrolled

-- The step `s` is stopped, or a number overflows after `s` steps.
pub data IsBarred (us : Unrollings) (bound : Value) (s : ℕ) (answer : Unrolling) : Type 0 where
  by_step : 1 ≤ s → NamesStep (us s) s → answer ≡ us s → IsBarred us bound s answer
  by_number : IsShort us (Some bound) s → answer ≡ unrolling_of (unrolled.Bits (s + 1))
      → IsBarred us bound s answer

-- The answer is right if the sum after one step fewer is not above the bound.
abbrev pub IsCandidate : Unrollings → Value → ℕ → Refuted → Type 0
IsCandidate us bound s (Violation t sum b) =
    (t ≡ s) × ((IsSum us s (value_of sum) × (bound <ᵛ value_of sum)) × (value_of b ≡ bound))
IsCandidate us bound s (Within sum b) = ⊥
IsCandidate us bound s (Stopped t answer) = (t ≡ s) × IsBarred us bound s (unrolling_of answer)

-- The search for fewer than `s` steps continues below `t`, with `answer` as a candidate; from `t`
-- on there are no sums.
pub record EndsAt (us : Unrollings) (bound : Value) (s t : ℕ) (answer : Refuted) : Type 0 where
  pub few : t ≤ s
  pub candidate : IsCandidate us bound t answer
  pub empty : (k : ℕ) → t ≤ k → k < s → together (us k) ≡ None

-- The result of comparing the sum after `s` steps.
abbrev pub IsSeen : Unrollings → Value → ℕ → Probe → Type 0
IsSeen us bound s (probe.Within sum) = IsSum us s (value_of sum) × (value_of sum ≤ᵛ bound)
IsSeen us bound s (probe.Until t answer) = EndsAt us bound s t answer

-- A right answer, of at most `n` steps.
pub record IsLeast (us : Unrollings) (bound : Value) (n : ℕ) (answer : Refuted) : Type 0 where
  pub steps : ℕ
  pub few : steps ≤ n
  pub candidate : IsCandidate us bound steps answer
  pub before : IsWithinBefore us bound steps

-- An allowed answer, and the one that is given if the pre has no exact value.
pub record IsPossible (us : Unrollings) (pre : Option Value) (n : ℕ) (answer : Refuted)
    : Type 0 where
  pub may : MayCome us pre n answer
  pub no_pre : pre ≡ None → answer ≡ Stopped 0 (unrolled.Bits 1)
