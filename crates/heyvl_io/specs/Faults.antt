-- The numbers of calls and failures of a source or a sink. This project's own.
use Rattle.std.specs.Prelude.{◌≡◌, ◌⊎◌, ℕ, ◌+◌, ◌-◌, ◌^◌, ◌<◌, nat_lt, Result, is_ok, if◌then◌else◌}

-- The count is larger than before, or is at the largest value of a counter.
abbrev pub Rose : ℕ → ℕ → Type 0
Rose before after = (before < after) ⊎ (after ≡ 2 ^ 64 - 1)

-- The count after one more call. It stays at the largest value of a counter.
abbrev pub next_count : ℕ → ℕ
next_count count = if nat_lt count (2 ^ 64 - 1) then count + 1 else count

-- The number of failures after a call with this result.
abbrev pub faults_after : {T E : Type 0} → Result T E → ℕ → ℕ
faults_after result count = if is_ok result then count else next_count count
