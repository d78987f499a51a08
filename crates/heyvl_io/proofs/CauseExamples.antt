-- The causes of the errors of `read_all` and `write_all`, and the premises of the laws of the
-- order: for each, small values at which it holds, and values at which it does not.
use Rattle.std.proofs.Common.{◌≡◌, ℕ, ◌+◌, ◌<◌, List, [], ◌∷◌, length, take, Some, inl, inr, refl}
use Rattle.std.proofs.Common.{arith}
use Rattle.std.specs.Prelude.{◌≢◌, Err, Ok, slice_get}
use Rattle.heyvl_io.specs.Bytes.{IsUsedUp, with_appended}
use Rattle.heyvl_io.specs.Faults.{Rose, faults_after}
use Rattle.heyvl_io.specs.History.{History, handed_out, since_start, IsTaken}
use Rattle.heyvl_io.specs.Order.{first, other, order_after}

abbrev name : List ℕ
name = 97 ∷ []

-- The bytes `xyz` of the name.
abbrev three_bytes : List ℕ
three_bytes = 120 ∷ 121 ∷ 122 ∷ []

-- The history after a read of the name that returned all three bytes.
abbrev all_read : History
all_read = handed_out name three_bytes ∷ []

-- ---- `ReadStop.TooLong`, after `limit + 1` bytes

-- Three bytes are more than the limit 2.
three_pass_two : length (since_start all_read) ≡ 2 + 1
three_pass_two = refl

-- They are within the limit 3.
three_are_within_three : length (since_start all_read) ≡ 3 + 1 → ⊥
three_are_within_three e = absurd (omega (arith, e))

-- The name holds more than 2 bytes, and not more than 3.
held_is_longer : (2 < length three_bytes) × (3 < length three_bytes → ⊥)
held_is_longer = (omega arith, λ h. absurd (omega (arith, h)))

-- One read of the name with the limit 2 takes all of them, and no more.
taken_by_two : IsTaken [] all_read name (2 + 1)
taken_by_two = record { bytes = three_bytes; one = refl; few = omega arith }

-- ---- `ReadStop.Failed` and `Cut`, after a failure

-- A failure raises the count of faults from 0 to 1.
failure_is_counted : Rose 0 (faults_after {T = ℕ} {E = ℕ} (Err 0) 0)
failure_is_counted = inl (omega arith)

-- A success leaves it at 0.
success_is_not_counted : Rose 0 (faults_after {T = ℕ} {E = ℕ} (Ok 0) 0) → ⊥
success_is_not_counted (inl less) = omega (arith, less)
success_is_not_counted (inr last) = absurd (omega (arith, last))

-- The first 2 of three bytes are written, which is fewer than all.
cut_after_two :
    (2 < length three_bytes)
    × (with_appended (Some []) (take 2 three_bytes) ≡ Some (120 ∷ 121 ∷ []))
cut_after_two = (omega arith, refl)

-- After all 3 bytes nothing is cut off.
no_cut_after_all : 3 < length three_bytes → ⊥
no_cut_after_all h = absurd (omega (arith, h))

-- ---- Nothing is left after a start that fails

-- No bytes are left.
used_up : IsUsedUp (Some [])
used_up = refl

-- Three bytes are left.
not_used_up : IsUsedUp (Some three_bytes) → ⊥
not_used_up e = cc

-- ---- The premises of the laws of the order

-- The name is the next one after no start, and its start counts.
next_name :
    (slice_get (name ∷ []) 0 ≡ Some name) × (order_after (name ∷ []) name (first 0) ≡ first 1)
next_name = (refl, refl)

-- Another name is not the next, and its start ends the order.
another_name :
    (slice_get (name ∷ []) 0 ≢ Some three_bytes)
    × (order_after (name ∷ []) three_bytes (first 0) ≡ other)
another_name = (λ e. cc, refl)
