-- The definitions at small values, worked out by hand.
use Rattle.std.proofs.Common.{◌≡◌, ℕ, ◌-◌, ◌^◌, ◌≤◌, List, [], ◌∷◌, length, map, Some, None, inl, inr, refl, ap, arith}
use Rattle.heyvl_io.specs.Bytes.{with_appended, HandsOut}
use Rattle.heyvl_io.specs.Faults.{Rose, next_count}
use Rattle.heyvl_io.specs.History.{History, handed_out, with_start, with_bytes, since_start, IsTaken}
use Rattle.heyvl_io.specs.Order.{untold, first, other, order_after}

-- The names `a` and `bc`.
a : List ℕ
a = 97 ∷ []

bc : List ℕ
bc = 98 ∷ 99 ∷ []

names : List (List ℕ)
names = a ∷ bc ∷ []

first_name : order_after names a (first 0) ≡ first 1
unfolding names a
first_name = refl

second_name : order_after names bc (first 1) ≡ first 2
unfolding names a bc
second_name = refl

second_name_first : order_after names bc (first 0) ≡ other
unfolding names a bc
second_name_first = refl

first_name_twice : order_after names a (first 1) ≡ other
unfolding names a bc
first_name_twice = refl

no_name_is_left : order_after names a (first 2) ≡ other
unfolding names a bc
no_name_is_left = refl

other_for_good : order_after names a other ≡ other
other_for_good = refl

untold_for_good : order_after names a untold ≡ untold
untold_for_good = refl

-- Two of three bytes, in a buffer of four.
two_of_three : HandsOut (Some (1 ∷ 2 ∷ 3 ∷ [])) (Some (3 ∷ [])) (1 ∷ 2 ∷ 9 ∷ 9 ∷ []) 2
two_of_three = record { front = refl; end = λ none. absurd (omega arith) }

no_byte_is_skipped : HandsOut (Some (1 ∷ 2 ∷ 3 ∷ [])) (Some (3 ∷ [])) (2 ∷ 9 ∷ []) 1 → ⊥
no_byte_is_skipped given = let front = given.front in cc

none_only_from_nothing : HandsOut (Some (1 ∷ [])) (Some (1 ∷ [])) (9 ∷ []) 0 → ⊥
none_only_from_nothing given = let end = given.end refl in cc

what_is_told_stays_told : HandsOut (Some (1 ∷ [])) None (1 ∷ []) 1 → ⊥
what_is_told_stays_told given = let front = given.front in cc

behind_those_before : with_appended (Some (1 ∷ [])) (2 ∷ 3 ∷ []) ≡ Some (1 ∷ 2 ∷ 3 ∷ [])
behind_those_before = refl

one_more : next_count 0 ≡ 1
one_more = refl

to_the_last_value : next_count (2 ^ 64 - 2) ≡ 2 ^ 64 - 1
to_the_last_value = refl

at_the_last_value : next_count (2 ^ 64 - 1) ≡ 2 ^ 64 - 1
at_the_last_value = refl

rose : Rose 3 4
rose = inl (omega arith)

rose_at_the_last_value : Rose (2 ^ 64 - 1) (2 ^ 64 - 1)
rose_at_the_last_value = inr refl

did_not_rise : Rose 3 3 → ⊥
did_not_rise (inl less) = omega arith
did_not_rise (inr last) = omega arith

-- `a` was started and two bytes of it were read, then `bc` was started and nothing was read.
two_starts : History
two_starts = handed_out a (1 ∷ 2 ∷ []) ∷ (handed_out bc [] ∷ [])

no_start : with_start [] a ≡ handed_out a [] ∷ []
unfolding a
no_start = refl

a_start_more : with_start (handed_out a (1 ∷ 2 ∷ []) ∷ []) bc ≡ two_starts
unfolding two_starts a bc
a_start_more = refl

-- A name that is started again has another entry.
a_start_again : with_start two_starts bc ≡ handed_out a (1 ∷ 2 ∷ []) ∷ (handed_out bc [] ∷ (handed_out bc [] ∷ []))
unfolding two_starts a bc
a_start_again = refl

bytes_of_the_last : with_bytes two_starts (3 ∷ []) ≡ handed_out a (1 ∷ 2 ∷ []) ∷ (handed_out bc (3 ∷ []) ∷ [])
unfolding two_starts a bc
bytes_of_the_last = refl

bytes_behind_bytes : with_bytes (with_bytes two_starts (3 ∷ [])) (4 ∷ 5 ∷ []) ≡ handed_out a (1 ∷ 2 ∷ []) ∷ (handed_out bc (3 ∷ 4 ∷ 5 ∷ []) ∷ [])
unfolding two_starts a bc
bytes_behind_bytes = refl

since_the_last_start : since_start (with_bytes two_starts (3 ∷ [])) ≡ 3 ∷ []
unfolding two_starts a bc
since_the_last_start = refl

three_of_three : IsTaken (handed_out a (1 ∷ 2 ∷ []) ∷ []) (handed_out a (1 ∷ 2 ∷ []) ∷ (handed_out bc (3 ∷ 4 ∷ 5 ∷ []) ∷ [])) bc 3
unfolding a bc
three_of_three = record { bytes = 3 ∷ 4 ∷ 5 ∷ []; one = refl; few = omega arith }

three_of_two : IsTaken [] (handed_out a (3 ∷ 4 ∷ 5 ∷ []) ∷ []) a 2 → ⊥
three_of_two h =
    let same : 3 ∷ 4 ∷ 5 ∷ [] ≡ h.bytes = ap since_start h.one in
    let few : length h.bytes ≤ 2 = h.few in
    omega (arith, ap length same)

another_name : IsTaken [] (handed_out a (3 ∷ []) ∷ []) bc 2 → ⊥
unfolding a bc
another_name h = let name : a ∷ [] ≡ bc ∷ [] = ap (map (λ s. s.name)) h.one in cc

two_starts_are_not_one : IsTaken [] two_starts bc 5 → ⊥
unfolding two_starts a bc
two_starts_are_not_one h = let one = h.one in cc
