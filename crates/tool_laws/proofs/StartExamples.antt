-- Worked starts: the number of names that are started, by the fault, for the calls `check a s` and
-- `check`.
use Rattle.heyvl_io.specs.History.{History}
use Rattle.heyvl_io.specs.Order.{Order, first, other, untold}
use Rattle.tool_laws.proofs.CallExamples.{Told, asked, asks, file_name, last_taken, lone, no_command, of_both, of_file, second_fails, second_name, source, start, telling, until, words}
use Rattle.tool_laws.proofs.exported.CallLemmas.{same_settings}
use Rattle.tool_laws.specs.Calls.{Moment, call, moment}
use Rattle.tool_laws.specs.Outcomes.{IsAnswered, IsOutOfMemory, Writing}
use Rattle.tool_laws.specs.SourceUses.{IsReadInTurn, IsStartedOnce, IsStartedRight, IsUntouched}
use Rattle.tool_laws.specs.StartLaws.{AreFirst, HasNamesOf, StartsAreCounted, starts_of}
use Rattle.command_words.specs.Requests.{files_of}
use Rattle.command_rules.specs.declared.faults.Fault.TheVariants as faults
use Rattle.tool_laws.specs.declared.outcomes.Outcome.{Outcome}
use Rattle.command_words.specs.declared.requests.Settings.{Settings}
use Rattle.run_unroller.specs.declared.answers.Unrolled.TheVariants.{Full}
use Rattle.std.proofs.Common.{IfSome, List, None, Option, Some, [], ap, arith, codes, inl, inr, length, refl, subst, ◌+◌, ◌∷◌, ◌≡◌, ◌⊎◌, ℕ}

-- ---- The table

table :
    (starts_of faults.Usage ≡ Some 0) × (starts_of (faults.Read 0) ≡ Some 1) × (starts_of (faults.TooLong 0) ≡ Some 1) × (starts_of (faults.Read 1) ≡ Some 2)
    × (starts_of (faults.TooLong 1) ≡ Some 2) × (starts_of faults.Nothing ≡ None) × (starts_of (faults.Source 4 (record { from = 0; to = 0 })) ≡ None)
    × (starts_of (faults.Cert 1) ≡ None) × (starts_of (faults.Script 1) ≡ None) × (starts_of faults.NoProcedure ≡ None) × (starts_of faults.Shape ≡ None) × (starts_of (faults.NotProgram 0) ≡ None)
    × (starts_of (faults.Run (Full 1)) ≡ None) × (starts_of faults.Write ≡ None) × (starts_of faults.Memory ≡ None)
table = (refl, refl, refl, refl, refl, refl, refl, refl, refl, refl, refl, refl, refl, refl, refl)

-- ---- Names and starts

has_names : (told : Told) (after : Moment) → HasNamesOf (until told after)
has_names told after = record {
  fresh = refl;
  files = λ settings also. subst (λ (t : Settings). AreFirst (files_of t) (file_name ∷ second_name ∷ [])) (same_settings words asked settings asks also) (refl, refl);
}

file_started : IsStartedOnce (source telling) file_name start (moment (first 1) (of_file (codes "proc")) 0)
file_started = record { order = refl; taken = record { bytes = codes "proc"; one = refl; few = omega arith } }

second_started_then : IsStartedOnce (source telling) second_name (moment (first 1) (of_file (codes "proc")) 0) second_fails
second_started_then = record { order = refl; taken = record { bytes = codes "cae"; one = refl; few = omega arith } }

-- Both names were started in their order, and three bytes of the second one were read.
started_right : (NoMemory : Type 0) → IsStartedRight (until telling second_fails) NoMemory
started_right NoMemory = record {
  no_start = λ usage. absurd (usage asked asks);
  start =
      λ settings also.
      inl (subst (λ (t : Settings). IsReadInTurn (files_of t) (source telling) start second_fails) (same_settings words asked settings asks also) (inr (moment (first 1) (of_file (codes "proc")) 0, file_started, second_started_then)));
}

-- ---- Faults that contradict the order

abbrev number : Order → ℕ
number untold = 0
number (first k) = 1 + k
number other = 100

-- If both names were started, the fault is neither about the first one nor about the arguments.
told_of_the_second : StartsAreCounted → (done : Writing) (outcome : Outcome) (n : ℕ) → IsAnswered (until telling second_fails) done outcome ⊎ IsOutOfMemory done outcome → starts_of outcome.fault ≡ Some n → n ≡ 2
told_of_the_second counted done outcome n answered starts =
    let order : second_fails.order ≡ first n = subst (λ (o : Option ℕ). IfSome o (λ m. second_fails.order ≡ first m)) starts (counted (until telling second_fails) done outcome (has_names telling second_fails) (started_right _) answered).0 in
    let same : 1 + 2 ≡ 1 + n = ap number order in
    omega (arith, same)

no_fault_of_the_first : StartsAreCounted → (done : Writing) (outcome : Outcome) → IsAnswered (until telling second_fails) done outcome ⊎ IsOutOfMemory done outcome → outcome.fault ≡ faults.Read 0 → ⊥
no_fault_of_the_first counted done outcome answered fault =
    let one : 1 ≡ 2 = told_of_the_second counted done outcome 1 answered (ap starts_of fault) in
    omega (arith, one)

no_usage : StartsAreCounted → (done : Writing) (outcome : Outcome) → IsAnswered (until telling second_fails) done outcome ⊎ IsOutOfMemory done outcome → outcome.fault ≡ faults.Usage → ⊥
no_usage counted done outcome answered fault =
    let none : 0 ≡ 2 = told_of_the_second counted done outcome 0 answered (ap starts_of fault) in
    omega (arith, none)

-- The contract refuses a call in which a name was started although the arguments are not a valid
-- command.
no_start_for_usage : (history : History) (rises : ℕ) (NoMemory : Type 0) → IsStartedRight (call lone (source telling) start (moment (first 1) history rises)) NoMemory → ⊥
no_start_for_usage history rises NoMemory right =
    let untouched : IsUntouched start (moment (first 1) history rises) = right.no_start no_command in
    let same : 1 + 1 ≡ 1 + 0 = ap number untouched.order in
    omega (arith, same)

-- The contract refuses a call that read FILE to its end and two million bytes of the second file,
-- and then ran out of memory.
no_two_million : (many : List ℕ) → length many ≡ 2000000 → (outcome : Outcome) → IsStartedRight (until telling (moment (first 2) (of_both (codes "proc") many) 0)) (outcome.fault ≡ faults.Memory) → ⊥
no_two_million many size outcome right = by (right.start asked asks)
  where
    by : IsReadInTurn (files_of asked) (source telling) start (moment (first 2) (of_both (codes "proc") many) 0) ⊎ ((outcome.fault ≡ faults.Memory) × IsUntouched start (moment (first 2) (of_both (codes "proc") many) 0)) → ⊥
    by (inl (inl started)) = let same : 1 + 2 ≡ 1 + 1 = ap number started.order in omega (arith, same)
    by (inl (inr (between, started, after_it))) =
        let taken = after_it.taken in
        let all : length taken.bytes ≡ length many = last_taken between.history _ second_name taken.bytes taken.one in
        let few = taken.few in
        omega (arith, all, few, size)
    by (inr (out, untouched)) = let same : 1 + 2 ≡ 1 + 0 = ap number untouched.order in omega (arith, same)
