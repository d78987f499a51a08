-- The result of a walk to a place, used only by the functions of this crate.
use Rattle.std.specs.Prelude.{◌≡◌, ◌+◌, ℕ, List, Some, Result, Ok, Err, length}
use Rattle.std.specs.Borrow.{Bor}
use Rattle.heyvl_acts.specs.Acts.{Act}
use Rattle.heyvl_acts.specs.PlainActs.{act_of}
use Rattle.heyvl_acts.specs.Places.{nth}
use Rattle.heyvl_acts.specs.declared.acts.Act as A

-- The act at the place, or the number of acts by which the place is beyond the acts.
abbrev pub Finds : List Act → ℕ → Result (Bor A.Act) ℕ → Type 0
Finds acts place (Ok a) = nth acts place ≡ Some (act_of a.now)
Finds acts place (Err left) = place ≡ length acts + left

-- The place is among the remaining acts `rest`, with the index `left`.
pub record Behind (acts : List Act) (place : ℕ) (rest : List Act) (left : ℕ) : Type 0 where
  pub same : nth acts place ≡ nth rest left
  pub apart : place + length rest ≡ length acts + left
