-- The list of the procedures that a procedure reaches. This project's own.
use Rattle.std.specs.Prelude.{◌≡◌, ℕ, true, List, length}
use Rattle.heyvl_acts.specs.Acts.{TypedProcedure}
use Rattle.heyvl_acts.specs.Program.{Reaches}
use Rattle.heyvl_acts.specs.Rules.{GrowBelow}
use Rattle.heyvl_acts.specs.Visible.{among}

-- `AreReached ps p found`: `found` lists the procedures that `p` reaches by calls, and no others,
-- in ascending order and each once.
pub record AreReached (ps : List TypedProcedure) (p : ℕ) (found : List ℕ) : Type 0 where
  pub growing : GrowBelow 0 (length ps) found
  pub all : (q : ℕ) → Reaches ps p q → among found q ≡ true
  pub only : (q : ℕ) → among found q ≡ true → Reaches ps p q
