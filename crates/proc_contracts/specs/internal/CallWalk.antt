-- The invariants of the walk over calls.
use Rattle.std.specs.Prelude.{◌≡◌, ◌<◌, ℕ, Bool, true, false, List, length, get_or}
use Rattle.std.specs.List.{All}
use Rattle.heyvl_acts.specs.Acts.{TypedProcedure, acts_in, procedure_at}
use Rattle.heyvl_acts.specs.Places.{in_order}
use Rattle.heyvl_acts.specs.Program.{Reaches, calls}
use Rattle.heyvl_acts.specs.Visible.{among}

-- `called` lists the procedures that the body of `p` calls, each of which exists.
pub record AreCalled (ps : List TypedProcedure) (p : ℕ) (called : List ℕ) : Type 0 where
  pub each : (q : ℕ) → among called q ≡ calls q (in_order (acts_in (procedure_at ps p).body))
  pub below : All (λ q. q < length ps) called

-- The marked procedures are those that `p` reaches.
pub record ReachIsMarked (ps : List TypedProcedure) (p : ℕ) (marks : List Bool) : Type 0 where
  pub length_is : length marks ≡ length ps
  pub all : (q : ℕ) → Reaches ps p q → get_or marks q false ≡ true
  pub only : (q : ℕ) → get_or marks q false ≡ true → Reaches ps p q
