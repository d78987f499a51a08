-- Laws of bounds over runs. If the bound goals of a program hold, and those of each procedure that
-- it reaches, which must be a program too, its bound holds over all runs. If the main goal of a
-- program without loops and calls fails in a state, runs from this state violate the bound. The
-- typed file must satisfy the static rules. This project's own.
use Rattle.std.specs.Prelude.{◌≤◌, ◌<◌, ℕ, List, length}
use Rattle.heylo_formula.specs.Choices.{Choices}
use Rattle.heylo_formula.specs.Goals.{Compares}
use Rattle.heylo_formula.specs.Meaning.{value}
use Rattle.heylo_formula.specs.State.{environment}
use Rattle.heylo_formula.specs.declared.values.Val.{Val}
use Rattle.heyvl_acts.specs.Acts.{TypedProcedure, acts_in, procedure_at}
use Rattle.heyvl_acts.specs.Forward.{forward}
use Rattle.heyvl_acts.specs.Length.{length_of}
use Rattle.heyvl_acts.specs.Places.{in_order}
use Rattle.heyvl_acts.specs.Program.{IsProgram, Reaches}
use Rattle.heyvl_acts.specs.Rules.{Each, MeetsRules}
use Rattle.heyvl_acts.specs.Straight.{IsStraight}
use Rattle.run_machine.specs.Bound.{Bound, IsState}
use Rattle.run_machine.specs.Configurations.{begin}
use Rattle.run_machine.specs.Runs.{runs}
use Rattle.run_machine.specs.Scheduler.{Tree}
use Rattle.run_machine.specs.Sums.{sum_of}
use Rattle.loop_encodings.specs.BoundGoals.{BoundGoalsHold}

-- The procedure `p` is a program, and its bound goals hold.
pub record IsShown (ps : List TypedProcedure) (p : ℕ) : Type 0 where
  pub program : IsProgram (procedure_at ps p)
  pub goals : BoundGoalsHold ps (procedure_at ps p)

-- The procedure `p`, and each procedure that it reaches, is a program whose bound goals hold.
pub record IsShownThroughout (ps : List TypedProcedure) (p : ℕ) : Type 0 where
  pub itself : IsShown ps p
  pub reached : (q : ℕ) → Reaches ps p q → IsShown ps q

-- If `p` and each procedure that it reaches is a program whose bound goals hold, the bound of `p`
-- holds over all runs.
abbrev pub ShownBoundsHold : Type 0
ShownBoundsHold = (ps : List TypedProcedure) (p : ℕ) → Each (MeetsRules ps) ps → p < length ps
    → IsShownThroughout ps p → Bound ps p

-- ---- Violations

-- The runs of `n` steps of the procedure `p` from the state `s`, under some scheduler, violate its
-- bound.
pub record IsBroken (ps : List TypedProcedure) (p : ℕ) (s : List Val) (n : ℕ) : Type 0 where
  pub scheduler : Tree
  pub breaks : Compares (procedure_at ps p).co
      (value (procedure_at ps p).pre (environment s) Choices.stop)
      (sum_of (procedure_at ps p).co (procedure_at ps p).post (runs ps n (begin ps p s) scheduler))
      → ⊥

-- If the body of a program without loops and calls violates the pre in a state, for some choices,
-- there are runs from this state that violate its bound: for each number of steps that is at least
-- the length of the body.
abbrev pub BrokenGoalsBreakBounds : Type 0
BrokenGoalsBreakBounds = (ps : List TypedProcedure) (p : ℕ) (s : List Val) (c : Choices)
    → Each (MeetsRules ps) ps → p < length ps → IsProgram (procedure_at ps p)
    → Each IsStraight (in_order (acts_in (procedure_at ps p).body)) → IsState (procedure_at ps p) s
    → (Compares (procedure_at ps p).co (value (procedure_at ps p).pre (environment s) Choices.stop)
    (forward (acts_in (procedure_at ps p).body) (value (procedure_at ps p).post) (environment s) c)
    → ⊥)
    → (n : ℕ) → length_of (acts_in (procedure_at ps p).body) ≤ n → IsBroken ps p s n
