-- The runs of the procedures of a file do not depend on places. This project's own.
use Rattle.heylo_formula.specs.declared.values.Val.{Val}
use Rattle.heyvl_acts.specs.Acts.{procedure_at}
use Rattle.heyvl_print.specs.WithoutPlaces.{SameButPlaces}
use Rattle.heyvl_syntax.specs.Procedures.{Procedure}
use Rattle.static_rules.specs.Files.{resolved}
use Rattle.run_laws.specs.Bare.{bare_procedures}
use Rattle.run_machine.specs.Bound.{Bound, IsState}
use Rattle.run_machine.specs.Configurations.{begin}
use Rattle.run_machine.specs.Runs.{runs}
use Rattle.run_machine.specs.Scheduler.{Tree}
use Rattle.run_machine.specs.Sums.{sum_of}
use Rattle.std.specs.Prelude.{Bool, List, ◌≡◌, ℕ}

-- Files that differ only in places have the same typed procedures, apart from the rules of loops
-- and from places.
abbrev pub ProceduresIgnorePlaces : Type 0
ProceduresIgnorePlaces = (file other : List Procedure) → SameButPlaces file other
    → bare_procedures (resolved file) ≡ bare_procedures (resolved other)

-- If files differ only in places, each procedure has the same states in both.
abbrev pub StatesIgnorePlaces : Type 0
StatesIgnorePlaces =
    (file other : List Procedure) → SameButPlaces file other → (p : ℕ) (s : List Val)
    → IsState (procedure_at (resolved file) p) s → IsState (procedure_at (resolved other) p) s

-- If files differ only in places, the runs of each procedure have the same sums in both: upper sums
-- of reward and post (`up`), or sums of the post and of the mass not yet terminated, from every
-- state, for every number of steps and under every scheduler.
abbrev pub SumsIgnorePlaces : Type 0
SumsIgnorePlaces =
    (file other : List Procedure) → SameButPlaces file other
    → (up : Bool) (p n : ℕ) (s : List Val) (t : Tree)
    → sum_of up (procedure_at (resolved file) p).post
    (runs (resolved file) n (begin (resolved file) p s) t)
    ≡ sum_of up (procedure_at (resolved other) p).post
    (runs (resolved other) n (begin (resolved other) p s) t)

-- If files differ only in places, the bound of a procedure holds in one if it holds in the other.
abbrev pub BoundsIgnorePlaces : Type 0
BoundsIgnorePlaces = (file other : List Procedure) → SameButPlaces file other → (p : ℕ)
    → Bound (resolved file) p → Bound (resolved other) p
