-- The result of a step of the program.
use Rattle.linear_elim.specs.Elimination.{step_of}
use Rattle.linear_elim.specs.Joins.{Derived}
use Rattle.linear_elim.specs.Steps.{step_fits, eliminate_one, tidied, contradiction}
use Rattle.linear_elim.specs.declared.steps.After.{After}
use Rattle.linear_elim.specs.declared.steps.After.TheVariants.{Great, Few, Many}
use Rattle.std.specs.Prelude.{◌≡◌, ℕ, ◌<◌, List, length, true, false}

abbrev pub IsAfter : ℕ → List Derived → After → Type 0
IsAfter x rows Great = false ≡ step_fits x rows
IsAfter x rows (Few step next) = (true ≡ step_fits x rows) × (step ≡ step_of x rows)
    × (next.found ≡ contradiction (eliminate_one x rows))
    × (next.rows.items ≡ tidied (eliminate_one x rows))
IsAfter x rows (Many found count signless) = (true ≡ step_fits x rows)
    × (found ≡ contradiction (eliminate_one x rows))
    × (count ≡ length (tidied (eliminate_one x rows))) × (4096 < count)
