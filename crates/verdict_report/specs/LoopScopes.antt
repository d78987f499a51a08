-- The variables of a procedure whose values are shown in a goal's state. This project's own.
use Rattle.heylo_formula.specs.declared.goals.GoalId.{GoalId}
use Rattle.heylo_formula.specs.declared.goals.GoalId.TheVariants.{Main, Pre, Post, Invariant}
use Rattle.heylo_formula.specs.declared.goals.GoalId.TheVariants.{Ranking}
use Rattle.act_walks.specs.Loops.{loop_in}
use Rattle.heyvl_acts.specs.Acts.{Acts, Head, TypedProcedure, acts_in}
use Rattle.heyvl_acts.specs.Places.{in_order}
use Rattle.heyvl_acts.specs.Rules.{counted}
use Rattle.std.specs.Prelude.{List, None, Option, Some, [], length, ◌++◌, ℕ}

-- The variables that are visible at the loop, or none if there is no loop.
abbrev pub scope_at : Option (Head × Acts) → List ℕ
scope_at (Some l) = l.0.scope
scope_at None = []

-- The variables that are visible at the loop of `p` with the number `n`, or none if there is no
-- such loop.
abbrev pub scope_of_loop : TypedProcedure → ℕ → List ℕ
scope_of_loop p n = scope_at (loop_in n (in_order (acts_in p.body)))

-- The numbers of the inputs and outputs.
abbrev pub interface_numbers : TypedProcedure → List ℕ
interface_numbers p = counted 0 (length (p.inputs ++ p.outputs))

-- The variables whose values are always shown: for an invariant or a ranking those that are visible
-- at its loop, otherwise the inputs and outputs.
abbrev pub always_shown : TypedProcedure → GoalId → List ℕ
always_shown p Main = interface_numbers p
always_shown p Pre = interface_numbers p
always_shown p Post = interface_numbers p
always_shown p (Invariant n) = scope_of_loop p n
always_shown p (Ranking n) = scope_of_loop p n
