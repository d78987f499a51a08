-- The order of the goals of a procedure: the main goal, the goals of pre and post, those of the
-- invariants, and those of the rankings. This project's own.
use Rattle.std.specs.Prelude.{ℕ, ◌==◌, ◌&&◌, ◌||◌, Bool, nat_lt}
use Rattle.heylo_formula.specs.declared.goals.GoalId.{GoalId}
use Rattle.heylo_formula.specs.declared.goals.GoalId.TheVariants.{Main, Pre, Post, Invariant}
use Rattle.heylo_formula.specs.declared.goals.GoalId.TheVariants.{Ranking}

-- The rank of a kind of goal in the order.
abbrev pub kind_rank : GoalId → ℕ
kind_rank Main = 0
kind_rank Pre = 1
kind_rank Post = 2
kind_rank (Invariant loop) = 3
kind_rank (Ranking loop) = 4

-- The number of the loop of a goal; 0 if it has none.
abbrev pub loop_of : GoalId → ℕ
loop_of Main = 0
loop_of Pre = 0
loop_of Post = 0
loop_of (Invariant loop) = loop
loop_of (Ranking loop) = loop

-- Among the goals of a procedure, goal `i` precedes goal `j`.
abbrev pub stands_before : GoalId → GoalId → Bool
stands_before i j = nat_lt (kind_rank i) (kind_rank j)
    || (kind_rank i == kind_rank j && nat_lt (loop_of i) (loop_of j))
