-- The tree of the walk. This project's own; its multipliers are those of Farkas (1902).
use Rattle.std.specs.Prelude.{◌≡◌, ℕ, ℤ, List, true, false}
use Prim.Native.Nat.{suc}
use Rattle.heylo_formula.specs.Goals.{Goal}
use Rattle.linear_form.specs.Query.{Atom, Taken, onto}
use Rattle.linear_form.specs.Query.Query.{done}
use Rattle.linear_form.specs.Questions.{Ends}
use Rattle.linear_form.specs.Paths.{end_at}
use Rattle.linear_form.specs.PathRows.{IsPlainAt}
use Rattle.linear_form.specs.Cells.{IsDropped, IsKeptPath, GoesOn}
use Rattle.goal_answers.specs.Trees.{Tree}
use Rattle.farkas_check.specs.AcceptedCertificates.{IsRefuted}
use Rattle.region_split.specs.Pieces.{IsSplitAt, first_half, second_half}

-- `IsPieceTree g n ps t`: `t` is the tree of the piece `ps` after `n` splits, which has no ends:
-- multipliers if its rows are refuted, otherwise a split of an integer variable.
pub data IsPieceTree (g : Goal) : ℕ → List Taken → Tree → Type 0 where
  refuted : (n : ℕ) (ps : List Taken) (ms : List (ℕ × ℕ)) → IsRefuted g ps ms
      → IsPieceTree g n ps (Tree.farkas ms)
  halves : (n : ℕ) (ps : List Taken) (x : ℕ) (m : ℤ) (t u : Tree) → IsSplitAt g n ps x m
      → IsPieceTree g (suc n) (first_half ps x m) t → IsPieceTree g (suc n) (second_half ps x m) u
      → IsPieceTree g n ps (Tree.whole x m t u)

-- `IsWalkTree g ps t`: `t` is the tree of the walk from the path `ps` on, if the goal holds in each
-- cell there: multipliers if the path is dropped, a split at a comparison, and at an end `plain` or
-- the tree of its pieces.
pub data IsWalkTree (g : Goal) : List Taken → Tree → Type 0 where
  dropped : (ps : List Taken) (ms : List (ℕ × ℕ)) → IsDropped g ps → IsRefuted g ps ms
      → IsWalkTree g ps (Tree.farkas ms)
  split : (ps : List Taken) (q : Atom) (t u : Tree) → GoesOn g ps q
      → IsWalkTree g (onto ps q true) t → IsWalkTree g (onto ps q false) u
      → IsWalkTree g ps (Tree.split t u)
  pieces : (ps : List Taken) (e : Ends) (t : Tree) → IsKeptPath g ps → end_at g ps ≡ done e
      → IsPieceTree g 0 ps t → IsWalkTree g ps t
  plain : (ps : List Taken) → IsKeptPath g ps → IsPlainAt g ps → IsWalkTree g ps Tree.plain
