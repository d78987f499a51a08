-- The answers of the check.
use Rattle.std.specs.Prelude.{◌≡◌, List, Bool}
use Rattle.goal_answers.specs.declared.trees.Checked as C

-- `IsNoAt c place`: the answer `c` is no, with the answers `place` on the way to the refused node.
abbrev pub IsNoAt : C.Checked → List Bool → Type 0
IsNoAt C.TheVariants.Yes place = ⊥
IsNoAt (C.TheVariants.No answers) place = answers.items ≡ place
