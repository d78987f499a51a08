-- A walk that has found nothing proves its goal.
use Rattle.std.proofs.Common.{◌≡◌, ◌≤◌, List, [], ◌++◌, length, refl, sym, subst, arith, inl, inr}
use Rattle.std.specs.Prelude.{Option, Some, None}
use Rattle.std.specs.List.{All}
use Rattle.heylo_formula.specs.Goals.{Goal}
use Rattle.linear_form.specs.Query.{Taken}
use Rattle.linear_form.specs.Nonlinear.{nonlinear_product}
use Rattle.goal_answers.specs.Trees.{tree_of}
use Rattle.goal_answers.specs.declared.decisions.Decision.TheVariants.{Proved}
use Rattle.goal_answers.specs.declared.trees.Tree as F
use Rattle.region_split.specs.Decisions.{IsDecision, IsProved}
use Rattle.region_split.specs.internal.Progress.{HasFalsePoint, HoldsAt, IsBranch, IsGrown}
use Rattle.region_split.proofs.WalkMoves.{all_first, at_place}
use Rattle.region_split.proofs.Leaves.{point_or_holds}
use Rattle.region_split.proofs.UniqueWalks.{located}

no_false_point : (g : Goal) (all : List (List Taken)) (tree : Option F.Tree) → All (HoldsAt g) all → IsBranch g [] all tree → HasFalsePoint g → ⊥
no_false_point g all tree h b f =
    let l = located g f.path f.before all f.are_before b.are_cells in
    let k = all_first (HoldsAt g) f.before (l.here ++ l.behind) (subst (All (HoldsAt g)) l.whole h) in
    point_or_holds g f.first.cell f.point f.first.gives (at_place (HoldsAt g) f.first.before f.first.cell f.first.after (subst (All (HoldsAt g)) (sym f.first.whole) k))

pub proved_walk : (g : Goal) (all : List (List Taken)) (tree : Option F.Tree) → nonlinear_product g ≡ None → All (HoldsAt g) all → length all ≤ 4096 → IsBranch g [] all tree → IsDecision g (Proved tree)
proved_walk g all tree n h l b = (n, go tree (b.grown h))
  where
    go : (t : Option F.Tree) → IsGrown g [] t → IsProved g t
    go (Some t) a = record { cells = all; walked = record { are_cells = b.are_cells; few = l }; tree = tree_of t; is_tree = a.is_tree; is_given = (refl, let s = a.shallow in omega (arith, s)) }
    go None (inl d) = record { cells = all; walked = record { are_cells = b.are_cells; few = l }; tree = d.tree; is_tree = d.is_tree; is_given = let s = d.deep in omega (arith, s) }
    go None (inr f) = absurd (no_false_point g all tree h b f)
