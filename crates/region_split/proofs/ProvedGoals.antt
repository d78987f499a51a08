-- The tree of the walk is a certificate, so a proved goal holds in each state.
use Prim.Native.Nat.{suc}
use Rattle.std.proofs.Common.{ℕ, List, [], true, false}
use Rattle.std.specs.Prelude.{◌≡◌, Option, None}
use Rattle.heylo_formula.specs.Goals.{Goal, Holds}
use Rattle.linear_form.specs.Paths.{end_at}
use Rattle.linear_form.specs.Query.Query.{done}
use Rattle.linear_form.specs.Query.{Taken}
use Rattle.linear_form.specs.Questions.{Ends}
use Rattle.linear_form.specs.Splits.{split_at}
use Rattle.linear_form.specs.Nonlinear.{nonlinear_product}
use Rattle.heylo_formula.specs.TypedGoals.{IsTypedGoal}
use Rattle.goal_answers.specs.Trees.{Tree}
use Rattle.farkas_check.specs.AcceptedCertificates.{IsAccepted, IsCertificate}
use Rattle.goal_answers.specs.declared.trees.Tree as T
use Rattle.farkas_check.proofs.exported.Soundness.{certificate_holds}
use Rattle.region_split.proofs.HalvedPaths.{end_past, splits_whole}
use Rattle.region_split.specs.Pieces.{first_half, second_half}
use Rattle.region_split.specs.WalkTree.{IsPieceTree, IsWalkTree}
use Rattle.region_split.specs.Decisions.{IsProved}

piece_accepted : (g : Goal) (n : ℕ) (ps : List Taken) (t : Tree) (e : Ends) → end_at g ps ≡ done e → IsPieceTree g n ps t → IsAccepted g ps t
piece_accepted g _ _ _ e h (IsPieceTree.refuted n ps ms r) = IsAccepted.farkas ps ms r
piece_accepted g _ _ _ e h (IsPieceTree.halves n ps x m t u s a b) = IsAccepted.whole ps x m t u (record { ends = e; at_end = h; not_plain = s.false_piece.not_plain; whole_type = splits_whole g ps x m s.breaks }) (piece_accepted g (suc n) (first_half ps x m) t e (end_past g ps (split_at x m) true e h) a) (piece_accepted g (suc n) (second_half ps x m) u e (end_past g ps (split_at x m) false e h) b)

pub tree_accepted : (g : Goal) (ps : List Taken) (t : Tree) → IsWalkTree g ps t → IsAccepted g ps t
tree_accepted g _ _ (IsWalkTree.dropped ps ms d r) = IsAccepted.farkas ps ms r
tree_accepted g _ _ (IsWalkTree.split ps q t u h a b) = IsAccepted.split ps q t u h.asks (tree_accepted g _ t a) (tree_accepted g _ u b)
tree_accepted g _ _ (IsWalkTree.pieces ps e t k n a) = piece_accepted g 0 ps t e n a
tree_accepted g _ _ (IsWalkTree.plain ps k p) = IsAccepted.plain ps p

pub tree_certifies : (g : Goal) (t : Tree) → nonlinear_product g ≡ None → IsWalkTree g [] t → IsCertificate g t
tree_certifies g t n h = record { linear = n; accepted = tree_accepted g [] t h }

pub proved_holds : (g : Goal) (given : Option T.Tree) → IsTypedGoal g → nonlinear_product g ≡ None → IsProved g given → Holds g
proved_holds g given w n p = certificate_holds g p.tree w (tree_certifies g p.tree n p.is_tree)
