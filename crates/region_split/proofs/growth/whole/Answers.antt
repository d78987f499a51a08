use Rattle.std.proofs.Common.{◌∙◌, ap, FitsSigned, rules}
use Rattle.std.specs.Int.{w64}
use Rattle.std.proofs.lemmas.Int.{to_z-of_z}
use Rattle.goal_answers.specs.Trees.{tree_of}
use Rattle.goal_answers.specs.declared.trees.Tree as T
use Rattle.region_split.proofs.Leaves.{same_whole}
use Rattle.region_split.proofs.growth.whole.Goals as goal

pub returns : goal.returns
returns c =
    let x = c.args.at.now.variable in
    let m = c.args.at.now.bound in
    let f : FitsSigned w64 m = search rules in
    ap (λ b. tree_of (T.Whole x b c.in_ok-first.first c.in_ok-second.second)) (to_z-of_z w64 m f) ∙ same_whole x m c.in_ok-first.first c.in_ok-second.second c.args.left c.args.right c.in_ok-first.ensures.ok c.in_ok-second.ensures.ok
