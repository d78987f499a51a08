use Rattle.form_folding.proofs.FoldedForms.{folded_longer, has_longer, fits_for, sum_for}
use Rattle.form_folding.proofs.folding.join_sum.Goals as goal

pub join_for-requires : goal.join_for-requires
join_for-requires c =
    let left = c.requires.left in
    let right = c.requires.right in
    fits_for _ _ _ (sum_for _ _ _ left.form right.form (has_longer _ _ _ left.form c.in_ok-second.ensures.begins (c.in_ok-first.ensures.folded left.form left.folded)) (c.in_ok-second.ensures.folded right.form (folded_longer _ _ c.args.right right.form c.in_ok-first.ensures.begins right.folded)))

pub returns-clause-folded : goal.returns-clause-folded
returns-clause-folded c f g h k = c.join_for.ensures.folded _ (sum_for _ _ _ f g (has_longer _ _ _ f c.in_ok-second.ensures.begins (c.in_ok-first.ensures.folded f h)) (c.in_ok-second.ensures.folded g (folded_longer _ _ c.args.right g c.in_ok-first.ensures.begins k)))
