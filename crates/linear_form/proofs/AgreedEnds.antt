-- The law of the ends of paths, for the crates above.
use Rattle.std.proofs.Common.{sym, ◌∙◌}
use Rattle.heylo_formula.specs.State.{environment}
use Rattle.linear_form.specs.Questions.{questions}
use Rattle.linear_form.specs.QuestionLaws.{EndsAreValues}
use Rattle.linear_form.proofs.QueryTrees.{walk_ends}
use Rattle.linear_form.proofs.EndValues.{AreValues, goal_ends}
use Rattle.linear_form.proofs.SplitPaths.{end_same, agrees_asked}

pub ends_are_values : EndsAreValues
ends_are_values g s ps e t h p a k = let v = walk_ends (questions g) (environment s) (AreValues g (environment s)) p.asked e (goal_ends g s t h) p.is_asked (agrees_asked g (environment s) ps p a) (sym (end_same g ps p) ∙ k) in (v.stated, v.found)
