-- The names of the goals of a bound.
use Rattle.std.proofs.Common.{◌≡◌, ℕ, refl, sym, ap, ◌∙◌, List, [], ◌∷◌, map}
use Rattle.heylo_formula.specs.declared.goals.GoalId.{GoalId}
use Rattle.heylo_formula.specs.declared.goals.GoalId.TheVariants.{Main, Pre, Post, Invariant, Ranking}
use Rattle.loop_encodings.specs.BoundGoals.{BoundGoal, goal_id}

abbrev named_so : GoalId → BoundGoal
named_so Main = BoundGoal.main
named_so Pre = BoundGoal.pre
named_so Post = BoundGoal.post
named_so (Invariant n) = BoundGoal.invariant n
named_so (Ranking n) = BoundGoal.main

itself : (g : BoundGoal) → g ≡ named_so (goal_id g)
itself BoundGoal.main = refl
itself BoundGoal.pre = refl
itself BoundGoal.post = refl
itself (BoundGoal.invariant n) = refl

pub same_goal : (g h : BoundGoal) → goal_id g ≡ goal_id h → g ≡ h
same_goal g h e = itself g ∙ (ap named_so e ∙ sym (itself h))

pub invariant_ids : (ns : List ℕ) → map goal_id (map BoundGoal.invariant ns) ≡ map Invariant ns
invariant_ids [] = refl
invariant_ids (n ∷ ns) = ap (λ ids. Invariant n ∷ ids) (invariant_ids ns)
