-- The main goals count the fresh variables and lack them, as the goals of their questions do.
use Rattle.std.proofs.Common.{◌≡◌, ◌∙◌, ℕ, ap, false}
use Rattle.heylo_formula.specs.Goals.{Goal}
use Rattle.heylo_formula.specs.Variables.{occurs}
use Rattle.heylo_formula.specs.declared.goals.Made.{Made}
use Rattle.heylo_formula.specs.declared.goals.Made.TheVariants as made
use Rattle.heyvl_acts.specs.Acts.{procedure_at}
use Rattle.loop_encodings.specs.BoundGoals.{BoundGoal}
use Rattle.loop_encodings.specs.FreshLaws.{MainGoalsCountFreshVariables, MainGoalsLackFreshVariables}
use Rattle.verify_core.specs.FreshVariables.{Lacks, MadeGoalsCountFreshVariables, MadeGoalsLackFreshVariables, OwnsSoMany}
use Rattle.verify_core.specs.Questions.{IsMadeOf, Question, goal, question}

made_owns : (q : Question) (m : Made) (n : ℕ) → IsMadeOf q m → (goal q).own ≡ n → OwnsSoMany n m
made_owns q (made.Goal g) n h k = ap (λ (y : Goal). y.own) h.0 ∙ k
made_owns q made.Depth n h k = tt
made_owns q made.Nodes n h k = tt

pub main_goals_count : MainGoalsCountFreshVariables → MadeGoalsCountFreshVariables
main_goals_count law ps p g is = let q = question ps (procedure_at ps p) BoundGoal.main in made_owns q g.made _ is.made (law ps (procedure_at ps p) (goal q).names)

made_lacks : (q : Question) (m : Made) (x : ℕ) → IsMadeOf q m → (occurs x (goal q).stated ≡ false) × (occurs x (goal q).found ≡ false) → Lacks x m
made_lacks q (made.Goal g) x h k = (ap (λ (y : Goal). occurs x y.stated) h.0 ∙ k.0, ap (λ (y : Goal). occurs x y.found) h.0 ∙ k.1)
made_lacks q made.Depth x h k = tt
made_lacks q made.Nodes x h k = tt

pub main_goals_lack : MainGoalsLackFreshVariables → MadeGoalsLackFreshVariables
main_goals_lack law ps p g x each lt is new = let q = question ps (procedure_at ps p) BoundGoal.main in made_lacks q g.made x is.made (law ps p (goal q).names x each lt new)
