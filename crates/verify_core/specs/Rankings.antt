-- The goals of the rankings of a procedure's loops, and all goals of a procedure. This project's
-- own.
use Rattle.std.specs.Prelude.{◌≡◌, ℕ, List, [], ◌∷◌, ◌++◌, if◌then◌else◌}
use Rattle.std.specs.List.{AllZip}
use Rattle.std.specs.Option.{is_some}
use Rattle.heylo_formula.specs.declared.goals.GoalId.TheVariants.{Ranking}
use Rattle.heyvl_acts.specs.Acts.{Act, TypedProcedure, acts_in, procedure_at}
use Rattle.heyvl_acts.specs.Places.{in_order}
use Rattle.loop_encodings.specs.BoundGoals.{bound_goals}
use Rattle.ranking_rule.specs.RankingGoals.{IsMadeOf}
use Rattle.ranking_rule.specs.Rankings.{RankedLoop}
use Rattle.goal_answers.specs.declared.named_goals.NamedGoal.{NamedGoal}
use Rattle.verify_core.specs.Questions.{AreGoals}

-- The numbers of those of the acts that are loops with a ranking, in their order.
abbrev pub ranked_in : List Act → List ℕ
ranked_in [] = []
ranked_in (Act.loop h b ∷ rest) = if is_some h.rank then h.number ∷ ranked_in rest
    else ranked_in rest
ranked_in (a ∷ rest) = ranked_in rest

-- The numbers of the procedure's loops with a ranking, in the order of the text. An outer loop
-- precedes the loops in its body.
abbrev pub ranked_loops : TypedProcedure → List ℕ
ranked_loops p = ranked_in (in_order (acts_in p.body))

-- `g` is the goal of the ranking of loop `n` of the procedure with the number `p`.
pub record IsRankingGoal (ps : List TypedProcedure) (p n : ℕ) (g : NamedGoal) : Type 0 where
  pub proc : g.proc ≡ p
  pub id_of : g.id ≡ Ranking n
  pub ranked : RankedLoop (procedure_at ps p) n
  pub made : IsMadeOf (procedure_at ps p) ranked.head ranked.body ranked.rank g.made

-- `gs` are the goals of the rankings of the loops `ns`, in their order.
abbrev pub AreRankingGoals : List TypedProcedure → ℕ → List ℕ → List NamedGoal → Type 0
AreRankingGoals ps p ns gs = AllZip (IsRankingGoal ps p) ns gs

-- `all` are the goals of the procedure with the number `p`: those of its bound, then one for each
-- of its rankings.
pub record AreAllGoals (ps : List TypedProcedure) (p : ℕ) (all : List NamedGoal) : Type 0 where
  pub bounds : List NamedGoal
  pub rankings : List NamedGoal
  pub all_are : all ≡ bounds ++ rankings
  pub bound : AreGoals ps p (bound_goals (procedure_at ps p)) bounds
  pub ranked : AreRankingGoals ps p (ranked_loops (procedure_at ps p)) rankings
