-- The verdicts on a procedure's bound and on its rankings, in a report. This project's own.
use Rattle.heylo_formula.specs.declared.goals.GoalId.{GoalId}
use Rattle.heylo_formula.specs.declared.goals.GoalId.TheVariants.{Main, Pre, Post, Invariant}
use Rattle.heylo_formula.specs.declared.goals.GoalId.TheVariants.{Ranking}
use Rattle.heylo_formula.specs.declared.values.Val.{Val}
use Rattle.heyvl_acts.specs.Acts.{TypedProcedure, procedure_at}
use Rattle.proc_contracts.specs.declared.reasons.WhyNot.{WhyNot}
use Rattle.proc_contracts.specs.declared.reasons.WhyNot.TheVariants as why
use Rattle.std.specs.Prelude.{Bool, List, [], codes, decimal, false, true, ◌++◌, ◌∷◌, ℕ}
use Rattle.number_texts.specs.ValueTexts.{place_text}
use Rattle.verdict_report.specs.Causes.{cause_text}
use Rattle.verdict_report.specs.GoalNames.{names_of}
use Rattle.verdict_report.specs.LoopScopes.{always_shown}
use Rattle.verdict_report.specs.States.{state_text}
use Rattle.goal_answers.specs.declared.misses.Miss.{Miss}
use Rattle.goal_answers.specs.declared.misses.Miss.TheVariants.{Absent, Place}
use Rattle.goal_answers.specs.declared.named_goals.NamedGoal.{NamedGoal}
use Rattle.verdict_report.specs.declared.answers.RankVerdict.{RankVerdict}
use Rattle.verdict_report.specs.declared.answers.RankVerdict.TheVariants as rank
use Rattle.verdict_report.specs.declared.answers.Verdict.{Verdict}
use Rattle.verdict_report.specs.declared.answers.Verdict.TheVariants as verdict

-- The goal that the invariant of the loop `n` is at most 1.
abbrev pub invariant_text : ℕ → List ℕ
invariant_text n = codes "invariant of loop " ++ decimal n ++ codes " at most 1"

-- The name of a goal. The line of a ranking does not show the name of its goal.
abbrev pub goal_text : GoalId → List ℕ
goal_text Main = codes "bound"
goal_text Pre = codes "pre at most 1"
goal_text Post = codes "post at most 1"
goal_text (Invariant n) = invariant_text n
goal_text (Ranking n) = codes "ranking of loop " ++ decimal n

-- The reason why a procedure is no program. A procedure without a body has the verdict `no body`,
-- and is not called valid.
abbrev pub reason_text : List ℕ → WhyNot → List ℕ
reason_text bytes why.NoBody = codes "no body"
reason_text bytes why.NoWlp = codes "no @wlp"
reason_text bytes why.Quantifier = codes "quantifier in post"
reason_text bytes (why.Statement span) =
    place_text bytes span.from ++ codes " is no program statement"

-- The path to a node: for each node on it, `h` if the path takes the first subtree (the comparison
-- holds, or the variable is at most the number of the split), and `d` if it takes the second one.
abbrev pub way_text : List Bool → List ℕ
way_text [] = []
way_text (true ∷ bs) = codes "h" ++ way_text bs
way_text (false ∷ bs) = codes "d" ++ way_text bs

-- The name of a node: the path to it from the root, or `root`.
abbrev pub node_text : List Bool → List ℕ
node_text [] = codes "root"
node_text (b ∷ bs) = way_text (b ∷ bs)

-- Why the certificates do not prove a goal: there is none, or the node at which it is refused.
abbrev pub miss_text : Miss → List ℕ
miss_text Absent = codes "no certificate"
miss_text (Place way) = codes "at " ++ node_text way.items

-- `HEAD (GOAL): `
abbrev pub about_text : List ℕ → GoalId → List ℕ
about_text head id = head ++ codes " (" ++ goal_text id ++ codes "): "

-- The text of a state in which a goal of a procedure fails, with the goal's own names.
abbrev pub state_of_goal : List TypedProcedure → List NamedGoal → ℕ → GoalId → List Val → List ℕ
state_of_goal ps made p id s =
    state_text (names_of p id made) (always_shown (procedure_at ps p) id) s

-- The bound holds if that of the procedure `p` does.
abbrev pub condition_text : TypedProcedure → List ℕ
condition_text p = codes "conditional on " ++ p.name

-- The verdict on the bound of the procedure with the number `p`.
abbrev pub verdict_text : List ℕ → List TypedProcedure → List NamedGoal → ℕ → Verdict → List ℕ
verdict_text bytes ps made p verdict.Verified = codes "verified"
verdict_text bytes ps made p (verdict.Valid reason) =
    codes "valid (" ++ reason_text bytes reason ++ codes ")"
verdict_text bytes ps made p (verdict.Conditional q) = condition_text (procedure_at ps q)
verdict_text bytes ps made p (verdict.NotVerified id s) =
    about_text (codes "not verified") id ++ state_of_goal ps made p id s.items
verdict_text bytes ps made p (verdict.Unknown id cause) =
    about_text (codes "unknown") id ++ cause_text bytes (names_of p id made) cause
verdict_text bytes ps made p verdict.NoBody = codes "no body"
verdict_text bytes ps made p (verdict.Unchecked id miss) =
    about_text (codes "not checked") id ++ miss_text miss

-- The verdict on the ranking of the loop `n` of the procedure with the number `p`.
abbrev pub rank_text : List ℕ → List TypedProcedure → List NamedGoal → ℕ → ℕ → RankVerdict → List ℕ
rank_text bytes ps made p n rank.Ranked = codes "ranked"
rank_text bytes ps made p n (rank.NotRanked s) =
    codes "not ranked: " ++ state_of_goal ps made p (Ranking n) s.items
rank_text bytes ps made p n (rank.Unknown cause) =
    codes "unknown: " ++ cause_text bytes (names_of p (Ranking n) made) cause
rank_text bytes ps made p n (rank.Unchecked miss) = codes "not checked: " ++ miss_text miss
