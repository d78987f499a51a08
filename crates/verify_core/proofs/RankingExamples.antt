-- Answers on rankings, computed: the loops with a ranking, the goals of a procedure in their order,
-- and the answers by decisions.
use Rattle.std.proofs.Common.{◌≡◌, ℕ, refl, ap, sym, ◌∙◌, arith, true, List, [], ◌∷◌, ◌++◌, map}
use Rattle.std.specs.Prelude.{Option, Some, None}
use Rattle.heyvl_num.specs.Rational.{Rational, oneʳ}
use Rattle.heyvl_num.specs.Value.{oneᵛ, zeroᵛ}
use Rattle.heylo_formula.specs.GoalOrder.{loop_of}
use Rattle.heylo_formula.specs.Formula.{Cond, Form}
use Rattle.heylo_formula.specs.declared.goals.GoalId.{GoalId}
use Rattle.heylo_formula.specs.declared.goals.GoalId.TheVariants.{Main, Ranking}
use Rattle.heylo_formula.specs.declared.goals.Made.{Made}
use Rattle.heylo_formula.specs.declared.goals.Made.TheVariants as made
use Rattle.heyvl_places.specs.declared.spans.Span.{Span}
use Rattle.heyvl_acts.specs.Acts.{Act, Acts, Arms, Head, TypedProcedure, nobody}
use Rattle.goal_answers.specs.declared.causes.Cause.TheVariants as cause
use Rattle.ranking_rule.specs.RankingGoals as ranking
use Rattle.ranking_rule.specs.Rankings.{RankedLoop}
use Rattle.goal_answers.specs.declared.decisions.Decision.TheVariants.{Proved, Unknown}
use Rattle.verdict_report.specs.declared.answers.Answer.{Answer}
use Rattle.verdict_report.specs.declared.answers.LoopAnswer.{LoopAnswer}
use Rattle.goal_answers.specs.declared.named_goals.NamedGoal.{NamedGoal}
use Rattle.verdict_report.specs.declared.answers.RankVerdict.TheVariants as rank
use Rattle.verify_core.specs.GoalDecisions.{DecidedGoal, certified_in_file, outcome_of}
use Rattle.verify_core.specs.Outcomes.{all_outcomes, all_shown, loop_answer, outcomes, told_in_file}
use Rattle.verify_core.specs.Verdicts.{IsAnswer}
use Rattle.loop_encodings.specs.BoundGoals.{BoundGoal}
use Rattle.verify_core.specs.Questions.{AreGoals, IsMadeOf, question}
use Rattle.verify_core.specs.Rankings.{AreAllGoals, AreRankingGoals, ranked_loops}

-- ---- Which loops have a ranking

abbrev nowhere : Span
nowhere = record { from = 0; to = 0 }

abbrev only : Act → Acts
only a = Acts.next a Acts.done

abbrev pub head : ℕ → Option (Rational × Form) → Head
head n rank = record { number = n; k = 1; inv = Form.number zeroᵛ; guard = Cond.constant true; rank = rank; scope = []; span = nowhere }

abbrev pub outer : Rational × Form
outer = (oneʳ, Form.number zeroᵛ)

abbrev pub inner : Rational × Form
inner = (oneʳ, Form.number oneᵛ)

abbrev pub last : Rational × Form
last = (oneʳ, Form.variable 0)

abbrev pub two_loops : Acts
two_loops = Acts.next (Act.loop (head 2 None) Acts.done) (only (Act.loop (head 3 (Some inner)) Acts.done))

-- A loop with a ranking around these two, followed by one with a ranking in an if.
abbrev pub nested : TypedProcedure
nested = record nobody {
  body = Some (Acts.next (Act.loop (head 1 (Some outer)) two_loops) (only (Act.ifs (Arms.arm (Cond.constant true) (only (Act.loop (head 4 (Some last)) Acts.done)) Arms.no_arm) Acts.done nowhere)));
  loops = 4;
}

-- An outer loop precedes the loops in its body, and these the loops after it. A loop without a
-- ranking is left out.
ranked_ones : ranked_loops nested ≡ 1 ∷ (3 ∷ (4 ∷ []))
ranked_ones = refl

no_body : ranked_loops nobody ≡ []
no_body = refl

abbrev first_loop : RankedLoop nested 1
first_loop = record { head = head 1 (Some outer); body = two_loops; rank = outer; named = refl; ranked = refl }

abbrev second_loop : RankedLoop nested 3
second_loop = record { head = head 3 (Some inner); body = Acts.done; rank = inner; named = refl; ranked = refl }

abbrev third_loop : RankedLoop nested 4
third_loop = record { head = head 4 (Some last); body = Acts.done; rank = last; named = refl; ranked = refl }

same_some : {A : Type 0} (a b : A) → Some a ≡ Some b → a ≡ b
same_some a b e = cc

no_ranking : RankedLoop nested 2 → ⊥
no_ranking l =
    let named : ◌≡◌ {A = Head × Acts} (head 2 None, Acts.done) (l.head, l.body) = same_some (head 2 None, Acts.done) (l.head, l.body) l.named in
    let none : None ≡ l.head.rank = ap (λ (x : Head × Acts). x.0.rank) named in
    let some = l.ranked in
    cc

-- ---- The goals of a procedure

abbrev pub goal_named : GoalId → Made → NamedGoal
goal_named id m = record { proc = 0; id = id; made = m }

pub record AreMade (m a b c : Made) : Type 0 where
  pub main : IsMadeOf (question (nested ∷ []) nested BoundGoal.main) m
  pub outer_one : ranking.IsMadeOf nested (head 1 (Some outer)) two_loops outer a
  pub inner_one : ranking.IsMadeOf nested (head 3 (Some inner)) Acts.done inner b
  pub last_one : ranking.IsMadeOf nested (head 4 (Some last)) Acts.done last c

pub three_goals : (m a b c : Made) → AreMade m a b c → AreRankingGoals (nested ∷ []) 0 (ranked_loops nested) (goal_named (Ranking 1) a ∷ (goal_named (Ranking 3) b ∷ (goal_named (Ranking 4) c ∷ [])))
three_goals m a b c h = (
  record { proc = refl; id_of = refl; ranked = first_loop; made = h.outer_one },
  (
    record { proc = refl; id_of = refl; ranked = second_loop; made = h.inner_one },
    (record { proc = refl; id_of = refl; ranked = third_loop; made = h.last_one }, tt),
  ),
)

all_goals : (m a b c : Made) → AreMade m a b c → AreAllGoals (nested ∷ []) 0 (goal_named Main m ∷ (goal_named (Ranking 1) a ∷ (goal_named (Ranking 3) b ∷ (goal_named (Ranking 4) c ∷ []))))
all_goals m a b c h = record {
  bounds = goal_named Main m ∷ [];
  rankings = goal_named (Ranking 1) a ∷ (goal_named (Ranking 3) b ∷ (goal_named (Ranking 4) c ∷ []));
  all_are = refl;
  bound = (record { proc = refl; id_of = refl; made = h.main }, tt);
  ranked = three_goals m a b c h;
}

first_is_main : (bounds rankings : List NamedGoal) (g : NamedGoal) (gs : List NamedGoal) → AreGoals (nested ∷ []) 0 (BoundGoal.main ∷ []) bounds → g ∷ gs ≡ bounds ++ rankings → g.id ≡ Main
first_is_main [] rankings g gs h e = absurd h
first_is_main (b ∷ bounds) rankings g gs h e = let same : g ≡ b = cc in ap (λ (x : NamedGoal). x.id) same ∙ h.0.id_of

not_rankings_first : (a : Made) (gs : List NamedGoal) → AreAllGoals (nested ∷ []) 0 (goal_named (Ranking 1) a ∷ gs) → ⊥
not_rankings_first a gs h = let e : Ranking 1 ≡ Main = first_is_main h.bounds h.rankings (goal_named (Ranking 1) a) gs h.bound h.all_are in cc

-- The loops are not numbered from 0.
not_from_0 : (a : Made) (gs : List NamedGoal) → AreRankingGoals (nested ∷ []) 0 (ranked_loops nested) (goal_named (Ranking 0) a ∷ gs) → ⊥
not_from_0 a gs h = let e : 0 ≡ 1 = ap loop_of h.0.id_of in omega (arith, e)

-- Each loop with a ranking has its goal.
not_fewer : (a b : Made) → AreRankingGoals (nested ∷ []) 0 (ranked_loops nested) (goal_named (Ranking 1) a ∷ (goal_named (Ranking 3) b ∷ [])) → ⊥
not_fewer a b h = h.1.1

-- ---- The answers by decisions

abbrev proved : DecidedGoal
proved = record { goal = goal_named (Ranking 1) made.Depth; found = Proved None }

abbrev open_goal : DecidedGoal
open_goal = record { goal = goal_named (Ranking 2) made.Depth; found = Unknown cause.Depth }

abbrev ranked : LoopAnswer
ranked = record { number = 1; rank = rank.Ranked }

abbrev unknown : LoopAnswer
unknown = record { number = 2; rank = rank.Unknown cause.Depth }

-- An answer reports only goals that are not proved.
told : all_shown (outcomes outcome_of (proved ∷ open_goal ∷ [])) ≡ open_goal.goal ∷ []
told = refl

told_of_all : told_in_file ([] ∷ []) (all_outcomes outcome_of ((proved ∷ open_goal ∷ []) ∷ [])) ≡ open_goal.goal ∷ []
told_of_all = refl

certified : certified_in_file ([] ∷ []) ((proved ∷ open_goal ∷ []) ∷ []) ≡ []
certified = refl

abbrev AreRanked : List DecidedGoal → List LoopAnswer → Type 0
AreRanked ds ls = ls ≡ map loop_answer (outcomes outcome_of ds)

answered : AreRanked (proved ∷ open_goal ∷ []) (ranked ∷ unknown ∷ [])
answered = refl

pub first_of : (a b : LoopAnswer) (xs ys : List LoopAnswer) → a ∷ xs ≡ b ∷ ys → a ≡ b
first_of a b xs ys e = cc

pub others_of : (a b : LoopAnswer) (xs ys : List LoopAnswer) → a ∷ xs ≡ b ∷ ys → xs ≡ ys
others_of a b xs ys e = cc

pub none_more : (a : LoopAnswer) (xs : List LoopAnswer) → a ∷ xs ≡ [] → ⊥
none_more a xs e = cc

-- A loop without a ranking has no answer.
not_more : AreRanked (proved ∷ []) (ranked ∷ unknown ∷ []) → ⊥
not_more h = none_more unknown [] (others_of ranked ranked (unknown ∷ []) [] h)

not_one_less : AreRanked (proved ∷ open_goal ∷ []) (ranked ∷ []) → ⊥
not_one_less h = none_more unknown [] (sym (others_of ranked ranked [] (unknown ∷ []) h))

numbered_from_0 : AreRanked (proved ∷ []) ((record { number = 0; rank = rank.Ranked }) ∷ []) → ⊥
numbered_from_0 h = let e : 0 ≡ 1 = ap (λ (l : LoopAnswer). l.number) (first_of (record { number = 0; rank = rank.Ranked }) ranked [] [] h) in omega (arith, e)

-- A procedure whose bound is proved, and whose only ranking is unknown.
abbrev single : TypedProcedure
single = record nobody { body = Some (only (Act.loop (head 1 (Some outer)) Acts.done)); loops = 1 }

abbrev bound_proved : DecidedGoal
bound_proved = record { goal = goal_named Main made.Depth; found = Proved None }

abbrev ranking_open : DecidedGoal
ranking_open = record { goal = goal_named (Ranking 1) made.Depth; found = Unknown cause.Depth }

-- The proof of the bound does not settle the ranking.
not_by_bound : (a : Answer) → a.loops.items ≡ ranked ∷ [] → IsAnswer (single ∷ []) (all_outcomes outcome_of ((bound_proved ∷ []) ∷ [])) (all_outcomes outcome_of ((ranking_open ∷ []) ∷ [])) 0 a → ⊥
not_by_bound a e h = let no : rank.Ranked ≡ rank.Unknown cause.Depth = ap (λ (l : LoopAnswer). l.rank) (first_of ranked (record { number = 1; rank = rank.Unknown cause.Depth }) [] [] (sym e ∙ h.loops)) in cc
