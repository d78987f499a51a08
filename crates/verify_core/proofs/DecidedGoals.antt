-- The goals of a file that satisfies the rules can be decided.
use Rattle.std.proofs.Common.{◌<◌, ◌≤◌, ◌^◌, ℕ, arith, List, [], ◌∷◌, length, None}
use Rattle.heylo_formula.specs.Sizes.{nodes}
use Rattle.heylo_formula.specs.declared.goals.Made.{Made}
use Rattle.heyvl_acts.specs.Acts.{TypedProcedure, procedure_at}
use Rattle.heyvl_acts.specs.FormSizes.{FormsWithin}
use Rattle.heyvl_acts.specs.Rules.{Each, MeetsRules}
use Rattle.loop_encodings.specs.BoundGoals.{BoundGoal}
use Rattle.loop_encodings.specs.EncodingLaws.{EncodingIsOver}
use Rattle.ranking_rule.specs.Laws.{RankingGoalsAreFew, RankingGoalsAreGoals}
use Rattle.ranking_rule.specs.RankingGoals as ranking
use Rattle.ranking_rule.specs.Rankings.{RankedLoop}
use Rattle.goal_answers.specs.declared.named_goals.NamedGoal.{NamedGoal}
use Rattle.vp_generator.specs.Laws.{GeneratedFormIsFormula}
use Rattle.vp_generator.specs.Over.{GeneratedFormIsOver}
use Rattle.vp_generator.specs.PrenexedGoals.{PrenexedGoalsAreGoals}
use Rattle.verify_core.specs.Questions.{AreGoals, IsGoalOf, IsMadeOf, Question, goal, question}
use Rattle.cert_text.specs.Certificates.{IsGrowingAfter, certificates_of}
use Rattle.goal_answers.specs.declared.trees.GoalCert.{GoalCert}
use Rattle.verify_core.specs.declared.settled_goals.Way.{Way}
use Rattle.verify_core.specs.declared.settled_goals.Way.TheVariants.{Decide, Check}
use Rattle.verify_core.specs.internal.Decidable.{CanDecide}
use Rattle.verify_core.specs.internal.Own.{CanAnswer}
use Rattle.verify_core.specs.internal.SettledGoals.{CanSettle}
use Rattle.verify_core.specs.Rankings.{AreRankingGoals, IsRankingGoal}
use Rattle.verify_core.proofs.AskedGoals.{IsProper, goal_is, goal_small, proper}
use Rattle.verify_core.proofs.MadeGoals.{decidable}
use Rattle.verify_core.proofs.SideBySide.{zip_seconds}
use Rattle.loop_encodings.proofs.exported.FromRules.{each_at}

bound_can : PrenexedGoalsAreGoals → (q : Question) (m : Made) → IsProper q → nodes q.stated ≤ 2 ^ 27 → IsMadeOf q m → CanDecide m
bound_can goals q m h s k = decidable q.found (goal q) m (goal_is goals q h) (λ l. goal_small q h l s) k

module _ (goals : PrenexedGoalsAreGoals) (formula : GeneratedFormIsFormula) (over : GeneratedFormIsOver) (encoded : EncodingIsOver) (ps : List TypedProcedure) (rules : Each (MeetsRules ps) ps) (small : Each (FormsWithin (2 ^ 27)) ps) (p : ℕ) (there : p < length ps) where
  stated_small : (g : BoundGoal) → nodes (question ps (procedure_at ps p) g).stated ≤ 2 ^ 27
  stated_small BoundGoal.main = (each_at (FormsWithin (2 ^ 27)) ps p small there).pre
  stated_small BoundGoal.pre = omega arith
  stated_small BoundGoal.post = omega arith
  stated_small (BoundGoal.invariant n) = omega arith

  each_can : (asked : List BoundGoal) (gs : List NamedGoal) → AreGoals ps p asked gs → Each (λ (g : NamedGoal). CanDecide g.made) gs
  each_can asked gs h = zip_seconds (IsGoalOf ps p) (λ g. CanDecide g.made) asked gs (λ i g k. bound_can goals (question ps (procedure_at ps p) i) g.made (proper formula over encoded ps rules p there i) (stated_small i) k.made) h

ranking_can : RankingGoalsAreGoals → RankingGoalsAreFew → (ps : List TypedProcedure) (p : TypedProcedure) (n : ℕ) (l : RankedLoop p n) (m : Made) → MeetsRules ps p → FormsWithin (2 ^ 27) p → ranking.IsMadeOf p l.head l.body l.rank m → CanDecide m
ranking_can goals few ps p n l m rules small h = decidable (ranking.generated l.body l.rank) (ranking.goal p l.head l.body l.rank) m (goals ps p n l rules) (λ k. few ps p n l rules small k) h

each_ranking_can : RankingGoalsAreGoals → RankingGoalsAreFew → (ps : List TypedProcedure) (p : ℕ) → MeetsRules ps (procedure_at ps p) → FormsWithin (2 ^ 27) (procedure_at ps p) → (ns : List ℕ) (gs : List NamedGoal) → AreRankingGoals ps p ns gs → Each (λ (g : NamedGoal). CanDecide g.made) gs
each_ranking_can goals few ps p rules small ns gs h = zip_seconds (IsRankingGoal ps p) (λ g. CanDecide g.made) ns gs (λ n g k. ranking_can goals few ps (procedure_at ps p) n k.ranked g.made rules small k.made) h

-- ---- By decisions or by certificates

each_can_settle : (certs : List GoalCert) (gs : List NamedGoal) → IsGrowingAfter None (certificates_of certs) → Each (λ (g : NamedGoal). IsGrowingAfter None (certificates_of certs)) gs
each_can_settle certs [] h = tt
each_can_settle certs (g ∷ gs) h = (h, each_can_settle certs gs h)

pub bounds_settle : PrenexedGoalsAreGoals → GeneratedFormIsFormula → GeneratedFormIsOver → EncodingIsOver → (ps : List TypedProcedure) → Each (MeetsRules ps) ps → (p : ℕ) → p < length ps → (way : Way) → CanAnswer way ps → (asked : List BoundGoal) (gs : List NamedGoal) → AreGoals ps p asked gs → Each (CanSettle way) gs
bounds_settle goals formula over encoded ps rules p there Decide small asked gs h = each_can goals formula over encoded ps rules small p there asked gs h
bounds_settle goals formula over encoded ps rules p there (Check certs) order asked gs h = each_can_settle certs.now gs order

pub rankings_settle : RankingGoalsAreGoals → RankingGoalsAreFew → (ps : List TypedProcedure) (p : ℕ) → p < length ps → MeetsRules ps (procedure_at ps p) → (way : Way) → CanAnswer way ps → (ns : List ℕ) (gs : List NamedGoal) → AreRankingGoals ps p ns gs → Each (CanSettle way) gs
rankings_settle goals few ps p there rules Decide small ns gs h = each_ranking_can goals few ps p rules (each_at (FormsWithin (2 ^ 27)) ps p small there) ns gs h
rankings_settle goals few ps p there rules (Check certs) order ns gs h = each_can_settle certs.now gs order
