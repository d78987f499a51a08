-- The answer for the borrowed parts of a remainder pair, and its promise.
use Rattle.std.proofs.Common.{◌≡◌, ◌<◌, ℕ, sym, ap, subst, List, length}
use Rattle.heyvl_num.specs.Rational.{Rational}
use Rattle.heylo_formula.specs.Formula.{Form}
use Rattle.heylo_formula.specs.PlainTrees.{form_of}
use Rattle.goal_answers.specs.declared.decisions.Decision.{Decision}
use Rattle.heyvl_acts.specs.Acts.{TypedProcedure, procedure_at}
use Rattle.heyvl_acts.specs.PlainActs.{acts_of, procedures_of}
use Rattle.heyvl_acts.specs.Rules.{MeetsAllRules}
use Rattle.heyvl_acts.specs.declared.typed_trees.Typed.{Typed}
use Rattle.loop_encodings.proofs.exported.FromRules.{is_there}
use Rattle.verdict_report.specs.declared.answers.Answer.{Answer}
use Rattle.verdict_report.specs.declared.answers.RankVerdict.TheVariants.{Ranked}
use Rattle.verdict_report.specs.declared.answers.Verdict.TheVariants.{Verified}
use Rattle.lower_rules.specs.RemainderAnswers.{HasBoundedTurns, HasSmallBound, IsPromised, IsRemainderAnswer, IsUnranked, IsUnverified}
use Rattle.verdict_report.specs.VerdictsOn.{IsVerdictOn, IsVerdictOnLoop}
use Rattle.lower_goals.specs.declared.remainder_answers.Remainder.{Remainder}
use Rattle.lower_goals.specs.declared.remainder_pairs.RankedParts.{RankedParts}
use Rattle.lower_goals.specs.LentRemainderPairs.{IsPairAs}
use Rattle.lower_rules.specs.internal.StartDecisions.{IsStarted, answer_by}
use Rattle.lower_rules.proofs.StartedPairs.{started_as}
use Rattle.lower_rules.proofs.Promises.{is_answer, is_promised}

module _ (typed : Typed) (answers : List Answer) (p q : ℕ) (parts : RankedParts) (is : IsPairAs (procedure_at (procedures_of typed) p) (procedure_at (procedures_of typed) q) parts) where
  pub part_unverified : (IsVerdictOn answers p Verified → ⊥) → IsUnverified (procedures_of typed) answers p q
  part_unverified n = record { pair = is.pair; unverified = n }

  pub part_unranked : IsVerdictOn answers p Verified → (IsVerdictOnLoop answers p parts.number Ranked → ⊥) → IsUnranked (procedures_of typed) answers p q
  part_unranked v n = record { pair = is.pair; verified = v; unranked = subst (λ k. IsVerdictOnLoop answers p k Ranked → ⊥) (sym is.number) n }

module _ (typed : Typed) (p q : ℕ) (parts : RankedParts) (all : MeetsAllRules typed) (there : p < length typed.procs.items) (is : IsPairAs (procedure_at (procedures_of typed) p) (procedure_at (procedures_of typed) q) parts) where
  abbrev ps : List TypedProcedure
  ps = procedures_of typed

  abbrev one : TypedProcedure
  one = procedure_at ps p

  abbrev other : TypedProcedure
  other = procedure_at ps q

  step_is : is.pair.rank.0 ≡ parts.step
  step_is = ap (λ (r : Rational × Form). r.0) is.rank

  module _ (d : Decision) (a : Remainder) (told : a ≡ answer_by parts.step d) (started : IsStarted one other (acts_of parts.front.now) (parts.step, form_of parts.ranking.now) d) where
    pub part_answer : (answers : List Answer) → IsVerdictOn answers p Verified → IsVerdictOnLoop answers p parts.number Ranked → IsRemainderAnswer ps answers p q a
    part_answer answers v r = subst (λ x. IsRemainderAnswer ps answers p q x) (sym told) (is_answer ps answers p q is.pair v (subst (λ k. IsVerdictOnLoop answers p k Ranked) (sym is.number) r) parts.step step_is d (started_as one other parts is d started))

    pub part_promise : HasSmallBound ps p → HasBoundedTurns ps p parts.number → IsPromised ps p q a
    part_promise small turns = subst (λ x. IsPromised ps p q x) (sym told) (is_promised ps p q all.each (is_there typed p there) is.pair small (subst (λ k. HasBoundedTurns ps p k) (sym is.number) turns) parts.step step_is d (started_as one other parts is d started))
