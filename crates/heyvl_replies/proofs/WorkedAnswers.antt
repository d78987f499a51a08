-- Worked answers: the status of each verdict, alone and among others; and the values that are shown
-- of a procedure.
use Rattle.heylo_formula.specs.declared.goals.GoalId.TheVariants.{Main, Post}
use Rattle.command_rules.specs.Statuses.{answers_status, is_rank_open, is_rank_refuted}
use Rattle.command_rules.specs.commands.Refute.{shown_of}
use Rattle.goal_answers.specs.declared.causes.Cause.TheVariants.{Bits}
use Rattle.proc_contracts.specs.declared.reasons.WhyNot.TheVariants as why
use Rattle.std.proofs.Common.{[], false, refl, true, ◌∷◌, ◌≡◌}
use Rattle.std.specs.Prelude.{Vec}
use Rattle.std.specs.declared.alloc.Global.{Global}
use Rattle.verdict_report.specs.declared.answers.Answer.{Answer}
use Rattle.verdict_report.specs.declared.answers.LoopAnswer.{LoopAnswer}
use Rattle.goal_answers.specs.declared.misses.Miss.TheVariants.{Absent}
use Rattle.verdict_report.specs.declared.answers.RankVerdict.TheVariants as rank
use Rattle.verdict_report.specs.declared.answers.Verdict.TheVariants as verdict
use Rattle.verdict_report.specs.declared.answers.Verdict.{Verdict}
use Rattle.heylo_formula.specs.declared.values.Val.{Val}

-- ---- Statuses

-- The answers have no loops, and `state` is a state.
module _ (none : Vec LoopAnswer Global) (no_loops : none.items ≡ []) (state : Vec Val Global) where
  said : Verdict → Answer
  said v = record { name = []; verdict = v; loops = none }

  nothing_said : answers_status [] ≡ 0
  nothing_said = refl

  alone :
      (answers_status (said verdict.Verified ∷ []) ≡ 0) × (answers_status (said verdict.NoBody ∷ []) ≡ 0) × (answers_status (said (verdict.Valid why.NoWlp) ∷ []) ≡ 0)
      × (answers_status (said (verdict.NotVerified Main state) ∷ []) ≡ 1) × (answers_status (said (verdict.Unknown Main Bits) ∷ []) ≡ 2)
      × (answers_status (said (verdict.Conditional 1) ∷ []) ≡ 2) × (answers_status (said (verdict.Unchecked Post Absent) ∷ []) ≡ 2)
  unfolding said
  alone = (rw no_loops refl, rw no_loops refl, rw no_loops refl, refl, rw no_loops refl, rw no_loops refl, rw no_loops refl)

  -- A bound that is false determines the status, not one that is open, in any order.
  beside : answers_status (said (verdict.Unknown Main Bits) ∷ said verdict.Verified ∷ said (verdict.NotVerified Main state) ∷ []) ≡ 1
  unfolding said
  beside = rw no_loops refl

  -- Values are shown of this procedure, if its bound is false by its main goal.
  shown :
      (shown_of (said verdict.Verified ∷ said (verdict.NotVerified Main state) ∷ []) 1 ≡ state.items) × (shown_of (said verdict.Verified ∷ said (verdict.NotVerified Main state) ∷ []) 0 ≡ [])
      × (shown_of (said verdict.Verified ∷ said (verdict.NotVerified Main state) ∷ []) 2 ≡ []) × (shown_of (said (verdict.NotVerified Post state) ∷ []) 0 ≡ [])
  unfolding said
  shown = (refl, refl, refl, refl)

rankings : (is_rank_refuted rank.Ranked ≡ false) × (is_rank_open rank.Ranked ≡ false) × (is_rank_refuted (rank.Unknown Bits) ≡ false) × (is_rank_open (rank.Unknown Bits) ≡ true) × (is_rank_open (rank.Unchecked Absent) ≡ true)
rankings = (refl, refl, refl, refl, refl)
