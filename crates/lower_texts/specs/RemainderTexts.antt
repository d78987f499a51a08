-- The texts of answers on remainder pairs. This project's own.
use Rattle.goal_answers.specs.declared.causes.Cause.{Cause}
use Rattle.heylo_formula.specs.declared.goals.Made.{Made}
use Rattle.heylo_formula.specs.declared.values.Val.{Val}
use Rattle.heyvl_acts.specs.Acts.{TypedProcedure, procedure_at}
use Rattle.heyvl_num.specs.Rational.{Rational}
use Rattle.lower_goals.specs.RemainderPairs.{RemainderPair}
use Rattle.lower_goals.specs.StartGoals.{start_goal}
use Rattle.lower_goals.specs.declared.remainder_answers.Remainder.TheVariants.{Fails, Holds}
use Rattle.lower_goals.specs.declared.remainder_answers.Remainder.TheVariants.{NotRanked}
use Rattle.lower_goals.specs.declared.remainder_answers.Remainder.TheVariants.{NotVerified, Shape}
use Rattle.lower_goals.specs.declared.remainder_answers.Remainder.TheVariants.{Unknown}
use Rattle.lower_goals.specs.declared.remainder_answers.Remainder.{Remainder}
use Rattle.verdict_report.specs.GoalNames.{names_of_made}
use Rattle.lower_texts.specs.PlacedCauses.{placed}
use Rattle.number_texts.specs.ValueTexts.{fraction_text}
use Rattle.vp_generator.specs.PrenexedGoals.{IsMadeWithin}
use Rattle.ranking_rule.specs.RankingGoals.{generated}
use Rattle.std.specs.Prelude.{List, codes, length, ◌++◌, ◌≡◌, ℕ}
use Rattle.verdict_report.specs.Causes.{cause_text}
use Rattle.verdict_report.specs.LoopScopes.{interface_numbers}
use Rattle.verdict_report.specs.States.{state_text}

-- `P: remainder: WHAT`
abbrev pub remainder_line : List ℕ → List ℕ → List ℕ
remainder_line name what = name ++ codes ": remainder: " ++ what ++ codes "\n"

-- `pre of NAME over E * m`, where E is the step of the loop's ranking.
abbrev pub bound_text : List ℕ → Rational → List ℕ
bound_text name e = codes "pre of " ++ name ++ codes " over " ++ fraction_text e ++ codes " * m"

-- The line on procedures that are no remainder pair.
abbrev pub no_remainder_pair_text : List ℕ
no_remainder_pair_text = codes "not a remainder pair\n"

-- `m` is the goal of a remainder pair, or the limit that its form exceeds.
abbrev pub IsStartMade : (ps : List TypedProcedure) (p q : ℕ)
    → RemainderPair (procedure_at ps p) (procedure_at ps q) → Made → Type 0
IsStartMade ps p q l m = IsMadeWithin (generated l.loop.front l.rank)
    (start_goal (procedure_at ps p) l.loop.front l.rank (procedure_at ps q).pre) m

-- If the answer has a state or a cause, the procedures are a remainder pair.
abbrev pub HasPair : List TypedProcedure → ℕ → ℕ → Remainder → Type 0
HasPair ps p q (Holds e) = Unit {0}
HasPair ps p q NotVerified = Unit {0}
HasPair ps p q NotRanked = Unit {0}
HasPair ps p q (Fails s) = RemainderPair (procedure_at ps p) (procedure_at ps q)
HasPair ps p q (Unknown cause) = RemainderPair (procedure_at ps p) (procedure_at ps q)
HasPair ps p q Shape = Unit {0}

-- The line on a falsified goal. Of the state it shows the values of the procedure's inputs and
-- outputs, and of the binders that are neither 0 nor false.
pub record IsFailsText (ps : List TypedProcedure) (p q : ℕ) (s : List Val) (text : List ℕ)
    : Type 0 where
  pub pair : RemainderPair (procedure_at ps p) (procedure_at ps q)
  pub made : Made
  pub is_made : IsStartMade ps p q pair made
  pub is : text ≡ remainder_line (procedure_at ps p).name
      (codes "fails (start): "
      ++ state_text (names_of_made made) (interface_numbers (procedure_at ps p)) s)

-- `IsUnknownText bytes ps p q cause text`: `text` is the line on the goal of the remainder pair `p`
-- and `q`, if `cause` leaves it undecided. `bytes` are those of the file.
pub record IsUnknownText (bytes : List ℕ) (ps : List TypedProcedure) (p q : ℕ) (cause : Cause)
    (text : List ℕ) : Type 0 where
  pub pair : RemainderPair (procedure_at ps p) (procedure_at ps q)
  pub made : Made
  pub is_made : IsStartMade ps p q pair made
  pub is : text ≡ remainder_line (procedure_at ps p).name
      (codes "unknown (start): "
      ++ cause_text bytes (names_of_made made) (placed (length bytes) cause))

-- `IsRemainderText bytes ps p q answer text`: `text` is the line on `answer` for the procedures
-- with the numbers `p` and `q`.
abbrev pub IsRemainderText : List ℕ → List TypedProcedure → ℕ → ℕ → Remainder → List ℕ → Type 0
IsRemainderText bytes ps p q (Holds e) text =
    text ≡ remainder_line (procedure_at ps p).name (bound_text (procedure_at ps q).name e)
IsRemainderText bytes ps p q NotVerified text =
    text ≡ remainder_line (procedure_at ps p).name (codes "not verified")
IsRemainderText bytes ps p q NotRanked text =
    text ≡ remainder_line (procedure_at ps p).name (codes "not ranked")
IsRemainderText bytes ps p q (Fails s) text = IsFailsText ps p q s.items text
IsRemainderText bytes ps p q (Unknown cause) text = IsUnknownText bytes ps p q cause text
IsRemainderText bytes ps p q Shape text = text ≡ no_remainder_pair_text
