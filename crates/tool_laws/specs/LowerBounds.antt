-- What a user may rely on if `omega` or `remainder` reports that a lower bound holds. This
-- project's own.
use Rattle.heyvl_acts.specs.Acts.{TypedProcedure, procedure_at}
use Rattle.heyvl_num.specs.Rational.{Rational}
use Rattle.heyvl_syntax.specs.Procedures.{Procedure}
use Rattle.heyvl_syntax.specs.SourceFaults.{IsSource}
use Rattle.tool_laws.specs.Calls.{AreRead, Call}
use Rattle.command_rules.specs.Messages.{stated}
use Rattle.tool_laws.specs.Outcomes.{IsWritten, Writing}
use Rattle.command_rules.specs.RunStarts.{procedure_named}
use Rattle.command_words.specs.Words.{AskFor}
use Rattle.command_words.specs.Requests.{Files}
use Rattle.tool_laws.specs.declared.outcomes.Outcome.{Outcome}
use Rattle.command_words.specs.declared.requests.Settings.TheVariants.{Omega, Remainder}
use Rattle.static_rules.specs.Files.{first_fault, resolved}
use Rattle.lower_rules.specs.OmegaAnswers.{OmegaHolds}
use Rattle.lower_rules.specs.RemainderAnswers.{RemainderHolds}
use Rattle.lower_texts.specs.OmegaTexts.{holds_text}
use Rattle.lower_texts.specs.RemainderTexts.{bound_text, remainder_line}
use Rattle.std.specs.Prelude.{List, None, Some, [], ◌≡◌, ℕ}

-- The bytes that were read of the file `name` are those that the source holds, if it reports them.
-- They spell a file without an error, in which `procedure` and `other` name two procedures for
-- which `Holds` is true.
pub record IsPairFrom (Holds : List TypedProcedure → ℕ → ℕ → Type 0) (name procedure other : List ℕ)
    (made : Call) : Type 0 where
  pub bytes : List ℕ
  pub read : AreRead (Files.one name) made.names bytes [] made.before made.after
  pub file : List Procedure
  pub spelled : IsSource bytes file
  pub faultless : first_fault file ≡ None
  pub first : ℕ
  pub first_named : procedure_named procedure (resolved file) ≡ Some first
  pub second : ℕ
  pub second_named : procedure_named other (resolved file) ≡ Some second
  pub holds : Holds (resolved file) first second

-- The pre of the procedure `q` is an omega invariant of the loop of the procedure `p`. So it is a
-- lower bound on the post of terminated runs: from each state at the loop's test, for each m, every
-- number of steps that suffices for m iterations and every scheduler, the expected post of the runs
-- that terminate within m iterations is at least this pre, with m for its last input. This was
-- written, and nothing else.
pub record HoldsOmega (done : Writing) (outcome : Outcome) (ps : List TypedProcedure) (p q : ℕ)
    : Type 0 where
  pub bounds : OmegaHolds ps p q
  pub written : IsWritten (stated 0 (holds_text (procedure_at ps p).name)) done outcome

-- The procedure names and the step of the loop's ranking were written, and nothing else. With this
-- step, from each state, for each m above 0, every number of steps that suffices for m iterations
-- and every scheduler, the expected post of the runs that terminate within m iterations is at least
-- pre(`p`) - pre(`q`)/(`step`*m).
pub record HoldsRemainder (done : Writing) (outcome : Outcome) (ps : List TypedProcedure) (p q : ℕ)
    : Type 0 where
  pub step : Rational
  pub bounds : RemainderHolds ps p q step
  pub written : IsWritten (stated 0
      (remainder_line (procedure_at ps p).name (bound_text (procedure_at ps q).name step))) done
      outcome

-- If the status of `omega` or `remainder` is 0, the lower bound holds, for the bytes that were
-- read.
pub record BoundsAreMeant (made : Call) (done : Writing) (outcome : Outcome) : Type 0 where
  pub invariants : (file procedure name : List ℕ) → AskFor made.words (Omega file procedure name)
      → outcome.status ≡ 0 → IsPairFrom (HoldsOmega done outcome) file procedure name made
  pub remainders : (file procedure name : List ℕ)
      → AskFor made.words (Remainder file procedure name) → outcome.status ≡ 0
      → IsPairFrom (HoldsRemainder done outcome) file procedure name made
