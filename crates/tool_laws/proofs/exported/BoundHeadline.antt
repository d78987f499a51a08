-- The meaning of the bounds of `omega` and `remainder`, from the reply of a call.
use Rattle.heyvl_acts.specs.Acts.{TypedProcedure}
use Rattle.tool_laws.proofs.exported.CallLemmas.{came_to}
use Rattle.tool_laws.proofs.LowStatuses.{SaidTyped, came_low, status_is, written_low}
use Rattle.tool_laws.specs.Calls.{Call}
use Rattle.tool_laws.specs.LowerBounds.{BoundsAreMeant, HoldsOmega, HoldsRemainder, IsPairFrom}
use Rattle.command_rules.specs.Messages.{Reply, stated}
use Rattle.tool_laws.specs.Outcomes.{HasCause, IsDelivered, IsWritten, Writing}
use Rattle.command_rules.specs.commands.Omega.{IsOmegaOf, omega_reply}
use Rattle.command_rules.specs.commands.Remainder.{IsRemainderOf, remainder_reply}
use Rattle.command_words.specs.Requests.{Files}
use Rattle.tool_laws.specs.declared.outcomes.Outcome.{Outcome}
use Rattle.command_words.specs.declared.requests.Settings.TheVariants as commands
use Rattle.static_rules.specs.Files.{resolved}
use Rattle.lower_rules.specs.OmegaAnswers.{OmegaHolds}
use Rattle.lower_rules.specs.RemainderAnswers.{IsPromised}
use Rattle.lower_goals.specs.declared.answers.Omega.TheVariants as omega_answers
use Rattle.lower_goals.specs.declared.answers.Omega.{Omega}
use Rattle.lower_goals.specs.declared.remainder_answers.Remainder.TheVariants as remainder_answers
use Rattle.lower_goals.specs.declared.remainder_answers.Remainder.{Remainder}
use Rattle.lower_texts.specs.OmegaTexts.{IsOmegaText}
use Rattle.lower_texts.specs.RemainderTexts.{IsRemainderText}
use Rattle.std.proofs.Common.{List, ap, arith, refl, subst, sym, ◌∙◌, ◌≡◌, ◌≤◌, ℕ}

low : (n : ℕ) → n ≡ 0 → n ≤ 2
low n e = omega (arith, e)

-- ---- Omega pairs

-- If the reply has the status 0, the answer is that the pair holds.
omega_holds : (bytes : List ℕ) (ps : List TypedProcedure) (p q : ℕ) (done : Writing) (outcome : Outcome) (reply : Reply) (answer : Omega) (text : List ℕ) → (answer ≡ omega_answers.Holds → OmegaHolds ps p q) → IsOmegaText bytes ps p q answer text
    → reply ≡ omega_reply answer text → reply.status ≡ 0 → IsWritten reply done outcome → HoldsOmega done outcome ps p q
omega_holds bytes ps p q done outcome reply omega_answers.Holds text meant is e none written =
    record { bounds = meant refl; written = subst (λ (r : Reply). IsWritten r done outcome) (e ∙ ap (stated 0) is) written }
omega_holds bytes ps p q done outcome reply (omega_answers.Fails step s) text meant is e none written = let no : 1 ≡ 0 = status_is reply _ 0 e none in absurd (omega (arith, no))
omega_holds bytes ps p q done outcome reply (omega_answers.Unknown step cause) text meant is e none written = let no : 2 ≡ 0 = status_is reply _ 0 e none in absurd (omega (arith, no))
omega_holds bytes ps p q done outcome reply omega_answers.Shape text meant is e none written = let no : 3 ≡ 0 = status_is reply _ 0 e none in absurd (omega (arith, no))

omega_pair : (file procedure name : List ℕ) (made : Call) (done : Writing) (outcome : Outcome) (reply : Reply) → reply.status ≡ 0 → IsWritten reply done outcome
    → (f : SaidTyped (λ bytes text. IsOmegaOf procedure name bytes) (Files.one file) made reply) → IsOmegaOf procedure name f.bytes (resolved f.file) reply → IsPairFrom (HoldsOmega done outcome) file procedure name made
omega_pair file procedure name made done outcome reply none written f (IsOmegaOf.by_name missing e) = let no : 3 ≡ 0 = status_is reply _ 0 e none in absurd (omega (arith, no))
omega_pair file procedure name made done outcome reply none written f (IsOmegaOf.by_pair p q first second tells) = record {
  bytes = f.bytes;
  read = (f.read.0, refl);
  file = f.file;
  spelled = f.spelled;
  faultless = f.faultless;
  first = p;
  first_named = first;
  second = q;
  second_named = second;
  holds = omega_holds f.bytes (resolved f.file) p q done outcome reply tells.answer tells.text tells.bound tells.is_text tells.told none written;
}

-- ---- Remainder pairs

remainder_holds : (bytes : List ℕ) (ps : List TypedProcedure) (p q : ℕ) (done : Writing) (outcome : Outcome) (reply : Reply) (answer : Remainder) (text : List ℕ) → IsPromised ps p q answer → IsRemainderText bytes ps p q answer text
    → reply ≡ remainder_reply answer text → reply.status ≡ 0 → IsWritten reply done outcome → HoldsRemainder done outcome ps p q
remainder_holds bytes ps p q done outcome reply (remainder_answers.Holds step) text meant is e none written =
    record { step = step; bounds = meant; written = subst (λ (r : Reply). IsWritten r done outcome) (e ∙ ap (stated 0) is) written }
remainder_holds bytes ps p q done outcome reply (remainder_answers.Fails s) text meant is e none written = let no : 1 ≡ 0 = status_is reply _ 0 e none in absurd (omega (arith, no))
remainder_holds bytes ps p q done outcome reply remainder_answers.NotVerified text meant is e none written = let no : 2 ≡ 0 = status_is reply _ 0 e none in absurd (omega (arith, no))
remainder_holds bytes ps p q done outcome reply remainder_answers.NotRanked text meant is e none written = let no : 2 ≡ 0 = status_is reply _ 0 e none in absurd (omega (arith, no))
remainder_holds bytes ps p q done outcome reply (remainder_answers.Unknown cause) text meant is e none written = let no : 2 ≡ 0 = status_is reply _ 0 e none in absurd (omega (arith, no))
remainder_holds bytes ps p q done outcome reply remainder_answers.Shape text meant is e none written = let no : 3 ≡ 0 = status_is reply _ 0 e none in absurd (omega (arith, no))

remainder_pair : (file procedure name : List ℕ) (made : Call) (done : Writing) (outcome : Outcome) (reply : Reply) → reply.status ≡ 0 → IsWritten reply done outcome
    → (f : SaidTyped (λ bytes text. IsRemainderOf procedure name bytes) (Files.one file) made reply) → IsRemainderOf procedure name f.bytes (resolved f.file) reply → IsPairFrom (HoldsRemainder done outcome) file procedure name made
remainder_pair file procedure name made done outcome reply none written f (IsRemainderOf.by_name missing e) = let no : 3 ≡ 0 = status_is reply _ 0 e none in absurd (omega (arith, no))
remainder_pair file procedure name made done outcome reply none written f (IsRemainderOf.by_pair p q first second tells) = record {
  bytes = f.bytes;
  read = (f.read.0, refl);
  file = f.file;
  spelled = f.spelled;
  faultless = f.faultless;
  first = p;
  first_named = first;
  second = q;
  second_named = second;
  holds = remainder_holds f.bytes (resolved f.file) p q done outcome reply tells.answer tells.text tells.meant tells.is_text tells.told none written;
}

-- ---- The clause

pub bounds_meant : (made : Call) (done : Writing) (outcome : Outcome) (reply : Reply) → HasCause made reply → IsDelivered reply done outcome → BoundsAreMeant made done outcome
bounds_meant made done outcome reply cause delivered = record {
  invariants = λ file procedure name asks none.
      let written = written_low reply done outcome (low outcome.status none) delivered.delivered in
      let zero = sym written.status ∙ none in
      let f = came_low (λ bytes text. IsOmegaOf procedure name bytes) (commands.Omega file procedure name) (Files.one file) made reply (λ bytes text told. told) (low reply.status zero) (came_to (commands.Omega file procedure name) made reply asks cause) in
      omega_pair file procedure name made done outcome reply zero written f f.says;
  remainders = λ file procedure name asks none.
      let written = written_low reply done outcome (low outcome.status none) delivered.delivered in
      let zero = sym written.status ∙ none in
      let f = came_low (λ bytes text. IsRemainderOf procedure name bytes) (commands.Remainder file procedure name) (Files.one file) made reply (λ bytes text told. told) (low reply.status zero) (came_to (commands.Remainder file procedure name) made reply asks cause) in
      remainder_pair file procedure name made done outcome reply zero written f f.says;
}
