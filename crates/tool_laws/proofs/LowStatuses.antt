-- The outcomes of commands that type their file, if the status is at most 2.
use Rattle.heyvl_acts.specs.Acts.{TypedProcedure}
use Rattle.heyvl_syntax.specs.Procedures.{Procedure}
use Rattle.heyvl_syntax.specs.SourceFaults.{IsSource}
use Rattle.tool_laws.proofs.exported.CallLemmas.CameTo.{failed, said, too_long}
use Rattle.tool_laws.proofs.exported.CallLemmas.{CameTo}
use Rattle.tool_laws.specs.Calls.{AreRead, Call}
use Rattle.command_rules.specs.FileReplies.IsTypedReply.{by_fault, by_file}
use Rattle.command_rules.specs.FileReplies.{IsTypedReply}
use Rattle.command_rules.specs.Messages.{Reply}
use Rattle.tool_laws.specs.Outcomes.{IsCut, IsWritten, Writing}
use Rattle.command_rules.specs.commands.{IsReplyTo}
use Rattle.command_words.specs.Requests.{Files}
use Rattle.tool_laws.specs.declared.outcomes.Outcome.{Outcome}
use Rattle.command_words.specs.declared.requests.Settings.{Settings}
use Rattle.static_rules.specs.Files.{first_fault, resolved}
use Rattle.std.proofs.Common.{List, None, ap, arith, inl, inr, subst, sym, ◌∙◌, ◌≡◌, ◌≤◌, ◌⊎◌, ℕ}

pub status_is : (reply other : Reply) (n : ℕ) → reply ≡ other → reply.status ≡ n → other.status ≡ n
status_is reply other n e h = sym (ap (λ (r : Reply). r.status) e) ∙ h

status_low : (reply other : Reply) → reply ≡ other → reply.status ≤ 2 → other.status ≤ 2
status_low reply other e low = subst (λ (r : Reply). r.status ≤ 2) e low

-- The bytes that were read spell a file without an error, and `Says` relates its procedures and the
-- reply.
pub record SaidTyped (Says : List ℕ → List ℕ → List TypedProcedure → Reply → Type 0) (files : Files) (made : Call) (reply : Reply) : Type 0 where
  pub bytes : List ℕ
  pub text : List ℕ
  pub read : AreRead files made.names bytes text made.before made.after
  pub file : List Procedure
  pub spelled : IsSource bytes file
  pub faultless : first_fault file ≡ None
  pub says : Says bytes text (resolved file) reply

typed_low : (Says : List ℕ → List ℕ → List TypedProcedure → Reply → Type 0) (files : Files) (made : Call) (reply : Reply) (bytes text : List ℕ) → reply.status ≤ 2
    → AreRead files made.names bytes text made.before made.after → IsTypedReply (Says bytes text) bytes reply → SaidTyped Says files made reply
typed_low Says files made reply bytes text low read (by_fault number place fault e) = let no : 3 ≤ 2 = status_low reply _ e low in absurd (omega (arith, no))
typed_low Says files made reply bytes text low read (by_file file is none told) = record { bytes = bytes; text = text; read = read; file = file; spelled = is; faultless = none; says = told }

pub came_low : (Says : List ℕ → List ℕ → List TypedProcedure → Reply → Type 0) (settings : Settings) (files : Files) (made : Call) (reply : Reply)
    → ((bytes text : List ℕ) → IsReplyTo settings bytes text reply → IsTypedReply (Says bytes text) bytes reply) → reply.status ≤ 2 → CameTo settings files made reply → SaidTyped Says files made reply
came_low Says settings files made reply typed low (failed k rose e) = let no : 5 ≤ 2 = status_low reply _ e low in absurd (omega (arith, no))
came_low Says settings files made reply typed low (too_long k taken e) = let no : 3 ≤ 2 = status_low reply _ e low in absurd (omega (arith, no))
came_low Says settings files made reply typed low (said bytes text read replied) = typed_low Says files made reply bytes text low read (typed bytes text replied)

pub written_low : (reply : Reply) (done : Writing) (outcome : Outcome) → outcome.status ≤ 2 → IsWritten reply done outcome ⊎ IsCut reply done outcome → IsWritten reply done outcome
written_low reply done outcome low (inl written) = written
written_low reply done outcome low (inr cut) = let six = cut.status in absurd (omega (arith, six, low))
