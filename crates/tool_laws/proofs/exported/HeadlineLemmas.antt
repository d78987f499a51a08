-- The meaning of the answers of an outcome, from the reply of a call.
use Rattle.tool_laws.proofs.exported.CallLemmas.CameTo.{failed, said, too_long}
use Rattle.tool_laws.proofs.exported.CallLemmas.{CameTo, came_to}
use Rattle.tool_laws.proofs.CommandReplies.{IsKnownReply, Promised, no_message, reply_known}
use Rattle.tool_laws.specs.Calls.{Call}
use Rattle.tool_laws.specs.Headline.{AnswersAreMeant, IsVerifiedFrom}
use Rattle.command_rules.specs.Messages.{Reply}
use Rattle.tool_laws.specs.Outcomes.{HasCause, IsDelivered, Writing}
use Rattle.command_rules.specs.commands.{row_of, verified_text}
use Rattle.command_words.specs.Requests.{files_of}
use Rattle.tool_laws.specs.declared.outcomes.Outcome.{Outcome}
use Rattle.command_words.specs.declared.requests.Settings.{Settings}
use Rattle.static_rules.specs.Files.{resolved}
use Rattle.std.proofs.Common.{List, [], refl, subst, sym, ◌∙◌}
use Rattle.std.specs.Prelude.{◌≢◌}
use Rattle.verdict_report.specs.declared.answers.Answer.{Answer}
use Rattle.verify_core.specs.Headline.{IsHeadline}

from_came : (settings : Settings) (made : Call) (done : Writing) (outcome : Outcome) (reply : Reply) → CameTo settings (files_of settings) made reply → IsDelivered reply done outcome → outcome.answers.items ≢ []
    → IsVerifiedFrom settings made done outcome
from_came settings made done outcome reply (failed k rose e) delivered some = absurd (no_message reply _ e (λ none. some (delivered.answers ∙ none)) refl)
from_came settings made done outcome reply (too_long k taken e) delivered some = absurd (no_message reply _ e (λ none. some (delivered.answers ∙ none)) refl)
from_came settings made done outcome reply (said bytes second read replied) delivered some =
    let k : IsKnownReply (row_of settings).front bytes (verified_text settings bytes) reply = reply_known settings bytes second reply replied in
    let p : Promised (verified_text settings bytes) reply.answers = k.promised (λ none. some (delivered.answers ∙ none)) in
    record {
      bytes = bytes;
      second = second;
      read = read;
      reply = reply;
      said = replied;
      is_delivered = delivered;
      file = p.file;
      spelled = p.spelled;
      faultless = p.faultless;
      headline = subst (λ (as' : List Answer). IsHeadline (resolved p.file) as') (sym delivered.answers) p.headline;
    }

pub answers_meant : (made : Call) (done : Writing) (outcome : Outcome) (reply : Reply) → HasCause made reply → IsDelivered reply done outcome → AnswersAreMeant made done outcome
answers_meant made done outcome reply cause delivered settings asks some = from_came settings made done outcome reply (came_to settings made reply asks cause) delivered some
