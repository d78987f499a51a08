-- Each command gives its answer unless a device, a length limit or memory prevents it.
use Rattle.command_rules.specs.Messages.{Reply}
use Rattle.tool_laws.proofs.exported.CallLemmas.CameTo.{failed, said, too_long}
use Rattle.tool_laws.proofs.exported.CallLemmas.{CameTo, came_to}
use Rattle.tool_laws.specs.Calls.{Call}
use Rattle.tool_laws.specs.Completeness.{CommandsAreComplete, IsComplete, WentWell}
use Rattle.tool_laws.specs.Outcomes.{IsCut, IsDelivered, IsWritten, Writing}
use Rattle.command_words.specs.Requests.{files_of}
use Rattle.tool_laws.specs.declared.outcomes.Outcome.{Outcome}
use Rattle.command_words.specs.declared.requests.Settings.{Settings}
use Rattle.std.proofs.Common.{arith, inl, inr, ◌⊎◌}

from_came : (settings : Settings) (made : Call) (done : Writing) (outcome : Outcome) (reply : Reply) → WentWell made done outcome → CameTo settings (files_of settings) made reply → IsDelivered reply done outcome
    → IsComplete settings made done outcome
from_came settings made done outcome reply well (failed k rose e) delivered = absurd (well.source rose)
from_came settings made done outcome reply well (too_long k taken e) delivered = let short = well.short in absurd (omega (arith, taken, short))
from_came settings made done outcome reply well (said bytes second read replied) delivered = by delivered.delivered
  where
    by : IsWritten reply done outcome ⊎ IsCut reply done outcome → IsComplete settings made done outcome
    by (inl written) = record { bytes = bytes; second = second; read = read; reply = reply; said = replied; written = written; answers = delivered.answers }
    by (inr cut) = absurd (well.sink cut.rose)

pub complete : CommandsAreComplete
complete settings made done outcome asks well (inl answered) = from_came settings made done outcome answered.reply well (came_to settings made answered.reply asks answered.cause) answered.is_delivered
complete settings made done outcome asks well (inr out) = absurd (well.memory out.status)
