-- The errors of a file that commands report, from the reply to its bytes.
use Rattle.heyvl_places.specs.declared.spans.Span.{Span}
use Rattle.heyvl_syntax.specs.Procedures.{Procedure}
use Rattle.heyvl_syntax.specs.SourceFaults.{IsSource, SourcesHaveNoFault}
use Rattle.tool_laws.proofs.CommandReplies.{IsKnownReply, reply_known}
use Rattle.tool_laws.specs.FaultLaws.{StaticFaultsAreTold, ToldFaultsAreThere}
use Rattle.command_rules.specs.Messages.{Reply, source_fault}
use Rattle.spelled_files.specs.PrintLaws.{SpellingIsUnique}
use Rattle.command_rules.specs.commands.{Front, row_of, verified_text}
use Rattle.static_rules.specs.Files.{first_fault}
use Rattle.std.proofs.Common.{List, Some, subst, ◌≡◌, ℕ}

typed_told : SourcesHaveNoFault → SpellingIsUnique → (front : Front) (bytes text : List ℕ) (reply : Reply) → front ≡ Front.typed → IsKnownReply front bytes text reply
    → (file : List Procedure) (number : ℕ) (place : Span) → IsSource bytes file → first_fault file ≡ Some (number, place) → reply ≡ source_fault bytes number place
typed_told clean unique front bytes text reply e known file number place is fault =
    let k = subst (λ (f : Front). IsKnownReply f bytes text reply) e known in
    k.static_told clean unique file number place is fault

pub static_told : SourcesHaveNoFault → SpellingIsUnique → StaticFaultsAreTold
static_told clean unique settings bytes second file number place reply tells is fault replied =
    typed_told clean unique (row_of settings).front bytes (verified_text settings bytes) reply tells (reply_known settings bytes second reply replied) file number place is fault

pub told_there : ToldFaultsAreThere
told_there settings bytes second number place reply replied is = let k = reply_known settings bytes second reply replied in k.there number place is
