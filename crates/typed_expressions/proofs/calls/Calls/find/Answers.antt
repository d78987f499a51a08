use Rattle.std.proofs.Common.{ap, option_map, ◌∙◌}
use Rattle.typed_expressions.proofs.CallEntries.{copied_signature, find_entries}
use Rattle.typed_expressions.proofs.calls.Calls.find.Goals as goal
use Rattle.typed_expressions.specs.Signatures.{find_call}
use Rattle.typed_expressions.specs.Views.{signature_of}

pub returns : goal.returns
returns c =
    copied_signature c.get.result ∙ ap (λ r. option_map signature_of r) c.get.ensures.value ∙ find_entries c.as_bytes.result.now c.self.inside.entries.entries
    ∙ ap (λ s. find_call s c.as_bytes.result.now) c.self.view_is ∙ ap (λ x. find_call c.args.self.now x) c.as_bytes.ensures
