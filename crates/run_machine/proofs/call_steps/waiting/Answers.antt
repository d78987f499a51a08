use Rattle.std.proofs.Common.{ap₂, ◌∙◌}
use Rattle.run_machine.proofs.call_steps.waiting.Goals as goal

pub returns : goal.returns
returns c = ap₂ (λ is s. (is, s)) (c.in_ok-from_slice.ensures.items ∙ c.rest_of.ensures) (c.in_ok-from_slice-2.ensures.items ∙ c.deref.ensures.value)
