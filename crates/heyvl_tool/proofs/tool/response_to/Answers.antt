use Rattle.heyvl_tool.proofs.tool.response_to.Goals as goal
use Rattle.tool_laws.specs.Outcomes.HasCause.{by_command}
use Rattle.std.proofs.lemmas.Result.{IfOk-weaker}

pub returns-in-Ok-clause-cause : goal.returns-in-Ok-clause-cause
returns-in-Ok-clause-cause g c = IfOk-weaker c.answer_to.result _ _ (λ r h. by_command c.in-Ok.settings c.in-Ok.ensures.asked h) c.answer_to.ensures.answer
