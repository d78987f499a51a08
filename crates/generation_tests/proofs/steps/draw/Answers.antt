use Rattle.generation_tests.proofs.BooleanForms.{draw_calm}
use Rattle.generation_tests.proofs.steps.draw.Goals as goal

pub returns : goal.returns
returns c = draw_calm c.in_ok-half.half c.in_ok-parts.parts c.nowhere.result c.in_ok-half.ensures c.in_ok-parts.ensures.items
