use Rattle.std.proofs.Common.{true}
use Rattle.generation_tests.proofs.BooleanForms.{validate_calm}
use Rattle.generation_tests.proofs.steps.act.Goals as goal

pub returns-in-Validate : goal.returns-in-Validate
returns-in-Validate c = validate_calm true c.nowhere.result
