use Rattle.heyvl_acts.proofs.TargetSteps.{among_any}
use Rattle.heyvl_acts.proofs.targets.is_among.Goals as goal
use Rattle.std.proofs.Common.{◌∙◌}

pub returns : goal.returns
returns c = c.contains.ensures.value ∙ among_any c.args.x c.args.targets.now
