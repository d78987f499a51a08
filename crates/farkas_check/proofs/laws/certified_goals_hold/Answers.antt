use Rattle.farkas_check.proofs.Soundness.{certificate_holds}
use Rattle.farkas_check.proofs.laws.certified_goals_hold.Goals as goal

pub returns : goal.returns
returns c = certificate_holds
