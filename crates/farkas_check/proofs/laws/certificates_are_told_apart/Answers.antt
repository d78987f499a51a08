use Rattle.farkas_check.proofs.Acceptance.{certificate_or_not, one_refusal}
use Rattle.farkas_check.proofs.laws.certificates_are_told_apart.Goals as goal

pub returns : goal.returns
returns c = record { never_both = certificate_or_not; one_place = one_refusal }
