use Rattle.linear_form.proofs.MetClaims.{answers_claimed, denials_claimed}
use Rattle.linear_form.proofs.claim_laws.paths_claim_truths.Goals as goal

pub returns : goal.returns
returns c = record { answers = answers_claimed; denied = denials_claimed }
