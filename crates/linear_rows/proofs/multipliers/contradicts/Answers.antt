use Rattle.std.proofs.Common.{◌∙◌, sym}
use Rattle.linear_rows.proofs.Coefficients.{contradiction_made, multipliers_of, vanishing_of, unmet_of}
use Rattle.linear_rows.proofs.multipliers.contradicts.Goals as goal

pub returns-then-not-are_multipliers : goal.returns-then-not-are_multipliers
returns-then-not-are_multipliers c = (λ h. absurd (cc), λ h. sym c.if-not-are_multipliers.true ∙ c.are_multipliers.ensures.1 (multipliers_of _ _ h))

pub returns-then-not-all_vanish : goal.returns-then-not-all_vanish
returns-then-not-all_vanish c = (λ h. absurd (cc), λ h. sym c.if-not-all_vanish.true ∙ c.all_vanish.ensures.1 (vanishing_of _ _ h))

pub returns : goal.returns
returns c = (λ h. contradiction_made _ _ (c.are_multipliers.ensures.0 c.if-not-are_multipliers.false) (c.all_vanish.ensures.0 c.if-not-all_vanish.false) (c.is_unmet.ensures.0 h), λ h. c.is_unmet.ensures.1 (unmet_of _ _ h))
