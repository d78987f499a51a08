use Rattle.std.proofs.Common.{sym, ◌∙◌}
use Rattle.farkas_check.proofs.Acceptance.{certificate_or_not, root_refused, refused_only, tree_refused, tree_accepted}
use Rattle.farkas_check.proofs.Soundness.{certificate_holds}
use Rattle.farkas_check.proofs.checker.check.Goals as goal

pub returns-in-Some-clause-no : goal.returns-in-Some-clause-no
returns-in-Some-clause-no c = refused_only _ _ _ (root_refused _ _ _ c.in-Some.field-0 (sym c.nonlinear.ensures ∙ c.in-Some.is) c.new.ensures.items)

pub returns-in-Accepted-clause-no : goal.returns-in-Accepted-clause-no
returns-in-Accepted-clause-no c =
    let j = rw c.in-Accepted.is at c.in_ok-judge_from_start-in-None.ensures in
    let h = tree_accepted _ _ (sym c.nonlinear.ensures ∙ c.in-None.is) j in
    λ place. (λ e. absurd e, λ k. certificate_or_not _ _ place h k)

pub returns-in-Accepted-clause-holds : goal.returns-in-Accepted-clause-holds
returns-in-Accepted-clause-holds c =
    let j = rw c.in-Accepted.is at c.in_ok-judge_from_start-in-None.ensures in
    let h = tree_accepted _ _ (sym c.nonlinear.ensures ∙ c.in-None.is) j in
    λ t. λ e. certificate_holds _ _ t h

pub returns-clause-yes : goal.returns-clause-yes
returns-clause-yes c =
    let j = rw c.in-Refused.is at c.in_ok-judge_from_start-in-None.ensures in
    let h = tree_refused _ _ _ (sym c.nonlinear.ensures ∙ c.in-None.is) j in
    (λ e. absurd (cc), λ k. absurd (certificate_or_not _ _ _ k h))

pub returns-clause-no : goal.returns-clause-no
returns-clause-no c =
    let j = rw c.in-Refused.is at c.in_ok-judge_from_start-in-None.ensures in
    refused_only _ _ _ (tree_refused _ _ _ (sym c.nonlinear.ensures ∙ c.in-None.is) j)
