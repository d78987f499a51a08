use Rattle.heyvl_acts.proofs.TargetSteps.{modified_count}
use Rattle.heyvl_acts.proofs.targets.modified.Goals as goal
use Rattle.heyvl_acts.specs.ModifiedVariables.{is_target_of}
use Rattle.heyvl_acts.specs.PlainActs.{acts_of}
use Rattle.std.proofs.Common.{rules, sym, ◌∙◌, ◌≡◌}
use Rattle.std.specs.Prelude.{count_by}

pub returns : goal.returns
returns c =
    let n : c.count.result ≡ count_by (λ x. is_target_of x (acts_of c.args.acts.now)) c.args.scope.now = search rules in
    n ∙ sym (modified_count c.args.scope.now (acts_of c.args.acts.now))
