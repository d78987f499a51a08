use Rattle.run_script.proofs.FirstStates.{state_made}
use Rattle.run_script.proofs.starts.start_state.Goals as goal
use Rattle.run_script.specs.Starts.{start_value}
use Rattle.heylo_formula.specs.State.{default}
use Rattle.heyvl_acts.specs.PlainActs.{variable_of}
use Rattle.std.proofs.Common.{ap, ap₂, map, ◌++◌, ◌∙◌, ◌≡◌}

pub returns : goal.returns
returns c =
    let known : c.add_values.new.state.items ≡ map (λ x. start_value c.args.settings.now (variable_of x)) c.known_variables.result.now = rw c.new-state.ensures.items at c.in_ok-add_values.ensures in
    c.in_ok-add_defaults.ensures
    ∙ ap₂ (λ a b. a ++ b) (known ∙ ap (map (λ x. start_value c.args.settings.now (variable_of x))) c.known_variables.ensures.front) (ap (map (λ x. default x.ty)) c.other_variables.ensures)
    ∙ state_made c.args.procedure.now c.args.settings.now
