use Rattle.heyvl_acts.specs.Acts.{Variable}
use Rattle.run_script.proofs.FirstStates.{variables_held}
use Rattle.run_script.proofs.starts.start_state_over.Goals as goal
use Rattle.run_script.specs.Starts.{start_values}
use Rattle.std.proofs.Common.{List, ap, sym, ◌∙◌}

pub returns : goal.returns
returns c =
    let made = rw (c.new-state.ensures.items, c.deref.ensures.value) at c.in_ok-add_start_values.ensures in
    made ∙ ap (λ (xs : List Variable). start_values c.args.settings.now xs c.args.shown.now) (sym (variables_held c.args.procedure.now))
