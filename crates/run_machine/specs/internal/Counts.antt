-- The outputs of `p` are among its variables, and a u32 can count these.
use Rattle.std.specs.Prelude.{◌≤◌, ◌<◌, ◌+◌, ◌^◌, length}
use Rattle.heyvl_acts.specs.declared.typed_trees.TProc.{TProc}

pub record IsSmall (p : TProc) : Type 0 where
  pub counted : p.inputs + p.outputs ≤ length p.vars.items
  pub few : length p.vars.items < 2 ^ 31
