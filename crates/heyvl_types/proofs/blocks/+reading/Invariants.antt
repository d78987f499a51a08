use Rattle.heyvl_acts.specs.PlainActs.{acts_of, arm_of}
use Rattle.heyvl_syntax.specs.Statements.{arms, block}
use Rattle.heyvl_types.proofs.Walks.{ArmsRead, BlockRead}
use Rattle.heyvl_types.proofs.blocks.+reading.Given as goal
use Rattle.std.proofs.Common.{drop, map, ◌≡◌}

-- The block is read up to the remaining statements.
abbrev pub invariant-read_block-loop-i : goal.invariant-read_block-loop-i
invariant-read_block-loop-i l = BlockRead l.setting l.calls l.bound l.fn.vars.items l.fn.loops l.fn.scope (block l.statements) (acts_of l.acts.items) l.vars.items l.loops l.scope (block (drop l.i l.statements))

-- The arms are read up to the remaining ones, and the scope is unchanged.
abbrev pub invariant-read_arms-loop-i : goal.invariant-read_arms-loop-i
invariant-read_arms-loop-i l = record {
  read : ArmsRead l.setting l.calls l.bound l.fn.vars.items l.fn.loops l.fn.scope (arms l.all) (map arm_of l.made.items) l.vars.items l.loops (arms (drop l.i l.all));
  kept : l.scope ≡ l.fn.scope;
}
